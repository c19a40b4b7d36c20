-- Fields inside a larger text: to walk the bytes from one place to another is to walk the text cut at the second place, from the first on, so
-- that every place is a place of the whole text. Assumes nothing.
use Prim.Native.Nat.{ℕ, zero, suc, ◌+◌, ◌-◌, ◌^◌, ◌≤◌, ◌<◌}
use mathlib.Core.Path.{◌≡◌, ◌∙◌, sym, ap, ap₂}
use mathlib.Core.List.{List, [], ◌∷◌, ◌++◌}
use native.Mathlib.Decide.{dec_lt}
use native.Mathlib.Nat.{add-zero, sub-zero, zero-sub, suc-sub-suc}
use native.Mathlib.Omega.{arith}
use lib.ListN.{length, get_or, take, drop, length-append, length-take, length-drop, take-append-drop, get_or-eq_default}
use lib.Seq.{take-nil, take-length, take-take, length-take-le, drop-drop, drop_at, get_or-take, get_or-drop}
use Rattle.tlv.specs.Number.{Bytes, number, number_bytes}
use Rattle.tlv.specs.Reading.{Part, Stands, between, piece_of}
use Rattle.tlv.proofs.Numbers.{number_take, number_drop, number_made, number_bytes_is, number_bytes_length}
use Rattle.tlv.proofs.Fields.{Found, field_found, found_field, drop_first}

-- what is cut and then passed by is passed by and then cut
pub drop_take : {A : Type 0} (a b : ℕ) (l : List A) → drop a (take b l) ≡ take (b - a) (drop a l)
drop_take zero b l = ap (λ (n : ℕ). take n l) (sym (sub-zero b))
drop_take (suc a) zero l = ap (λ (n : ℕ). take n (drop (suc a) l)) (sym (zero-sub (suc a)))
drop_take (suc a) (suc b) [] = sym (take-nil (suc b - suc a))
drop_take (suc a) (suc b) (x ∷ l) = drop_take a b l ∙ ap (λ (n : ℕ). take n (drop a l)) (sym (suc-sub-suc b a))

module _ (s : List ℕ) where
  -- parts of bytes are bytes
  pub bytes_take : (n : ℕ) → Bytes s → Bytes (take n s)
  bytes_take n b i =
      elim (dec_lt i n) [
        | yes h ↦ rw (get_or-take n s i 0 h) (b i)
        | no h ↦ rw (get_or-eq_default (take n s) 0 {n = i} (rw (length-take n s) (omega arith))) (omega arith)
      ]

  pub bytes_drop : (n : ℕ) → Bytes s → Bytes (drop n s)
  bytes_drop n b i = rw (get_or-drop n s i 0) (b (n + i))

  -- the slice from one place to another
  pub between_is : (from to : ℕ) → between s from to ≡ take (to - from) (drop from s)
  between_is from to = drop_take from to s

  pub between_length : (from to : ℕ) → to ≤ length s → length (between s from to) ≡ to - from
  between_length from to h = rw (length-drop from (take to s), length-take to s) (omega arith)

  -- the bytes up to the end are the rest
  pub between_end : (from : ℕ) → between s from (length s) ≡ drop from s
  between_end from = ap (drop from) (take-length s)

  -- a body and what comes behind it
  pub between_join : (from to : ℕ) → from ≤ to → between s from to ++ drop to s ≡ drop from s
  between_join from to h =
      let e : from + (to - from) ≡ to = omega arith in
      let rest : drop to s ≡ drop (to - from) (drop from s) = ap (λ (n : ℕ). drop n s) (sym e) ∙ sym (drop-drop (to - from) from s) in
      rw (between_is from to, rest) (take-append-drop (to - from) (drop from s))

  -- what a body has behind its first k bytes
  pub between_drop : (from to k : ℕ) → drop k (between s from to) ≡ between s (from + k) to
  between_drop from to k = drop-drop k from (take to s)

  -- a body inside a cut text is the body in the whole
  pub between_take : (from to cut : ℕ) → to ≤ cut → between (take cut s) from to ≡ between s from to
  between_take from to cut h = ap (drop from) (take-take to cut s h)

  -- a byte of a body is a byte of the text
  pub between_byte : (from to i : ℕ) → from + i < to → get_or (between s from to) i 0 ≡ get_or s (from + i) 0
  between_byte from to i h = get_or-drop from (take to s) i 0 ∙ get_or-take to s (from + i) 0 h

  -- a body that has a byte is that byte and what comes behind it
  pub between_first : (from to : ℕ) → from < to → to ≤ length s → between s from to ≡ get_or s from 0 ∷ between s (from + 1) to
  between_first from to h k =
      let long : length (take to s) ≡ to = length-take-le to s k in
      rw (drop_first (take to s) from (omega arith), get_or-take to s from 0 h)

  -- a number reads the same in a body and in the text
  pub number_between : (k from to : ℕ) → from + k ≤ to → number k (between s from to) 0 ≡ number k s from
  number_between k from to h = number_drop k (take to s) from 0 ∙ ap (number k (take to s)) (add-zero from) ∙ number_take k s from to h

  -- a body that has k bytes is the number that they make and what comes behind it
  pub between_number : Bytes s → (k from to : ℕ) → from + k ≤ to → to ≤ length s
      → between s from to ≡ number_bytes k (number k s from) ++ between s (from + k) to
  between_number bytes k from to h l =
      let long : length (take to s) ≡ to = length-take-le to s l in
      sym (take-append-drop k (between s from to))
      ∙ ap₂ ◌++◌
      (number_bytes_is k (take to s) (bytes_take to bytes) from (omega arith) ∙ ap (number_bytes k) (number_take k s from to h))
      (between_drop from to k)

  -- a body that was made from a number and something behind it has that number and that behind it
  pub made_number : (k n from to : ℕ) (back : List ℕ) → n < 256 ^ k → between s from to ≡ number_bytes k n ++ back
      → (number k s from ≡ n) × (between s (from + k) to ≡ back)
  unfolding number
  made_number k n from to back fits made = (
    same k (number_made k n (take to s) from back fits made) (ap length made),
    sym (between_drop from to k) ∙ ap (drop k) made ∙ drop_at (number_bytes k n) back k (number_bytes_length k n),
  )
    where
      same : (k : ℕ) → number k (take to s) from ≡ n → length (between s from to) ≡ length (number_bytes k n ++ back)
          → number k s from ≡ n
      same zero e h = e
      same (suc k) e h =
          let room : from + suc k ≤ to =
          omega (
            arith,
            length-drop from (take to s),
            length-take to s,
            length-append (number_bytes (suc k) n) back,
            number_bytes_length (suc k) n,
          ) in
          sym (number_take (suc k) s from to room) ∙ e

  -- a field that is whole in a cut text is the same field in the whole text, and ends by the cut
  pub found_widens : (cut at : ℕ) {tag from to : ℕ} → Found (take cut s) at tag from to → Found s at tag from to × (to ≤ cut)
  found_widens cut at {tag} {from} {to} f =
      let bound : to ≤ cut = omega (arith, length-take cut s, f.within) in (
        record {
          tag_is = f.tag_is ∙ get_or-take cut s at 0 (omega (arith, f.from_is, f.to_is));
          from_is = f.from_is;
          to_is = f.to_is ∙ ap (λ (n : ℕ). from + n) (number_take 2 s (at + 1) cut (omega (arith, f.from_is, f.to_is)));
          within = omega (arith, length-take cut s, f.within);
        },
        bound,
      )

  pub found_narrows : (cut at : ℕ) {tag from to : ℕ} → to ≤ cut → Found s at tag from to → Found (take cut s) at tag from to
  found_narrows cut at {tag} {from} {to} h f =
      record {
        tag_is = f.tag_is ∙ sym (get_or-take cut s at 0 (omega arith));
        from_is = f.from_is;
        to_is = f.to_is ∙ ap (λ (n : ℕ). from + n) (sym (number_take 2 s (at + 1) cut (omega arith)));
        within = rw (length-take cut s) (omega arith);
      }

  pub stands_widens : (cut : ℕ) (p : Part) → Stands (take cut s) p → Stands s p × (p.to ≤ cut)
  stands_widens cut p h =
      let w = found_widens cut p.at (field_found (take cut s) p.at h) in
      (found_field s p.at p.tag p.from p.to w.0, w.1)

  pub stands_narrows : (cut : ℕ) (p : Part) → p.to ≤ cut → Stands s p → Stands (take cut s) p
  stands_narrows cut p h k =
      found_field (take cut s) p.at p.tag p.from p.to (found_narrows cut p.at h (field_found s p.at k))

  -- what a part is made from is the same in a cut text
  pub piece_take : (cut : ℕ) (p : Part) → p.to ≤ cut → piece_of (take cut s) p ≡ piece_of s p
  piece_take cut p h = λ i. record { tag = p.tag; body = between_take p.from p.to cut h i }

  -- a text cut behind a field is as long as the place behind the field, which is what lending it asks
  pub stands_cut : (p : Part) → Stands s p → p.to ≡ length (take p.to s)
  stands_cut p h = sym (length-take-le p.to s (field_found s p.at h).within)
