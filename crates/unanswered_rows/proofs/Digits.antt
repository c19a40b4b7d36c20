-- Six digits at least are the last six of twenty or more; the zeros in front of sixteen end where the first other digit stands. Assumes nothing.
use Prim.Native.Nat.{ℕ, zero, suc, ◌+◌, ◌-◌, ◌/◌, ◌%◌, ◌≤◌, ◌<◌, min}
use mathlib.Core.Path.{◌≡◌, refl, sym, ap, ◌∙◌}
use mathlib.Core.Bool.{Bool, true, false, cond, not}
use mathlib.Core.List.{List, [], ◌∷◌, ◌++◌}
use native.Mathlib.Omega.{arith}
use borrow.Author.Tests.{ltb-true, ltb-false}
use lib.Dec.{eqb, ltb}
use lib.ListN.{length, take, drop, replicate, length-drop, length-replicate, take-append-drop}
use lib.Seq.{take_all, drop-append-le}
use Rattle.text.specs.Decimal.{decimal_text}
use Rattle.text.proofs.Places.{by_order}
use Rattle.print.specs.Put.{Placed, Digits, buffer_after, place_after}
use Rattle.std.specs.Prelude.{None, Some}
use Rattle.std.specs.List.{position, position_or_len}
use Rattle.std.specs.Option.{unwrap_or}
use Rattle.std.proofs.lemmas.List.Recursion.{is_position_or_len}
use Rattle.print.specs.Hex.{dword_text}
use Rattle.print.specs.Page.{Puts}
use Rattle.print.specs.declared.page.Page.{Page}
use Rattle.listing_rows.specs.Rows.{Room}
use Rattle.unanswered_rows.specs.Parts.{Part, PartOn, zeros_in, six_text, sixteen_text, route_text}
use Rattle.unanswered_rows.proofs.Joining.{text_part}

pub zeros_most : (k : ℕ) (s : List ℕ) → zeros_in k s ≤ k
unfolding zeros_in
zeros_most zero s = omega arith
zeros_most (suc k) [] = omega arith
zeros_most (suc k) (b ∷ s) = go (eqb b 48) (zeros_most k s)
  where
    go : (t : Bool) → zeros_in k s ≤ k → cond t (suc (zeros_in k s)) 0 ≤ suc k
    go true h = omega arith
    go false h = omega arith

-- so many zeros as stand before the first other digit
zeros_fewer : (k : ℕ) (s : List ℕ) → zeros_in k s ≡ min (zeros_in (suc k) s) k
unfolding zeros_in
zeros_fewer zero s = omega arith
zeros_fewer (suc k) [] = omega arith
zeros_fewer (suc k) (b ∷ s) = by (eqb b 48) (zeros_fewer k s)
  where
    by : (t : Bool) → zeros_in k s ≡ min (zeros_in (suc k) s) k → cond t (suc (zeros_in k s)) 0 ≡ min (cond t (suc (zeros_in (suc k) s)) 0) (suc k)
    by true e = omega (arith, e)
    by false e = omega arith

zeros_none : zeros_in 0 [] ≡ 0
unfolding zeros_in
zeros_none = refl

zeros_more : (x : ℕ) (xs : List ℕ) → zeros_in (suc (length xs)) (x ∷ xs) ≡ cond (not (eqb x 48)) 0 (1 + zeros_in (length xs) xs)
unfolding zeros_in
zeros_more x xs = by (eqb x 48)
  where
    by : (t : Bool) → cond t (suc (zeros_in (length xs) xs)) 0 ≡ cond (not t) 0 (1 + zeros_in (length xs) xs)
    by true = omega arith
    by false = refl

zeros_first : (s : List ℕ) → zeros_in (length s) s ≡ position_or_len (λ b. not (eqb b 48)) s
zeros_first s = is_position_or_len (λ (t : List ℕ). zeros_in (length t) t) (λ b. not (eqb b 48)) zeros_none zeros_more s

pub zeros_found : (s : List ℕ) → length s ≡ 16 → unwrap_or (position (λ b. not (eqb b 48)) s) 15 ≡ zeros_in 15 s
zeros_found s h =
    let first : position_or_len (λ b. not (eqb b 48)) s ≡ zeros_in 16 s = sym (zeros_first s) ∙ ap (λ (n : ℕ). zeros_in n s) h in
    let fewer : zeros_in 15 s ≡ min (zeros_in 16 s) 15 = zeros_fewer 15 s in
    let most : zeros_in 16 s ≤ 16 = zeros_most 16 s in
    rw (first, h) (by (ltb (zeros_in 16 s) 16) refl fewer most)
  where
    by : (t : Bool) → ltb (zeros_in 16 s) 16 ≡ t → zeros_in 15 s ≡ min (zeros_in 16 s) 15 → zeros_in 16 s ≤ 16 → unwrap_or (cond t (Some (zeros_in 16 s)) None) 15 ≡ zeros_in 15 s
    by true e f m = let l = ltb-true (zeros_in 16 s) 16 e in omega (arith, l, f)
    by false e f m = let l = ltb-false (zeros_in 16 s) 16 e in omega (arith, l, f, m)

-- the zeros that are left where some in front go
drop_zeros : (k m : ℕ) → drop {A = ℕ} k (replicate (k + m) 48) ≡ replicate m 48
drop_zeros zero m = let q : 0 + m ≡ m = omega arith in rw q
drop_zeros (suc k) m = let q : suc k + m ≡ suc (k + m) = omega arith in rw q (drop_zeros k m)

-- the last digits of twenty, six of them or more
pub six_digits : {n from f : ℕ} {bytes : List ℕ} → Digits n bytes from → f ≡ min from 14 → drop f bytes ≡ six_text n
unfolding six_text
six_digits {n} {from} {f} {bytes} d e =
    by_order from 14 (λ l. short (omega arith) (omega arith)) (λ q. short (omega arith) (omega arith)) (λ l. long (omega arith) l)
  where
    size : length (decimal_text n) ≡ 20 - from
    size = sym (ap length d.is) ∙ length-drop from bytes ∙ (let q = d.size in omega arith)

    short : f ≡ from → from ≤ 14 → drop f bytes ≡ replicate (6 - length (decimal_text n)) 48 ++ decimal_text n
    short q l = let none : 6 - length (decimal_text n) ≡ 0 = omega (arith, size) in rw (none, q) d.is

    long : f ≡ 14 → 14 < from → drop f bytes ≡ replicate (6 - length (decimal_text n)) 48 ++ decimal_text n
    long q l =
        let some : from ≡ 14 + (6 - length (decimal_text n)) = omega (arith, size, d.within) in
        let whole : bytes ≡ replicate from 48 ++ decimal_text n = sym (take-append-drop from bytes) ∙ rw (d.front, d.is) in
        rw (q, whole, some) (drop-append-le 14 (replicate (14 + (6 - length (decimal_text n))) 48) (decimal_text n) (omega (arith, length-replicate {A = ℕ} (14 + (6 - length (decimal_text n))) 48)) ∙ rw (drop_zeros 14 (6 - length (decimal_text n))))

pub six_part : {n from f at r : ℕ} {bytes out exit : List ℕ} → Digits n bytes from → f ≡ min from 14 → at + 20 ≤ length out → Placed out at (take (length bytes - f) (drop f bytes)) exit r → Part out at (six_text n) exit r 20
six_part {n} {from} {f} {at} {r} {bytes} {out} {exit} d e room p =
    let same : take (length bytes - f) (drop f bytes) ≡ six_text n = take_all (length bytes - f) (drop f bytes) (omega (arith, length-drop f bytes, d.size)) ∙ six_digits d e in
    let size : length (six_text n) ≤ 20 = rw (← six_digits d e) (omega (arith, length-drop f bytes, d.size)) in
    text_part 20 size (omega arith) (rw same at p)

-- two dwords in sixteen places
pub sixteen : (h l : ℕ) {out mid exit : List ℕ} {at a b : ℕ} → out ≡ replicate 16 0 → at ≡ 0 → Placed out at (dword_text h) mid a → Placed mid a (dword_text l) exit b
    → take b exit ≡ dword_text h ++ dword_text l
unfolding buffer_after place_after
sixteen h l {out} {mid} {exit} {at} {a} {b} e z p q =
    let first : Placed (replicate 16 0) 0 (dword_text h) mid a = rw (e, z) at p in
    let second : Placed (buffer_after (replicate 16 0) 0 (dword_text h)) 8 (dword_text l) exit b = rw (first.buffer, first.place) at q in
    rw (second.place, second.buffer)

-- what is left of sixteen digits without the zeros in front
pub route_on : (n : ℕ) {p q : Page} {f : ℕ} {text : List ℕ} → text ≡ dword_text (n / 4294967296) ++ dword_text (n % 4294967296) → f ≡ zeros_in 15 text → Room p 16
    → Puts p (take (length text - f) (drop f text)) q → PartOn p (route_text n) q 16
unfolding route_text sixteen_text
route_on n {f = f} {text = text} is e room x =
    let size : length text ≡ 16 = ap length is in
    let all : take (length text - f) (drop f text) ≡ drop f text = take_all (length text - f) (drop f text) (omega (arith, length-drop f text)) in
    let same : drop f text ≡ drop (zeros_in 15 (dword_text (n / 4294967296) ++ dword_text (n % 4294967296))) (dword_text (n / 4294967296) ++ dword_text (n % 4294967296)) = rw (e, is) in
    record {
      part = text_part 16 (rw (← same) (omega (arith, length-drop f text))) (rw (← same) (omega (arith, length-drop f text))) (rw (← same, ← all) x.placed);
      same = x.same;
    }

pub zeros_within : (s : List ℕ) {f : ℕ} → f ≡ zeros_in 15 s → f ≤ 16
zeros_within s e = omega (arith, zeros_most 15 s)
