-- Where the open unit ends: a line at the first newline, since its last byte alone tells; a record where its first three bytes say, since
-- they are the same in every front that has them. Assumes nothing.
use Rattle.std.specs.Prelude.{None, Some}
use Prim.Native.Nat.{ℕ, suc, min, ◌+◌, ◌*◌, ◌-◌, ◌≤◌, ◌<◌}
use mathlib.Core.Path.{◌≡◌, refl, sym, ap, ◌∙◌}
use mathlib.Core.Bool.{Bool, true, false, cond, ◌&&◌}
use mathlib.Core.List.{List, [], ◌∷◌, ◌++◌, append_assoc}
use native.Mathlib.Omega.{arith}
use lib.Dec.{eqb, leb}
use lib.ListN.{length, get_or, take, drop, length-append, length-drop, get_or-append}
use lib.Seq.{take-suc, take-append-add, length-take-le, get_or-take, get_or-drop, get_or-append-add}
use borrow.Author.Tests.{eq-eqb, ne_eqb, le-leb, lt-leb, leb-true, leb-false}
use Rattle.text.specs.Place.{First, first_byte, is_at}
use Rattle.text.proofs.Places.{clash, first_is, first_free}
use Rattle.framing.specs.declared.Framing.TheVariants as F
use Rattle.framing.specs.Units.{stated_size, is_whole}
use Rattle.framing.specs.Feeding.{between, Ends}
use Rattle.framing.proofs.Parts.{and_false, line_whole}

-- one byte more of a part
pub between_byte : (s : List ℕ) (a j : ℕ) → a ≤ j → j < length s → between s a (j + 1) ≡ between s a j ++ (get_or s j 0 ∷ [])
unfolding between
between_byte s a j h l =
    let n : j + 1 - a ≡ suc (j - a) = omega arith in
    let i : a + (j - a) ≡ j = omega arith in
    rw (n, take-suc (drop a s) (j - a) 0 (omega (arith, length-drop a s)), get_or-drop a s (j - a) 0, i)

module _ (s : List ℕ) (from : ℕ) (h : List ℕ) where
  -- a line that is open is whole up to a place exactly when the byte before it is a newline
  line_up_to : (k : ℕ) → from < k → k ≤ length s → is_whole F.Lines (h ++ between s from k) ≡ eqb (get_or s (k - 1) 0) 10
  line_up_to k a b =
      let e : k ≡ k - 1 + 1 = omega arith in
      let bytes : between s from k ≡ between s from (k - 1) ++ (get_or s (k - 1) 0 ∷ []) =
      ap (between s from) e ∙ between_byte s from (k - 1) (omega arith) (omega arith) in
      rw (bytes, ← append_assoc h (between s from (k - 1)) (get_or s (k - 1) 0 ∷ [])) (line_whole (h ++ between s from (k - 1)) (get_or s (k - 1) 0))

  pub newline_within : {k : ℕ} → first_byte 10 s from ≡ Some k → (from ≤ k) × (k < length s)
  unfolding first_byte
  newline_within e = let r = first_is (is_at 10 s) e in (r.from, r.within)

  pub line_ends : {k : ℕ} → first_byte 10 s from ≡ Some k → Ends F.Lines s from h (record { at = k + 1; whole = true })
  unfolding first_byte
  line_ends {k} e =
      let w : First (is_at 10 s) from (length s) k = first_is (is_at 10 s) e in
      let last : k + 1 - 1 ≡ k = omega arith in
      record {
        on = omega (arith, w.from);
        within = omega (arith, w.within);
        whole_is = sym (line_up_to (k + 1) (omega (arith, w.from)) (omega (arith, w.within)) ∙ rw last w.here);
        none_before = λ j a b. line_up_to j a (omega (arith, w.within)) ∙ w.before (j - 1) (omega arith) (omega arith);
        all_of_it = λ z. absurd (clash refl z);
      }

  pub line_open : from < length s → first_byte 10 s from ≡ None → Ends F.Lines s from h (record { at = length s; whole = false })
  unfolding first_byte
  line_open some e =
      let free = first_free (is_at 10 s) e (omega arith) in
      record {
        on = some;
        within = omega arith;
        whole_is = sym (line_up_to (length s) some (omega arith) ∙ free (length s - 1) (omega arith) (omega arith));
        none_before = λ j a b. line_up_to j a (omega arith) ∙ free (j - 1) (omega arith) (omega arith);
        all_of_it = λ z. refl;
      }

-- a record's size is 0, or three bytes at least
pub stated_some : (w : List ℕ) → 0 < stated_size w → 3 ≤ stated_size w
unfolding stated_size
stated_some w = go (leb 3 (length w) && eqb (get_or w 0 0) 0xA1)
  where
    go : (b : Bool) → 0 < cond b (3 + min (get_or w 1 0 + 256 * get_or w 2 0) 65535) 0 → 3 ≤ cond b (3 + min (get_or w 1 0 + 256 * get_or w 2 0) 65535) 0
    go true h = omega arith
    go false h = absurd (omega arith)

-- a front of a text that starts as a record does is whole exactly at that record's size
pub record_front : (w : List ℕ) (n : ℕ) → n ≤ length w → is_whole F.Records (take n w) ≡ leb 3 n && eqb n (stated_size w)
unfolding is_whole stated_size
record_front w n h = rw (length-take-le n w h) (go (leb 3 n) refl)
  where
    go : (b : Bool) → leb 3 n ≡ b → b && eqb n (cond (b && eqb (get_or (take n w) 0 0) 0xA1) (3 + min (get_or (take n w) 1 0 + 256 * get_or (take n w) 2 0) 65535) 0) ≡ b && eqb n (cond (leb 3 (length w) && eqb (get_or w 0 0) 0xA1) (3 + min (get_or w 1 0 + 256 * get_or w 2 0) 65535) 0)
    go true t =
        let m : 3 ≤ n = leb-true 3 n t in
        rw (le-leb 3 (length w) (omega arith), get_or-take n w 0 0 (omega arith), get_or-take n w 1 0 (omega arith), get_or-take n w 2 0 (omega arith))
    go false t = refl

module _ (s : List ℕ) (from : ℕ) (h : List ℕ) (some : from < length s) where
  abbrev text : List ℕ
  text = h ++ drop from s

  text_size : length (h ++ drop from s) ≡ length h + (length s - from)
  text_size = omega (arith, length-append h (drop from s), length-drop from s)

  record_up_to : (k : ℕ) → from < k → k ≤ length s → is_whole F.Records (h ++ between s from k) ≡ leb 3 (length h + (k - from)) && eqb (length h + (k - from)) (stated_size (h ++ drop from s))
  unfolding between
  record_up_to k a b =
      rw (← take-append-add h (drop from s) (k - from))
      (record_front (h ++ drop from s) (length h + (k - from)) (omega (arith, text_size)))

  not_there : (k : ℕ) → from < k → k ≤ length s → (length h + (k - from) ≡ stated_size (h ++ drop from s) → ⊥) → is_whole F.Records (h ++ between s from k) ≡ false
  not_there k a b n = record_up_to k a b ∙ rw (ne_eqb _ _ n) (and_false (leb 3 (length h + (k - from))))

  -- the record ends within the part
  pub record_ends : (more : ℕ) → length h + more ≡ stated_size (h ++ drop from s) → 0 < more → more ≤ length s - from → Ends F.Records s from h (record { at = from + more; whole = true })
  record_ends more e a b =
      let n : length h + (from + more - from) ≡ stated_size (h ++ drop from s) = omega (arith, e) in
      let big : 3 ≤ stated_size (h ++ drop from s) = stated_some (h ++ drop from s) (omega (arith, e)) in
      record {
        on = omega arith;
        within = omega arith;
        whole_is = sym (record_up_to (from + more) (omega arith) (omega arith) ∙ rw (n, le-leb _ _ big, eq-eqb (stated_size (h ++ drop from s)) _ refl));
        none_before = λ k l m. not_there k l (omega arith) (λ z. omega (arith, e, z));
        all_of_it = λ z. absurd (clash refl z);
      }

  -- it does not: its size lies in what is held, or behind the part
  pub record_open : ((k : ℕ) → from < k → k ≤ length s → length h + (k - from) ≡ stated_size (h ++ drop from s) → ⊥) → Ends F.Records s from h (record { at = length s; whole = false })
  record_open n =
      record {
        on = some;
        within = omega arith;
        whole_is = sym (not_there (length s) some (omega arith) (n (length s) some (omega arith)));
        none_before = λ k l m. not_there k l (omega arith) (n k l (omega arith));
        all_of_it = λ z. refl;
      }

  -- the three bytes that state it
  pub held_byte : (i : ℕ) → i < length h → get_or h i 0 ≡ get_or (h ++ drop from s) i 0
  held_byte i l = sym (get_or-append h (drop from s) 0 i l)

  pub part_byte : (i : ℕ) → length h ≤ i → get_or s (from + (i - length h)) 0 ≡ get_or (h ++ drop from s) i 0
  part_byte i l =
      let e : length h + (i - length h) ≡ i = omega arith in
      sym (ap (λ (n : ℕ). get_or (h ++ drop from s) n 0) (sym e) ∙ get_or-append-add h (drop from s) (i - length h) 0 ∙ get_or-drop from s (i - length h) 0)

  -- whether they are there
  pub three_held : 3 ≤ length h → true ≡ leb 3 (length (h ++ drop from s))
  three_held l = sym (le-leb 3 (length (h ++ drop from s)) (omega (arith, text_size)))

  pub three_with : length h < 3 → leb (3 - length h) (length s - from) ≡ leb 3 (length (h ++ drop from s))
  three_with l = same (leb (3 - length h) (length s - from)) refl
    where
      same : (b : Bool) → leb (3 - length h) (length s - from) ≡ b → b ≡ leb 3 (length (h ++ drop from s))
      same true q = sym (le-leb 3 (length (h ++ drop from s)) (omega (arith, text_size, leb-true (3 - length h) (length s - from) q)))
      same false q = sym (lt-leb 3 (length (h ++ drop from s)) (omega (arith, text_size, leb-false (3 - length h) (length s - from) q)))

  pub too_few : leb 3 (length (h ++ drop from s)) ≡ false → 0 ≡ stated_size (h ++ drop from s)
  unfolding stated_size
  too_few l = rw l

  module _ (enough : leb 3 (length (h ++ drop from s)) ≡ true) where
    pub no_mark : (get_or (h ++ drop from s) 0 0 ≡ 0xA1 → ⊥) → 0 ≡ stated_size (h ++ drop from s)
    unfolding stated_size
    no_mark n = rw (enough, ne_eqb _ _ n)

    pub stated : get_or (h ++ drop from s) 0 0 ≡ 0xA1 → {low high : ℕ} → low ≡ get_or (h ++ drop from s) 1 0 → high ≡ get_or (h ++ drop from s) 2 0 → low < 256 → high < 256 → {word : ℕ} → word ≡ low + 256 * high → 3 + word ≡ stated_size (h ++ drop from s)
    unfolding stated_size
    stated m {low} {high} a b l k w =
        let least : min (low + 256 * high) 65535 ≡ low + 256 * high = omega arith in
        rw (enough, eq-eqb _ _ m, ← a, ← b, least) (omega arith)
