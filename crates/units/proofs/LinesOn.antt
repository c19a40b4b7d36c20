-- A line up to its newline, else to the part's end: the first 4,097 bytes of it are kept. Assumes nothing.
use Rattle.std.specs.Prelude.{None, Option, Some, is_some}
use Rattle.std.specs.Option.{unwrap_or}
use Prim.Native.Nat.{ℕ, zero, suc, min, ◌+◌, ◌-◌, ◌≤◌, ◌<◌}
use mathlib.Core.Path.{◌≡◌, refl, sym, ap, subst, ◌∙◌}
use mathlib.Core.Bool.{Bool, true, false}
use mathlib.Core.List.{List, [], ◌∷◌, ◌++◌}
use native.Mathlib.Omega.{arith}
use lib.ListN.{length, get_or, take, drop, length-append, length-take, get_or-append}
use lib.Seq.{take_all, take-take, get_or-take, get_or-drop, get_or-append-add, length-take-le, take-append-add}
use borrow.Author.Tests.{eq-eqb, eqb-true}
use Rattle.text.proofs.Places.{clash, by_order, first_is, first_free}
use Rattle.text.specs.Place.{first_byte, is_at, Free}
use Rattle.print.specs.Put.{Placed}
use Rattle.units.specs.declared.Framing.{Framing}
use Rattle.units.specs.declared.Unit.TheVariants as U
use Rattle.units.specs.declared.Fed as F
use Rattle.units.specs.Units.{marked, is_record, Bare, Whole, Open, Rest}
use Rattle.units.specs.Kept.{kept_text, stood, Keeps}
use Rattle.units.specs.Feeding.{between, wants_at, ends_at, Answered, FedOn, first_of, LineEnd, LineEnds, end_in, end_by, is_found}
use Rattle.units.proofs.Firsts.{record_some, record_append}
use Rattle.units.proofs.WhatIsKept.{line_kept, kept_first, nothing_kept, length_between, Added, placed_added, added_stands}

pub take_keep : (cap : ℕ) (x y : List ℕ) → take cap (take cap x ++ y) ≡ take cap (x ++ y)
take_keep zero x y = refl
take_keep (suc cap) [] y = refl
take_keep (suc cap) (a ∷ x) y = ap (λ (l : List ℕ). a ∷ l) (take_keep cap x y)

take_least : (m n : ℕ) (l : List ℕ) → take m (take n l) ≡ take (min n m) l
take_least m n l =
    by_order m n (λ h. let e : min n m ≡ m = omega arith in rw e (take-take m n l (omega arith)))
    (λ h. let e : min n m ≡ m = omega arith in rw e (take-take m n l (omega arith)))
    (λ h. let e : min n m ≡ n = omega arith in rw e (take_all m (take n l) (omega (arith, length-take n l))))

pub rest_of : (f : Framing) (l : List ℕ) → is_record f l ≡ false → Bare l (length l) → Rest f l
rest_of f [] t b = Rest.none refl
rest_of f (x ∷ l) t b = Rest.some (Open.line t (omega arith) b)

-- the first byte of the whole is that of what is held and follows
first_same : (f : Framing) (s : List ℕ) (from n : ℕ) (rest : List ℕ) (held : ℕ) (u : List ℕ) → take held rest ≡ kept_text f u → is_record f (u ++ take n (drop from s)) ≡ true → marked f (first_of s from rest held) ≡ true
unfolding first_of
first_same f s from n rest held [] e t =
    let a : take held rest ≡ [] = e ∙ (nothing_kept f).0 in
    let h : 0 < n = omega (arith, record_some f (take n (drop from s)) t, length-take n (drop from s)) in
    ap (marked f) (ap (λ (l : List ℕ). get_or (l ++ drop from s) 0 0) a ∙ sym (get_or-take n (drop from s) 0 0 h)) ∙ t
first_same f s from n rest held (b ∷ u) e t =
    let a : marked f (get_or (take held rest) 0 0) ≡ true = ap (marked f) (ap (λ (l : List ℕ). get_or l 0 0) e ∙ kept_first f (b ∷ u)) ∙ t in
    record_append f (take held rest) (drop from s) (record_some f (take held rest) a) ∙ a

pub bare_rest : (f : Framing) (u : List ℕ) → is_record f u ≡ false → Rest f u → Bare u (length u)
bare_rest f u t (Rest.none e) = λ k h. absurd (let n : length u ≡ 0 = ap length e in omega (arith, h, n))
bare_rest f u t (Rest.some (Open.line t' s b)) = b
bare_rest f u t (Rest.some (Open.a_record t' l)) = absurd (clash t' t)

not_true : {b : Bool} → (b ≡ true → ⊥) → b ≡ false
not_true {b = true} h = absurd (h refl)
not_true {b = false} h = refl

module _ (f : Framing) (s : List ℕ) (from : ℕ) (near : from ≤ length s) (rest : List ℕ) (held : ℕ) (size : length rest ≡ 8192) (room : held ≤ 4097) (t : marked f (first_of s from rest held) ≡ false) (e : LineEnd) (ends : LineEnds s from e) (count : ℕ) (c : count ≡ min (e.at - from) (4097 - held)) (exit : List ℕ) (now : ℕ) (p : Placed rest held (take (from + count - from) (drop from s)) exit now) (u : List ℕ) (open-u : Rest f u) (k : Keeps f u rest held 0) where
  abbrev w : List ℕ
  w = u ++ between s from e.at

  no_record : is_record f w ≡ false
  unfolding between
  no_record = not_true (λ q. clash (first_same f s from (e.at - from) rest held u k.text_is q) t)

  no_record_u : is_record f u ≡ false
  no_record_u = not_true (λ q. clash (record_append f u (between s from e.at) (record_some f u q) ∙ q) no_record)

  bare_u : Bare u (length u)
  bare_u = bare_rest f u no_record_u open-u

  part_length : length (between s from e.at) ≡ e.at - from
  part_length = length_between s from e.at ends.within

  held_is : length (take held rest) ≡ held
  held_is = length-take-le held rest (omega (arith, size, room))

  piece : take (from + count - from) (drop from s) ≡ take (4097 - held) (between s from e.at)
  unfolding between
  piece =
      let d : from + count - from ≡ min (e.at - from) (4097 - held) = omega (arith, c) in
      ap (λ (n : ℕ). take n (drop from s)) d ∙ sym (take_least (4097 - held) (e.at - from) (drop from s))

  added : Added rest held (take (4097 - held) (between s from e.at)) exit now
  added = placed_added rest held (take (4097 - held) (between s from e.at)) exit now (omega (arith, length-take (4097 - held) (between s from e.at), size, room)) (subst (λ (l : List ℕ). Placed rest held l exit now) piece p)

  text_now : take held rest ++ take (4097 - held) (between s from e.at) ≡ kept_text f w
  text_now =
      let n : 4097 ≡ length (take held rest) + (4097 - held) = omega (arith, held_is, room) in
      sym (take-append-add (take held rest) (between s from e.at) (4097 - held))
      ∙ ap (λ (m : ℕ). take m (take held rest ++ between s from e.at)) (sym n)
      ∙ ap (λ (l : List ℕ). take 4097 (l ++ between s from e.at)) (k.text_is ∙ (line_kept f u no_record_u).0)
      ∙ take_keep 4097 u (between s from e.at)
      ∙ sym (line_kept f w no_record).0

  stands : (exit ≡ stood f w rest) × (now ≡ length (kept_text f w))
  stands = added_stands f w added text_now

  w_at : (i : ℕ) → i < e.at - from → get_or w (length u + i) 0 ≡ get_or s (from + i) 0
  unfolding between
  w_at i h = get_or-append-add u (take (e.at - from) (drop from s)) i 0 ∙ get_or-take (e.at - from) (drop from s) i 0 h ∙ get_or-drop from s i 0

  -- no newline up to a place
  w_bare : (d : ℕ) → d ≤ e.at - from → Free (is_at 10 s) from (from + d) → Bare w (length u + d)
  w_bare d h free j q z =
      by_order j (length u) (λ l. bare_u j l (sym (get_or-append u (between s from e.at) 0 j l) ∙ z)) (λ l. later (omega arith)) (λ l. later (omega arith))
    where
      later : length u ≤ j → ⊥
      later l =
          let i : j ≡ length u + (j - length u) = omega arith in
          let y : get_or s (from + (j - length u)) 0 ≡ 10 = sym (w_at (j - length u) (omega arith)) ∙ ap (λ (n : ℕ). get_or w n 0) (sym i) ∙ z in
          clash (eq-eqb _ _ y) (free (from + (j - length u)) (omega arith) (omega arith))

  w_length : length w ≡ length u + (e.at - from)
  w_length = length-append u (between s from e.at) ∙ ap (λ (n : ℕ). length u + n) part_length

  pub line_open : e.whole ≡ false → {r : F.Fed} → r ≡ wants_at e.at now 0 → FedOn f u s from rest exit r
  unfolding end_by is_found first_byte
  line_open q is = rw is (go (first_byte 10 s from) refl)
    where
      go : (x : Option ℕ) → first_byte 10 s from ≡ x → FedOn f u s from rest exit (wants_at e.at now 0)
      go (Some j) z = absurd (clash (ends.whole_is ∙ ap is_found z) q)
      go None z =
          let at_is : e.at ≡ length s = ends.at_is ∙ ap (end_by s) z in
          let free = first_free (is_at 10 s) z near in
          let b : Bare w (length u + (e.at - from)) = w_bare (e.at - from) (omega arith) (λ j l m. free j l (omega (arith, at_is, near))) in
          record {
            up = ends.up;
            within = ends.within;
            buffer = stands.0;
            answered =
                Answered.wants (rest_of f w no_record (subst (Bare w) (sym w_length) b))
                (ap (λ (n : ℕ). wants_at n now 0) at_is ∙ ap (λ (n : ℕ). wants_at (length s) n 0) stands.1 ∙ ap (wants_at (length s) (length (kept_text f w))) (sym (line_kept f w no_record).1));
          }

  pub line_ends : e.whole ≡ true → {r : F.Fed} → r ≡ ends_at e.at (U.Text now) → FedOn f u s from rest exit r
  unfolding end_by is_found first_byte
  line_ends q is = rw is (go (first_byte 10 s from) refl)
    where
      go : (x : Option ℕ) → first_byte 10 s from ≡ x → FedOn f u s from rest exit (ends_at e.at (U.Text now))
      go None z = absurd (clash q (ends.whole_is ∙ ap is_found z))
      go (Some j) z =
          let at_is : e.at ≡ j + 1 = ends.at_is ∙ ap (end_by s) z in
          let x = first_is (is_at 10 s) z in
          let g : from + (j - from) ≡ j = omega (arith, x.from) in
          let b : Bare w (length u + (j - from)) = w_bare (j - from) (omega (arith, at_is)) (λ i l m. x.before i l (omega (arith, g, m))) in
          let y : get_or w (length u + (j - from)) 0 ≡ 10 = w_at (j - from) (omega (arith, at_is, x.from)) ∙ ap (λ (n : ℕ). get_or s n 0) g ∙ eqb-true _ _ x.here in
          record {
            up = ends.up;
            within = ends.within;
            buffer = stands.0;
            answered =
                Answered.ends (Whole.line (length u + (j - from)) no_record (omega (arith, w_length, at_is, x.from)) b y)
                (ap (λ (n : ℕ). ends_at e.at (U.Text n)) (stands.1 ∙ ap length (line_kept f w no_record).0) ∙ ap (ends_at e.at) (sym (line_kept f w no_record).2));
          }

-- the place and the sign that are read off an end
pub ends_found : (s : List ℕ) (from : ℕ) (o : Option ℕ) (at : ℕ) (whole : Bool) → LineEnds s from (end_in s o) → at ≡ unwrap_or o (length s) → whole ≡ is_some o → LineEnds s from (record { at = at; whole = whole })
ends_found s from None at whole x a w = rw (a, w) x
ends_found s from (Some k) at whole x a w = rw (a, w) x

-- the end of a line, by its first newline
module _ (s : List ℕ) (from : ℕ) where
  pub newline_within : {k : ℕ} → first_byte 10 s from ≡ Some k → (from ≤ k) × (k < length s)
  unfolding first_byte
  newline_within z = let x = first_is (is_at 10 s) z in (x.from, x.within)

  pub line_whole : {k : ℕ} → first_byte 10 s from ≡ Some k → LineEnds s from (record { at = k + 1; whole = true })
  unfolding end_by is_found
  line_whole z = let x = newline_within z in record { up = omega (arith, x.0); within = omega (arith, x.1); at_is = rw z; whole_is = rw z }

  pub line_not : from ≤ length s → first_byte 10 s from ≡ None → LineEnds s from (record { at = length s; whole = false })
  unfolding end_by is_found
  line_not h z = record { up = h; within = omega arith; at_is = rw z; whole_is = rw z }
