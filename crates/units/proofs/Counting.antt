-- Each whole unit that is found is the first of what is left, so their number is that of the units that have ended. Assumes nothing.
use Rattle.std.specs.Prelude.{None, Option, Some}
use Prim.Native.Nat.{ℕ, ◌+◌, ◌-◌, ◌≤◌, ◌<◌}
use mathlib.Core.Path.{◌≡◌, refl, sym, ap, subst, ◌∙◌}
use mathlib.Core.Bool.{true, false}
use mathlib.Core.List.{List, [], ◌++◌}
use native.Mathlib.Omega.{arith}
use lib.ListN.{length, get_or, take, drop, length-append, length-drop, take-append-drop}
use lib.Seq.{take_all, drop-drop, drop-length, get_or-drop, get_or-take, length-take-le}
use borrow.Author.Tests.{eq-eqb, eqb-true}
use Rattle.text.proofs.Places.{clash, first_is, first_free}
use Rattle.text.specs.Place.{first_byte, is_at}
use Rattle.units.specs.declared.Framing.{Framing}
use Rattle.units.specs.Units.{marked, stated, Whole, Open, Rest, Sofar}
use Rattle.units.specs.Feeding.{between, LineEnd, LineEnds, end_in, end_by, is_found}
use Rattle.units.specs.Counting.{UnitEnds, RecordEnds}
use Rattle.units.proofs.Firsts.{record_take, states_three, stated_take}
use Rattle.units.proofs.Streams.{whole_some, no_open, one_first_unit}

module _ (f : Framing) where
  -- the first unit is the one that was found
  count_one : {s v : List ℕ} {us : List (List ℕ)} (u r : List ℕ) → s ≡ u ++ r → Whole f u → Sofar f s us v → (ws : List (List ℕ)) × ((length us ≡ 1 + length ws) × Sofar f r ws v)
  count_one u r e w (Sofar.begun x (Rest.none n)) = absurd (let h = whole_some f u w in omega (arith, h, ap length (sym e ∙ n), length-append u r))
  count_one u r e w (Sofar.begun x (Rest.some o)) = absurd (no_open f x u r o w e)
  count_one {v = v} u r e w (Sofar.behind x y {us = us} q z more) = let b = one_first_unit f x u y r q w (sym z ∙ e) in (us, (omega arith, subst (λ (l : List ℕ). Sofar f l us v) b.1 more))

  -- none has ended of a stream that is one open unit
  pub none_ended : {s v : List ℕ} {us : List (List ℕ)} → Rest f s → Sofar f s us v → us ≡ []
  none_ended r (Sofar.begun x q) = refl
  none_ended (Rest.none n) (Sofar.behind x y q z more) = absurd (let h = whole_some f x q in omega (arith, h, ap length (sym z ∙ n), length-append x y))
  none_ended {s} (Rest.some o) (Sofar.behind x y q z more) = absurd (no_open f s x y o q z)

  -- so many units end before a place, whatever is behind it
  pub record Counted (s : List ℕ) (n at : ℕ) : Type 0 where
    pub within : at ≤ length s
    pub small : n ≤ at
    pub counts : (us : List (List ℕ)) (v : List ℕ) → Sofar f s us v → (ws : List (List ℕ)) × ((length us ≡ n + length ws) × Sofar f (drop at s) ws v)

  pub counting_starts : (s : List ℕ) → Counted s 0 0
  counting_starts s = record { within = omega arith; small = omega arith; counts = λ us v so. (us, (omega arith, so)) }

  module _ (s : List ℕ) (n at : ℕ) (x : Counted s n at) where
    module _ (e : LineEnd) (y : UnitEnds f s at e) where
      pub counting_goes_on : e.whole ≡ true → Counted s (n + 1) e.at
      unfolding between
      counting_goes_on q =
          record {
            within = y.within;
            small = omega (arith, x.small, y.up);
            counts = λ us v so.
                let a = x.counts us v so in
                let g : at + (e.at - at) ≡ e.at = omega (arith, y.up) in
                let z : drop at s ≡ between s at e.at ++ drop e.at s = sym (take-append-drop (e.at - at) (drop at s)) ∙ ap (λ (l : List ℕ). take (e.at - at) (drop at s) ++ l) (drop-drop (e.at - at) at s ∙ ap (λ (k : ℕ). drop k s) g) in
                let b = count_one (between s at e.at) (drop e.at s) z (y.whole_is q) a.1.1 in
                (b.0, (omega (arith, a.1.0, b.1.0), b.1.1));
          }

      pub counting_stops : e.whole ≡ false → (us : List (List ℕ)) (v : List ℕ) → Sofar f s us v → n ≡ length us
      counting_stops q us v so =
          let a = x.counts us v so in
          omega (arith, a.1.0, ap length (none_ended (Rest.some (y.open_is q)) a.1.1))

    pub counting_fails : (o : Option ℕ) → ((k : ℕ) → o ≡ Some k → ⊥) → UnitEnds f s at (end_in s o) → (us : List (List ℕ)) (v : List ℕ) → Sofar f s us v → n ≡ length us
    counting_fails None h y = counting_stops _ y refl
    counting_fails (Some k) h y = absurd (h k refl)

    pub counting_ends : length s ≤ at → (us : List (List ℕ)) (v : List ℕ) → Sofar f s us v → n ≡ length us
    counting_ends h us v so =
        let a = x.counts us v so in
        let z : at ≡ length s = omega (arith, x.within) in
        omega (arith, a.1.0, ap length (none_ended (Rest.none (ap (λ (k : ℕ). drop k s) z ∙ drop-length s)) a.1.1))

  -- ---- where a unit ends

  module _ (s : List ℕ) (from : ℕ) (some : from < length s) where
    left_length : length (drop from s) ≡ length s - from
    left_length = length-drop from s

    first_is_at : get_or (drop from s) 0 0 ≡ get_or s from 0
    first_is_at = get_or-drop from s 0 0 ∙ ap (λ (k : ℕ). get_or s k 0) (omega arith)

    -- a record, by the length that it says
    module _ (size : ℕ) (q : size ≡ stated (take (length s - from) (drop from s))) where
      says : size ≡ stated (drop from s)
      says = q ∙ ap stated (take_all (length s - from) (drop from s) (omega (arith, left_length)))

      pub record_open : length s - from < size → RecordEnds s from (record { at = length s; whole = false })
      record_open h = record { up = some; within = omega arith; whole_is = λ z. absurd (clash z refl); open_is = λ z. omega (arith, h, says) }

      pub record_whole : size ≤ length s - from → RecordEnds s from (record { at = from + size; whole = true })
      record_whole h =
          let three = states_three (drop from s) in
          record { up = omega (arith, says, three); within = omega (arith, h, some); whole_is = λ z. ap (λ (n : ℕ). from + n) says; open_is = λ z. absurd (clash refl z) }

    pub record_ends : marked f (get_or s from 0) ≡ true → (e : LineEnd) → RecordEnds s from e → UnitEnds f s from e
    unfolding between
    record_ends t e x =
        record {
          up = x.up;
          within = x.within;
          whole_is = λ q.
              let n : e.at - from ≡ stated (drop from s) = omega (arith, x.whole_is q) in
              let three = states_three (drop from s) in
              Whole.a_record (record_take f (e.at - from) (drop from s) (omega (arith, x.up)) ∙ ap (marked f) first_is_at ∙ t)
              (length-take-le (e.at - from) (drop from s) (omega (arith, left_length, x.within)) ∙ n ∙ sym (stated_take (e.at - from) (drop from s) (omega (arith, n, three))));
          open_is = λ q. Open.a_record (ap (marked f) first_is_at ∙ t) (omega (arith, left_length, x.open_is q));
        }

    pub line_ends : marked f (get_or s from 0) ≡ false → (e : LineEnd) → LineEnds s from e → UnitEnds f s from e
    unfolding end_by is_found first_byte between
    line_ends t e x = go (first_byte 10 s from) refl
      where
        at_place : (i : ℕ) → get_or (drop from s) i 0 ≡ get_or s (from + i) 0
        at_place i = get_or-drop from s i 0

        go : (y : Option ℕ) → first_byte 10 s from ≡ y → UnitEnds f s from e
        go None z =
            let at_is : e.at ≡ length s = x.at_is ∙ ap (end_by s) z in
            let free = first_free (is_at 10 s) z (omega (arith, some)) in
            record {
              up = omega (arith, at_is, some);
              within = x.within;
              whole_is = λ q. absurd (clash q (x.whole_is ∙ ap is_found z));
              open_is = λ q. Open.line (ap (marked f) first_is_at ∙ t) (omega (arith, left_length, some)) (λ k h y. clash (eq-eqb _ _ (sym (at_place k) ∙ y)) (free (from + k) (omega arith) (omega (arith, left_length, h))));
            }
        go (Some j) z =
            let at_is : e.at ≡ j + 1 = x.at_is ∙ ap (end_by s) z in
            let y = first_is (is_at 10 s) z in
            let n : e.at - from ≡ (j - from) + 1 = omega (arith, at_is, y.from) in
            let g : from + (j - from) ≡ j = omega (arith, y.from) in
            record {
              up = omega (arith, at_is, y.from);
              within = x.within;
              whole_is = λ q.
                  Whole.line (j - from) (record_take f (e.at - from) (drop from s) (omega (arith, n)) ∙ ap (marked f) first_is_at ∙ t)
                  (length-take-le (e.at - from) (drop from s) (omega (arith, left_length, x.within)) ∙ n)
                  (λ k h w. clash (eq-eqb _ _ (sym (get_or-take (e.at - from) (drop from s) k 0 (omega (arith, n, h)) ∙ at_place k) ∙ w)) (y.before (from + k) (omega arith) (omega (arith, h))))
                  (get_or-take (e.at - from) (drop from s) (j - from) 0 (omega (arith, n)) ∙ at_place (j - from) ∙ ap (λ (k : ℕ). get_or s k 0) g ∙ eqb-true _ _ y.here);
              open_is = λ q. absurd (clash (x.whole_is ∙ ap is_found z) q);
            }
