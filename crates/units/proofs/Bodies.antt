-- A record whose first three bytes are there, up to the length that it says: what is put is kept of the longer record. Assumes nothing.
use Prim.Native.Nat.{ℕ, min, ◌+◌, ◌-◌, ◌≤◌, ◌<◌}
use mathlib.Core.Path.{◌≡◌, sym, ap, subst, ◌∙◌}
use mathlib.Core.Bool.{true}
use mathlib.Core.List.{List, ◌++◌}
use native.Mathlib.Omega.{arith}
use lib.ListN.{length, get_or, take, drop, length-append, length-take, take-append-drop}
use lib.Seq.{take-append-le, get_or-take, length-take-le}
use Rattle.print.specs.Put.{Placed}
use Rattle.units.specs.declared.Framing.{Framing}
use Rattle.units.specs.declared.Unit.TheVariants as U
use Rattle.units.specs.declared.Fed as F
use Rattle.units.specs.Units.{marked, is_record, stated, Whole, Open, Rest}
use Rattle.units.specs.Kept.{most, kept_text, kept_count, stood, Keeps}
use Rattle.units.specs.Feeding.{between, wants_at, ends_at, Answered, FedOn, Ready}
use Rattle.units.proofs.Firsts.{record_append, stated_take, stated_append}
use Rattle.units.proofs.WhatIsKept.{long_kept, short_kept, whole_unit, kept_first, kept_stated, length_between, Added, placed_added, added_stands}

module _ (f : Framing) (s : List ℕ) (from : ℕ) (near : from ≤ length s) (rest : List ℕ) (held passed : ℕ) (ready : Ready f rest held passed) (u : List ℕ) (k : Keeps f u rest held passed) where
  is_record_lem : is_record f u ≡ true
  is_record_lem =
      ap (marked f) (sym (kept_first f u) ∙ ap (λ (l : List ℕ). get_or l 0 0) (sym k.text_is) ∙ get_or-take held rest 0 0 (omega (arith, ready.three))) ∙ ready.first

  says : stated u ≡ stated rest
  says = sym (kept_stated f u is_record_lem) ∙ ap stated (sym k.text_is) ∙ stated_take held rest ready.three

  held_length : length (kept_text f u) ≡ held
  held_length = ap length (sym k.text_is) ∙ length-take-le held rest (omega (arith, ready.room, ready.size))

  -- one that says too much: nothing is put
  module _ (big : most < stated rest) where
    long_u : most < stated u
    long_u = rw says big

    long_length : length u ≡ 3 + passed
    long_length =
        let kept = long_kept f u is_record_lem long_u in
        let a : length (take 3 u) ≡ 3 = ap length (sym kept.0) ∙ held_length ∙ ready.long big in
        let b : passed ≡ length u - 3 = k.passed_is ∙ kept.1 in
        omega (arith, a, b, length-take 3 u)

    module _ (more : ℕ) (m : more ≡ min (length s - from) (stated rest - 3 - passed)) where
      abbrev w : List ℕ
      w = u ++ between s from (from + more)

      w_length : length w ≡ 3 + (passed + more)
      w_length = omega (arith, length-append u (between s from (from + more)), length_between s from (from + more) (omega (arith, m, near)), long_length)

      w_record : is_record f w ≡ true
      w_record = record_append f u (between s from (from + more)) (omega (arith, long_length)) ∙ is_record_lem

      w-says : stated w ≡ stated rest
      w-says = stated_append u (between s from (from + more)) (omega (arith, long_length)) ∙ says

      w_kept : kept_text f w ≡ take 3 rest
      w_kept =
          (long_kept f w w_record (rw w-says big)).0
          ∙ take-append-le 3 u (between s from (from + more)) (omega (arith, long_length))
          ∙ sym (long_kept f u is_record_lem long_u).0
          ∙ sym k.text_is
          ∙ ap (λ (n : ℕ). take n rest) (ready.long big)

      w-three : length (kept_text f w) ≡ 3
      w-three = ap length w_kept ∙ length-take-le 3 rest (omega (arith, ready.size))

      w_stands : rest ≡ stood f w rest
      unfolding stood
      w_stands = sym (ap (λ (n : ℕ). kept_text f w ++ drop n rest) w-three ∙ ap (λ (l : List ℕ). l ++ drop 3 rest) w_kept ∙ take-append-drop 3 rest)

      pub long_open : 3 + (passed + more) < stated rest → FedOn f u s from rest rest (wants_at (from + more) 3 (passed + more))
      long_open h =
          let at : from + more ≡ length s = omega (arith, m, near, h) in
          let count : passed + more ≡ kept_count f w = sym ((long_kept f w w_record (rw w-says big)).1 ∙ omega (arith, w_length)) in
          record {
            up = omega arith;
            within = omega (arith, m, near);
            buffer = w_stands;
            answered =
                Answered.wants (Rest.some (Open.a_record w_record (omega (arith, w_length, w-says, h))))
                (ap (λ (n : ℕ). wants_at n 3 (passed + more)) at ∙ ap (λ (n : ℕ). wants_at (length s) n (passed + more)) (sym w-three) ∙ ap (wants_at (length s) (length (kept_text f w))) count);
          }

      pub long-ends : stated rest ≤ 3 + (passed + more) → FedOn f u s from rest rest (ends_at (from + more) U.Long)
      long-ends h =
          record {
            up = omega arith;
            within = omega (arith, m, near);
            buffer = w_stands;
            answered = Answered.ends (Whole.a_record w_record (omega (arith, w_length, w-says, h, m, big))) (ap (ends_at (from + more)) (sym (long_kept f w w_record (rw w-says big)).2));
          }

  -- any other: what is put is kept
  module _ (small : stated rest ≤ most) where
    short_u : stated u ≤ most
    short_u = rw says small

    text_u : take held rest ≡ u
    text_u = k.text_is ∙ (short_kept f u is_record_lem short_u).0

    short_length : length u ≡ held
    short_length = ap length (sym (short_kept f u is_record_lem short_u).0) ∙ held_length

    module _ (more : ℕ) (m : more ≡ min (length s - from) (stated rest - held)) (exit : List ℕ) (now : ℕ) (p : Placed rest held (take (from + more - from) (drop from s)) exit now) where
      abbrev v : List ℕ
      v = u ++ between s from (from + more)

      part_length : length (between s from (from + more)) ≡ more
      part_length = length_between s from (from + more) (omega (arith, m, near)) ∙ omega arith

      added : Added rest held (between s from (from + more)) exit now
      unfolding between
      added = placed_added rest held (take (from + more - from) (drop from s)) exit now (omega (arith, part_length, m, ready.size, small, ready.room)) p

      v-length : length v ≡ now
      v-length = omega (arith, length-append u (between s from (from + more)), short_length, added.count)

      v-record : is_record f v ≡ true
      v-record = record_append f u (between s from (from + more)) (omega (arith, short_length, ready.three)) ∙ is_record_lem

      v-says : stated v ≡ stated rest
      v-says = stated_append u (between s from (from + more)) (omega (arith, short_length, ready.three)) ∙ says

      v-kept : kept_text f v ≡ v
      v-kept = (short_kept f v v-record (rw v-says small)).0

      v-stands : (exit ≡ stood f v rest) × (now ≡ length (kept_text f v))
      v-stands = added_stands f v added (ap (λ (l : List ℕ). l ++ between s from (from + more)) text_u ∙ sym v-kept)

      now_is : now ≡ held + more
      now_is = added.count ∙ ap (λ (n : ℕ). held + n) part_length

      pub short-open : now < stated rest → FedOn f u s from rest exit (wants_at (from + more) now 0)
      short-open h =
          let at : from + more ≡ length s = omega (arith, m, near, h, now_is) in
          record {
            up = omega arith;
            within = omega (arith, m, near);
            buffer = v-stands.0;
            answered =
                Answered.wants (Rest.some (Open.a_record v-record (omega (arith, v-length, v-says, h))))
                (ap (λ (n : ℕ). wants_at n now 0) at ∙ ap (λ (n : ℕ). wants_at (length s) n 0) v-stands.1 ∙ ap (wants_at (length s) (length (kept_text f v))) (sym (short_kept f v v-record (rw v-says small)).1));
          }

      pub short-ends : stated rest ≤ now → FedOn f u s from rest exit (ends_at (from + more) (U.Text now))
      short-ends h =
          let whole : length v ≡ stated v = omega (arith, v-length, v-says, h, m, now_is, ready.below) in
          record {
            up = omega arith;
            within = omega (arith, m, near);
            buffer = v-stands.0;
            answered =
                Answered.ends (Whole.a_record v-record whole)
                (ap (λ (n : ℕ). ends_at (from + more) (U.Text n)) (sym v-length) ∙ ap (ends_at (from + more)) (sym (whole_unit f v v-record (rw v-says small) whole)));
          }

  -- the same by the size that the code has read
  module _ (size : ℕ) (is : size ≡ stated rest) where
    pub body_long_open : most < size → (more : ℕ) → more ≡ min (length s - from) (size - 3 - passed) → 3 + (passed + more) < size → {r : F.Fed} → r ≡ wants_at (from + more) 3 (passed + more) → FedOn f u s from rest rest r
    body_long_open b more m h e = rw e (long_open (subst (λ (x : ℕ). most < x) is b) more (m ∙ ap (λ (x : ℕ). min (length s - from) (x - 3 - passed)) is) (subst (λ (x : ℕ). 3 + (passed + more) < x) is h))

    pub body_long_ends : most < size → (more : ℕ) → more ≡ min (length s - from) (size - 3 - passed) → size ≤ 3 + (passed + more) → {r : F.Fed} → r ≡ ends_at (from + more) U.Long → FedOn f u s from rest rest r
    body_long_ends b more m h e = rw e (long-ends (subst (λ (x : ℕ). most < x) is b) more (m ∙ ap (λ (x : ℕ). min (length s - from) (x - 3 - passed)) is) (subst (λ (x : ℕ). x ≤ 3 + (passed + more)) is h))

    pub body_short_open : size ≤ most → (more : ℕ) → more ≡ min (length s - from) (size - held) → (exit : List ℕ) (now : ℕ) → Placed rest held (take (from + more - from) (drop from s)) exit now → now < size → {r : F.Fed} → r ≡ wants_at (from + more) now 0 → FedOn f u s from rest exit r
    body_short_open b more m exit now p h e = rw e (short-open (subst (λ (x : ℕ). x ≤ most) is b) more (m ∙ ap (λ (x : ℕ). min (length s - from) (x - held)) is) exit now p (subst (λ (x : ℕ). now < x) is h))

    pub body_short_ends : size ≤ most → (more : ℕ) → more ≡ min (length s - from) (size - held) → (exit : List ℕ) (now : ℕ) → Placed rest held (take (from + more - from) (drop from s)) exit now → size ≤ now → {r : F.Fed} → r ≡ ends_at (from + more) (U.Text now) → FedOn f u s from rest exit r
    body_short_ends b more m exit now p h e = rw e (short-ends (subst (λ (x : ℕ). x ≤ most) is b) more (m ∙ ap (λ (x : ℕ). min (length s - from) (x - held)) is) exit now p (subst (λ (x : ℕ). x ≤ now) is h))
