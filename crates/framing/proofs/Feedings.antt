-- One call of `feed` is the walk over the bytes that it took: what fits of them is put behind what is held, and the unit is ended by the
-- last of them, or stays open. Assumes nothing.
use Prim.Native.Nat.{ℕ, min, ◌+◌, ◌-◌, ◌≤◌, ◌<◌}
use mathlib.Core.Path.{◌≡◌, refl, sym, ap, ◌∙◌}
use mathlib.Core.Bool.{Bool, true, false}
use mathlib.Core.List.{List, [], ◌∷◌, ◌++◌}
use native.Mathlib.Omega.{arith}
use lib.ListN.{length, get_or, take, drop, length-take, length-drop, length-append, take-append-drop, drop_of_length-le}
use lib.Seq.{drop-drop, take-take, take_all, take_at, take-append-add, take-length, sets, sets-eq, length-sets, length-take-le}
use Rattle.text.proofs.Places.{by_order}
use borrow.Rule.Slice.PartMut.{put_mid}
use Rattle.std.specs.Prelude.{Option, Some, None, is_some}
use Rattle.std.specs.Option.{unwrap_or}
use Rattle.std.proofs.lemmas.Slice.{put_mid-paste}
use Rattle.framing.specs.declared.Framing.{Framing}
use Rattle.framing.specs.declared.Fed as FedModule
use Rattle.framing.specs.Units.{is_whole}
use Rattle.framing.specs.Feeding.{UnitEnd, end_of, ended, left, units_in, between, Ends, Fed}
use Rattle.framing.proofs.Parts.{open_part, whole_part, ended_append}
use Rattle.framing.proofs.Endings.{between_byte}

-- the first m of the first n are the first of whichever is less
take_least : (m n : ℕ) (l : List ℕ) → take m (take n l) ≡ take (min n m) l
take_least m n l =
    by_order m n (λ h. let e : min n m ≡ m = omega arith in rw e (take-take m n l (omega arith)))
    (λ h. let e : min n m ≡ m = omega arith in rw e (take-take m n l (omega arith)))
    (λ h. let e : min n m ≡ n = omega arith in rw e (take_all m (take n l) (omega (arith, length-take n l))))

-- bytes up to where the open unit ends, or to the part's end, as the walk over them
module _ (f : Framing) (s : List ℕ) (from : ℕ) (h : List ℕ) (r : UnitEnd) (x : Ends f s from h r) where
  between_size : (k : ℕ) → k ≤ length s → length (between s from k) ≡ k - from
  unfolding between
  between_size k l = length-take-le (k - from) (drop from s) (omega (arith, length-drop from s))

  front : (k j : ℕ) → k ≤ j → take k (between s from (from + j)) ≡ between s from (from + k)
  unfolding between
  front k j l =
      let a : from + j - from ≡ j = omega arith in
      let b : from + k - from ≡ k = omega arith in
      rw (a, b) (take-take k j (drop from s) l)

  -- no front of the bytes makes the unit whole
  open_before : (j : ℕ) → from + j ≤ length s → ((k : ℕ) → from < k → k ≤ from + j → is_whole f (h ++ between s from k) ≡ false) → (k : ℕ) → 0 < k → k ≤ length (between s from (from + j)) → is_whole f (h ++ take k (between s from (from + j))) ≡ false
  open_before j l o k a b =
      let n : k ≤ j = omega (arith, between_size (from + j) l) in
      rw (front k j n) (o (from + k) (omega arith) (omega arith))

  module _ (cap : ℕ) (enough : 65539 ≤ cap) (small : length h ≤ cap) where
    kept_held : take cap h ≡ h
    kept_held = take_all cap h small

    -- the unit is whole: it is ended, and nothing is open
    pub ends_unit : r.whole ≡ true → (ended f cap h (between s from r.at) ≡ take cap (h ++ between s from r.at) ∷ []) × (left f cap h (between s from r.at) ≡ [])
    ends_unit w =
        let last : from + (r.at - from - 1) + 1 ≡ r.at = omega (arith, x.on) in
        let on : from + (r.at - from - 1) < length s = omega (arith, x.on, x.within) in
        let bytes : between s from r.at ≡ between s from (from + (r.at - from - 1)) ++ (get_or s (from + (r.at - from - 1)) 0 ∷ []) =
        ap (between s from) (sym last) ∙ between_byte s from (from + (r.at - from - 1)) (omega arith) on in
        let z = whole_part f cap enough h (between s from (from + (r.at - from - 1))) (get_or s (from + (r.at - from - 1)) 0)
        (open_before (r.at - from - 1) (omega arith) (λ k a b. x.none_before k a (omega arith)))
        (rw (← bytes) (sym x.whole_is ∙ w)) in (
          ap (ended f cap h) bytes ∙ (rw kept_held at z.0) ∙ ap (λ (l : List ℕ). take cap (h ++ l) ∷ []) (sym bytes),
          ap (left f cap h) bytes ∙ (rw kept_held at z.1),
        )

    -- it is not: nothing is ended, and it is open
    pub leaves_open : r.whole ≡ false → (ended f cap h (between s from r.at) ≡ []) × (left f cap h (between s from r.at) ≡ take cap (h ++ between s from r.at))
    leaves_open w =
        let e : from + (r.at - from) ≡ r.at = omega (arith, x.on) in
        let none : (k : ℕ) → from < k → k ≤ from + (r.at - from) → is_whole f (h ++ between s from k) ≡ false = λ k a b.
        by_order k r.at (λ l. x.none_before k a l) (λ q. rw q (sym x.whole_is ∙ w)) (λ l. absurd (omega (arith, e))) in
        let z = open_part f cap enough h (between s from (from + (r.at - from))) (open_before (r.at - from) (omega (arith, x.within)) none) in
        (rw (kept_held, e) at z.0, rw (kept_held, e) at z.1)

end_is : (s : List ℕ) (o : Option ℕ) {at : ℕ} {whole : Bool} → at ≡ unwrap_or o (length s) → whole ≡ is_some o → end_of s o ≡ record { at = at; whole = whole }
end_is s None a w = rw (a, w) refl
end_is s (Some k) a w = rw (a, w) refl

-- k is the length of the part that was copied to, and now what stands in it
copied : (out : List ℕ) (at : ℕ) (s : List ℕ) (k : ℕ) (now : List ℕ) → at + length s ≤ length out → now ≡ s → length s ≡ k → put_mid at k out now ≡ sets out at s
copied out at s k now fits e n =
    put_mid-paste at k out now s (length s) e n refl ∙ rw (take-length s) (sym (sets-eq s out at fits))

module _ (f : Framing) (s : List ℕ) (from : ℕ) (unit : List ℕ) (held : ℕ) (room : held ≤ length unit) where
  -- what was copied into the unit buffer, up to where the unit ends or the part does
  pub fed : (o : Option ℕ) (at count : ℕ) (whole : Bool) (now : List ℕ) → Ends f s from (take held unit) (end_of s o) → at ≡ unwrap_or o (length s) → whole ≡ is_some o → count ≡ min (at - from) (length unit - held) → now ≡ take (from + count - from) (drop from s) → Fed f s from unit held (put_mid held (held + count - held) unit now) (record { at = at; held = held + count; whole = whole })
  unfolding between
  fed o at count whole now ends a w c n =
      let e : UnitEnd = record { at = at; whole = whole } in
      let x : Ends f s from (take held unit) e = rw (end_is s o a w) at ends in
      let same : take (from + count - from) (drop from s) ≡ take (length unit - held) (take (at - from) (drop from s)) =
      let d : from + count - from ≡ min (at - from) (length unit - held) = omega arith in
      rw d (sym (take_least (length unit - held) (at - from) (drop from s))) in
      let size : length (take (length unit - held) (take (at - from) (drop from s))) ≡ count =
      omega (arith, length-take (length unit - held) (take (at - from) (drop from s)), length-take (at - from) (drop from s), length-drop from s, x.on, x.within) in
      record {
        ends = x;
        unit_is = copied unit held (take (length unit - held) (take (at - from) (drop from s))) (held + count - held) now (omega arith) (n ∙ same) (omega arith);
        held_is = ap (λ (k : ℕ). held + k) (sym size);
        held_within = omega arith;
      }

  module _ (exit : List ℕ) (r : FedModule.Fed) (x : Fed f s from unit held exit r) where
    pub unit_size : length exit ≡ length unit
    unit_size = ap length x.unit_is ∙ length-sets unit held (take (length unit - held) (between s from r.at))

    -- what is held afterwards is what was held with the bytes that were taken, cut to what is kept
    pub held_text : take r.held exit ≡ take (length unit) (take held unit ++ between s from r.at)
    held_text =
        let d : List ℕ = between s from r.at in
        let size : length (take held unit) ≡ held = length-take-le held unit room in
        let fits : held + length (take (length unit - held) (between s from r.at)) ≤ length unit = rw (← x.held_is) x.held_within in
        let whole : length unit ≡ length (take held unit) + (length unit - held) = omega arith in
        let n-is : r.held ≡ length (take held unit ++ take (length unit - held) (between s from r.at)) =
        x.held_is ∙ sym (length-append (take held unit) (take (length unit - held) (between s from r.at)) ∙ ap (λ (k : ℕ). k + length (take (length unit - held) (between s from r.at))) size) in
        ap (λ (l : List ℕ). take r.held l) (x.unit_is ∙ sets-eq (take (length unit - held) (between s from r.at)) unit held fits)
        ∙ take_at (take held unit ++ take (length unit - held) (between s from r.at)) (drop (held + length (take (length unit - held) (between s from r.at))) unit) r.held (sym n-is)
        ∙ sym (ap (λ (k : ℕ). take k (take held unit ++ between s from r.at)) whole ∙ take-append-add (take held unit) (between s from r.at) (length unit - held))

    module _ (enough : 65539 ≤ length unit) where
      small : length (take held unit) ≤ length unit
      small = omega (arith, length-take held unit)

      -- it is whole: it is ended, and nothing is held
      pub fed-ends : r.whole ≡ true → (ended f (length unit) (take held unit) (between s from r.at) ≡ take r.held exit ∷ []) × (left f (length unit) (take held unit) (between s from r.at) ≡ [])
      fed-ends w =
          let z = ends_unit f s from (take held unit) (record { at = r.at; whole = r.whole }) x.ends (length unit) enough small w in
          (z.0 ∙ ap (λ (l : List ℕ). l ∷ []) (sym held_text), z.1)

      -- it is open: nothing is ended, and it is held
      pub fed-open : r.whole ≡ false → (ended f (length unit) (take held unit) (between s from r.at) ≡ []) × (left f (length unit) (take held unit) (between s from r.at) ≡ take r.held exit)
      fed-open w =
          let z = leaves_open f s from (take held unit) (record { at = r.at; whole = r.whole }) x.ends (length unit) enough small w in
          (z.0, z.1 ∙ sym held_text)

-- counting the units that bytes end
module _ (f : Framing) (s : List ℕ) where
  pub record Counted (n at : ℕ) : Type 0 where
    pub within : at ≤ length s
    pub few : n ≤ at
    pub same : units_in f s ≡ n + length (ended f 65539 [] (drop at s))

  pub counting_starts : Counted 0 0
  unfolding units_in
  counting_starts = record { within = omega arith; few = omega arith; same = omega arith }

  rest_of : (at to : ℕ) → at ≤ to → drop at s ≡ between s at to ++ drop to s
  unfolding between
  rest_of at to h =
      let e : at + (to - at) ≡ to = omega arith in
      sym (take-append-drop (to - at) (drop at s)) ∙ ap (λ (l : List ℕ). take (to - at) (drop at s) ++ l) (drop-drop (to - at) at s ∙ ap (λ (k : ℕ). drop k s) e)

  pub counting_goes_on : {n at to : ℕ} → Counted n at → Ends f s at [] (record { at = to; whole = true }) → Counted (n + 1) to
  counting_goes_on {n} {at} {to} c x =
      let z = ends_unit f s at [] (record { at = to; whole = true }) x 65539 (omega arith) (omega arith) refl in
      let ends : ended f 65539 [] (drop at s) ≡ take 65539 (between s at to) ∷ ended f 65539 [] (drop to s) =
      ap (ended f 65539 []) (rest_of at to (omega (arith, x.on))) ∙ ended_append f 65539 [] (between s at to) (drop to s) ∙ rw (z.0, z.1) in
      record {
        within = x.within;
        few = omega (arith, c.few, x.on);
        same = c.same ∙ ap (λ (us : List (List ℕ)). n + length us) ends ∙ omega arith;
      }

  pub counting_stops : {n at : ℕ} → Counted n at → Ends f s at [] (record { at = length s; whole = false }) → n ≡ units_in f s
  unfolding between
  counting_stops {n} {at} c x =
      let z = leaves_open f s at [] (record { at = length s; whole = false }) x 65539 (omega arith) (omega arith) refl in
      let all : between s at (length s) ≡ drop at s = take_all (length s - at) (drop at s) (omega (arith, length-drop at s)) in
      let none : ended f 65539 [] (drop at s) ≡ [] = ap (ended f 65539 []) (sym all) ∙ z.0 in
      sym (c.same ∙ ap (λ (us : List (List ℕ)). n + length us) none ∙ omega arith)

  pub counting_fails : {n at : ℕ} → Counted n at → (o : Option ℕ) → ((k : ℕ) → o ≡ Some k → ⊥) → Ends f s at [] (end_of s o) → n ≡ units_in f s
  counting_fails c None h x = counting_stops c x
  counting_fails c (Some k) h x = absurd (h k refl)

  pub counting_ends : {n at : ℕ} → Counted n at → length s ≤ at → n ≡ units_in f s
  unfolding ended
  counting_ends {n} {at} c h = sym (c.same ∙ rw (drop_of_length-le s {i = at} h) (omega arith))
