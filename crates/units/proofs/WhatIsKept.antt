-- What is kept of a unit of each kind, and that bytes put behind the held ones are kept of the longer unit. Assumes nothing.
use Prim.Native.Nat.{ℕ, ◌+◌, ◌-◌, ◌≤◌, ◌<◌}
use mathlib.Core.Path.{◌≡◌, refl, sym, ap, ◌∙◌}
use mathlib.Core.Bool.{Bool, true, false, cond}
use mathlib.Core.List.{List, [], ◌++◌}
use native.Mathlib.Omega.{arith}
use lib.ListN.{length, get_or, take, drop, length-append, length-take, length-drop}
use lib.Seq.{take_all, take-nil, take_at, length-take-le, sets, sets-eq, take-add, drop-drop, drop_at}
use borrow.Author.Tests.{lt-ltb, le-ltb, le-leb}
use Rattle.text.proofs.Places.{by_order, clash}
use Rattle.print.specs.Put.{Placed, buffer_after, place_after}
use Rattle.units.specs.declared.Framing.{Framing}
use Rattle.units.specs.declared.Unit.TheVariants as U
use Rattle.units.specs.Units.{marked, is_record, stated, Whole, Open, Rest}
use Rattle.units.specs.Kept.{most, is_long, kept_text, kept_count, stood, Keeps}
use Rattle.units.specs.Feeding.{between, unit_of}
use Rattle.units.proofs.Firsts.{none_marked, first_take, stated_take}

module _ (f : Framing) (w : List ℕ) where
  -- a unit of each kind
  pub long_kept : is_record f w ≡ true → most < stated w → (kept_text f w ≡ take 3 w) × (kept_count f w ≡ length w - 3) × (unit_of f w ≡ U.Long)
  unfolding kept_text kept_count is_long unit_of
  long_kept t h = (rw (t, lt-ltb _ _ h), rw (t, lt-ltb _ _ h), rw (t, lt-ltb _ _ h))

  pub short_kept : is_record f w ≡ true → stated w ≤ most → (kept_text f w ≡ w) × (kept_count f w ≡ 0)
  unfolding kept_text kept_count is_long
  short_kept t h = (rw (t, le-ltb _ _ h), rw (t, le-ltb _ _ h))

  pub whole_unit : is_record f w ≡ true → stated w ≤ most → length w ≡ stated w → unit_of f w ≡ U.Text (length w)
  unfolding unit_of is_long
  whole_unit t h e = rw (t, le-ltb _ _ h, le-ltb (length w) (stated w) (omega (arith, e)))

  pub line_kept : is_record f w ≡ false → (kept_text f w ≡ take 4097 w) × (kept_count f w ≡ 0) × (unit_of f w ≡ U.Text (length (take 4097 w)))
  unfolding kept_text kept_count unit_of
  line_kept t = (rw t, rw t, rw t)

  -- the first byte is kept
  pub kept_first : get_or (kept_text f w) 0 0 ≡ get_or w 0 0
  unfolding kept_text
  kept_first = go (is_record f w) (is_long w)
    where
      go : (a b : Bool) → get_or (cond a (cond b (take 3 w) w) (take 4097 w)) 0 0 ≡ get_or w 0 0
      go true true = first_take 3 w (omega arith)
      go true false = refl
      go false b = first_take 4097 w (omega arith)

  pub kept_record : is_record f (kept_text f w) ≡ is_record f w
  kept_record = ap (marked f) kept_first

  -- and what it says
  pub kept_stated : is_record f w ≡ true → stated (kept_text f w) ≡ stated w
  unfolding kept_text
  kept_stated t = rw t (go (is_long w))
    where
      go : (b : Bool) → stated (cond b (take 3 w) w) ≡ stated w
      go true = stated_take 3 w (omega arith)
      go false = refl

  -- of a unit with fewer than three bytes kept all are
  pub kept_few : length (kept_text f w) < 3 → kept_text f w ≡ w
  unfolding kept_text
  kept_few h = go (is_record f w) (is_long w) h
    where
      go : (a b : Bool) → length (cond a (cond b (take 3 w) w) (take 4097 w)) < 3 → cond a (cond b (take 3 w) w) (take 4097 w) ≡ w
      go true true h = take_all 3 w (omega (arith, length-take 3 w, h))
      go true false h = refl
      go false b h = take_all 4097 w (omega (arith, length-take 4097 w, h))

  pub kept_all : length w ≤ 3 → (kept_text f w ≡ w) × (kept_count f w ≡ 0)
  unfolding kept_text kept_count
  kept_all h = (text (is_record f w) (is_long w), count (is_record f w) (is_long w))
    where
      text : (a b : Bool) → cond a (cond b (take 3 w) w) (take 4097 w) ≡ w
      text true true = take_all 3 w h
      text true false = refl
      text false b = take_all 4097 w (omega arith)

      count : (a b : Bool) → cond a (cond b (length w - 3) 0) 0 ≡ 0
      count true true = omega arith
      count true false = refl
      count false b = refl

  -- of three bytes or more three are
  pub kept_three : 3 ≤ length w → 3 ≤ length (kept_text f w)
  unfolding kept_text
  kept_three h = go (is_record f w) (is_long w)
    where
      go : (a b : Bool) → 3 ≤ length (cond a (cond b (take 3 w) w) (take 4097 w))
      go true true = omega (arith, length-take 3 w)
      go true false = h
      go false b = omega (arith, length-take 4097 w)

  -- the buffer has room for what is kept of a unit that is no longer than it says
  pub kept_fits : (is_record f w ≡ true → length w ≤ stated w) → length (kept_text f w) ≤ 5227
  kept_fits fit = go (is_record f w) refl
    where
      go : (b : Bool) → is_record f w ≡ b → length (kept_text f w) ≤ 5227
      go false t = omega (arith, ap length (line_kept t).0, length-take 4097 w)
      go true t =
          by_order most (stated w) (λ h. omega (arith, ap length (long_kept t h).0, length-take 3 w))
          (λ h. omega (arith, h, ap length (short_kept t (omega (arith, h))).0, fit t))
          (λ h. omega (arith, h, ap length (short_kept t (omega (arith, h))).0, fit t))

module _ (f : Framing) where
  pub whole_fits : (w : List ℕ) → Whole f w → length (kept_text f w) ≤ 5227
  whole_fits w x = kept_fits f w (by x)
    where
      by : Whole f w → is_record f w ≡ true → length w ≤ stated w
      by (Whole.line n t e b z) q = absurd (clash q t)
      by (Whole.a_record t e) q = omega (arith, e)

  pub rest_fits : (w : List ℕ) → Rest f w → length (kept_text f w) ≤ 5227
  rest_fits w x = kept_fits f w (by x)
    where
      by : Rest f w → is_record f w ≡ true → length w ≤ stated w
      by (Rest.none e) q = omega (arith, ap length e)
      by (Rest.some (Open.line t s b)) q = absurd (clash q t)
      by (Rest.some (Open.a_record t l)) q = omega (arith, l)

  -- of nothing nothing is kept
  pub nothing_kept : (kept_text f [] ≡ []) × (kept_count f [] ≡ 0)
  nothing_kept = ((line_kept f [] (none_marked f)).0 ∙ take-nil 4097, (line_kept f [] (none_marked f)).1)

  pub keeps_nothing : (rest : List ℕ) → length rest ≡ 8192 → Keeps f [] rest 0 0
  keeps_nothing rest n = record { size = n; within = omega arith; text_is = sym nothing_kept.0; passed_is = sym nothing_kept.1 }

  module _ (w rest : List ℕ) (size : length rest ≡ 8192) (fits : length (kept_text f w) ≤ 5227) where
    pub stood_size : length (stood f w rest) ≡ 8192
    unfolding stood
    stood_size = omega (arith, length-append (kept_text f w) (drop (length (kept_text f w)) rest), length-drop (length (kept_text f w)) rest, size, fits)

    pub stood_front : take (length (kept_text f w)) (stood f w rest) ≡ kept_text f w
    unfolding stood
    stood_front = take_at (kept_text f w) (drop (length (kept_text f w)) rest) (length (kept_text f w)) refl

    -- what stands in the buffer is kept
    pub stood_keeps : Keeps f w (stood f w rest) (length (kept_text f w)) (kept_count f w)
    stood_keeps = record { size = stood_size; within = omega (arith, fits); text_is = stood_front; passed_is = refl }

  -- of two units put one over the other the longer stands
  pub stood_then : (v w rest : List ℕ) → length (kept_text f v) ≤ length (kept_text f w) → stood f w (stood f v rest) ≡ stood f w rest
  unfolding stood
  stood_then v w rest h =
      let n : length (kept_text f w) ≡ length (kept_text f v) + (length (kept_text f w) - length (kept_text f v)) = omega (arith, h) in
      ap (λ (l : List ℕ). kept_text f w ++ l) (behind (length (kept_text f w) - length (kept_text f v)) n)
    where
      behind : (d : ℕ) → length (kept_text f w) ≡ length (kept_text f v) + d → drop (length (kept_text f w)) (kept_text f v ++ drop (length (kept_text f v)) rest) ≡ drop (length (kept_text f w)) rest
      behind d n =
          ap (λ (m : ℕ). drop m (kept_text f v ++ drop (length (kept_text f v)) rest)) n
          ∙ sym (drop-drop d (length (kept_text f v)) (kept_text f v ++ drop (length (kept_text f v)) rest))
          ∙ ap (drop d) (drop_at (kept_text f v) (drop (length (kept_text f v)) rest) (length (kept_text f v)) refl)
          ∙ drop-drop d (length (kept_text f v)) rest
          ∙ ap (λ (m : ℕ). drop m rest) (sym n)

pub length_between : (s : List ℕ) (a b : ℕ) → b ≤ length s → length (between s a b) ≡ b - a
unfolding between
length_between s a b h = length-take-le (b - a) (drop a s) (omega (arith, length-drop a s))

pub between_none : (s : List ℕ) (a : ℕ) → between s a a ≡ []
unfolding between
between_none s a = let e : a - a ≡ 0 = omega arith in rw e

pub between_then : (s : List ℕ) (a b d : ℕ) → a ≤ b → b ≤ d → between s a d ≡ between s a b ++ between s b d
unfolding between
between_then s a b d h k =
    let e : d - a ≡ (b - a) + (d - b) = omega arith in
    let g : a + (b - a) ≡ b = omega arith in
    ap (λ (n : ℕ). take n (drop a s)) e
    ∙ take-add (b - a) (d - b) (drop a s)
    ∙ ap (λ (l : List ℕ). take (b - a) (drop a s) ++ take (d - b) l) (drop-drop (b - a) a s ∙ ap (λ (n : ℕ). drop n s) g)

-- bytes put behind what is held
pub record Added (rest : List ℕ) (held : ℕ) (a exit : List ℕ) (now : ℕ) : Type 0 where
  pub count : now ≡ held + length a
  pub size : length (take held rest ++ a) ≡ now
  pub all : exit ≡ (take held rest ++ a) ++ drop now rest

pub placed_added : (rest : List ℕ) (held : ℕ) (a exit : List ℕ) (now : ℕ) → held + length a ≤ length rest → Placed rest held a exit now → Added rest held a exit now
unfolding buffer_after place_after
placed_added rest held a exit now h p =
    let n : now ≡ held + length a = p.place ∙ rw (le-leb _ _ h) in
    let e : exit ≡ sets rest held a = p.buffer ∙ rw (le-leb _ _ h) in
    record {
      count = n;
      size = length-append (take held rest) a ∙ rw (length-take-le held rest (omega arith)) (sym n);
      all = e ∙ sets-eq a rest held h ∙ ap (λ (m : ℕ). (take held rest ++ a) ++ drop m rest) (sym n);
    }

-- and they are what is kept of the longer unit
pub added_stands : (f : Framing) {rest : List ℕ} {held : ℕ} {a exit : List ℕ} {now : ℕ} (w : List ℕ) → Added rest held a exit now → take held rest ++ a ≡ kept_text f w → (exit ≡ stood f w rest) × (now ≡ length (kept_text f w))
unfolding stood
added_stands f {rest} {held} {a} {exit} {now} w x e =
    let n : now ≡ length (kept_text f w) = sym x.size ∙ ap length e in
    (x.all ∙ ap (λ (l : List ℕ). l ++ drop now rest) e ∙ ap (λ (m : ℕ). kept_text f w ++ drop m rest) n, n)
