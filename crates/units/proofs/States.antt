-- The test of 53 is right both ways: what passes is one of the cases, each case is left by some stream, and what a stream leaves passes.
-- Assumes nothing.
use Rattle.std.specs.Prelude.{None, Option, Some, is_some}
use Prim.Native.Nat.{ℕ, ◌+◌, ◌-◌, ◌≤◌, ◌<◌}
use mathlib.Core.Path.{◌≡◌, refl, sym, ap, subst, ◌∙◌}
use mathlib.Core.Bool.{Bool, true, false, cond, not}
use mathlib.Core.List.{List, [], ◌++◌, append-nil}
use mathlib.Core.Logic.{◌⊎◌, inl, inr}
use native.Mathlib.Omega.{arith}
use lib.Dec.{eqb, ltb, leb}
use lib.ListN.{length, get_or, take, drop, replicate, length-append, length-take, length-replicate, get_or-append, get_or-eq_default}
use lib.Seq.{take_all, take_at, get_or-take, get_or-drop, length-take-le}
use borrow.Author.Tests.{eq-eqb, ne_eqb, eqb-true, eqb-false, ltb-true, ltb-false, leb-true, leb-false, lt-ltb, le-ltb, le-leb, lt-leb}
use Rattle.text.proofs.Places.{clash, by_order, first_free, first_none}
use Rattle.text.specs.Place.{first_byte, is_at}
use Rattle.units.specs.declared.Framing.{Framing}
use Rattle.units.specs.Units.{marked, is_record, stated, Bare, Open, Rest}
use Rattle.units.specs.Kept.{most, is_long, kept_text, kept_count, Keeps, LeftBy, none_found, line_left, is_left, is_kept}
use Rattle.units.specs.Feeding.{first_of, Ready}
use Rattle.units.proofs.Firsts.{none_marked, record_some, record_append, states_three, stated_take, stated_append}
use Rattle.units.proofs.WhatIsKept.{long_kept, short_kept, line_kept, kept_record, kept_stated, nothing_kept}
use Rattle.units.proofs.LinesOn.{rest_of}

-- ---- the test, way by way

module _ (l : List ℕ) where
  pub line_long : 4097 < length l → false ≡ line_left l
  unfolding line_left
  line_long h = rw (lt-leb _ _ h)

  pub line_found : {k : ℕ} → first_byte 10 l 0 ≡ Some k → false ≡ line_left l
  unfolding none_found line_left
  line_found e = rw e (go (leb (length l) 4097))
    where
      go : (b : Bool) → false ≡ cond b false false
      go true = refl
      go false = refl

  pub line_free : length l ≤ 4097 → first_byte 10 l 0 ≡ None → true ≡ line_left l
  unfolding none_found line_left
  line_free h e = rw (e, le-leb _ _ h)

  pub line_none : length l ≤ 4097 → (o : Option ℕ) → o ≡ first_byte 10 l 0 → (b : Bool) → is_some o ≡ not b → b ≡ line_left l
  line_none h None e true q = line_free h (sym e)
  line_none h None e false q = absurd (clash q refl)
  line_none h (Some k) e true q = absurd (clash refl q)
  line_none h (Some k) e false q = line_found (sym e)

  less_three : (passed n : ℕ) → 3 ≤ n → ltb passed (n - 3) ≡ ltb (3 + passed) n
  less_three passed n h = go (ltb (3 + passed) n) refl
    where
      go : (b : Bool) → ltb (3 + passed) n ≡ b → ltb passed (n - 3) ≡ ltb (3 + passed) n
      go true e = lt-ltb passed (n - 3) (omega (arith, ltb-true (3 + passed) n e)) ∙ sym e
      go false e = le-ltb passed (n - 3) (omega (arith, ltb-false (3 + passed) n e)) ∙ sym e

  module _ (f : Framing) (passed size : ℕ) (is : size ≡ stated l) (t : is_record f l ≡ true) where
    pub left_long : most < size → length l ≡ 3 → ltb passed (size - 3) ≡ is_left f l passed
    unfolding is_left is_long
    left_long h e = ap (λ (n : ℕ). ltb passed (n - 3)) is ∙ rw (t, lt-ltb most (stated l) (omega (arith, is, h)), e) (less_three passed (stated l) (states_three l))

    pub left_other : most < size → (length l ≡ 3 → ⊥) → false ≡ is_left f l passed
    unfolding is_left is_long
    left_other h e = rw (t, lt-ltb most (stated l) (omega (arith, is, h)), ne_eqb _ _ e)

    pub left_short : size ≤ most → passed ≡ 0 → ltb (length l) size ≡ is_left f l passed
    unfolding is_left is_long
    left_short h e = ap (ltb (length l)) is ∙ rw (t, le-ltb most (stated l) (omega (arith, is, h)), e)

    pub left_passed : size ≤ most → (passed ≡ 0 → ⊥) → false ≡ is_left f l passed
    unfolding is_left is_long
    left_passed h e = rw (t, le-ltb most (stated l) (omega (arith, is, h)), ne_eqb _ _ e)

  module _ (f : Framing) (passed : ℕ) (t : is_record f l ≡ false) where
    pub left_line : passed ≡ 0 → line_left l ≡ is_left f l passed
    unfolding is_left line_left
    left_line e = rw (t, e)

    pub left_line_passed : (passed ≡ 0 → ⊥) → false ≡ is_left f l passed
    unfolding is_left line_left
    left_line_passed e = rw (t, ne_eqb _ _ e)

free_bare : (l : List ℕ) → first_byte 10 l 0 ≡ None → Bare l (length l)
unfolding first_byte
free_bare l e k h z = clash (eq-eqb _ _ z) (first_free (is_at 10 l) e (omega arith) k (omega arith) h)

bare_free : (l : List ℕ) → Bare l (length l) → first_byte 10 l 0 ≡ None
unfolding first_byte
bare_free l b = first_none (is_at 10 l) (λ k h q. ne_eqb _ _ (b k q))

-- ---- the test and the cases

module _ (f : Framing) (text : List ℕ) (passed : ℕ) where
  pub left_all : LeftBy f text passed → is_left f text passed ≡ true
  left_all (LeftBy.long t h n l) = sym (left_long text f passed (stated text) refl t h n) ∙ lt-ltb passed (stated text - 3) (omega (arith, l))
  left_all (LeftBy.short t h n l) = sym (left_short text f passed (stated text) refl t h n) ∙ lt-ltb (length text) (stated text) l
  left_all (LeftBy.line t n h b) = sym (line_free text h (bare_free text b) ∙ left_line text f passed t n)

  pub left_is : is_left f text passed ≡ true → LeftBy f text passed
  left_is e = go (is_record f text) refl
    where
      small : is_record f text ≡ true → stated text ≤ most → (b : Bool) → eqb passed 0 ≡ b → LeftBy f text passed
      small t h true q = LeftBy.short t h (eqb-true _ _ q) (ltb-true _ _ (left_short text f passed (stated text) refl t h (eqb-true _ _ q) ∙ e))
      small t h false q = absurd (clash e (sym (left_passed text f passed (stated text) refl t h (eqb-false _ _ q))))

      large : is_record f text ≡ true → most < stated text → (b : Bool) → eqb (length text) 3 ≡ b → LeftBy f text passed
      large t h true q =
          let l : passed < stated text - 3 = ltb-true passed (stated text - 3) (left_long text f passed (stated text) refl t h (eqb-true _ _ q) ∙ e) in
          LeftBy.long t h (eqb-true _ _ q) (omega (arith, l))
      large t h false q = absurd (clash e (sym (left_other text f passed (stated text) refl t h (eqb-false _ _ q))))

      coded : is_record f text ≡ true → (b : Bool) → ltb most (stated text) ≡ b → LeftBy f text passed
      coded t true q = large t (ltb-true _ _ q) (eqb (length text) 3) refl
      coded t false q = small t (ltb-false _ _ q) (eqb passed 0) refl

      found : is_record f text ≡ false → passed ≡ 0 → (b : Bool) → leb (length text) 4097 ≡ b → (x : Option ℕ) → first_byte 10 text 0 ≡ x → LeftBy f text passed
      found t n true q None z = LeftBy.line t n (leb-true _ _ q) (free_bare text z)
      found t n true q (Some k) z = absurd (clash (left_line text f passed t n ∙ e) (sym (line_found text z)))
      found t n false q x z = absurd (clash (left_line text f passed t n ∙ e) (sym (line_long text (leb-false _ _ q))))

      plain : is_record f text ≡ false → (b : Bool) → eqb passed 0 ≡ b → LeftBy f text passed
      plain t true q = found t (eqb-true _ _ q) (leb (length text) 4097) refl (first_byte 10 text 0) refl
      plain t false q = absurd (clash e (sym (left_line_passed text f passed t (eqb-false _ _ q))))

      go : (b : Bool) → is_record f text ≡ b → LeftBy f text passed
      go true q = coded q (ltb most (stated text)) refl
      go false q = plain q (eqb passed 0) refl

-- ---- the test with the buffer's size

module _ (f : Framing) (rest : List ℕ) (held passed : ℕ) where
  pub kept_far : length rest ≡ 8192 → 8192 < held → false ≡ is_kept f rest held passed
  unfolding is_kept
  kept_far n h = rw (n, lt-leb _ _ h)

  pub kept_past : length rest ≡ 8192 → ((length rest ≡ 8192) × (8192 < held)) ⊎ (length rest ≡ 8192 → ⊥) → leb held 8192 ≡ is_kept f rest held passed
  kept_past n (inl x) = lt-leb _ _ x.1 ∙ kept_far n x.1
  kept_past n (inr x) = absurd (x n)

  pub kept_by : length rest ≡ 8192 → held ≤ 8192 → is_left f (take held rest) passed ≡ is_kept f rest held passed
  unfolding is_kept
  kept_by n h = rw (n, le-leb _ _ h)

  pub kept_size : (length rest ≡ 8192 → ⊥) → false ≡ is_kept f rest held passed
  unfolding is_kept
  kept_size n = rw (ne_eqb _ _ n)

  pub kept_is : is_kept f rest held passed ≡ true → (length rest ≡ 8192) × (held ≤ 8192) × (LeftBy f (take held rest) passed)
  kept_is q = go (eqb (length rest) 8192) refl (leb held 8192) refl
    where
      go : (a : Bool) → eqb (length rest) 8192 ≡ a → (b : Bool) → leb held 8192 ≡ b → (length rest ≡ 8192) × (held ≤ 8192) × (LeftBy f (take held rest) passed)
      go true x true y = (eqb-true _ _ x, leb-true _ _ y, left_is f (take held rest) passed (kept_by (eqb-true _ _ x) (leb-true _ _ y) ∙ q))
      go true x false y = absurd (clash q (sym (kept_far (eqb-true _ _ x) (leb-false _ _ y))))
      go false x b y = absurd (clash q (sym (kept_size (eqb-false _ _ x))))

  module _ (q : is_kept f rest held passed ≡ true) where
    pub kept_length : length rest ≡ 8192
    kept_length = (kept_is q).0

    pub kept_within : held ≤ length rest
    kept_within = omega (arith, kept_length, (kept_is q).1)

    text_length : length (take held rest) ≡ held
    text_length = length-take-le held rest kept_within

    pub head_passed : held < 3 → passed ≡ 0
    head_passed h = go (kept_is q).2
      where
        go : LeftBy f (take held rest) passed → passed ≡ 0
        go (LeftBy.long t b n l) = absurd (omega (arith, n, text_length, h))
        go (LeftBy.short t b n l) = n
        go (LeftBy.line t n b l) = n

    module _ (s : List ℕ) (from : ℕ) where
      text-first : is_record f (take held rest) ≡ true → marked f (first_of s from rest held) ≡ true
      unfolding first_of
      text-first t = record_append f (take held rest) (drop from s) (record_some f (take held rest) t) ∙ t

      pub body-ready : marked f (first_of s from rest held) ≡ true → 3 ≤ held → Ready f rest held passed
      unfolding first_of
      body-ready x h = go (kept_is q).2
        where
          same : get_or (take held rest ++ drop from s) 0 0 ≡ get_or rest 0 0
          same = get_or-append (take held rest) (drop from s) 0 0 (omega (arith, text_length, h)) ∙ get_or-take held rest 0 0 (omega (arith, h))

          here : is_record f rest ≡ true
          here = ap (marked f) (sym same) ∙ x

          says : stated (take held rest) ≡ stated rest
          says = stated_take held rest h

          go : LeftBy f (take held rest) passed → Ready f rest held passed
          go (LeftBy.long t b n l) = record {
            size = kept_length;
            three = h;
            room = (kept_is q).1;
            first = here;
            below = omega (arith, says, n, text_length, l);
            long = λ y. omega (arith, n, text_length);
            short = λ y. absurd (omega (arith, y, says, b));
          }
          go (LeftBy.short t b n l) = record {
            size = kept_length;
            three = h;
            room = (kept_is q).1;
            first = here;
            below = omega (arith, says, n, text_length, l);
            long = λ y. absurd (omega (arith, y, says, b));
            short = λ y. n;
          }
          go (LeftBy.line t n b l) = absurd (clash here (ap (marked f) (sym (get_or-take held rest 0 0 (omega (arith, h)))) ∙ t))

      pub line-ready : marked f (first_of s from rest held) ≡ false → (held ≤ 4097) × (passed ≡ 0)
      line-ready x = go (kept_is q).2
        where
          go : LeftBy f (take held rest) passed → (held ≤ 4097) × (passed ≡ 0)
          go (LeftBy.long t b n l) = absurd (clash (text-first t) x)
          go (LeftBy.short t b n l) = absurd (clash (text-first t) x)
          go (LeftBy.line t n b l) = (omega (arith, b, text_length), n)

pub keeps_at : {f : Framing} {u rest : List ℕ} {held passed n : ℕ} → passed ≡ n → Keeps f u rest held passed → Keeps f u rest held n
keeps_at e k = record { size = k.size; within = k.within; text_is = k.text_is; passed_is = sym e ∙ k.passed_is }

-- ---- the test and the streams

few : (u : List ℕ) → most < stated u → length u < 3 → get_or u 1 0 < 256 → ⊥
unfolding stated
few u h l b = let z : get_or u 2 0 ≡ 0 = get_or-eq_default u 0 {n = 2} (omega (arith, l)) in omega (arith, h, z, b)

module _ (f : Framing) where
  kept_cases : (u : List ℕ) → Rest f u → get_or u 1 0 < 256 → LeftBy f (kept_text f u) (kept_count f u)
  kept_cases u (Rest.none e) b = subst (λ (l : List ℕ). LeftBy f (kept_text f l) (kept_count f l)) (sym e) nothing
    where
      empty : length (kept_text f []) ≡ 0
      empty = ap length (nothing_kept f).0

      nothing : LeftBy f (kept_text f []) (kept_count f [])
      nothing = LeftBy.line (kept_record f [] ∙ none_marked f) (nothing_kept f).1 (omega (arith, empty)) (λ k h. absurd (omega (arith, h, empty)))
  kept_cases u (Rest.some (Open.line t s x)) b =
      let k = line_kept f u t in
      LeftBy.line (kept_record f u ∙ t) k.1
      (subst (λ (l : List ℕ). length l ≤ 4097) (sym k.0) (omega (arith, length-take 4097 u)))
      (subst (λ (l : List ℕ). Bare l (length l)) (sym k.0) (λ j h z. x j (omega (arith, h, length-take 4097 u)) (sym (get_or-take 4097 u j 0 (omega (arith, h, length-take 4097 u))) ∙ z)))
  kept_cases u (Rest.some (Open.a_record t l)) b = by_order most (stated u) long (λ h. short (omega (arith, h))) (λ h. short (omega (arith, h)))
    where
      x : is_record f (kept_text f u) ≡ true
      x = kept_record f u ∙ t

      says : stated (kept_text f u) ≡ stated u
      says = kept_stated f u t

      short : stated u ≤ most → LeftBy f (kept_text f u) (kept_count f u)
      short h = let k = short_kept f u t h in LeftBy.short x (omega (arith, says, h)) k.1 (omega (arith, says, l, ap length k.0))

      three : most < stated u → 3 ≤ length u
      three h = by_order (length u) 3 (λ q. absurd (few u h q b)) (λ q. omega (arith, q)) (λ q. omega (arith, q))

      long : most < stated u → LeftBy f (kept_text f u) (kept_count f u)
      long h =
          let k = long_kept f u t h in
          let n : length (kept_text f u) ≡ 3 = ap length k.0 ∙ length-take-le 3 u (three h) in
          LeftBy.long x (omega (arith, says, h)) n (omega (arith, says, k.1, three h, l))

  -- what keeps a unit passes
  pub keeps_kept : (u rest : List ℕ) (held passed : ℕ) → Rest f u → get_or u 1 0 < 256 → Keeps f u rest held passed → is_kept f rest held passed ≡ true
  keeps_kept u rest held passed r b k =
      sym (kept_by f rest held passed k.size k.within)
      ∙ ap (λ (l : List ℕ). is_left f l passed) k.text_is
      ∙ ap (is_left f (kept_text f u)) k.passed_is
      ∙ left_all f (kept_text f u) (kept_count f u) (kept_cases u r b)

  nothing_more : (l : List ℕ) (passed : ℕ) → passed ≡ 0 → l ≡ l ++ replicate passed 0
  nothing_more l passed n = sym (ap (λ (m : ℕ). l ++ replicate m 0) n ∙ append-nil l)

  -- a unit that is kept so: what is held, and zeros for what was passed
  left_some : (text : List ℕ) (passed : ℕ) → LeftBy f text passed → (u : List ℕ) × (Rest f u × (text ≡ kept_text f u) × (passed ≡ kept_count f u) × (u ≡ text ++ replicate passed 0))
  left_some text passed (LeftBy.short t h n l) =
      let k = short_kept f text t h in
      (text, (Rest.some (Open.a_record t l), sym k.0, n ∙ sym k.1, nothing_more text passed n))
  left_some text passed (LeftBy.line t n h b) =
      let k = line_kept f text t in
      (text, (rest_of f text t b, sym (k.0 ∙ take_all 4097 text h), n ∙ sym k.1, nothing_more text passed n))
  left_some text passed (LeftBy.long t h n l) =
      let m : length (text ++ replicate passed 0) ≡ 3 + passed = omega (arith, length-append text (replicate passed 0), length-replicate {A = ℕ} passed 0, n) in
      let x : is_record f (text ++ replicate passed 0) ≡ true = record_append f text (replicate passed 0) (omega (arith, n)) ∙ t in
      let s : stated (text ++ replicate passed 0) ≡ stated text = stated_append text (replicate passed 0) (omega (arith, n)) in
      let k = long_kept f (text ++ replicate passed 0) x (omega (arith, s, h)) in
      (text ++ replicate passed 0, (Rest.some (Open.a_record x (omega (arith, m, s, l))), sym (k.0 ∙ take_at text (replicate passed 0) 3 n), sym (k.1 ∙ omega (arith, m)), refl))

  -- EACH STATE THAT PASSES KEEPS A UNIT
  pub kept_some : (rest : List ℕ) (held passed : ℕ) → is_kept f rest held passed ≡ true → (u : List ℕ) × (Rest f u × Keeps f u rest held passed × (u ≡ take held rest ++ replicate passed 0))
  kept_some rest held passed q =
      let k = kept_is f rest held passed q in
      let x = left_some (take held rest) passed k.2 in
      (x.0, (x.1.0, record { size = k.0; within = k.1; text_is = x.1.1; passed_is = x.1.2 }, x.1.3))

-- the first byte, as the code finds it
pub first_held : (s : List ℕ) (from : ℕ) (rest : List ℕ) (held : ℕ) → 0 < held → held ≤ length rest → first_of s from rest held ≡ get_or rest 0 0
unfolding first_of
first_held s from rest held h k = get_or-append (take held rest) (drop from s) 0 0 (omega (arith, length-take-le held rest k)) ∙ get_or-take held rest 0 0 h

pub first_part : (s : List ℕ) (from : ℕ) (rest : List ℕ) (held : ℕ) → held ≤ 0 → first_of s from rest held ≡ get_or s from 0
unfolding first_of
first_part s from rest held h =
    let e : held ≡ 0 = omega arith in
    let z : from + 0 ≡ from = omega arith in
    ap (λ (n : ℕ). get_or (take n rest ++ drop from s) 0 0) e ∙ get_or-drop from s 0 0 ∙ ap (λ (n : ℕ). get_or s n 0) z
