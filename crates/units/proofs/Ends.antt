-- What the end of the stream answers goes by what is kept, which has the open unit's kind and what it says. Assumes nothing.
use Prim.Native.Nat.{ℕ, suc, ◌≤◌, ◌<◌}
use mathlib.Core.Path.{◌≡◌, refl, sym, ap, ◌∙◌}
use mathlib.Core.Bool.{true, false}
use mathlib.Core.List.{List, [], ◌∷◌}
use native.Mathlib.Omega.{arith}
use lib.ListN.{length, take, length-take}
use borrow.Author.Tests.{ne_eqb, lt-ltb, le-ltb}
use Rattle.text.proofs.Places.{clash, by_order}
use Rattle.units.specs.declared.Framing.{Framing}
use Rattle.units.specs.declared.State.{State}
use Rattle.units.specs.declared.Unit as UnitModule
use Rattle.units.specs.declared.Unit.TheVariants as U
use Rattle.units.specs.Units.{is_record, stated, Open, Rest}
use Rattle.units.specs.Kept.{most, is_long, kept_text, is_kept}
use Rattle.units.specs.Feeding.{unit_of, end_of, end_unit, FinishDone}
use Rattle.units.proofs.Firsts.{record_some}
use Rattle.units.proofs.WhatIsKept.{long_kept, line_kept, kept_record, kept_stated, nothing_kept}

-- way by way
module _ (f : Framing) (l : List ℕ) where
  pub end_none : length l ≡ 0 → U.Open ≡ end_unit f l
  unfolding end_unit
  end_none h = rw h

  module _ (some : length l ≡ 0 → ⊥) where
    pub end_long : is_record f l ≡ true → (size : ℕ) → size ≡ stated l → most < size → U.Long ≡ end_unit f l
    unfolding end_unit is_long
    end_long t size is h = rw (ne_eqb _ _ some, t, lt-ltb most (stated l) (omega (arith, is, h)))

    pub end_cut : is_record f l ≡ true → (size : ℕ) → size ≡ stated l → size ≤ most → U.Cut ≡ end_unit f l
    unfolding end_unit is_long
    end_cut t size is h = rw (ne_eqb _ _ some, t, le-ltb most (stated l) (omega (arith, is, h)))

    pub end_line : is_record f l ≡ false → U.Text (length l) ≡ end_unit f l
    unfolding end_unit
    end_line t = rw (ne_eqb _ _ some, t)

module _ (f : Framing) where
  cut_unit : (u : List ℕ) → is_record f u ≡ true → stated u ≤ most → length u < stated u → unit_of f u ≡ U.Cut
  unfolding unit_of is_long
  cut_unit u t h l = rw (t, le-ltb most (stated u) h, lt-ltb (length u) (stated u) l)

  end_some : (u : List ℕ) → Open f u → end_unit f (kept_text f u) ≡ unit_of f u
  end_some u (Open.line t s b) =
      let k = line_kept f u t in
      let n : length (kept_text f u) ≡ 0 → ⊥ = λ e. let z : length (take 4097 u) ≡ 0 = ap length (sym k.0) ∙ e in omega (arith, z, length-take 4097 u, s) in
      sym (end_line f (kept_text f u) n (kept_record f u ∙ t)) ∙ ap (λ (l : List ℕ). U.Text (length l)) k.0 ∙ sym k.2
  end_some u (Open.a_record t l) =
      let x : is_record f (kept_text f u) ≡ true = kept_record f u ∙ t in
      let n : length (kept_text f u) ≡ 0 → ⊥ = λ e. omega (arith, e, record_some f (kept_text f u) x) in
      let q : stated u ≡ stated (kept_text f u) = sym (kept_stated f u t) in
      by_order most (stated u) (λ h. sym (end_long f (kept_text f u) n x (stated u) q h) ∙ sym (long_kept f u t h).2)
      (λ h. sym (end_cut f (kept_text f u) n x (stated u) q (omega (arith, h))) ∙ sym (cut_unit u t (omega (arith, h)) l))
      (λ h. sym (end_cut f (kept_text f u) n x (stated u) q (omega (arith, h))) ∙ sym (cut_unit u t (omega (arith, h)) l))

  pub end_is : (u : List ℕ) → Rest f u → end_unit f (kept_text f u) ≡ end_of f u
  unfolding end_of
  end_is [] r = sym (end_none f (kept_text f []) (ap length (nothing_kept f).0))
  end_is (b ∷ u) (Rest.none e) = absurd (let z : ◌≡◌ {A = ℕ} (suc (length u)) 0 = ap length e in omega (arith, z))
  end_is (b ∷ u) (Rest.some o) = end_some (b ∷ u) o

  module _ (rest : List ℕ) (st : State) where
    pub finish_good : is_kept f rest st.held st.passed ≡ true → (r : UnitModule.Unit) → r ≡ end_unit f (take st.held rest) → FinishDone f rest st r
    finish_good q r e = record { alien = λ x. absurd (clash q x); ended = λ x u o k. e ∙ ap (end_unit f) k.text_is ∙ end_is u o }

    pub finish_alien : is_kept f rest st.held st.passed ≡ false → FinishDone f rest st U.Alien
    finish_alien q = record { alien = λ x. refl; ended = λ x. absurd (clash x q) }
