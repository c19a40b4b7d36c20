-- A call takes the stream one step on: what was open is open still and kept, or has ended; and no second answer keeps the contract. Assumes nothing.
use Prim.Native.Nat.{ℕ, ◌≤◌, ◌<◌}
use mathlib.Core.Path.{◌≡◌, refl, sym, ap, subst, ◌∙◌}
use mathlib.Core.Bool.{Bool, true, false}
use mathlib.Core.List.{List, [], ◌∷◌, ◌++◌, append_assoc, append-nil}
use native.Mathlib.Omega.{arith}
use lib.ListN.{length, length-append}
use Rattle.text.proofs.Places.{by_order}
use Rattle.units.specs.declared.Framing.{Framing}
use Rattle.units.specs.declared.State.{State}
use Rattle.units.specs.declared.Unit as UnitModule
use Rattle.units.specs.declared.Unit.TheVariants as U
use Rattle.units.specs.declared.Fed as F
use Rattle.units.specs.Units.{Whole, Rest, Sofar}
use Rattle.units.specs.Kept.{kept_text, kept_count, stood, Keeps, is_kept}
use Rattle.units.specs.Feeding.{between, unit_of, ends_at, Answered, FedOn, FeedDone, FinishDone}
use Rattle.units.proofs.Streams.{goes_on, ends_one, no_open, one_first_unit, never_whole, whole_some}
use Rattle.units.proofs.WhatIsKept.{stood_keeps, stood_size, keeps_nothing, whole_fits, rest_fits, between_then, length_between}
use Rattle.units.proofs.States.{kept_some}

module _ (f : Framing) where
  -- what a call makes of a stream that came so far
  pub data Next (i : List ℕ) (us : List (List ℕ)) (u a s exit : List ℕ) (r : F.Fed) : Type 0 where
    wants : r.unit ≡ U.Open → r.at ≡ length s → Sofar f (i ++ a) us (u ++ a) → Keeps f (u ++ a) exit r.state.held r.state.passed → Next i us u a s exit r
    ends : r.unit ≡ unit_of f (u ++ a) → Whole f (u ++ a) → Sofar f (i ++ a) (us ++ ((u ++ a) ∷ [])) [] → Keeps f [] exit r.state.held r.state.passed → Next i us u a s exit r

  pub call_after : {i u : List ℕ} {us : List (List ℕ)} (s : List ℕ) (from : ℕ) (rest exit : List ℕ) (r : F.Fed) → length rest ≡ 8192 → Sofar f i us u → FedOn f u s from rest exit r → Next i us u (between s from r.at) s exit r
  call_after {i} {u} {us} s from rest exit r size so x = go x.answered
    where
      go : Answered f (u ++ between s from r.at) s r → Next i us u (between s from r.at) s exit r
      go (Answered.wants o e) =
          Next.wants (ap (λ (y : F.Fed). y.unit) e) (ap (λ (y : F.Fed). y.at) e) (goes_on f (between s from r.at) so o)
          (subst (λ (y : State). Keeps f (u ++ between s from r.at) exit y.held y.passed) (sym (ap (λ (y : F.Fed). y.state) e))
          (subst (λ (l : List ℕ). Keeps f (u ++ between s from r.at) l (length (kept_text f (u ++ between s from r.at))) (kept_count f (u ++ between s from r.at))) (sym x.buffer) (stood_keeps f (u ++ between s from r.at) rest size (rest_fits f (u ++ between s from r.at) o))))
      go (Answered.ends q e) =
          Next.ends (ap (λ (y : F.Fed). y.unit) e) q (ends_one f (between s from r.at) so q)
          (subst (λ (y : State). Keeps f [] exit y.held y.passed) (sym (ap (λ (y : F.Fed). y.state) e))
          (keeps_nothing f exit (ap length x.buffer ∙ stood_size f (u ++ between s from r.at) rest size (whole_fits f (u ++ between s from r.at) q))))

  -- ---- no second answer

  -- of two places up to which a unit was read the first cannot be a unit's end and the second lie behind it
  pub ends_before : (u s : List ℕ) (from a b : ℕ) → Rest f u → from ≤ a → a < b → b ≤ length s → Whole f (u ++ between s from a) → (Rest f (u ++ between s from b) → ⊥) × (Whole f (u ++ between s from b) → ⊥)
  ends_before u s from a b r up less within w = (not-open, not-whole)
    where
      on : u ++ between s from b ≡ (u ++ between s from a) ++ between s a b
      on = ap (λ (l : List ℕ). u ++ l) (between_then s from a b up (omega (arith, less))) ∙ sym (append_assoc u (between s from a) (between s a b))

      not-open : Rest f (u ++ between s from b) → ⊥
      not-open (Rest.none e) = let n = whole_some f (u ++ between s from a) w in omega (arith, n, ap length (sym on ∙ e), length-append (u ++ between s from a) (between s a b))
      not-open (Rest.some o) = no_open f (u ++ between s from b) (u ++ between s from a) (between s a b) o w on

      not-whole : Whole f (u ++ between s from b) → ⊥
      not-whole x =
          let e = one_first_unit f (u ++ between s from a) (u ++ between s from b) (between s a b) [] w x (sym on ∙ sym (append-nil (u ++ between s from b))) in
          let n : length (between s a b) ≡ 0 = ap length e.1 in
          omega (arith, n, length_between s a b within, less)

  one_place : {u s rest exit exit' : List ℕ} {from : ℕ} {r r' : F.Fed} → Rest f u → FedOn f u s from rest exit r → FedOn f u s from rest exit' r' → r.at < r'.at → ⊥
  one_place {u} {s} {rest} {exit} {exit'} {from} {r} {r'} o x y less = go x.answered y.answered
    where
      go : Answered f (u ++ between s from r.at) s r → Answered f (u ++ between s from r'.at) s r' → ⊥
      go (Answered.wants q e) z = let n : r.at ≡ length s = ap (λ (y : F.Fed). y.at) e in omega (arith, n, less, y.within)
      go (Answered.ends q e) (Answered.wants q' e') = (ends_before u s from r.at r'.at o x.up less y.within q).0 q'
      go (Answered.ends q e) (Answered.ends q' e') = (ends_before u s from r.at r'.at o x.up less y.within q).1 q'

  one_answer : {w s : List ℕ} {r r' : F.Fed} → r.at ≡ r'.at → Answered f w s r → Answered f w s r' → r ≡ r'
  one_answer h (Answered.wants q e) (Answered.wants q' e') = e ∙ sym e'
  one_answer {w} h (Answered.wants q e) (Answered.ends q' e') = absurd (never_whole f w q q')
  one_answer {w} h (Answered.ends q e) (Answered.wants q' e') = absurd (never_whole f w q' q)
  one_answer {w} h (Answered.ends q e) (Answered.ends q' e') = e ∙ ap (λ (n : ℕ). ends_at n (unit_of f w)) h ∙ sym e'

  -- the answer and the buffer after it
  one_step : {u s rest exit exit' : List ℕ} {from : ℕ} {r r' : F.Fed} → Rest f u → FedOn f u s from rest exit r → FedOn f u s from rest exit' r' → (r ≡ r') × (exit ≡ exit')
  one_step {u} {s} {rest} {exit} {exit'} {from} {r} {r'} o x y =
      let at : r.at ≡ r'.at = by_order r.at r'.at (λ h. absurd (one_place o x y h)) (λ h. h) (λ h. absurd (one_place o y x h)) in
      (one_answer at x.answered (subst (λ (n : ℕ). Answered f (u ++ between s from n) s r') (sym at) y.answered), x.buffer ∙ ap (λ (n : ℕ). stood f (u ++ between s from n) rest) at ∙ sym y.buffer)

  -- NO SECOND ANSWER keeps `feed`'s contract, for any input
  pub one_feed : (s : List ℕ) (from : ℕ) (rest : List ℕ) (st : State) (exit exit' : List ℕ) (r r' : F.Fed) → FeedDone f s from rest st exit r → FeedDone f s from rest st exit' r' → (r ≡ r') × (exit ≡ exit')
  one_feed s from rest st exit exit' r r' x y = go (is_kept f rest st.held st.passed) refl
    where
      go : (b : Bool) → is_kept f rest st.held st.passed ≡ b → (r ≡ r') × (exit ≡ exit')
      go false q = ((x.alien q).0 ∙ sym (y.alien q).0, (x.alien q).1 ∙ sym (y.alien q).1)
      go true q =
          let u = kept_some f rest st.held st.passed q in
          one_step u.1.0 (x.fed q u.0 u.1.0 u.1.1) (y.fed q u.0 u.1.0 u.1.1)

  -- nor `finish`'s
  pub one_finish : (rest : List ℕ) (st : State) (r r' : UnitModule.Unit) → FinishDone f rest st r → FinishDone f rest st r' → r ≡ r'
  one_finish rest st r r' x y = go (is_kept f rest st.held st.passed) refl
    where
      go : (b : Bool) → is_kept f rest st.held st.passed ≡ b → r ≡ r'
      go false q = x.alien q ∙ sym (y.alien q)
      go true q =
          let u = kept_some f rest st.held st.passed q in
          x.ended q u.0 u.1.0 u.1.1 ∙ sym (y.ended q u.0 u.1.0 u.1.1)
