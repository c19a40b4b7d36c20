-- A call of `units` and the reading of the unit that it ended make a call of the stream. Assumes nothing.
use Rattle.std.specs.Prelude.{Err, None, Ok, Option, Result, Some}
use Rattle.refusal.specs.declared.Refusal.{Refusal}
use Rattle.refusal.specs.declared.Refusal.TheVariants as R
use Prim.Native.Nat.{ℕ, ◌-◌, ◌≤◌}
use mathlib.Core.Path.{◌≡◌, refl, sym, ap, subst, ◌∙◌}
use mathlib.Core.Bool.{Bool, true, false, cond}
use lib.Dec.{ltb}
use mathlib.Core.List.{List, [], ◌∷◌, ◌++◌}
use native.Mathlib.Omega.{arith}
use lib.ListN.{length, take}
use lib.Seq.{length-take-le}
use Rattle.text.specs.Told as T
use Rattle.entry.specs.declared.Entry.{Entry}
use Rattle.scan.specs.declared.Pieces.{Pieces}
use Rattle.refusal.specs.Told.{told}
use Rattle.scan.specs.Parse.{slots_by}
use Rattle.intake.specs.Intake.{taken_dwords, taken_of, Taken}
use Rattle.units.specs.declared.Framing.TheVariants.{Both}
use Rattle.units.specs.declared.State.{State}
use Rattle.units.specs.declared.Unit as UnitModule
use Rattle.units.specs.declared.Unit.TheVariants as U
use Rattle.units.specs.declared.Fed as UnitsFed
use Rattle.units.specs.Units.{stated, Rest, is_record}
use Rattle.units.specs.Kept.{is_long, kept_text, stood, Keeps, is_kept}
use Rattle.units.specs.Feeding as UF
use Rattle.units.specs.Feeding.{between, unit_of, text_length}
use Rattle.units.proofs.WhatIsKept.{stood_size, stood_front, whole_fits}
use Rattle.units.proofs.States.{kept_some, kept_is}
use Rattle.stream.specs.declared.Fed.{Fed}
use Rattle.stream.specs.declared.Finished.{Finished}
use Rattle.refusal.proofs.Told.{one_told_maybe}
use Rattle.stream.specs.Feeding.{empty, Given, Answered, FedOn, FeedDone, FinishDone, end_of, unit_told, UnitRead, TextRead, after_end}
use Rattle.stream.proofs.Reading.{unit_given}

pub front_is : (s : List ℕ) (n : ℕ) → between s 0 n ≡ take n s
unfolding between
front_is s n = let e : n - 0 ≡ n = omega arith in ap (λ (m : ℕ). take m s) e

-- the text of a unit is what is kept of it, if it is read at all
pub text_kept : (w : List ℕ) → text_length (unit_of Both w) ≤ length (kept_text Both w)
unfolding text_length unit_of kept_text
text_kept w = go (is_record Both w) (is_long w) (ltb (length w) (stated w))
  where
    go : (a b d : Bool) → text_length (cond a (cond b U.Long (cond d U.Cut (U.Text (length w)))) (U.Text (length (take 4097 w)))) ≤ length (cond a (cond b (take 3 w) w) (take 4097 w))
    go true true d = omega arith
    go true false true = omega arith
    go true false false = omega arith
    go false b d = omega arith

-- ---- a unit read, way by way

module _ (pieces : Pieces) (rest slots : List ℕ) {unit : UnitModule.Unit} where
  pub reads_text : {n : ℕ} {exit : List ℕ} {r : Result (Option Entry) Refusal} → unit ≡ U.Text n → TextRead pieces (take n rest) slots exit r → UnitRead pieces unit rest slots exit r
  unfolding unit_told text_length
  reads_text e g = record { answer = g.answer ∙ rw e; slots_are = g.slots_are ∙ rw e }

  pub text_fits : {n room : ℕ} → unit ≡ U.Text n → text_length unit ≤ room → n ≤ room
  unfolding text_length
  text_fits e h = rw e at h

  pub reads_long : unit ≡ U.Long → UnitRead pieces unit rest slots slots (Err R.LongRecord)
  unfolding unit_told slots_by
  reads_long e = record { answer = rw e; slots_are = rw e }

  pub reads_cut : unit ≡ U.Cut → UnitRead pieces unit rest slots slots (Err R.CutRecord)
  unfolding unit_told slots_by
  reads_cut e = record { answer = rw e; slots_are = rw e }

  pub reads_open : unit ≡ U.Open → UnitRead pieces unit rest slots slots (Ok None)
  unfolding unit_told slots_by
  reads_open e = record { answer = rw e; slots_are = rw e }

  pub reads_alien : unit ≡ U.Alien → UnitRead pieces unit rest slots slots (Err R.NoStream)
  unfolding unit_told slots_by
  reads_alien e = record { answer = rw e; slots_are = rw e }

-- a text read by the intake
module _ (pieces : Pieces) (text slots exit : List ℕ) {r : Result Entry Refusal} (x : Taken pieces text slots exit r) where
  pub read_entry : {e : Entry} → r ≡ Ok e → TextRead pieces text slots exit (Ok (Some e))
  read_entry q = let told : T.is _ ≡ taken_of pieces text (length slots) = ap told (sym q) ∙ x.answer in record { answer = told; slots_are = x.slots ∙ ap (λ (t : T.Told Entry). slots_by t (taken_dwords text) slots) x.answer }

  pub read_refused : {k : Refusal} → r ≡ Err k → TextRead pieces text slots exit (Err k)
  read_refused q = let told : T.refused _ ≡ taken_of pieces text (length slots) = ap told (sym q) ∙ x.answer in record { answer = told; slots_are = x.slots ∙ ap (λ (t : T.Told Entry). slots_by t (taken_dwords text) slots) x.answer }

-- the state after the end
module _ (st : State) {unit : UnitModule.Unit} where
  pub after_text : {n : ℕ} {r : State} → r ≡ empty → unit ≡ U.Text n → r ≡ after_end st unit
  unfolding after_end
  after_text h e = h ∙ rw e

  pub after_long : {r : State} → r ≡ empty → unit ≡ U.Long → r ≡ after_end st unit
  unfolding after_end
  after_long h e = h ∙ rw e

  pub after_cut : {r : State} → r ≡ empty → unit ≡ U.Cut → r ≡ after_end st unit
  unfolding after_end
  after_cut h e = h ∙ rw e

  pub after_open : {r : State} → r ≡ empty → unit ≡ U.Open → r ≡ after_end st unit
  unfolding after_end
  after_open h e = h ∙ rw e

  pub after_alien : unit ≡ U.Alien → st ≡ after_end st unit
  unfolding after_end
  after_alien e = rw e

-- ---- feed

module _ (s rest exit : List ℕ) (st : State) (r : UnitsFed.Fed) (x : UF.FeedDone Both s 0 rest st exit r) where
  -- the unit that ended stands in the buffer
  pub unit_fits : text_length r.unit ≤ length exit
  unfolding text_length
  unit_fits = go (is_kept Both rest st.held st.passed) refl
    where
      go : (b : Bool) → is_kept Both rest st.held st.passed ≡ b → text_length r.unit ≤ length exit
      go false q = let e : r.unit ≡ U.Alien = ap (λ (y : UnitsFed.Fed). y.unit) (x.alien q).0 in rw e (omega arith)
      go true q =
          let u = kept_some Both rest st.held st.passed q in
          let f = x.fed q u.0 u.1.0 u.1.1 in
          by f f.answered
        where
          by : {u : List ℕ} → UF.FedOn Both u s 0 rest exit r → UF.Answered Both (u ++ between s 0 r.at) s r → text_length r.unit ≤ length exit
          by f (UF.Answered.wants o e) = let z : r.unit ≡ U.Open = ap (λ (y : UnitsFed.Fed). y.unit) e in rw z (omega arith)
          by {u} f (UF.Answered.ends w e) =
              let z : r.unit ≡ unit_of Both (u ++ between s 0 r.at) = ap (λ (y : UnitsFed.Fed). y.unit) e in
              let n = stood_size Both (u ++ between s 0 r.at) rest (kept_is Both rest st.held st.passed q).0 (whole_fits Both (u ++ between s 0 r.at) w) in
              rw (z, f.buffer, n) (omega (arith, text_kept (u ++ between s 0 r.at), whole_fits Both (u ++ between s 0 r.at) w))

-- what is told of a unit that is none
module _ (pieces : Pieces) (rest slots slots' : List ℕ) (unit : UnitModule.Unit) (answer : Result (Option Entry) Refusal) (g : UnitRead pieces unit rest slots slots' answer) where
  alien_refused : unit ≡ U.Alien → (answer ≡ Err R.NoStream) × (slots' ≡ slots)
  unfolding unit_told slots_by
  alien_refused e = (one_told_maybe answer (Err R.NoStream) (g.answer ∙ rw e), g.slots_are ∙ rw e)

  open_nothing : unit ≡ U.Open → Given T.absent [] slots slots' answer
  unfolding unit_told slots_by
  open_nothing e = record { answer = g.answer ∙ rw e; slots_are = g.slots_are ∙ rw e }

module _ (s rest exit : List ℕ) (st : State) (r : UnitsFed.Fed) (x : UF.FeedDone Both s 0 rest st exit r) (pieces : Pieces) (slots slots' : List ℕ) (answer : Result (Option Entry) Refusal) (g : UnitRead pieces r.unit exit slots slots' answer) where
  abbrev fed : Fed
  fed = record { at = r.at; state = r.state; answer = answer }

  fed_alien : is_kept Both rest st.held st.passed ≡ false → (fed ≡ record { at = 0; state = st; answer = Err R.NoStream }) × (exit ≡ rest) × (slots' ≡ slots)
  fed_alien q =
      let e = (x.alien q).0 in
      let z = alien_refused pieces exit slots slots' r.unit answer g (ap (λ (y : UnitsFed.Fed). y.unit) e) in
      (ap (λ (y : UnitsFed.Fed). record { at = y.at; state = y.state; answer = answer }) e ∙ ap (λ (a : Result (Option Entry) Refusal). record { at = 0; state = st; answer = a }) z.0, (x.alien q).1, z.1)

  fed_on : is_kept Both rest st.held st.passed ≡ true → (u : List ℕ) → Rest Both u → Keeps Both u rest st.held st.passed → FedOn pieces u s rest slots exit slots' fed
  fed_on q u o k =
      let f = x.fed q u o k in
      record {
        within = f.within;
        buffer = f.buffer ∙ ap (λ (l : List ℕ). stood Both (u ++ l) rest) (front_is s r.at);
        answered = subst (λ (l : List ℕ). Answered pieces (u ++ l) s slots slots' fed) (front_is s r.at) (by f f.answered);
      }
    where
      by : UF.FedOn Both u s 0 rest exit r → UF.Answered Both (u ++ between s 0 r.at) s r → Answered pieces (u ++ between s 0 r.at) s slots slots' fed
      by f (UF.Answered.wants a e) =
          Answered.wants a (ap (λ (y : UnitsFed.Fed). y.at) e) (ap (λ (y : UnitsFed.Fed). y.state) e) (open_nothing pieces exit slots slots' r.unit answer g (ap (λ (y : UnitsFed.Fed). y.unit) e))
      by f (UF.Answered.ends w e) =
          let z : r.unit ≡ unit_of Both (u ++ between s 0 r.at) = ap (λ (y : UnitsFed.Fed). y.unit) e in
          let front : take (length (kept_text Both (u ++ between s 0 r.at))) exit ≡ kept_text Both (u ++ between s 0 r.at) =
          ap (take (length (kept_text Both (u ++ between s 0 r.at)))) f.buffer ∙ stood_front Both (u ++ between s 0 r.at) rest k.size (whole_fits Both (u ++ between s 0 r.at) w) in
          Answered.ends w (ap (λ (y : UnitsFed.Fed). y.state) e) (unit_given pieces (u ++ between s 0 r.at) exit front (length slots) refl (subst (λ (y : UnitModule.Unit). UnitRead pieces y exit slots slots' answer) z g))

  pub feed_done : FeedDone pieces s rest slots st exit slots' fed
  feed_done = record { alien = fed_alien; fed = fed_on }

-- ---- finish

end_kept : (u : List ℕ) → text_length (UF.end_of Both u) ≤ length (kept_text Both u)
unfolding text_length UF.end_of
end_kept [] = omega arith
end_kept (b ∷ u) = text_kept (b ∷ u)

held_is : {u rest : List ℕ} {held passed : ℕ} → Keeps Both u rest held passed → length (kept_text Both u) ≡ held
held_is {u} {rest} {held} k = ap length (sym k.text_is) ∙ length-take-le held rest (omega (arith, k.size, k.within))

module _ (rest : List ℕ) (st : State) (unit : UnitModule.Unit) (x : UF.FinishDone Both rest st unit) where
  pub end_fits : text_length unit ≤ length rest
  unfolding text_length
  end_fits = go (is_kept Both rest st.held st.passed) refl
    where
      go : (b : Bool) → is_kept Both rest st.held st.passed ≡ b → text_length unit ≤ length rest
      go false q = rw (x.alien q) (omega arith)
      go true q =
          let u = kept_some Both rest st.held st.passed q in
          let e : unit ≡ UF.end_of Both u.0 = x.ended q u.0 u.1.0 u.1.1 in
          rw e (omega (arith, end_kept u.0, held_is u.1.1, u.1.1.size, u.1.1.within))

  module _ (pieces : Pieces) (slots slots' : List ℕ) (answer : Result (Option Entry) Refusal) (g : UnitRead pieces unit rest slots slots' answer) (after : State) (a : after ≡ after_end st unit) where
    abbrev finished : Finished
    finished = record { state = after; answer = answer }

    end_alien : is_kept Both rest st.held st.passed ≡ false → (finished ≡ record { state = st; answer = Err R.NoStream }) × (slots' ≡ slots)
    unfolding after_end
    end_alien q =
        let z = alien_refused pieces rest slots slots' unit answer g (x.alien q) in
        let e : after ≡ st = a ∙ rw (x.alien q) in
        (ap (λ (y : State). record { state = y; answer = answer }) e ∙ ap (λ (y : Result (Option Entry) Refusal). record { state = st; answer = y }) z.0, z.1)

    end_some : is_kept Both rest st.held st.passed ≡ true → (u : List ℕ) → Rest Both u → Keeps Both u rest st.held st.passed → Given (end_of pieces u (length slots)) (taken_dwords u) slots slots' answer
    unfolding end_of UF.end_of slots_by
    end_some q [] o k =
        let n = open_nothing pieces rest slots slots' unit answer g (x.ended q [] o k) in
        record { answer = n.answer; slots_are = n.slots_are }
    end_some q (b ∷ u) o k =
        let front : take (length (kept_text Both (b ∷ u))) rest ≡ kept_text Both (b ∷ u) = ap (λ (n : ℕ). take n rest) (held_is k) ∙ k.text_is in
        unit_given pieces (b ∷ u) rest front (length slots) refl (subst (λ (y : UnitModule.Unit). UnitRead pieces y rest slots slots' answer) (x.ended q (b ∷ u) o k) g)

    end_empty : (u : List ℕ) → after_end st (UF.end_of Both u) ≡ empty
    unfolding after_end UF.end_of unit_of
    end_empty [] = refl
    end_empty (b ∷ u) = go (is_record Both (b ∷ u)) (is_long (b ∷ u)) (ltb (length (b ∷ u)) (stated (b ∷ u)))
      where
        go : (p q d : Bool) → after_end st (cond p (cond q U.Long (cond d U.Cut (U.Text (length (b ∷ u))))) (U.Text (length (take 4097 (b ∷ u))))) ≡ empty
        go true true d = refl
        go true false true = refl
        go true false false = refl
        go false q d = refl

    pub finish_done : FinishDone pieces rest slots st slots' finished
    finish_done = record { alien = end_alien; ended = λ q u o k. (a ∙ ap (after_end st) (x.ended q u o k) ∙ end_empty u, end_some q u o k) }
