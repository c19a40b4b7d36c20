-- What is open is kept as a stream keeps it after each step, and what the end says. Assumes nothing.
use Prim.Native.Nat.{ℕ, min, ◌+◌, ◌-◌, ◌^◌, ◌≤◌, ◌<◌}
use mathlib.Core.Path.{◌≡◌, refl, sym, ap, ◌∙◌}
use mathlib.Core.Bool.{Bool, true, false, cond}
use mathlib.Core.List.{List, []}
use native.Mathlib.Omega.{arith}
use lib.ListN.{length}
use Rattle.std.specs.Prelude.{Option, Some, None, is_some, Result, Ok, Err, is_ok}
use Rattle.text.proofs.Places.{clash}
use Rattle.scan.specs.declared.Pieces.TheVariants.{Strict}
use Rattle.tlv.specs.Number.{Bytes}
use Rattle.units.specs.declared.Framing.{Framing}
use Rattle.units.specs.declared.Framing.TheVariants.{Both}
use Rattle.units.specs.declared.Unit.{Unit}
use Rattle.units.specs.declared.Fed as FedModule
use Rattle.units.specs.Units.{Rest}
use Rattle.units.specs.Kept.{is_kept}
use Rattle.units.specs.Counting.{Ended}
use Rattle.units.specs.Feeding.{text_length, FedFor, FinishDone}
use Rattle.units.proofs.WhatIsKept.{keeps_nothing}
use Rattle.units.proofs.States.{keeps_kept, kept_some}
use Rattle.units.proofs.Existence.{takes_a_byte}
use Rattle.filters.specs.declared.Filter.{Filter}
use Rattle.filters.specs.declared.Filter.TheVariants as F
use Rattle.filters.specs.declared.Run.{Run}
use Rattle.filters.specs.Texts.{framing_of, put_framing}
use Rattle.filters.specs.Calls.{Finished}
use Rattle.filters.proofs.Turns.{turn_fits, still, end_fits}
use Rattle.channel.specs.declared.fault.Fault.{Fault}
use Rattle.moving.specs.declared.program.Program.{Program}
use Rattle.moving.specs.declared.program.Program.TheVariants as P
use Rattle.moving.specs.Programs.{filter_by, framing_by, WholeIn}
use Rattle.moving.specs.declared.moving.Moving.{Moving}
use Rattle.moving.specs.Steps.{Keeps, Begun, OutWritten, ToldWritten, OutRoom, out_left, let_go, out_written, ToldRoom, told_left, told_written, FaultStays, Lasting, Roomy, Went, end_status}

-- a stream that has not begun
pub begun_kept : (f : Framing) (unit : List ℕ) → length unit ≡ 8192 → is_kept f unit 0 0 ≡ true
begun_kept f unit size = keeps_kept f [] unit 0 0 (Rest.none refl) (omega arith) (keeps_nothing f unit size)

-- ---- programs by their filters

ok_or : {A B : Type 0} → A → Result A B → A
ok_or d (Ok a) = a
ok_or d (Err b) = d

same_ok : {A B : Type 0} {a b : A} → ◌≡◌ {A = Result A B} (Ok a) (Ok b) → a ≡ b
unfolding ok_or
same_ok {a = a} e = ap (ok_or a) e

pub framing_is : (p : Program) {f : Filter} → filter_by p ≡ Ok f → framing_by p ≡ framing_of f
framing_is P.Listing e = rw (← same_ok e) refl
framing_is (P.Pack x) e = rw (← same_ok e) refl
framing_is (P.Unpack x) e = rw (← same_ok e) refl
framing_is (P.Show x) e = absurd (clash refl (sym (ap is_ok e)))

-- the filter that was chosen by the program is the one that it runs
pub chosen : {p q : Program} {f g : Filter} → filter_by q ≡ Ok g → p ≡ q → f ≡ g → filter_by p ≡ Ok f
chosen e a b = ap filter_by a ∙ e ∙ ap Ok (sym b)

-- what one filter did is what the program's filter did
pub finished_by : (p : Program) {f g : Filter} → filter_by p ≡ Ok f → filter_by p ≡ Ok g → (u o t : List ℕ) (run : Run) (o' t' : List ℕ) (r : Run) → Finished f u o t run o' t' r → Finished g u o t run o' t' r
finished_by p e h u o t run o' t' r x = rw (← same_ok (sym e ∙ h)) x

pub whole_by : (p : Program) {f : Filter} {s : List ℕ} {n : ℕ} → filter_by p ≡ Ok f → Ended (put_framing f) s n → WholeIn p s n
whole_by P.Listing e x = rw (← same_ok e) at x
whole_by (P.Pack p) e x = rw (← same_ok e) at x
whole_by (P.Unpack p) e x = rw (← same_ok e) at x
whole_by (P.Show p) e x = absurd (clash refl (sym (ap is_ok e)))

-- room was made, and what is open is kept as before
pub kept_after : (p : Program) (s r : Moving) (unit : List ℕ) → Roomy p s r → Keeps p unit s → Keeps p unit r
kept_after p s r unit x k = rw x.state k

pub kept_begun : (p : Program) (r : Moving) (unit : List ℕ) → length unit ≡ 8192 → Begun r → Keeps p unit r
kept_begun p r unit size b = rw (b.held, b.passed) (begun_kept (framing_by p) unit size)

-- ---- a fault of a write stays

pub stays_none : {s r : Moving} → is_some s.unwritten ≡ false → FaultStays s r
stays_none e = record { unwritten = λ h. absurd (clash h e); whole = λ h. absurd (clash h e) }

pub stays_then : {s m r : Moving} → FaultStays s m → FaultStays m r → FaultStays s r
stays_then x y =
    record {
      unwritten = λ h. y.unwritten (ap is_some (x.unwritten h) ∙ h) ∙ x.unwritten h;
      whole = λ h. y.whole (ap is_some (x.unwritten h) ∙ h) ∙ x.whole h;
    }

-- what stands where room was made for what is put out
record OutMade (s r : Moving) : Type 0 where
  pub untold : r.untold ≡ s.untold
  pub from : r.run.from ≡ s.run.from
  pub state : r.run.state ≡ s.run.state
  pub counts : r.run.counts ≡ s.run.counts
  pub fault_stays : FaultStays s r
  pub out_room : r.run.at + 5400 ≤ length r.out.now

out_made : {p : Program} {s r : Moving} → OutRoom p s r → OutMade s r
out_made (out_left l e) =
    rw e (record { untold = refl; from = refl; state = refl; counts = refl; fault_stays = record { unwritten = λ h. refl; whole = λ h. refl }; out_room = l })
out_made {s = s} (let_go l f x) =
    record {
      untold = x.untold;
      from = x.still.from;
      state = x.still.state;
      counts = x.still.counts;
      fault_stays = record { unwritten = λ h. x.unwritten; whole = λ h. x.whole };
      out_room = rw (x.empty, x.still.out) s.out_size;
    }
out_made {s = s} (out_written l e x) =
    record {
      untold = x.untold;
      from = x.still.from;
      state = x.still.state;
      counts = x.still.counts;
      fault_stays = stays_none e;
      out_room = rw (x.empty, x.still.out) s.out_size;
    }

told_stays : {m r : Moving} → ToldWritten m r → m.untold ≡ true → r.untold ≡ true
told_stays {m = m} {r = r} x e = by_fault x.fault refl
  where
    by_fault : (o : Option Fault) → x.fault ≡ o → r.untold ≡ true
    by_fault None q = x.sound q ∙ e
    by_fault (Some f) q = x.lost (ap is_some q)

-- room for what is put out, and then for what is told
pub room_made : {p : Program} {s m r : Moving} → OutRoom p s m → ToldRoom m r → Roomy p s r
room_made {m = m} x (told_left l e) =
    let o = out_made x in
    rw e (record { mid = m; out = x; told = told_left l refl; untold = λ h. o.untold ∙ h; from = o.from; state = o.state; counts = o.counts; fault_stays = o.fault_stays; ending = record { out_room = o.out_room; told_room = l } })
room_made {m = m} x (told_written l y) =
    let o = out_made x in
    record {
      mid = m;
      out = x;
      told = told_written l y;
      untold = λ h. told_stays y (o.untold ∙ h);
      from = y.still.from ∙ o.from;
      state = y.still.state ∙ o.state;
      counts = y.still.counts ∙ o.counts;
      fault_stays = record { unwritten = λ h. y.unwritten ∙ o.fault_stays.unwritten h; whole = λ h. y.whole ∙ o.fault_stays.whole h };
      ending = record { out_room = rw (y.at_is, y.still.out) o.out_room; told_room = rw (y.empty, y.still.told) m.told_size };
    }

pub lasting_then : {s m r : Moving} → Lasting s m → Lasting m r → Lasting s r
lasting_then x y = record { untold = λ h. y.untold (x.untold h); fault_stays = stays_then x.fault_stays y.fault_stays }

pub roomy_lasting : {p : Program} {s r : Moving} → Roomy p s r → Lasting s r
roomy_lasting x = record { untold = x.untold; fault_stays = x.fault_stays }

pub went_lasting : {p : Program} {n : ℕ} {s r : Moving} → Went p n s r → Lasting s r
went_lasting x = record { untold = λ h. x.untold ∙ h; fault_stays = x.fault_stays }

-- ---- what is shown

abbrev run_of : ℕ → ℕ → ℕ → Run
run_of from held passed = record { from = from; state = record { held = held; passed = passed }; at = 0; told = 0; counts = record { units = 0; entries = 0 } }

module _ (l unit : List ℕ) (from held passed : ℕ) (unit' : List ℕ) (fed : FedModule.Fed) (some : from < length l) (kept : is_kept Both unit held passed ≡ true) (bytes : Bytes unit') (x : FedFor Both l from unit held passed unit' fed) where
  pub fed_fits : text_length fed.unit ≤ length unit'
  fed_fits = turn_fits (F.Unpack Strict) l unit [] [] (run_of from held passed) unit' fed some kept bytes x

  pub fed_kept : is_kept Both unit' fed.state.held fed.state.passed ≡ true
  fed_kept = still (F.Unpack Strict) l unit [] [] (run_of from held passed) unit' fed some kept bytes x

  pub fed_on : (from < fed.at) × (fed.at ≤ length l)
  fed_on =
      let u = kept_some Both unit held passed kept in
      let q = x u.0 u.1.0 u.1.1 in
      (takes_a_byte Both u.1.0 some q, q.within)

-- a unit that was cut off is counted, and no other
pub cut_counts : (units n : ℕ) {b c : Bool} → b ≡ c → b ≡ true → n ≡ min (units + 1) (2 ^ 64 - 1) → n ≡ cond c (min (units + 1) (2 ^ 64 - 1)) units
cut_counts units n x y m = rw (← x, y) m

pub none_counts : (units : ℕ) {b c : Bool} → b ≡ c → b ≡ false → units ≡ cond c (min (units + 1) (2 ^ 64 - 1)) units
none_counts units x y = rw (← x, y) refl

pub ended_fits : (unit : List ℕ) (held passed : ℕ) → is_kept Both unit held passed ≡ true → (cut : Unit) → FinishDone Both unit (record { held = held; passed = passed }) cut → text_length cut ≤ length unit
ended_fits unit held passed kept cut x = end_fits (F.Unpack Strict) unit (run_of 0 held passed) kept cut x

-- what the end put out lies in the buffers
pub finish_within : (f : Filter) {unit out told out' told' : List ℕ} {run r : Run} → is_kept (framing_of f) unit run.state.held run.state.passed ≡ true → Finished f unit out told run out' told' r → (r.at ≤ length out) × (r.told ≤ length told)
finish_within f {unit} {run = run} kept x =
    let u = kept_some (framing_of f) unit run.state.held run.state.passed kept in
    let e = x u.0 u.1.0 u.1.1 in
    (omega (arith, e.put.place, e.put.fits), omega (arith, e.tells.place, e.tells.fits))

-- ---- the status at the end

pub no_some : {A : Type 0} (o : Option A) → ((x : A) → o ≡ Some x → ⊥) → o ≡ None
no_some None h = refl
no_some (Some x) h = absurd (h x refl)

pub status_unwritten : {o : Option Fault} {f : Fault} (r : Result (Prim.Unit {0}) Fault) (u : Bool) → o ≡ Some f → 1 ≡ end_status o r u
unfolding end_status
status_unwritten r u e = rw e refl

module _ {o : Option Fault} (written : (x : Fault) → o ≡ Some x → ⊥) where
  pub status_unread : {r : Result (Prim.Unit {0}) Fault} {f : Fault} (u : Bool) → r ≡ Err f → 1 ≡ end_status o r u
  unfolding end_status
  status_unread u e = rw (no_some o written, e) refl

  pub status_untold : {r : Result (Prim.Unit {0}) Fault} {d : Prim.Unit {0}} {u : Bool} → r ≡ Ok d → u ≡ true → 1 ≡ end_status o r u
  unfolding end_status
  status_untold e t = rw (no_some o written, e, t) refl

  pub status_well : {r : Result (Prim.Unit {0}) Fault} {d : Prim.Unit {0}} {u : Bool} → r ≡ Ok d → u ≡ false → 0 ≡ end_status o r u
  unfolding end_status
  status_well e t = rw (no_some o written, e, t) refl
