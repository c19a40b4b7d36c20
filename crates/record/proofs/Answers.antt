-- The ways to an answer: a number of 30 to 34, too few slots, or the entry with its dwords over the first slots. Assumes nothing.
use Rattle.std.specs.Prelude.{Err, Ok}
use Rattle.refusal.specs.declared.Refusal.{Refusal}
use Rattle.refusal.specs.declared.Refusal.TheVariants as R
use Rattle.refusal.specs.Number.{number_of}
use Rattle.refusal.proofs.Told.{number_some}
use Prim.Native.Nat.{ℕ, ◌/◌, ◌≤◌, ◌<◌}
use mathlib.Core.Path.{◌≡◌, refl, sym}
use mathlib.Core.List.{List}
use borrow.Author.Tests.{le-leb, lt-leb}
use lib.ListN.{length}
use Rattle.text.proofs.Told.{number_first}
use Rattle.entry.specs.declared.Entry.{Entry}
use Rattle.record.specs.declared.find.Place.{Place}
use Rattle.record.specs.Judging.{refusal_of}
use Rattle.record.specs.Finding.{place_of}
use Rattle.record.specs.Gathering.{entry_of}
use Rattle.record.specs.Reading.{over, dwords_at, dword_count, dwords_of, read_of, slots_by, Reading}

module _ (t slots : List ℕ) where
  pub refused : (e : Refusal) → number_of e ≡ refusal_of t → Reading t slots (Err e) slots
  unfolding read_of slots_by
  refused e is = record { answer = rw (← is) (sym (number_first (number_of e) _ (number_some e))); slots_left = refl }

  module _ (good : 0 ≡ refusal_of t) (p : Place) (at : p ≡ place_of t 0x13) where
    pub too_few : length slots < p.len / 4 → Reading t slots (Err R.FewRecordSlots) slots
    unfolding read_of slots_by dword_count
    too_few h = record { answer = rw (← good, ← at, lt-leb (p.len / 4) (length slots) h); slots_left = refl }

    pub accepted : p.len / 4 ≤ length slots → (r : Entry) → r ≡ entry_of t
        → (left : List ℕ) → left ≡ over (dwords_at t p.from (p.len / 4)) slots → Reading t slots (Ok r) left
    unfolding read_of slots_by dword_count dwords_of
    accepted h r is left e' =
        record { answer = rw (← good, ← at, le-leb (p.len / 4) (length slots) h, ← is); slots_left = rw (← at) e' }
