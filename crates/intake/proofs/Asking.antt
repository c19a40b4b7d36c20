-- The ways to what a text is: the answer with 256 slots, and for a text that is accepted its first byte. Assumes nothing.
use Rattle.std.specs.Prelude.{Err, Ok, Result}
use Rattle.refusal.specs.declared.Refusal.{Refusal}
use Rattle.refusal.specs.Number.{number_of}
use Rattle.refusal.specs.Told.{told}
use Prim.Native.Nat.{ℕ}
use mathlib.Core.Path.{◌≡◌}
use mathlib.Core.List.{List}
use lib.ListN.{length}
use Rattle.text.specs.Told as T
use Rattle.entry.specs.declared.Entry.{Entry}
use Rattle.scan.specs.declared.Pieces.{Pieces}
use Rattle.intake.specs.Intake.{taken_of, Taken}
use Rattle.intake.specs.What.{grammar_of, what_of}

module _ (t : List ℕ) (pieces : Pieces) {slots left : List ℕ} {r : Result Entry Refusal} (taken : Taken pieces t slots left r) (lent : length slots ≡ 256) where
  answer_256 : told r ≡ taken_of pieces t 256
  answer_256 = rw lent at taken.answer

  pub what_accepted : {e : Entry} → r ≡ Ok e → T.is (grammar_of t) ≡ what_of pieces t
  unfolding what_of
  what_accepted n = rw (← answer_256, n)

  pub what_refused : {k : Refusal} → r ≡ Err k → T.refused (number_of k) ≡ what_of pieces t
  unfolding what_of
  what_refused n = rw (← answer_256, n)
