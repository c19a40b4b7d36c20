-- There is always an answer: that of the plan which the code carries out. Assumes nothing.
use mathlib.Core.List.{List, [], ◌∷◌}
use Rattle.entry.specs.declared.Entry.{Entry}
use Rattle.slots.specs.declared.Slot.{Slot}
use Rattle.pending.specs.Step.{Answer, Step}
use Rattle.pending.proofs.Steps.{some_step}
use Rattle.matched.specs.History.{History, none, more}

pub some_answer : (e : Entry) (t : List Slot) → (r : Answer) × (u : List Slot) × Step e t r u
some_answer e t = some_step e t

pub some_history : (es : List Entry) (t : List Slot) → (rs : List Answer) × (u : List Slot) × History es t rs u
some_history [] t = ([], t, none)
some_history (e ∷ es) t =
    let first = some_answer e t in let rest = some_history es first.1 in (first.0 ∷ rest.0, rest.1, more first.2 rest.2)
