-- `step_line` meets its contract, by the reader's answer. Assumes nothing.
use Rattle.std.proofs.Common.{◌≡◌, rules, sym, ap, ◌∙◌}
use Rattle.std.specs.Prelude.{Err, Ok}
use Rattle.refusal.specs.Told.{told}
use Rattle.desk.specs.Turn.{entry, refusal}
use Rattle.desk.proofs.Desk.step_line.Goals as goal

pub returns-in_err-e : goal.returns-in_err-e
returns-in_err-e c =
    let p : c.from_residual.result ≡ Err c.in_err-e.field-0.0 = search rules in
    refusal (sym c.parse.ensures.answer ∙ ap told c.in_err-e.was) (rw c.saturating_add-self.ensures) p

pub returns : goal.returns
returns c = entry (sym c.parse.ensures.answer ∙ ap told c.in_ok-e.was) (rw c.saturating_add-self.ensures at c.step_entry.ensures)
