-- `step` meets its contract: the plan that the look gives is carried out. Assumes nothing.
use borrow.Author.Rules.{rules}
use mathlib.Core.Path.{sym, ◌∙◌}
use Rattle.pending.proofs.Steps.{step_refused, step_done}
use Rattle.pending.proofs.step.Goals as goal

pub returns-in_err-plan : goal.returns-in_err-plan
returns-in_err-plan c =
    let s = step_refused c.args.e c.args.slots.now c.in_err-plan.field-0.0 (sym c.in_err-plan.was ∙ rw (c.decide.ensures, c.look.ensures, c.of.ensures)) in
    search rules

pub returns-in-Nothing : goal.returns-in-Nothing
returns-in-Nothing c = step_done c.args.e c.args.slots.now c.in_ok-plan.plan _ (sym c.in_ok-plan.was ∙ rw (c.decide.ensures, c.look.ensures, c.of.ensures)) (rw c.in-Nothing.is)

pub returns-in-Put : goal.returns-in-Put
returns-in-Put c = step_done c.args.e c.args.slots.now c.in_ok-plan.plan _ (sym c.in_ok-plan.was ∙ rw (c.decide.ensures, c.look.ensures, c.of.ensures)) (rw c.in-Put.is c.put.ensures)

pub returns-in-Free : goal.returns-in-Free
returns-in-Free c = step_done c.args.e c.args.slots.now c.in_ok-plan.plan _ (sym c.in_ok-plan.was ∙ rw (c.decide.ensures, c.look.ensures, c.of.ensures)) (rw c.in-Free.is c.free.ensures)
