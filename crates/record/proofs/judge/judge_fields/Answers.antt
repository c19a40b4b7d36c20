-- `judge::judge_fields` meets its contract: the number so far is `SoFar`. Assumes nothing.
use Rattle.std.proofs.Common.{rules}
use Rattle.refusal.proofs.Told.{number_some}
use Rattle.record.proofs.Judging.{judging_starts, judging_ends, judging_cut, judging-stops, judging-steps}
use Rattle.tlv.proofs.Places.{between_is}
use Rattle.tlv.specs.Reading.{refusal_of}
use mathlib.Core.Logic.{⊎_elim}
use mathlib.Core.Path.{sym, ap, ◌∙◌}
use Rattle.record.proofs.judge.judge_fields.Goals as goal

pub loop-tag-init : goal.loop-tag-init
loop-tag-init c = judging_starts _

pub returns-in_err-judge_field-in-Field : goal.returns-in_err-judge_field-in-Field
returns-in_err-judge_field-in-Field c =
    let h =
    judging-stops _ c.loop-tag.invariant (sym c.field_at.ensures ∙ c.in-Field.is) _
    (rw (c.task_size-task.ensures.0, ← between_is c.args.text.now c.in-Field.from c.in-Field.to) at c.in_err-judge_field-in-Field.ensures) (number_some _) in
    search (rules, h)

pub loop-tag-preserved : goal.loop-tag-preserved
loop-tag-preserved c =
    judging-steps _ c.loop-tag.invariant (sym c.field_at.ensures ∙ c.in-Field.is)
    (rw (c.task_size-task.ensures.0, ← between_is c.args.text.now c.in-Field.from c.in-Field.to) at c.in_ok-judge_field-in-Field.ensures)

pub returns-in-Stray : goal.returns-in-Stray
returns-in-Stray c =
    judging_cut _ c.loop-tag.invariant
    (⊎_elim (λ e. ap refusal_of (sym c.field_at.ensures ∙ e)) (λ e. ap refusal_of (sym c.field_at.ensures ∙ e)) c.in-Stray.is)

pub returns-in-End : goal.returns-in-End
returns-in-End c = judging_ends _ c.loop-tag.invariant (sym c.field_at.ensures ∙ c.in-End.is)
