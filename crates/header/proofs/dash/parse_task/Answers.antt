-- `dash::parse_task` meets its contract: the last dash of the first run is the task's, or the byte before it is missing. Assumes nothing.
use Rattle.header.proofs.Dashes.{task_kept, task_missing}
use mathlib.Core.Path.{sym, ◌∙◌}
use Rattle.header.proofs.dash.parse_task.Goals as goal

pub returns-in_err-dash : goal.returns-in_err-dash
returns-in_err-dash c = rw c.from_residual.ensures (task_missing _ c.until-run.ensures.is (sym c.last.ensures ∙ c.in_err-dash.was))

pub returns : goal.returns
returns c = c.then_some.ensures ∙ task_kept _ c.until-run.ensures.is (sym c.last.ensures ∙ c.in_ok-dash.was)
