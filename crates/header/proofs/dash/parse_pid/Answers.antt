-- `dash::parse_pid` meets its contract: behind the task's dash no dash stands, so the last numbered one is below. Assumes nothing.
use Rattle.header.proofs.Dashes.{task_within, pid_before_task, pid_some, pid_none}
use Rattle.header.specs.Dash.{dash_at}
use Rattle.text.proofs.Places.{last_is}
use mathlib.Core.Bool.{true}
use mathlib.Core.Path.{sym, ◌∙◌}
use native.Mathlib.Omega.{arith}
use Rattle.header.proofs.dash.parse_pid.Goals as goal

pub overflow_add-task : goal.overflow_add-task
overflow_add-task c = omega (arith, task_within c.args.h.now c.requires)

pub last_dash-requires : goal.last_dash-requires
last_dash-requires c = omega (arith, task_within c.args.h.now c.requires)

pub overflow_add-dash : goal.overflow_add-dash
overflow_add-dash c = omega (arith, (last_is (dash_at true c.args.h.now) (sym c.last_dash.ensures ∙ c.in_ok-dash.was)).within, task_within c.args.h.now c.requires)

pub leading-requires : goal.leading-requires
leading-requires c = omega (arith, (last_is (dash_at true c.args.h.now) (sym c.last_dash.ensures ∙ c.in_ok-dash.was)).within, task_within c.args.h.now c.requires)

pub returns : goal.returns
returns c = c.leading.ensures ∙ pid_some _ (pid_before_task c.args.h.now c.requires ∙ sym c.last_dash.ensures ∙ c.in_ok-dash.was)

pub returns-in_err-dash : goal.returns-in_err-dash
returns-in_err-dash c = rw c.from_residual.ensures (pid_none _ (pid_before_task c.args.h.now c.requires ∙ sym c.last_dash.ensures ∙ c.in_err-dash.was))
