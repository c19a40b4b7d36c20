-- `payload::find_data` meets its contract: the brackets of a value lie where the value does. Assumes nothing.
use Rattle.reasons.proofs.Said.{data_inside, data_not_inside, data_missing}
use mathlib.Core.Path.{refl}
use native.Mathlib.Omega.{arith}
use Rattle.reasons.proofs.payload.find_data.Goals as goal

pub returns : goal.returns
returns c = data_inside _ (rw c.in_ok-value.was at c.last_pair.ensures) refl (omega arith) (rw c.in_ok-inner.was at c.inside.ensures)

pub returns-in_err-inner : goal.returns-in_err-inner
returns-in_err-inner c = rw c.from_residual-in_err-inner.ensures (data_not_inside _ (rw c.in_ok-value.was at c.last_pair.ensures) refl (rw c.in_err-inner.was at c.inside.ensures))

pub returns-in_err-value : goal.returns-in_err-value
returns-in_err-value c = rw c.from_residual.ensures (data_missing _ (rw c.in_err-value.was at c.last_pair.ensures))
