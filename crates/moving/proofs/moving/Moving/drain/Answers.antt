-- `Moving::drain` meets its contract, by the faults before it and of its first write. Assumes nothing.
use mathlib.Core.Path.{sym, ◌∙◌}
use Rattle.text.proofs.Places.{clash}
use Rattle.moving.proofs.moving.Moving.drain.Goals as goal

pub returns : goal.returns
returns c =
    record {
      after_fault = λ h. absurd (clash h (sym c.is_some.ensures ∙ c.if-is_some.false));
      cut = λ e h. absurd (clash (rw c.write_told.ensures.unwritten at h) (sym c.is_some-2.ensures ∙ c.if-is_some-2.false));
      sound = λ e z. (_, (c.write_out.ensures, c.write_told.ensures));
    }
