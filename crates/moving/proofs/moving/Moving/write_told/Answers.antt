-- `Moving::write_told` meets its contract: a fault of the write is kept in mind. Assumes nothing.
use lib.Seq.{length-take-le}
use mathlib.Core.Path.{refl, sym, ap, ◌∙◌}
use Rattle.std.specs.Prelude.{is_some}
use Rattle.text.proofs.Places.{clash}
use Rattle.moving.proofs.moving.Moving.write_told.Goals as goal

pub returns-then-is_some : goal.returns-then-is_some
returns-then-is_some c =
    record {
      bytes = c.write_front-fault.result.0;
      fault = c.write_front-fault.result.1;
      written = rw (c.telling.ensures, length-take-le c.args.self.now.run.told c.args.self.now.told.now c.args.self.now.told_at) at c.write_front-fault.ensures;
      lost = λ h. refl;
      sound = λ e. absurd (clash (sym c.is_some.ensures ∙ c.if-is_some.true) (ap is_some e));
      still = record { out = refl; told = refl; from = refl; state = refl; counts = refl };
      at_is = refl;
      empty = refl;
      whole = refl;
      unwritten = refl;
    }

pub returns-else-is_some : goal.returns-else-is_some
returns-else-is_some c =
    record {
      bytes = c.write_front-fault.result.0;
      fault = c.write_front-fault.result.1;
      written = rw (c.telling.ensures, length-take-le c.args.self.now.run.told c.args.self.now.told.now c.args.self.now.told_at) at c.write_front-fault.ensures;
      lost = λ h. absurd (clash h (sym c.is_some.ensures ∙ c.if-is_some.false));
      sound = λ e. refl;
      still = record { out = refl; told = refl; from = refl; state = refl; counts = refl };
      at_is = refl;
      empty = refl;
      whole = refl;
      unwritten = refl;
    }
