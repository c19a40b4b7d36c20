-- `Moving::write_out` meets its contract: what is whole in what was written is counted, and the fault is that of the write. Assumes nothing.
use lib.Seq.{length-take-le, take-take}
use mathlib.Core.Path.{refl}
use Rattle.moving.proofs.moving.Moving.write_out.Goals as goal

pub returns : goal.returns
returns c =
    record {
      bytes = c.write_front-bytes.result.0;
      written = rw (c.waiting.ensures, length-take-le c.args.self.now.run.at c.args.self.now.out.now c.args.self.now.at) at c.write_front-bytes.ensures;
      counted = c.whole_in-whole.result;
      counted_is = rw (c.waiting-2.ensures, take-take c.write_front-bytes.result.0 c.args.self.now.run.at c.args.self.now.out.now (let w = rw (c.waiting.ensures, length-take-le c.args.self.now.run.at c.args.self.now.out.now c.args.self.now.at) at c.write_front-bytes.ensures in w.within)) at c.whole_in-whole.ensures;
      whole = c.saturating_add-self.ensures;
      still = record { out = refl; told = refl; from = refl; state = refl; counts = refl };
      empty = refl;
      told_at_is = refl;
      untold = refl;
    }
