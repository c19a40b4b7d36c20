-- `Writer::put_dwords` meets its contract: what is still to come are the bytes of the rest of the dwords. Assumes nothing.
use Rattle.std.proofs.Common.{drop, ◌≡◌}
use Rattle.record.specs.Grammar.{dwords_bytes}
use Rattle.writer.proofs.Puts.{Filling}
use Rattle.writer.proofs.small.Writer.put_dwords.Given as goal

abbrev pub invariant-loop-d : goal.invariant-loop-d
invariant-loop-d l =
    record {
      filling : Filling l.initial.self.out.now l.initial.self.at (dwords_bytes l.dwords) l.self.out.now l.self.at (dwords_bytes (drop l.d-index l.dwords));
      same : l.self.out.ghost_name ≡ l.initial.self.out.ghost_name;
    }
