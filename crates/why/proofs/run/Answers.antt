-- `run` meets what it calls: what was flushed waits no more. Assumes nothing.
use borrow.Author.Rules.{rules}
use Rattle.why.proofs.Chains.{flushed_out}
use Rattle.why.proofs.run.Goals as goal

pub tell_end-requires : goal.tell_end-requires
tell_end-requires c = search (rules, flushed_out)
