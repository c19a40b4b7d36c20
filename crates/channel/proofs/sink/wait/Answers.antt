-- `sink::wait` meets its contract: what fits is put. Assumes nothing.
use Rattle.channel.proofs.Sinks.{waits_put}
use Rattle.channel.proofs.sink.wait.Goals as goal

pub returns : goal.returns
returns c = waits_put c.requires c.put-at.ensures
