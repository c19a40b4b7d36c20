-- `sentence::put_failed` meets its contract: its parts one behind the other. Assumes nothing.
use Rattle.channel.proofs.Sentences.{laid_next, laid_last}
use Rattle.channel.specs.Sentence.{failed_parts}
use Rattle.channel.proofs.sentence.put_failed.Goals as goal

pub returns : goal.returns
unfolding failed_parts
returns c = laid_next c.put-a.ensures (laid_next c.put-b.ensures (laid_next c.put-c.ensures (laid_next c.put-d.ensures (laid_next c.put_decimal-e.ensures (laid_next c.put_reason-f.ensures (laid_last c.put.ensures))))))
