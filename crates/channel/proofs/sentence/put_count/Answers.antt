-- `sentence::put_count` meets its contract: its parts one behind the other. Assumes nothing.
use Rattle.channel.proofs.Sentences.{laid_next, laid_last}
use Rattle.channel.specs.Sentence.{count_parts}
use Rattle.channel.proofs.sentence.put_count.Goals as goal

pub returns : goal.returns
unfolding count_parts
returns c = laid_next c.put-a.ensures (laid_next c.put-b.ensures (laid_next c.put-c.ensures (laid_last c.put_decimal.ensures)))
