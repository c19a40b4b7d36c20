-- `feed` meets its contract: the part that fits is copied behind what is held. Assumes nothing.
use Rattle.framing.proofs.Feedings.{fed}
use borrow.Author.Rules.{rules}
use Rattle.framing.proofs.feed.Goals as goal

pub returns : goal.returns
returns c =
    fed _ _ _ _ _ c.requires.1 _ _ _ _ _ c.unit_end-end.ensures c.unwrap_or-at.ensures c.is_some.ensures c.min-count.ensures (search rules)
