-- `put_text` meets its contract: what fits is put. Assumes nothing.
use Rattle.unanswered_rows.proofs.Joining.{text_on}
use Rattle.unanswered_rows.proofs.parts.put_text.Goals as goal

pub returns : goal.returns
returns c = text_on c.requires c.put.ensures
