-- `put_six` meets its contract: the last six digits of twenty, or more. Assumes nothing.
use Rattle.unanswered_rows.proofs.Digits.{six_part}
use Rattle.unanswered_rows.proofs.parts.put_six.Goals as goal

pub returns : goal.returns
returns c = record { part = six_part c.digits_of-digits.ensures c.min.ensures c.requires c.put.ensures.placed; same = c.put.ensures.same }
