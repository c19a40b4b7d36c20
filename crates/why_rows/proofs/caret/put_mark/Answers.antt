-- `put_mark` meets its contract: its parts one behind the other. Assumes nothing.
use Rattle.listing_rows.proofs.Putting.{put_size}
use Rattle.why_rows.proofs.Rowing.{blanks_place, mark_on}
use native.Mathlib.Omega.{arith}
use Rattle.why_rows.proofs.caret.put_mark.Goals as goal

pub put_text-requires-2 : goal.put_text-requires-2
put_text-requires-2 c = omega (arith, c.requires, c.put_text.ensures.part.short, c.put_text.ensures.part.size, blanks_place c.args.place c.put_blanks.ensures, put_size c.put_blanks.ensures.put)

pub returns : goal.returns
returns c = mark_on _ c.put_text.ensures c.put_blanks.ensures c.put_text-2.ensures
