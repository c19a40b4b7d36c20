-- `put_shown` meets its contract: a text with a byte is shown. Assumes nothing.
use Rattle.listing_rows.proofs.Putting.{put_size}
use Rattle.why_rows.proofs.Rowing.{not_shown, escaped_end, text_shown}
use borrow.Author.Tests.{eqb-true, eqb-false}
use mathlib.Core.Path.{sym, ◌∙◌}
use lib.ListN.{length}
use native.Mathlib.Omega.{arith}
use Rattle.why_rows.proofs.put_shown.Goals as goal

pub returns-then-is_empty : goal.returns-then-is_empty
returns-then-is_empty c = not_shown _ (eqb-true (length c.args.text.now) 0 (sym c.is_empty.ensures ∙ c.if-is_empty.true)) c.args.page.now.inside

pub put_text-requires-2 : goal.put_text-requires-2
put_text-requires-2 c = omega (arith, c.requires, c.put_text.ensures.part.short, c.put_text.ensures.part.size, escaped_end _ c.put_escaped.ensures, put_size c.put_escaped.ensures.put)

pub returns : goal.returns
returns c =
    text_shown _ (eqb-false (length c.args.text.now) 0 (sym c.is_empty.ensures ∙ c.if-is_empty.false)) c.put_text.ensures c.put_escaped.ensures c.put_text-2.ensures
