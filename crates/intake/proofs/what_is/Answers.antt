-- `what_is` meets its contract: 256 slots are lent to `read`, and its answer tells what the text is. Assumes nothing.
use Rattle.std.proofs.Common.{rules}
use Rattle.intake.proofs.Asking.{what_accepted, what_refused}
use mathlib.Core.Path.{refl, ap, ◌∙◌}
use Rattle.text.specs.Told as T
use Rattle.intake.proofs.what_is.Goals as goal

pub returns-in_err-read : goal.returns-in_err-read
returns-in_err-read c = let h = what_refused c.args.text.now _ c.read.ensures refl c.in_err-read.was in search (rules, h)

pub returns : goal.returns
returns c = ap T.is c.grammar_of.ensures ∙ what_accepted c.args.text.now _ c.read.ensures refl c.in_ok-read.was
