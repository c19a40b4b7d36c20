-- `codes::decimal` meets its contract: a code has one, two or three digits. Assumes nothing.
use Rattle.entry.proofs.Digits.{one_digit, two_digits, three_digits}
use Rattle.entry.specs.Event.{padded}
use mathlib.Core.Path.{ap, ◌∙◌}
use native.Mathlib.Omega.{arith}
use Rattle.entry.proofs.codes.decimal.Goals as goal

pub returns-then-code-lt10 : goal.returns-then-code-lt10
returns-then-code-lt10 c = c.pad.ensures ∙ ap padded (one_digit _ c.if-code-lt10.true)

pub returns-then-code-lt100 : goal.returns-then-code-lt100
returns-then-code-lt100 c = c.pad-then-code-lt100.ensures ∙ ap padded (two_digits _ c.if-code-lt10.false c.if-code-lt100.true)

pub returns : goal.returns
returns c = c.pad-2.ensures ∙ ap padded (three_digits _ c.if-code-lt100.false (omega arith))
