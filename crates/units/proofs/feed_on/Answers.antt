-- `feed_on` meets its contract: the unit is a record or a line by its first byte. Assumes nothing.
use Rattle.units.proofs.States.{kept_within, kept_length, head_passed, body-ready, line-ready, keeps_at}
use Rattle.units.specs.Units.{marked}
use mathlib.Core.Path.{sym, ap, ◌∙◌}
use Rattle.units.proofs.feed_on.Goals as goal

pub first_byte-requires : goal.first_byte-requires
first_byte-requires c = kept_within _ _ _ _ c.requires.1

pub head_on-requires : goal.head_on-requires
head_on-requires c = (c.requires.0, kept_length _ _ _ _ c.requires.1, c.if-held-lt3.true, (sym (c.marks.ensures ∙ ap (marked _) c.first_byte.ensures) ∙ c.if-marks.true))

pub returns-then-held-lt3 : goal.returns-then-held-lt3
returns-then-held-lt3 c = λ u o k. c.head_on.ensures u (keeps_at (head_passed _ _ _ _ c.requires.1 c.if-held-lt3.true) k)

pub body_on-requires : goal.body_on-requires
body_on-requires c = (c.requires.0, body-ready _ _ _ _ c.requires.1 _ _ (sym (c.marks.ensures ∙ ap (marked _) c.first_byte.ensures) ∙ c.if-marks.true) c.if-held-lt3.false)

pub returns-then-marks : goal.returns-then-marks
returns-then-marks c = λ u o k. c.body_on.ensures u k

pub line_on-requires : goal.line_on-requires
line_on-requires c = (c.requires.0, kept_length _ _ _ _ c.requires.1, (line-ready _ _ _ _ c.requires.1 _ _ (sym (c.marks.ensures ∙ ap (marked _) c.first_byte.ensures) ∙ c.if-marks.false)).0, (sym (c.marks.ensures ∙ ap (marked _) c.first_byte.ensures) ∙ c.if-marks.false))

pub returns : goal.returns
returns c = λ u o k. c.line_on.ensures u o (keeps_at (line-ready _ _ _ _ c.requires.1 _ _ (sym (c.marks.ensures ∙ ap (marked _) c.first_byte.ensures) ∙ c.if-marks.false)).1 k)
