-- `feed` meets its contract: by the test of 53. Assumes nothing.
use Rattle.text.proofs.Places.{clash}
use mathlib.Core.Path.{refl, sym, ◌∙◌}
use Rattle.units.proofs.feed.Goals as goal

pub feed_on-requires : goal.feed_on-requires
feed_on-requires c = (c.requires, (sym c.is_kept.ensures ∙ c.if-is_kept.true))

pub returns-then-is_kept : goal.returns-then-is_kept
returns-then-is_kept c = record { alien = λ e. absurd (clash (sym c.is_kept.ensures ∙ c.if-is_kept.true) e); fed = λ e. c.feed_on.ensures }

pub returns : goal.returns
returns c = record { alien = λ e. (refl, refl); fed = λ e. absurd (clash e (sym c.is_kept.ensures ∙ c.if-is_kept.false)) }
