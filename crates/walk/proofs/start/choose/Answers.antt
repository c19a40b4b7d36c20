-- `choose` meets its contract: each number's row is computed from the table. Assumes nothing.
use Rattle.pairs.specs.Table.{keys, row_at}
use Rattle.text.specs.Word.{word_of}
use Rattle.walk.proofs.Starts.{chosen_by_none}
use Rattle.walk.specs.Start.{chosen_at, candidate_for, candidate_after, candidate_of}
use mathlib.Core.Path.{sym, ap, ◌∙◌}
use Rattle.walk.proofs.start.choose.Goals as goal

pub returns-in-1 : goal.returns-in-1
unfolding candidate_of candidate_after candidate_for chosen_at keys row_at word_of
returns-in-1 c = c.row_text.ensures ∙ ap candidate_of (sym c.in-1.is)

pub returns-in-3 : goal.returns-in-3
unfolding candidate_of candidate_after candidate_for chosen_at keys row_at word_of
returns-in-3 c = c.row_text-in-3.ensures ∙ ap candidate_of (sym c.in-3.is)

pub returns-in-5 : goal.returns-in-5
unfolding candidate_of candidate_after candidate_for chosen_at keys row_at word_of
returns-in-5 c = c.row_text-in-5.ensures ∙ ap candidate_of (sym c.in-5.is)

pub returns-in-17 : goal.returns-in-17
unfolding candidate_of candidate_after candidate_for chosen_at keys row_at word_of
returns-in-17 c = c.row_text-in-17.ensures ∙ ap candidate_of (sym c.in-17.is)

pub returns-in-18 : goal.returns-in-18
unfolding candidate_of candidate_after candidate_for chosen_at keys row_at word_of
returns-in-18 c = c.row_text-in-18.ensures ∙ ap candidate_of (sym c.in-18.is)

pub returns-in-19 : goal.returns-in-19
unfolding candidate_of candidate_after candidate_for chosen_at keys row_at word_of
returns-in-19 c = c.row_text-in-19.ensures ∙ ap candidate_of (sym c.in-19.is)

pub returns-in-21 : goal.returns-in-21
unfolding candidate_of candidate_after candidate_for chosen_at keys row_at word_of
returns-in-21 c = c.row_text-in-21.ensures ∙ ap candidate_of (sym c.in-21.is)

pub returns-in-22 : goal.returns-in-22
unfolding candidate_of candidate_after candidate_for chosen_at keys row_at word_of
returns-in-22 c = c.row_text-in-22.ensures ∙ ap candidate_of (sym c.in-22.is)

pub returns-in-23 : goal.returns-in-23
unfolding candidate_of candidate_after candidate_for chosen_at keys row_at word_of
returns-in-23 c = c.row_text-in-23.ensures ∙ ap candidate_of (sym c.in-23.is)

pub returns-in-24 : goal.returns-in-24
unfolding candidate_of candidate_after candidate_for chosen_at keys row_at word_of
returns-in-24 c = c.row_text-in-24.ensures ∙ ap candidate_of (sym c.in-24.is)

pub returns-in-28 : goal.returns-in-28
unfolding candidate_of candidate_after candidate_for chosen_at keys row_at word_of
returns-in-28 c = c.row_text-in-28.ensures ∙ ap candidate_of (sym c.in-28.is)

pub returns-in-31 : goal.returns-in-31
unfolding candidate_of candidate_after candidate_for chosen_at keys row_at word_of
returns-in-31 c = c.row_text-in-31.ensures ∙ ap candidate_of (sym c.in-31.is)

pub returns-in_default : goal.returns-in_default
unfolding candidate_of candidate_after candidate_for chosen_at keys row_at word_of
returns-in_default c = c.row_text-in_default.ensures ∙ sym (chosen_by_none _ c.in_default.in_default-own.rest.0.0.0.0.0.0.0.0.0.0.0.1 c.in_default.in_default-own.rest.0.0.0.0.0.0.0.0.0.0.1 c.in_default.in_default-own.rest.0.0.0.0.0.0.0.0.0.1 c.in_default.in_default-own.rest.0.0.0.0.0.0.0.0.1 c.in_default.in_default-own.rest.0.0.0.0.0.0.0.1 c.in_default.in_default-own.rest.0.0.0.0.0.0.1 c.in_default.in_default-own.rest.0.0.0.0.0.1 c.in_default.in_default-own.rest.0.0.0.0.1 c.in_default.in_default-own.rest.0.0.0.1 c.in_default.in_default-own.rest.0.0.1 c.in_default.in_default-own.rest.0.1 c.in_default.in_default-own.rest.1)
