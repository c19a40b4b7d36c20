-- `Moving::show` meets its contract: a unit that was cut off is counted, and after a write that failed nothing is shown. Assumes nothing.
use borrow.Author.Rules.{rules}
use mathlib.Core.Path.{refl, sym, ◌∙◌}
use native.Mathlib.Omega.{arith}
use Rattle.text.proofs.Places.{clash}
use Rattle.moving.proofs.Places.{cut_counts, none_counts, stays_none}
use Rattle.moving.proofs.moving.Moving.show.Goals as goal

pub returns-then-not-is_cut : goal.returns-then-not-is_cut
returns-then-not-is_cut c =
    record { counts_are = none_counts _ c.is_cut.ensures (search rules); entries = refl; from = refl; state = refl; told_at_is = refl; untold = refl; fault_stays = record { unwritten = λ h. refl; whole = λ h. refl }; uncut = λ e. refl }

pub returns-then-is_some : goal.returns-then-is_some
returns-then-is_some c =
    record { counts_are = cut_counts _ _ c.is_cut.ensures (search rules) c.saturating_add-units.ensures; entries = refl; from = refl; state = refl; told_at_is = refl; untold = refl; fault_stays = record { unwritten = λ h. refl; whole = λ h. refl }; uncut = λ e. absurd (clash (sym c.is_cut.ensures ∙ c.if-not-is_cut.false) e) }

pub invariant_of-self-2 : goal.invariant_of-self-2
invariant_of-self-2 c =
    record { at = omega (arith, c.min-self.ensures); told_at = c.args.self.now.told_at; out_size = search rules; told_size = c.args.self.now.told_size }

pub returns : goal.returns
returns c =
    record { counts_are = cut_counts _ _ c.is_cut.ensures (search rules) c.saturating_add-units.ensures; entries = refl; from = refl; state = refl; told_at_is = refl; untold = refl; fault_stays = stays_none (sym c.is_some.ensures ∙ c.if-is_some.false); uncut = λ e. absurd (clash (sym c.is_cut.ensures ∙ c.if-not-is_cut.false) e) }
