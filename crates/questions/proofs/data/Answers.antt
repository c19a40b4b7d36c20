-- `questions::data` meets its contract: the caller's own dwords from a start that lies within them. Assumes nothing.
use Rattle.questions.proofs.Views.{start_fits, no_start, no_place}
use Rattle.refusal.specs.Told.{told_maybe}
use Rattle.questions.specs.Questions.{view_at, view_of, view_place}
use Rattle.text.proofs.OwnParts.{own_cut, own_rest, own_from}
use Rattle.text.proofs.Stripping.{rest_is}
use mathlib.Core.Path.{refl, sym, ap, ◌∙◌}
use native.Mathlib.Omega.{arith}
use Rattle.std.specs.Prelude.{Ok}
use Rattle.std.proofs.Common.{rules}
use Rattle.questions.proofs.data.Goals as goal

pub returns-in_default : goal.returns-in_default
unfolding view_of
returns-in_default c =
    let kind = c.args.kind in
    let s = c.args.book.now in
    let ds = c.args.dwords.now in
    let told = c.data_start.ensures in
    own_from (sym (no_place c.data_start.result (λ n e. search rules)) ∙ ap view_place told)
    (own_cut 0 refl refl (omega arith) (omega arith) (sym (no_start kind s ds c.data_start.result (λ n e. search rules)) ∙ ap (view_at kind s ds) told))

pub slice_bounds-result-count : goal.slice_bounds-result-count
slice_bounds-result-count c = start_fits c.args.kind c.args.book.now c.args.dwords.now _ (ap told_maybe (sym (c.in-Ok-Some.is ∙ ap Ok c.in-Ok-Some.field-0-is)) ∙ c.data_start.ensures)

pub slice_bounds-result-start : goal.slice_bounds-result-start
slice_bounds-result-start c = omega (arith, start_fits c.args.kind c.args.book.now c.args.dwords.now _ (ap told_maybe (sym (c.in-Ok-Some.is ∙ ap Ok c.in-Ok-Some.field-0-is)) ∙ c.data_start.ensures))

pub returns : goal.returns
unfolding view_of
returns c =
    let kind = c.args.kind in
    let s = c.args.book.now in
    let ds = c.args.dwords.now in
    let told = ap told_maybe (sym (c.in-Ok-Some.is ∙ ap Ok c.in-Ok-Some.field-0-is)) ∙ c.data_start.ensures in
    own_from (ap view_place told)
    (own_rest (start_fits kind s ds _ told) refl refl (omega arith) (rest_is c.in-Ok-Some.start ds ∙ ap (view_at kind s ds) told))
