-- `questions::described::type_in` meets its contract, by the dword that was found. Assumes nothing.
use Rattle.packet.specs.Field.{value_in}
use Rattle.packet.proofs.Fields.{nothing_told, found_told}
use Rattle.packet.proofs.Opening.{was_there}
use Rattle.refusal.proofs.Told.{passed_on}
use Rattle.questions.specs.Described.{named}
use Rattle.questions.proofs.Asking.{type_none, type_at_lem, type_unnamed, type_named, was_unnamed}
use mathlib.Core.Path.{ap, ◌∙◌}
use native.Mathlib.Omega.{arith}
use Rattle.questions.proofs.described.type_in.Goals as goal

pub returns-in_default : goal.returns-in_default
returns-in_default c = type_none c.args.book.now c.args.dwords.now c.args.places.now c.in_default.ensures

pub returns-in_err-at : goal.returns-in_err-at
returns-in_err-at c =
    let s = c.args.book.now in
    let found = c.in-Some.ensures in
    let w = was_unnamed c.named_in.result c.ok_or.ensures.value c.in_err-at.was in
    rw (passed_on c.from_residual.result c.from_residual.ensures.1, w.1)
    (type_at_lem s c.args.dwords.now c.args.places.now found.1 found.2 found.3 (type_unnamed (value_in s c.in-Some.range c.in-Some.dword) _ (nothing_told c.named_in.ensures w.0)))

pub returns : goal.returns
returns c =
    let s = c.args.book.now in
    let found = c.in-Some.ensures in
    let there = found_told c.named_in.ensures (was_there c.named_in.result _ c.ok_or.ensures.value c.in_ok-at.was) in
    type_at_lem s c.args.dwords.now c.args.places.now found.1 found.2 found.3
    (type_named c.in_ok-at.at (λ z. omega (arith, there.1, z)) c.value_in.ensures ∙ ap (named (value_in s c.in-Some.range c.in-Some.dword)) there.0)
