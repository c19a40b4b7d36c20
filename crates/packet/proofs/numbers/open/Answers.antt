-- `packet::numbers::open` meets its contract, number by number. Assumes nothing.
use Rattle.refusal.specs.Told.{told}
use Rattle.refusal.proofs.Told.{passed_on}
use Rattle.text.specs.Told.{refused}
use Rattle.packet.proofs.Opening.{was_there, open-23, open-24, open-25, open-26, open-tables, header_refused, header_there}
use mathlib.Core.Path.{sym, ap, ◌∙◌}
use Rattle.packet.proofs.numbers.open.Goals as goal

pub returns-in_err-header : goal.returns-in_err-header
returns-in_err-header c =
    let missing = header_refused c.args.kind c.args.book.now _ (ap told (sym c.in_err-header.was) ∙ c.header_for.ensures) in
    rw (passed_on c.from_residual-in_err-header.result c.from_residual-in_err-header.ensures.1)
    (ap refused missing.1 ∙ open-23 c.args.kind c.args.book.now c.args.count c.args.room c.if-kind-eq0.false (sym c.control_table.ensures ∙ was_there _ _ c.ok_or.ensures.value c.in_ok-control.was) missing.0)

pub returns-then-count-gt256 : goal.returns-then-count-gt256
returns-then-count-gt256 c =
    let there = (header_there c.args.kind c.args.book.now (ap told (sym c.in_ok-header.was) ∙ c.header_for.ensures)) in
    open-24 c.args.kind c.args.book.now c.args.count c.args.room c.if-kind-eq0.false (sym c.control_table.ensures ∙ was_there _ _ c.ok_or.ensures.value c.in_ok-control.was) there.0 c.if-count-gt256.true

pub returns-then-is_short : goal.returns-then-is_short
returns-then-is_short c =
    let there = (header_there c.args.kind c.args.book.now (ap told (sym c.in_ok-header.was) ∙ c.header_for.ensures)) in
    open-25 c.args.kind c.args.book.now c.args.count c.args.room c.if-kind-eq0.false (sym c.control_table.ensures ∙ was_there _ _ c.ok_or.ensures.value c.in_ok-control.was) there.0 c.if-count-gt256.false (sym c.is_short.ensures ∙ c.if-is_short.true)

pub returns-then-room-count : goal.returns-then-room-count
returns-then-room-count c =
    let there = (header_there c.args.kind c.args.book.now (ap told (sym c.in_ok-header.was) ∙ c.header_for.ensures)) in
    open-26 c.args.kind c.args.book.now c.args.count c.args.room c.if-kind-eq0.false (sym c.control_table.ensures ∙ was_there _ _ c.ok_or.ensures.value c.in_ok-control.was) there.0 c.if-count-gt256.false (sym c.is_short.ensures ∙ c.if-is_short.false) c.if-room-count.true

pub returns : goal.returns
returns c =
    let there = (header_there c.args.kind c.args.book.now (ap told (sym c.in_ok-header.was) ∙ c.header_for.ensures)) in
    open-tables c.args.kind c.args.book.now c.args.count c.args.room c.if-kind-eq0.false (sym c.control_table.ensures ∙ was_there _ _ c.ok_or.ensures.value c.in_ok-control.was) there.0 c.if-count-gt256.false (sym c.is_short.ensures ∙ c.if-is_short.false) c.if-room-count.false there.1
