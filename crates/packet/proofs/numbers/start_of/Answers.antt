-- `packet::numbers::start_of` meets its contract, kind by kind. Assumes nothing.
use Rattle.book.specs.Finders.{entry_count}
use Rattle.packet.proofs.Gathering.{first_within}
use Rattle.packet.proofs.Opening.{start_viewed, start_other, start-behind, start_none}
use Rattle.packet.specs.Field.{asks}
use Rattle.packet.specs.declared.field.Ask.TheVariants.{Holds}
use Rattle.text.specs.Quote.{bytes}
use Rattle.std.specs.Prelude.{None, ◌≡◌}
use native.Mathlib.Omega.{arith}
use borrow.Author.Rules.{rules}
use borrow.Author.Tests.{not-true, not-false}
use mathlib.Core.Path.{sym, ap, ◌∙◌}
use Rattle.packet.proofs.numbers.start_of.Goals as goal

pub returns-then-is_read_response_or_write_request : goal.returns-then-is_read_response_or_write_request
returns-then-is_read_response_or_write_request c = start_viewed c.args.kind c.args.book.now c.args.places.now (sym c.is_read_response_or_write_request.ensures ∙ c.if-is_read_response_or_write_request.true) (c.count_entries-n.ensures ∙ ap (entry_count c.args.book.now) c.requires)

pub returns-then-not-is_xdomain_kind : goal.returns-then-not-is_xdomain_kind
returns-then-not-is_xdomain_kind c = start_other c.args.kind c.args.book.now c.args.places.now (sym c.is_read_response_or_write_request.ensures ∙ c.if-is_read_response_or_write_request.false) (sym c.is_xdomain_kind.ensures ∙ not-true _ c.if-not-is_xdomain_kind.true-raw)

pub overflow_add-result : goal.overflow_add-result
overflow_add-result c =
    let w = first_within (asks Holds c.args.book.now (bytes "Properties Block Generation")) 0 _ c.args.places.now (sym c.first_asked.ensures ∙ c.in_ok-i.was) in
    search rules

pub returns : goal.returns
returns c = start-behind c.args.kind c.args.book.now c.args.places.now (sym c.is_read_response_or_write_request.ensures ∙ c.if-is_read_response_or_write_request.false) (sym c.is_xdomain_kind.ensures ∙ not-false _ c.if-not-is_xdomain_kind.false-raw) (sym c.first_asked.ensures ∙ c.in_ok-i.was)

pub returns-in_err-i : goal.returns-in_err-i
returns-in_err-i c =
    let gone : c.from_residual.result ≡ None = grind arith in
    rw gone (start_none c.args.kind c.args.book.now c.args.places.now (sym c.is_read_response_or_write_request.ensures ∙ c.if-is_read_response_or_write_request.false) (sym c.is_xdomain_kind.ensures ∙ not-false _ c.if-not-is_xdomain_kind.false-raw) (sym c.first_asked.ensures ∙ c.in_err-i.was))
