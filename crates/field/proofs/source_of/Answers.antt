-- `field::source_of` meets its contract: control before header, and what is in neither is a protocol's. Assumes nothing.
use Rattle.field.proofs.Sources.{bare_source, control_source, header_source, protocol_source}
use mathlib.Core.Path.{sym, ◌∙◌}
use Rattle.field.proofs.source_of.Goals as goal

pub returns-then-entry-eq0 : goal.returns-then-entry-eq0
returns-then-entry-eq0 c = bare_source c.args.kind c.args.book.now c.args.entry c.if-entry-eq0.true

pub returns-then-is_in_control : goal.returns-then-is_in_control
returns-then-is_in_control c = control_source c.args.kind c.args.book.now c.args.entry c.if-entry-eq0.false (sym c.is_in_control.ensures ∙ c.if-is_in_control.true)

pub returns-then-is_in_header : goal.returns-then-is_in_header
returns-then-is_in_header c = header_source c.args.kind c.args.book.now c.args.entry c.if-entry-eq0.false (sym c.is_in_control.ensures ∙ c.if-is_in_control.false) (sym c.is_in_header.ensures ∙ c.if-is_in_header.true)

pub returns : goal.returns
returns c = protocol_source c.args.kind c.args.book.now c.args.entry c.if-entry-eq0.false (sym c.is_in_control.ensures ∙ c.if-is_in_control.false) (sym c.is_in_header.ensures ∙ c.if-is_in_header.false)
