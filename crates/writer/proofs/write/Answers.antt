-- `write` meets its contract: each way out is one of the ways to an answer. Assumes nothing.
use Rattle.writer.proofs.Writes.{refused_37, size_asks, size_least, record_asks, refused_36, written}
use mathlib.Core.Path.{sym, ◌∙◌}
use Rattle.writer.proofs.write.Goals as goal

pub returns-then-not-is_writable : goal.returns-then-not-is_writable
returns-then-not-is_writable c = refused_37 _ _ _ _ (sym c.is_writable.ensures ∙ c.if-not-is_writable.true)

pub record_size-size-requires : goal.record_size-size-requires
record_size-size-requires c = size_asks _ _ _ c.args.out.now (sym c.is_writable.ensures ∙ c.if-not-is_writable.false)

pub returns-then-out-size : goal.returns-then-out-size
returns-then-out-size c = refused_36 _ _ _ _ (sym c.is_writable.ensures ∙ c.if-not-is_writable.false) _ c.record_size-size.ensures c.if-out-size.true

pub overflow_sub-size : goal.overflow_sub-size
overflow_sub-size c = size_least _ _ _ c.args.out.now (sym c.is_writable.ensures ∙ c.if-not-is_writable.false) _ c.record_size-size.ensures

pub put_record-requires : goal.put_record-requires
put_record-requires c = record_asks _ _ _ c.args.out.now (sym c.is_writable.ensures ∙ c.if-not-is_writable.false) _ c.record_size-size.ensures c.if-out-size.false

pub returns : goal.returns
returns c = written _ _ _ _ (sym c.is_writable.ensures ∙ c.if-not-is_writable.false) _ c.record_size-size.ensures c.if-out-size.false c.put_record.ensures
