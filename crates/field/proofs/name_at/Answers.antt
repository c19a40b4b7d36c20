-- `field::name_at` meets its contract: no name, a value's, or another's, each behind what stands before it. Assumes nothing.
use Rattle.field.proofs.Naming.{no_name, value-fits, value-named, other_fits, other-named}
use native.Mathlib.Omega.{arith}
use Rattle.field.proofs.name_at.Goals as goal

pub returns-then-len-eq0 : goal.returns-then-len-eq0
returns-then-len-eq0 c = no_name c.args.place c.name_in-len.ensures c.if-len-eq0.true

pub overflow_add-result : goal.overflow_add-result
overflow_add-result c = record { fits = omega (arith, value-fits c.args.place c.name_in-len.ensures c.if-len-eq0.false c.byte_at.result c.byte_at.ensures.0 c.if-byte_at-eq7.true, c.well_formed.1.0.1) }

pub returns-then-byte_at-eq7 : goal.returns-then-byte_at-eq7
returns-then-byte_at-eq7 c = value-named c.args.place c.name_in-len.ensures c.if-len-eq0.false c.byte_at.result c.byte_at.ensures.0 c.if-byte_at-eq7.true

pub overflow_add-result-2 : goal.overflow_add-result-2
overflow_add-result-2 c = record { fits = omega (arith, other_fits c.args.place c.name_in-len.ensures c.if-len-eq0.false c.byte_at.result c.byte_at.ensures.0 c.if-byte_at-eq7.false, c.well_formed.1.0.1) }

pub returns : goal.returns
returns c = other-named c.args.place c.name_in-len.ensures c.if-len-eq0.false c.byte_at.result c.byte_at.ensures.0 c.if-byte_at-eq7.false
