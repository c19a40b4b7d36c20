-- `tlv::field_at` meets its contract: at each return the tests that led there say how the text goes on.
-- Assumes nothing.
use Rattle.tlv.proofs.Fields.{end_all, stray_all, overrun_all, found_field}
use mathlib.Core.Path.{sym, refl}
use native.Mathlib.Omega.{arith}
use Rattle.tlv.proofs.field_at.Goals as goal

pub returns-then-s-at : goal.returns-then-s-at
returns-then-s-at c =
    let a = c.args in
    sym (end_all a.s.now a.at c.if-s-at.true)

pub returns-then-s-at-lt3 : goal.returns-then-s-at-lt3
returns-then-s-at-lt3 c =
    let a = c.args in
    sym (stray_all a.s.now a.at (omega arith) (omega arith))

pub returns-then-s-from : goal.returns-then-s-from
returns-then-s-from c =
    let a = c.args in
    sym (overrun_all a.s.now a.at (omega arith) (omega (arith, c.two_at-size.ensures.is)))

pub returns : goal.returns
returns c =
    let a = c.args in
    let size = c.two_at-size.ensures.is in
    sym
    (found_field a.s.now a.at _ _ _
    (record { tag_is = refl; from_is = refl; to_is = omega (arith, size); within = omega arith }))
