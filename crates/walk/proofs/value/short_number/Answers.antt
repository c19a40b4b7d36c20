-- `value::short_number` meets its contract: digits that no word byte follows are the value, and no other answer says anything. Assumes nothing.
use Rattle.walk.proofs.Values.{start_within, short_is}
use native.Mathlib.Omega.{arith}
use Rattle.walk.proofs.value.short_number.Goals as goal

pub digits_at-end-requires : goal.digits_at-end-requires
digits_at-end-requires c = (c.requires.0, start_within _ _ _ c.requires.1 c.digits_start-from.ensures, omega (arith, c.in_ok-base.ensures))

pub returns : goal.returns
returns c =
    short_is _ _ _ c.in_ok-base.ensures.0 (omega (arith, c.in_ok-base.ensures)) c.digits_start-from.ensures c.digits_at-end.ensures c.if-end-from.false
    (cc)
    c.in_ok-base.ensures.1
    c.within.ensures
    c.keep_number.ensures
