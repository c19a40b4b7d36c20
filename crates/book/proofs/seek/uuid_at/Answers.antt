-- `book::seek::uuid_at` meets its contract dword by dword. Assumes nothing.
use Rattle.book.proofs.Searching.{uuid_past}
use mathlib.Core.Path.{sym}
use Rattle.book.proofs.seek.uuid_at.Goals as goal

pub returns-then-s-from : goal.returns-then-s-from
returns-then-s-from c = sym (uuid_past c.args.s.now c.args.from c.if-s-from.true)

pub returns : goal.returns
returns c =
    λ i. record { first = c.four_at.ensures.is i; second = c.four_at-2.ensures.is i; third = c.four_at-3.ensures.is i; fourth = c.four_at-4.ensures.is i }
