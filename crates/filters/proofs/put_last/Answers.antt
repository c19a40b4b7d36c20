-- `put_last` meets its contract: the totals go where the filter puts them. Assumes nothing.
use Rattle.filters.proofs.UnitTexts.{last_listing, last_unpack, last_pack}
use mathlib.Core.Logic.{⊎_elim}
use native.Mathlib.Omega.{arith}
use Rattle.filters.proofs.put_last.Goals as goal

pub returns-in-Listing : goal.returns-in-Listing
returns-in-Listing c =
    ⊎_elim (λ e. rw e (last_listing _ _ c.args.run (omega (arith, c.requires.0)) (omega (arith, c.requires.1)) c.put_totals.ensures))
    (λ e. rw e.1 (last_unpack _ _ c.args.run (omega (arith, c.requires.0)) (omega (arith, c.requires.1)) e.0 c.put_totals.ensures)) c.in-Listing.is

pub returns-in-Pack : goal.returns-in-Pack
returns-in-Pack c = rw c.in-Pack.is (last_pack _ _ c.args.run (omega (arith, c.requires.0)) (omega (arith, c.requires.1)) _ c.put_totals-in-Pack.ensures)
