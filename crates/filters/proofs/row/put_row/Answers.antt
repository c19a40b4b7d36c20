-- `put_row` meets its contract, by the answer. Assumes nothing.
use Rattle.filters.proofs.UnitTexts.{entry_row_put, refused_row_put, no_row_put}
use Rattle.std.specs.Prelude.{None, Some}
use mathlib.Core.Path.{◌≡◌}
use native.Mathlib.Omega.{arith}
use Rattle.filters.proofs.row.put_row.Goals as goal
use Rattle.filters.proofs.row.put_row.Goals.{in-Ok-Some, in-Ok-None, in-Err}

pub returns : goal.returns
returns c =
    elim c.match-answer.branch [
      | in-Ok-Some w ↦
          let one : w.in-Ok-Some.field-0 ≡ Some w.in-Ok-Some.e = rw w.in-Ok-Some.is at w.in-Ok-Some.field-0-is in
          rw (w.at-is, w.out-is)
          (entry_row_put c.args.out.now c.args.run _ c.args.answer c.with-counts.ensures _ (rw one at w.in-Ok-Some.is) w.put_entry-at.ensures)
      | in-Ok-None w ↦
          let none : w.in-Ok-None.field-0 ≡ None = rw w.in-Ok-None.is at w.in-Ok-None.field-0-is in
          no_row_put c.args.out.now c.args.run _ c.args.answer c.with-counts.ensures _ (rw none at w.in-Ok-None.is) w.out-is w.at-is (omega (arith, c.requires))
      | in-Err w ↦
          rw (w.at-is, w.out-is)
          (refused_row_put c.args.out.now c.args.run _ c.args.answer c.with-counts.ensures _ w.in-Err.is (rw w.number.ensures at w.put_refused-at.ensures))
    ]
