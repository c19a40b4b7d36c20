-- `read_unit` meets its contract: each kind of unit is one way. Assumes nothing.
use Rattle.scan.specs.declared.Pieces.TheVariants.{Strict}
use Rattle.std.proofs.Common.{rules}
use Rattle.stream.proofs.Steps.{read_entry, read_refused, text_fits, reads_text, reads_long, reads_cut, reads_open, reads_alien}
use lib.Seq.{length-take-le}
use mathlib.Core.List.{[]}
use mathlib.Core.Path.{sym}
use Rattle.stream.proofs.read_unit.Goals as goal

pub slice_bounds-read-end : goal.slice_bounds-read-end
slice_bounds-read-end c = sym (length-take-le _ _ (text_fits Strict [] [] c.in-Text.is c.requires))

pub returns-in_ok-read-in-Text : goal.returns-in_ok-read-in-Text
returns-in_ok-read-in-Text c = reads_text _ _ _ c.in-Text.is (read_entry _ _ _ _ c.read.ensures c.in_ok-read-in-Text.was)

pub returns-in_err-read-in-Text : goal.returns-in_err-read-in-Text
returns-in_err-read-in-Text c =
    let h = reads_text c.args.pieces c.args.rest.now c.args.slots.now c.in-Text.is (read_refused _ _ _ _ c.read.ensures c.in_err-read-in-Text.was) in
    search (rules, h)

pub returns-in-Long : goal.returns-in-Long
returns-in-Long c = reads_long _ _ _ c.in-Long.is

pub returns-in-Cut : goal.returns-in-Cut
returns-in-Cut c = reads_cut _ _ _ c.in-Cut.is

pub returns-in-Open : goal.returns-in-Open
returns-in-Open c = reads_open _ _ _ c.in-Open.is

pub returns-in-Alien : goal.returns-in-Alien
returns-in-Alien c = reads_alien _ _ _ c.in-Alien.is
