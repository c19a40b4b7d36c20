-- `look` meets its contract: the looks that are left give the whole look. Assumes nothing.
use mathlib.Core.Path.{◌≡◌}
use lib.ListN.{drop}
use Rattle.pending.specs.Over.{look_all}
use Rattle.pending.proofs.look.Given as goal

abbrev pub invariant-loop-place : goal.invariant-loop-place
invariant-loop-place l = look_all (drop l.place l.slots) l.place l.seen ≡ look_all l.slots 0 l.initial.seen
