-- `Moving::end` meets its contract: what the end puts out lies in the buffers, and a filter's end is what `finish` answered. Assumes nothing.
use borrow.Author.Rules.{rules}
use mathlib.Core.Path.{◌≡◌, refl}
use Rattle.std.specs.Prelude.{Ok}
use Rattle.moving.specs.Programs.{filter_by}
use Rattle.moving.proofs.Places.{framing_is, kept_after, finish_within, finished_by, ended_fits, chosen}
use Rattle.moving.proofs.moving.Moving.end.Goals.{in-Listing, in-Pack, in-Unpack}
use Rattle.moving.proofs.moving.Moving.end.Goals as goal

pub show-requires : goal.show-requires
show-requires c =
    ended_fits c.args.unit.now c.make_room.new.self.run.state.held c.make_room.new.self.run.state.passed
    (rw c.in-Show.is at (kept_after c.args.program c.args.self.now c.make_room.new.self c.args.unit.now c.make_room.ensures c.requires)) _ c.finish-cut.ensures

pub invariant_of-self : goal.invariant_of-self
invariant_of-self c =
    let h : filter_by c.args.program ≡ Ok c.match-program.filter =
    elim c.match-program.branch [
      | in-Listing w ↦ chosen refl w.in-Listing.is w.filter-is
      | in-Pack w ↦ chosen refl w.in-Pack.is w.filter-is
      | in-Unpack w ↦ chosen refl w.in-Unpack.is w.filter-is
    ] in
    let e = framing_is c.args.program h in
    let k = kept_after c.args.program c.args.self.now c.make_room.new.self c.args.unit.now c.make_room.ensures c.requires in
    let w = finish_within c.match-program.filter (rw e at k) c.finish-self.ensures in
    record { at = search rules; told_at = search rules; out_size = search rules; told_size = search rules }

pub returns-clause-closed : goal.returns-clause-closed
returns-clause-closed c = λ g h.
    let e : filter_by c.args.program ≡ Ok c.match-program.filter =
    elim c.match-program.branch [
      | in-Listing w ↦ chosen refl w.in-Listing.is w.filter-is
      | in-Pack w ↦ chosen refl w.in-Pack.is w.filter-is
      | in-Unpack w ↦ chosen refl w.in-Unpack.is w.filter-is
    ] in
    record {
      mid = c.make_room.new.self;
      roomy = c.make_room.ensures;
      finished = finished_by c.args.program {g = g} e h _ _ _ _ _ _ _ c.finish-self.ensures;
      whole = refl;
      unwritten = refl;
      untold = refl;
    }
