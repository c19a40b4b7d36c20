-- `parse_parted` meets its contract: the header is the front between its two runs of blanks, which is the front stripped, the payload the rest
-- stripped. Assumes nothing.
use Rattle.refusal.proofs.Told.{passed_on}
use Rattle.refusal.specs.Told.{told}
use Prim.Native.Nat.{ℕ, ◌+◌, ◌-◌}
use Rattle.scan.proofs.Stages.{parted_refused, parted_read, parted_allows, payload_same}
use Rattle.scan.specs.Head.{head_of}
use Rattle.text.proofs.Stripping.{rest_is, part_length, stripped_by}
use Rattle.text.specs.Class.{in_class, is_blank}
use Rattle.text.specs.Run.{run_end, run_start, stripped}
use lib.ListN.{length, take, drop}
use lib.Seq.{length-take-le}
use mathlib.Core.List.{List}
use mathlib.Core.Path.{◌≡◌, sym, ap, ◌∙◌}
use native.Mathlib.Omega.{arith}
use Rattle.scan.proofs.parse_parted.Goals as goal

-- what lies between the two runs of blanks is the front stripped
between : (front : List ℕ) {start size : ℕ} → start ≡ run_end is_blank front 0
    → size ≡ run_start is_blank (take (length front - start) (drop start front))
    → take size (take (length front - start) (drop start front)) ≡ stripped front
unfolding in_class
between front {start} is size = stripped_by front is (rest_is start front) size

pub slice_bounds-front-end : goal.slice_bounds-front-end
slice_bounds-front-end c = sym (length-take-le _ _ (omega (arith, c.requires)))

pub slice_bounds-header-end : goal.slice_bounds-header-end
slice_bounds-header-end c = part_length _ _ c.run_start-size.ensures.within

pub parse_payload-requires : goal.parse_payload-requires
unfolding in_class
parse_payload-requires c =
    parted_allows c.args.line.now c.args.colon (between (take c.args.colon c.args.line.now) c.run_end-start.ensures.is c.run_start-size.ensures.is) c.run_end-start.ensures.is c.well_formed.0.0 (sym c.read_head.ensures ∙ ap told c.in_ok-head.was)

pub returns : goal.returns
unfolding in_class
returns c =
    parted_read _ _ _ _ (ap head_of (sym (between (take c.args.colon c.args.line.now) c.run_end-start.ensures.is c.run_start-size.ensures.is)) ∙ sym c.read_head.ensures ∙ ap told c.in_ok-head.was)
    (payload_same (between (take c.args.colon c.args.line.now) c.run_end-start.ensures.is c.run_start-size.ensures.is) c.run_end-start.ensures.is (c.strip-payload.ensures.is ∙ ap stripped (rest_is (c.args.colon + 1) c.args.line.now)) c.parse_payload.ensures)

pub returns-in_err-head : goal.returns-in_err-head
unfolding in_class
returns-in_err-head c = parted_refused _ _ _ _ (ap head_of (sym (between (take c.args.colon c.args.line.now) c.run_end-start.ensures.is c.run_start-size.ensures.is)) ∙ sym c.read_head.ensures ∙ ap told c.in_err-head.was) (passed_on c.from_residual.result c.from_residual.ensures.1)
