-- `parse` meets its contract: a line is parted at its last colon, or its frame refuses it. Assumes nothing.
use Rattle.refusal.proofs.Told.{passed_on}
use Rattle.refusal.specs.Told.{told}
use Rattle.scan.proofs.Frames.{frame_colon_within}
use Rattle.scan.proofs.Stages.{line_refused, line_read}
use mathlib.Core.Path.{sym, ap, ◌∙◌}
use Rattle.scan.proofs.parse.Goals as goal

pub parse_parted-requires : goal.parse_parted-requires
parse_parted-requires c = frame_colon_within _ (sym c.read_frame.ensures ∙ ap told c.in_ok-colon.was)

pub returns : goal.returns
returns c = line_read _ _ _ (sym c.read_frame.ensures ∙ ap told c.in_ok-colon.was) c.parse_parted.ensures

pub returns-in_err-colon : goal.returns-in_err-colon
returns-in_err-colon c = line_refused _ _ _ (sym c.read_frame.ensures ∙ ap told c.in_err-colon.was) (passed_on c.from_residual.result c.from_residual.ensures.1)
