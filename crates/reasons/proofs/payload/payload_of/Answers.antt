-- `payload::payload_of` meets its contract, by cases on the frame. Assumes nothing.
use Rattle.reasons.proofs.Said.{payload_there, payload_refused}
use Rattle.scan.proofs.Frames.{frame_colon_within}
use Rattle.refusal.proofs.Told.{passed_on}
use Rattle.refusal.specs.Told.{told}
use mathlib.Core.Path.{sym, ap, ◌∙◌}
use Rattle.reasons.proofs.payload.payload_of.Goals as goal

pub payload_behind-requires : goal.payload_behind-requires
payload_behind-requires c = frame_colon_within _ (sym c.read_frame.ensures ∙ ap told c.in_ok-colon.was)

pub returns : goal.returns
returns c = payload_there _ (sym c.read_frame.ensures ∙ ap told c.in_ok-colon.was) c.payload_behind.ensures

pub returns-in_err-colon : goal.returns-in_err-colon
returns-in_err-colon c = rw (passed_on c.from_residual.result c.from_residual.ensures.1) (payload_refused _ (sym c.read_frame.ensures ∙ ap told c.in_err-colon.was))
