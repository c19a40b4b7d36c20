-- `say_line` meets its contract: what the payload says, where there is one; a line with a payload is no longer than a row has room for. Assumes nothing.
use Rattle.std.proofs.Common.{◌∙◌}
use Rattle.why.proofs.Walks.{part_short, line_short, line_there, line_refused}
use Rattle.why.proofs.asking.Asking.say_line.Goals as goal

pub say_payload-requires : goal.say_payload-requires
say_payload-requires c =
    let w = rw c.in-Ok.is at c.payload_of.ensures.within in
    part_short c.args.line.now (line_short c.args.line.now c.payload_of.ensures c.in-Ok.is) w.0 w.1

pub returns-in-Ok : goal.returns-in-Ok
returns-in-Ok c = line_there _ c.count_line.ensures.unsaid c.payload_of.ensures c.in-Ok.is (c.count_payload.ensures ∙ rw c.count_line.ensures.counted) c.say_payload.ensures

pub returns-in_default : goal.returns-in_default
returns-in_default c = line_refused _ c.count_line.ensures.unsaid c.payload_of.ensures c.in_default.is c.count_line.ensures.counted
