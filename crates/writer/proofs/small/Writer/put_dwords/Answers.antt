-- `Writer::put_dwords` meets its contract: what is still to come are the bytes of the rest of the dwords. Assumes nothing.
use Rattle.std.proofs.Common.{get_or, length}
use native.Mathlib.Omega.{arith}
use mathlib.Core.Path.{◌≡◌, ap, ◌∙◌}
use Rattle.tlv.specs.Number.{number_bytes}
use Rattle.tlv.proofs.Numbers.{number_bytes_length}
use Rattle.writer.proofs.Puts.{filling_steps, filling_ends, dword_first, dword_none, dword_room, number_whole}
use Rattle.writer.proofs.small.Writer.put_dwords.Goals as goal

pub put-requires : goal.put-requires
put-requires c =
    let d = get_or c.args.dwords.now c.loop-d.d-index 0 in
    let e : c.to_le_bytes.result ≡ number_bytes 4 d = c.to_le_bytes.ensures ∙ number_whole 4 d in
    let room = dword_room c.args.dwords.now c.loop-d.d-index c.args.self.now.at c.loop-d.invariant.filling c.loop-d-test.true c.requires in
    omega (arith, room, ap length e, number_bytes_length 4 d)

pub loop-d-preserved : goal.loop-d-preserved
loop-d-preserved c =
    let d = get_or c.args.dwords.now c.loop-d.d-index 0 in
    let e : c.to_le_bytes.result ≡ number_bytes 4 d = c.to_le_bytes.ensures ∙ number_whole 4 d in
    record {
      filling = filling_steps c.loop-d.invariant.filling _ _ (dword_first c.args.dwords.now c.loop-d.d-index c.loop-d-test.true) (rw e at c.put.ensures.put);
      same = c.put.ensures.same ∙ c.loop-d.invariant.same;
    }

pub returns : goal.returns
returns c =
    record {
      put = filling_ends c.loop-d.invariant.filling (dword_none c.args.dwords.now c.loop-d.d-index c.loop-d-test.false);
      same = c.loop-d.invariant.same;
    }
