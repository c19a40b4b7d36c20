-- `tlv::number_at` meets its contract: each byte is put below those behind it. Assumes nothing.
use Rattle.tlv.proofs.Numbers.{ReadTo}
use Rattle.tlv.proofs.number_at.Given as goal

abbrev pub invariant-loop-k : goal.invariant-loop-k
invariant-loop-k g l = ReadTo g.row.N l.s l.i l.n l.k
