-- `ck_hex_key` meets its contract: a text that is told starts where it ends or before. Assumes nothing.
use Rattle.capi.proofs.HexTexts.{told_upright}
use Rattle.capi.proofs.OneHex.{key_upright}
use Rattle.capi.proofs.hexes.ck_hex_key.Goals as goal

pub hex_answer-requires : goal.hex_answer-requires
hex_answer-requires c = told_upright _ c.ask_numbered.ensures (key_upright _ _)
