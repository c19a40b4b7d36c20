-- `ck_hex_piece` meets its contract: a text that is told starts where it ends or before. Assumes nothing.
use Rattle.capi.proofs.HexTexts.{piece_in_line, told_upright}
use Rattle.capi.proofs.hexes.ck_hex_piece.Goals as goal

pub hex_answer-requires : goal.hex_answer-requires
hex_answer-requires c = told_upright _ c.ask_piece.ensures (λ text e. (piece_in_line _ _ text e).0)
