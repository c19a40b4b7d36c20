-- `dwords::read_piece` meets its contract: a hex value within 32 bits fits its dword. Assumes nothing.
use Prim.Native.Nat.{◌^◌, ◌-◌}
use Rattle.pairs.proofs.Slots.{piece_dword, piece_bad, hex_fits}
use Rattle.std.specs.Result.{result_ok}
use mathlib.Core.Path.{sym, ap, ◌∙◌}
use native.Mathlib.Omega.{arith}
use Rattle.pairs.proofs.dwords.read_piece.Goals as goal

pub overflow_cast-result : goal.overflow_cast-result
overflow_cast-result c = record { fits = omega (arith, hex_fits (2 ^ 32 - 1) _ (sym (ap result_ok c.hex.ensures) ∙ sym c.ok.ensures.value ∙ c.in_ok-v.was)) }

pub returns : goal.returns
returns c = piece_dword _ (sym (ap result_ok c.hex.ensures) ∙ sym c.ok.ensures.value ∙ c.in_ok-v.was)

pub returns-in_err-v : goal.returns-in_err-v
returns-in_err-v c = c.from_residual.ensures ∙ piece_bad _ (sym (ap result_ok c.hex.ensures) ∙ sym c.ok.ensures.value ∙ c.in_err-v.was)
