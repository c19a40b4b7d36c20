-- Two of the paper's cases, each a number that antt computes or the law for every dword. Assumes nothing.
use Prim.Native.Nat.{ℕ, ◌^◌, ◌<◌}
use mathlib.Core.Path.{◌≡◌, refl}
use Rattle.bits.specs.Range.{range_of}
use Rattle.bits.proofs.Ranges.{whole_range}

-- P10: bits 8 to 15 of 0x12345678 are 0x56
pub case_P10 : range_of 0x12345678 8 15 ≡ 0x56
unfolding range_of
case_P10 = refl

-- P11: bits 0 to 31 are the dword, whichever dword it is
pub case_P11 : (dword : ℕ) → dword < 2 ^ 32 → range_of dword 0 31 ≡ dword
case_P11 = whole_range

-- P11 at the dword of P10, and at the dword with every bit set
pub case_P11_computed : (range_of 0x12345678 0 31 ≡ 0x12345678) × (range_of 0xffffffff 0 31 ≡ 0xffffffff)
unfolding range_of
case_P11_computed = (refl, refl)
