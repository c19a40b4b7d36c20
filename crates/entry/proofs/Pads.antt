-- Padding copies a text over zeros, and the start of a padded name, as long as it says, is the name. Assumes nothing.
use Prim.Native.Nat.{ℕ, zero, suc, ◌-◌, ◌≤◌}
use mathlib.Core.Path.{◌≡◌}
use mathlib.Core.List.{List, ◌++◌}
use native.Mathlib.Omega.{arith}
use lib.ListN.{length, take, drop, replicate, length-append}
use lib.Seq.{take-append_seam}
use Rattle.entry.specs.declared.events.Name.{Name}
use Rattle.entry.specs.Event.{padded}

-- zeros without the first of them are fewer zeros
drop_zeros : (i n : ℕ) → drop {A = ℕ} i (replicate n 0) ≡ replicate (n - i) 0
drop_zeros zero n = let e : n - 0 ≡ n = omega arith in rw e
drop_zeros (suc i) zero = let e : 0 - suc i ≡ 0 = omega arith in rw e
drop_zeros (suc i) (suc n) = let e : suc n - suc i ≡ n - i = omega arith in rw e (drop_zeros i n)

-- a text copied over the first of fourteen zeros
pub copied : (s : List ℕ) {bytes : List ℕ} → bytes ≡ s ++ drop (length s) (replicate 14 0) → record { bytes = bytes; len = length s } ≡ padded s
unfolding padded
copied s e = rw (e, drop_zeros (length s) 14)

-- ---- names that were handed out

module _ (s : List ℕ) {n : Name} where
  pub name_within : n ≡ padded s → n.len ≤ length n.bytes
  unfolding padded
  name_within e = rw e (omega (arith, length-append s (replicate (14 - length s) 0)))

  pub name_start : n ≡ padded s → take n.len n.bytes ≡ s
  unfolding padded
  name_start e = rw e (take-append_seam s (replicate (14 - length s) 0))
