-- A text that is copied to a place where it fits is put there. Assumes nothing.
use Prim.Native.Nat.{ℕ, ◌+◌, ◌≤◌, ◌<◌}
use mathlib.Core.Bool.{Bool, true, false, cond}
use mathlib.Core.Path.{◌≡◌, refl, sym, ap, ◌∙◌}
use mathlib.Core.List.{List}
use native.Mathlib.Omega.{arith}
use lib.Dec.{leb}
use lib.ListN.{length}
use lib.Seq.{sets, sets-eq, length-sets, take-length}
use borrow.Author.Tests.{leb-true, le-leb, lt-leb}
use borrow.Rule.Slice.PartMut.{put_mid}
use Rattle.std.proofs.lemmas.Slice.{put_mid-paste}
use Rattle.print.specs.Put.{buffer_after, place_after, Placed}

module _ (out : List ℕ) (at : ℕ) (s : List ℕ) where
  pub no_room : length out < at + length s → Placed out at s out at
  unfolding buffer_after place_after
  no_room h = record { buffer = rw (lt-leb _ _ h); place = rw (lt-leb _ _ h) }

  -- k is the length of the part that was copied to, and now what stands in it
  pub placed_copy : (k : ℕ) (now : List ℕ) → at + length s ≤ length out → now ≡ s → length s ≡ k → Placed out at s (put_mid at k out now) (at + length s)
  unfolding buffer_after place_after
  placed_copy k now fits e n =
      record {
        buffer = rw (le-leb _ _ fits) (put_mid-paste at k out now s (length s) e n refl ∙ rw (take-length s) (sym (sets-eq s out at fits)));
        place = rw (le-leb _ _ fits);
      }

-- equal texts are put alike
pub placed_same : {out exit s t : List ℕ} {at r : ℕ} → s ≡ t → Placed out at s exit r → Placed out at t exit r
placed_same e p = rw (← e) p

-- no place leaves the buffer
pub placed_inside : {out s exit : List ℕ} {at r : ℕ} → at ≤ length out → Placed out at s exit r → r ≤ length exit
unfolding buffer_after place_after
placed_inside {out} {s} {exit} {at} {r} h p = go (leb (at + length s) (length out)) refl p.buffer p.place
  where
    go : (b : Bool) → leb (at + length s) (length out) ≡ b → exit ≡ cond b (sets out at s) out → r ≡ cond b (at + length s) at → r ≤ length exit
    go true e q z = omega (arith, leb-true _ _ e, length-sets out at s, ap length q, z)
    go false e q z = omega (arith, ap length q, z)
