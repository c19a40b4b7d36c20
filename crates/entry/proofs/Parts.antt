-- A part of a list is there exactly where it ends within the list, and what code hands out is the caller's own. Assumes nothing.
use Prim.Native.Nat.{ℕ, ◌+◌, ◌*◌, ◌≤◌, ◌<◌}
use mathlib.Core.Path.{◌≡◌, sym, ap, ◌∙◌}
use mathlib.Core.List.{List, []}
use native.Mathlib.Omega.{arith}
use lib.ListN.{length, take, drop}
use borrow.Author.Tests.{le-leb, lt-leb}
use Rattle.text.specs.Part.{Slice}
use Rattle.text.proofs.OwnParts.{own_cut, own_from}
use Rattle.entry.specs.Entry.{part_of, part_from, OwnPartAt}

module _ (l : List ℕ) (at n : ℕ) where
  pub part_in : at + n ≤ length l → take n (drop at l) ≡ part_of l at n
  unfolding part_of
  part_in h = rw (le-leb (at + n) (length l) h)

  pub part_out : length l < at + n → [] ≡ part_of l at n
  unfolding part_of
  part_out h = rw (lt-leb (at + n) (length l) h)

-- ---- the caller's own

module _ {size : ℕ} {lent part : Slice} (at n : ℕ) where
  -- so many elements from a place, as code cuts them
  pub own_in : (count : ℕ) → part.now ≡ take count (drop at lent.now) → count ≡ n → at + n ≤ length lent.now → part.ref_ptr.0 ≡ lent.ref_ptr.0 → part.ref_ptr.1 ≡ lent.ref_ptr.1 + at * size
      → OwnPartAt size lent at n part
  unfolding part_from
  own_in count cut many h memory place =
      own_from (sym (rw (le-leb (at + n) (length lent.now) h)))
      (own_cut count cut memory place (omega (arith, many, h)) (cut ∙ ap (λ (k : ℕ). take k (drop at lent.now)) many ∙ part_in lent.now at n h))

  -- the empty part at the start
  pub own_out : length lent.now < at + n → part.now ≡ [] → part.ref_ptr.0 ≡ lent.ref_ptr.0 → part.ref_ptr.1 ≡ lent.ref_ptr.1 + 0 * size
      → OwnPartAt size lent at n part
  unfolding part_from
  own_out h none memory place =
      own_from (sym (rw (lt-leb (at + n) (length lent.now) h)))
      (own_cut 0 none memory place (omega arith) (none ∙ part_out lent.now at n h))
