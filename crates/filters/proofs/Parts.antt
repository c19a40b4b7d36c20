-- Texts put one behind the other, and what is kept over units one after the other. Assumes nothing.
use Prim.Native.Nat.{ℕ, ◌+◌, ◌-◌, ◌≤◌}
use mathlib.Core.Path.{◌≡◌, refl, sym, ap, ◌∙◌}
use mathlib.Core.List.{List, [], ◌∷◌, ◌++◌, append_assoc}
use native.Mathlib.Omega.{arith}
use lib.ListN.{length, take, drop}
use lib.Seq.{take_at, drop_at, length-take-le, sets-eq}
use Rattle.listing_rows.specs.Rows.{Put}
use Rattle.units.specs.Feeding.{between}
use Rattle.filters.specs.Filter.{after, texts}

-- what was put lies in the buffer between the two places
pub put_between : {out s exit : List ℕ} {at r : ℕ} → Put out at s exit r → between exit at r ≡ s
unfolding between
put_between {out} {s} {exit} {at} {r} p =
    let h : at ≤ length out = omega (arith, p.fits) in
    let n : r - at ≡ length s = omega (arith, p.place) in
    ap (λ (l : List ℕ). take (r - at) (drop at l)) (p.buffer ∙ sets-eq s out at p.fits ∙ append_assoc (take at out) s (drop (at + length s) out))
    ∙ ap (take (r - at)) (drop_at (take at out) (s ++ drop (at + length s) out) at (length-take-le at out h))
    ∙ take_at s (drop (at + length s) out) (r - at) (sym n)

pub put_none : (out : List ℕ) (at : ℕ) → at ≤ length out → Put out at [] out at
put_none out at h = record { fits = omega arith; buffer = refl; place = omega arith }

module _ {S : Type 0} (next : S → List ℕ → S) where
  pub after_append : (c : S) (a b : List (List ℕ)) → after next c (a ++ b) ≡ after next (after next c a) b
  unfolding after
  after_append c [] b = refl
  after_append c (u ∷ a) b = after_append (next c u) a b

  pub texts_append : (text : S → List ℕ → List ℕ) (c : S) (a b : List (List ℕ)) → texts next text c (a ++ b) ≡ texts next text c a ++ texts next text (after next c a) b
  unfolding texts after
  texts_append text c [] b = refl
  texts_append text c (u ∷ a) b =
      ap (λ (t : List ℕ). text c u ++ t) (texts_append text (next c u) a b)
      ∙ sym (append_assoc (text c u) (texts next text (next c u) a) (texts next text (after next (next c u) a) b))
