-- Two fours are the same exactly when they agree in each part. Assumes nothing.
use mathlib.Core.Path.{◌≡◌, refl, sym}
use mathlib.Core.Bool.{Bool, true, false, ◌&&◌}
use lib.Dec.{eqb}
use borrow.Author.Tests.{eq-eqb, eqb-true}
use Rattle.slots.specs.declared.Four.{Four}
use Rattle.slots.specs.Look.{same_four}
use Rattle.pending.proofs.Marks.{unlike}

pub four_by_parts : (a b : Four) → a.route ≡ b.route → a.domain ≡ b.domain → a.seq ≡ b.seq → a.write ≡ b.write → a ≡ b
four_by_parts a b p q r s = λ i. record { route = p i; domain = q i; seq = r i; write = s i }

both_true : (a b : Bool) → a && b ≡ true → (a ≡ true) × (b ≡ true)
both_true true b h = (refl, h)
both_true false b h = unlike (sym h)

pub one_four : (a b : Four) → same_four a b ≡ true → a ≡ b
unfolding same_four
one_four a b h =
    let p = both_true (eqb a.route b.route && eqb a.domain b.domain && eqb a.seq b.seq) (eqb a.write b.write) h in
    let q = both_true (eqb a.route b.route && eqb a.domain b.domain) (eqb a.seq b.seq) p.0 in
    let r = both_true (eqb a.route b.route) (eqb a.domain b.domain) q.0 in
    four_by_parts a b (eqb-true _ _ r.0) (eqb-true _ _ r.1) (eqb-true _ _ q.1) (eqb-true _ _ p.1)

pub same_four_lem : (a b : Four) → a ≡ b → same_four a b ≡ true
unfolding same_four
same_four_lem a b e = rw (e, eq-eqb b.route b.route refl, eq-eqb b.domain b.domain refl, eq-eqb b.seq b.seq refl, eq-eqb b.write b.write refl)
