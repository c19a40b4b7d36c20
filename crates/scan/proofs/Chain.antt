-- The chain of numbers: an answer is the number of the first check whose condition holds, or an entry where none does. Each stage hands on that no
-- earlier check's number applies, and two laws carry every number: one for a test, one for something that must be there. Assumes nothing.
use Rattle.std.specs.Prelude.{None, Option, Some}
use Prim.Native.Nat.{ℕ, suc, ◌+◌, ◌≤◌, ◌<◌}
use mathlib.Core.Path.{◌≡◌, refl}
use mathlib.Core.Bool.{Bool, true, false, cond}
use mathlib.Core.List.{List}
use native.Mathlib.Omega.{arith}
use lib.Dec.{ltb, eqb}
use borrow.Author.Tests.{eqb-true, eqb-false, ltb-true, ltb-false}
use Rattle.text.specs.Told as T
use Rattle.text.proofs.Places.{by_order}
use Rattle.entry.specs.declared.Entry.{Entry}
use Rattle.scan.specs.declared.Pieces.{Pieces}
use Rattle.scan.specs.Need.{need}
use Rattle.scan.specs.Line.{Condition, order_of, Applies}

-- where a number stands among the checks
data Placed (k at : ℕ) : Type 0 where
  early : k < 16 → at ≡ k → Placed k at
  between : k ≡ 18 → at ≡ 16 → Placed k at
  late : 16 ≤ k → (k ≡ 18 → ⊥) → at ≡ k + 1 → Placed k at

placed : (k : ℕ) → Placed k (order_of k)
unfolding order_of
placed k = go (eqb k 18) refl (ltb k 16) refl
  where
    go : (a : Bool) → eqb k 18 ≡ a → (b : Bool) → ltb k 16 ≡ b → Placed k (cond a 16 (cond b k (k + 1)))
    go true e b l = between (eqb-true k 18 e) refl
    go false e true l = early (ltb-true k 16 l) refl
    go false e false l = late (ltb-false k 16 l) (eqb-false k 18 e) refl

-- each check has one number
pub one_order : (j k : ℕ) → order_of j ≡ order_of k → j ≡ k
one_order j k e = go (placed j) (placed k) e
  where
    go : {a b : ℕ} → Placed j a → Placed k b → a ≡ b → j ≡ k
    go (early x p) (early y q) e = omega arith
    go (early x p) (between y q) e = omega arith
    go (early x p) (late y n q) e = omega arith
    go (between x p) (early y q) e = omega arith
    go (between x p) (between y q) e = omega arith
    go (between x p) (late y n q) e = omega arith
    go (late x m p) (early y q) e = omega arith
    go (late x m p) (between y q) e = omega arith
    go (late x m p) (late y n q) e = omega arith

-- the last check is that of 17
pub past_order : (k : ℕ) → 19 ≤ order_of k → 19 ≤ k
past_order k = go (placed k)
  where
    go : {a : ℕ} → Placed k a → 19 ≤ a → 19 ≤ k
    go (early x p) h = omega arith
    go (between x p) h = omega arith
    go (late x n p) h = omega (arith, n)

-- 18 comes before no number up to 15; a number that comes behind 15 and is not 18 is 16 or more
pub early_order : (j k : ℕ) → k ≤ 15 → order_of j < order_of k → j ≡ 18 → ⊥
early_order j k few l e = go (placed j) (placed k) l
  where
    go : {a b : ℕ} → Placed j a → Placed k b → a < b → ⊥
    go (early x p) (early y q) l = omega arith
    go (early x p) (between y q) l = omega arith
    go (early x p) (late y n q) l = omega arith
    go (between x p) (early y q) l = omega arith
    go (between x p) (between y q) l = omega arith
    go (between x p) (late y n q) l = omega arith
    go (late x m p) y l = absurd (m e)

pub late_order : (k : ℕ) → (order_of k < 16 → ⊥) → (k ≡ 18 → ⊥) → 16 ≤ k
late_order k l n = go (placed k) l
  where
    go : {a : ℕ} → Placed k a → (a < 16 → ⊥) → 16 ≤ k
    go (early x p) l = absurd (l (omega arith))
    go (between x p) l = absurd (n x)
    go (late x m p) l = x

module _ (pieces : Pieces) (t : List ℕ) (room : ℕ) where
  -- no number of a check before this one applies
  abbrev pub Clear : ℕ → Type 0
  Clear at = (j : ℕ) → order_of j < at → Condition pieces t room j → ⊥

  pub clear_starts : Clear 1
  unfolding Condition
  clear_starts j h c = let e : j ≡ 0 = none (placed j) h in rw e at c
    where
      none : {a : ℕ} → Placed j a → a < 1 → j ≡ 0
      none (early x p) l = omega arith
      none (between x p) l = omega arith
      none (late x n p) l = omega arith

  pub clear_next : (k : ℕ) → Clear (order_of k) → (Condition pieces t room k → ⊥) → Clear (suc (order_of k))
  clear_next k f n j h c =
      by_order (order_of j) (order_of k) (λ l. f j l c) (λ e. n (rw (one_order j k e) at c)) (λ l. absurd (omega arith))

  module _ (Says : Entry → Type 0) where
    -- an answer in its place: a number that applies first, or an entry where no number applies
    pub data Answered : T.Told Entry → Type 0 where
      refused : (k : ℕ) → Applies pieces t room k → Answered (T.refused k)
      entry : (e : Entry) → Clear 19 → Says e → Answered (T.is e)

    -- a test: where it holds the number applies, else the rest is judged
    pub refuse : {B : Type 0} (g : B → T.Told Entry) (k : ℕ) (b : Bool) (x y : B) → g x ≡ T.refused k → Clear (order_of k) → (b ≡ true → Condition pieces t room k) → (b ≡ false → (Condition pieces t room k → ⊥) × (Clear (suc (order_of k)) → Answered (g y))) → Answered (g (cond b x y))
    refuse g k true x y e c p q = rw e (refused k (record { holds = p refl; first = c }))
    refuse g k false x y e c p q = (q refl).1 (clear_next k c (q refl).0)

    -- something that must be there: without it the number applies, with it the rest is judged
    pub check : {X B : Type 0} (g : B → T.Told Entry) (k : ℕ) (o : Option X) (x : B) (f : X → B) → g x ≡ T.refused k → Clear (order_of k) → (o ≡ None → Condition pieces t room k) → ((a : X) → o ≡ Some a → (Condition pieces t room k → ⊥) × (Clear (suc (order_of k)) → Answered (g (f a)))) → Answered (g (need x o f))
    check g k None x f e c p q = rw e (refused k (record { holds = p refl; first = c }))
    check g k (Some a) x f e c p q = (q a refl).1 (clear_next k c (q a refl).0)
