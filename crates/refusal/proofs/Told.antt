-- Document 01's numbers tell the refusals apart, so what an answer tells fixes the answer. Assumes nothing.
use Rattle.std.specs.Prelude.{ℕ, ◌≡◌, cond, eqb, Err, None, Ok, Option, Result, Some}
use Rattle.std.specs.Result.{IsErrAnd}
use mathlib.Core.Path.{refl, sym, ap, ◌∙◌}
use native.Mathlib.Omega.{arith}
use Rattle.text.specs.Told.{Told}
use Rattle.text.proofs.Told.{by_cases, fixed_by_told}
use Rattle.refusal.specs.declared.Refusal.{Refusal}
use Rattle.refusal.specs.declared.Refusal.TheVariants as R
use Rattle.refusal.specs.Number.{number_of}
use Rattle.refusal.specs.Told.{told, told_maybe}

-- the refusal of a number; of a number that is none's, the first
refusal_of : ℕ → Refusal
refusal_of k =
    cond (eqb k 2) R.LongLine (
    cond (eqb k 3) R.NotAscii (
    cond (eqb k 4) R.NoColon (
    cond (eqb k 5) R.NoTask (
    cond (eqb k 6) R.NoPid (
    cond (eqb k 7) R.NoCpu (
    cond (eqb k 8) R.NoTimestamp (
    cond (eqb k 9) R.NoFunction (
    cond (eqb k 11) R.NoType (
    cond (eqb k 12) R.NoSize (
    cond (eqb k 13) R.NoDomain (
    cond (eqb k 14) R.NoRoute (
    cond (eqb k 15) R.NoData (
    cond (eqb k 16) R.ManyDwords (
    cond (eqb k 17) R.FewSlots (
    cond (eqb k 18) R.BadPiece (
    cond (eqb k 20) R.BadBook (
    cond (eqb k 21) R.NoKind (
    cond (eqb k 22) R.NoTable (
    cond (eqb k 23) R.NoHeaderTable (
    cond (eqb k 24) R.LongPacket (
    cond (eqb k 25) R.ShortPacket (
    cond (eqb k 26) R.FewPlaces (
    cond (eqb k 27) R.NoPacketRoute (
    cond (eqb k 28) R.UnnamedType (
    cond (eqb k 30) R.NoRecord (
    cond (eqb k 31) R.Overrun (
    cond (eqb k 32) R.BadTag (
    cond (eqb k 33) R.MissingTag (
    cond (eqb k 34) R.BadBody (
    cond (eqb k 35) R.FewRecordSlots (
    cond (eqb k 36) R.ShortBuffer (
    cond (eqb k 37) R.BadEntry (
    cond (eqb k 50) R.TableSize (
    cond (eqb k 51) R.BrokenTable (
    cond (eqb k 53) R.NoStream (
    cond (eqb k 54) R.CutRecord (
    cond (eqb k 55) R.LongRecord (
    R.Idle))))))))))))))))))))))))))))))))))))))

back : (e : Refusal) → refusal_of (number_of e) ≡ e
unfolding refusal_of
back R.Idle = refl
back R.LongLine = refl
back R.NotAscii = refl
back R.NoColon = refl
back R.NoTask = refl
back R.NoPid = refl
back R.NoCpu = refl
back R.NoTimestamp = refl
back R.NoFunction = refl
back R.NoType = refl
back R.NoSize = refl
back R.NoDomain = refl
back R.NoRoute = refl
back R.NoData = refl
back R.ManyDwords = refl
back R.FewSlots = refl
back R.BadPiece = refl
back R.BadBook = refl
back R.NoKind = refl
back R.NoTable = refl
back R.NoHeaderTable = refl
back R.LongPacket = refl
back R.ShortPacket = refl
back R.FewPlaces = refl
back R.NoPacketRoute = refl
back R.UnnamedType = refl
back R.NoRecord = refl
back R.Overrun = refl
back R.BadTag = refl
back R.MissingTag = refl
back R.BadBody = refl
back R.FewRecordSlots = refl
back R.ShortBuffer = refl
back R.BadEntry = refl
back R.TableSize = refl
back R.BrokenTable = refl
back R.NoStream = refl
back R.CutRecord = refl
back R.LongRecord = refl

-- no two refusals have one number
pub one_number : (a b : Refusal) → number_of a ≡ number_of b → a ≡ b
one_number a b e = sym (back a) ∙ ap refusal_of e ∙ back b

-- what an answer tells fixes it
pub one_told : {A : Type 0} (a b : Result A Refusal) → told a ≡ told b → a ≡ b
one_told = fixed_by_told told (by_cases Ok (Err R.Idle) (λ k. Err (refusal_of k))) same
  where
    same : {A : Type 0} (a : Result A Refusal) → by_cases Ok (Err R.Idle) (λ k. Err (refusal_of k)) (told a) ≡ a
    same (Ok a) = refl
    same (Err e) = ap Err (back e)

-- the same where "none" is an answer too
pub one_told_maybe : {A : Type 0} (a b : Result (Option A) Refusal) → told_maybe a ≡ told_maybe b → a ≡ b
one_told_maybe = fixed_by_told told_maybe (by_cases (λ a. Ok (Some a)) (Ok None) (λ k. Err (refusal_of k))) same
  where
    same : {A : Type 0} (a : Result (Option A) Refusal)
        → by_cases (λ a. Ok (Some a)) (Ok None) (λ k. Err (refusal_of k)) (told_maybe a) ≡ a
    same (Ok (Some a)) = refl
    same (Ok None) = refl
    same (Err e) = ap Err (back e)

-- no refusal has the number that stands for none
pub number_some : (e : Refusal) → number_of e ≡ 0 → ⊥
unfolding refusal_of
number_some e z =
    let first : e ≡ R.Idle = sym (back e) ∙ ap refusal_of z in
    let one : 1 ≡ 0 = sym (ap number_of first) ∙ z in
    omega (arith, one)

-- what a `?` passes on is the refusal that it met
pub passed_on : {T E : Type 0} (r : Result T E) {e : E} → IsErrAnd r (λ y. y ≡ e) → r ≡ Err e
passed_on (Ok a) is = absurd is
passed_on (Err y) is = ap Err is
