-- The words for kinds mean the kinds that document 01 names: each is a test of two numbers. Assumes nothing.
use Prim.Native.Nat.{ℕ}
use mathlib.Core.Path.{◌≡◌, refl}
use mathlib.Core.Bool.{Bool, true, false, ◌||◌, false≢true}
use mathlib.Core.Logic.{◌↔◌, ◌⊎◌, inl, inr}
use borrow.Author.Tests.{eqb-true, eq-eqb}
use lib.Dec.{eqb}
use Rattle.packet.specs.Packet.{is_read_response_or_write_request, is_xdomain}
use Rattle.questions.specs.Described.{is_read, is_write}
use Rattle.meaning.specs.Meaning.{Kinds}

-- one of two numbers
either : (k a c : ℕ) → ((eqb k a || eqb k c) ≡ true) ↔ ((k ≡ a) ⊎ (k ≡ c))
either k a c = (λ h. there (eqb k a) refl (eqb k c) refl h, back)
  where
    there : (x : Bool) → eqb k a ≡ x → (y : Bool) → eqb k c ≡ y → (x || y) ≡ true → (k ≡ a) ⊎ (k ≡ c)
    there true e y f h = inl (eqb-true k a e)
    there false e true f h = inr (eqb-true k c f)
    there false e false f h = absurd (false≢true h)

    or_true : (x : Bool) → (x || true) ≡ true
    or_true true = refl
    or_true false = refl

    back : (k ≡ a) ⊎ (k ≡ c) → (eqb k a || eqb k c) ≡ true
    back (inl e) = rw (eq-eqb k a e)
    back (inr e) = rw (eq-eqb k c e) (or_true (eqb k a))

pub kinds : (k : ℕ) → Kinds k
unfolding is_read is_write is_xdomain is_read_response_or_write_request
kinds k = record { reads = either k 1 2; writes = either k 3 4; goes_on = either k 8 9; viewed = either k 2 3 }
