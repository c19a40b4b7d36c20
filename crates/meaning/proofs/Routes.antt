-- The questions that no description answers: the route and its top bit are the dwords' own, reads, writes and inter-domain packets are the kind's.
-- Assumes nothing.
use Prim.Native.Nat.{ℕ, ◌+◌, ◌*◌, ◌^◌, ◌<◌}
use mathlib.Core.Path.{◌≡◌, refl, sym, ap, ap₂, ◌∙◌}
use mathlib.Core.Bool.{Bool}
use mathlib.Core.List.{List, [], ◌∷◌}
use native.Mathlib.Omega.{arith}
use lib.Dec.{eqb}
use lib.ListN.{length}
use Rattle.bits.specs.Range.{bit}
use Rattle.tlv.specs.Number.{Bytes}
use Rattle.text.specs.Told.{Told, is, absent, refused}
use Rattle.questions.specs.Described.{route_in, top_bit}
use Rattle.questions.specs.Questions.{route_of, cm_of, read_of, write_of, xdomain_of}
use Rattle.meaning.specs.Questions.{RouteIs, Route, Cm, Read, Write, Xdomain, Question}
use Rattle.meaning.proofs.Asking.{Sole, asks_exactly, one_question}

-- ---- the route

route_says : (ds : List ℕ) → Route ds (route_in ds)
route_says [] = (refl, omega arith)
route_says (a ∷ []) = (refl, omega arith)
route_says (a ∷ c ∷ ds) = record { high = a; low = c; behind = ds; dwords = refl; value_is = refl }

one_route_is : (ds : List ℕ) (v w : ℕ) → RouteIs ds v → RouteIs ds w → v ≡ w
one_route_is ds v w f g =
    let same : f.high ∷ f.low ∷ f.behind ≡ g.high ∷ g.low ∷ g.behind = sym f.dwords ∙ g.dwords in
    let high : f.high ≡ g.high = cc in
    let low : f.low ≡ g.low = cc in
    f.value_is ∙ ap₂ (λ (a c : ℕ). a * 2 ^ 32 + c) high low ∙ sym g.value_is

too_short : (ds : List ℕ) {v : ℕ} → RouteIs ds v → length ds < 2 → ⊥
too_short ds f h = absurd (omega (arith, h, ap length f.dwords))

one_route : (ds : List ℕ) → Sole (Route ds)
one_route ds (is v) (is w) f g = ap is (one_route_is ds v w f g)
one_route ds (is v) (refused n) f g = absurd (too_short ds f g.1)
one_route ds (refused n) (is w) f g = absurd (too_short ds g f.1)
one_route ds (refused n) (refused m) f g = ap refused (f.0 ∙ sym g.0)
one_route ds absent c f g = absurd f
one_route ds (is v) absent f g = absurd g
one_route ds (refused n) absent f g = absurd g

-- ---- its top bit

cm_says : (ds : List ℕ) → Cm ds (top_bit (route_in ds))
cm_says [] = (refl, omega arith)
cm_says (a ∷ []) = (refl, omega arith)
cm_says (a ∷ c ∷ ds) = (_, record { high = a; low = c; behind = ds; dwords = refl; value_is = refl }, refl)

one_cm : (ds : List ℕ) → Sole (Cm ds)
one_cm ds (is v) (is w) f g =
    ap is (f.2 ∙ ap (λ (n : ℕ). eqb (bit 63 n) 1) (one_route_is ds f.0 g.0 f.1 g.1) ∙ sym g.2)
one_cm ds (is v) (refused n) f g = absurd (too_short ds f.1 g.1)
one_cm ds (refused n) (is w) f g = absurd (too_short ds g.1 f.1)
one_cm ds (refused n) (refused m) f g = ap refused (f.0 ∙ sym g.0)
one_cm ds absent c f g = absurd f
one_cm ds (is v) absent f g = absurd g
one_cm ds (refused n) absent f g = absurd g

-- ---- the questions

module _ (k : ℕ) (s : List ℕ) (s-bytes : Bytes s) (ds : List ℕ) where
  pub route_is : Question k s ds (λ ts os u n. Route ds) (route_of k s ds)
  unfolding route_of
  route_is = asks_exactly k s s-bytes ds (λ ts os u n. Route ds) _ (λ b os a p few clear. route_says ds)

  pub route_only : (r : Told ℕ) → Question k s ds (λ ts os u n. Route ds) r → r ≡ route_of k s ds
  route_only r q = one_question k s ds (λ ts os u n. Route ds) (λ b os u n. one_route ds) r (route_of k s ds) q route_is

  pub cm_is : Question k s ds (λ ts os u n. Cm ds) (cm_of k s ds)
  unfolding cm_of
  cm_is = asks_exactly k s s-bytes ds (λ ts os u n. Cm ds) _ (λ b os a p few clear. cm_says ds)

  pub cm_only : (r : Told Bool) → Question k s ds (λ ts os u n. Cm ds) r → r ≡ cm_of k s ds
  cm_only r q = one_question k s ds (λ ts os u n. Cm ds) (λ b os u n. one_cm ds) r (cm_of k s ds) q cm_is

  pub read_is : Question k s ds (λ ts os u n. Read k) (read_of k s ds)
  unfolding read_of
  read_is = asks_exactly k s s-bytes ds (λ ts os u n. Read k) _ (λ b os a p few clear. refl)

  pub read_only : (r : Told Bool) → Question k s ds (λ ts os u n. Read k) r → r ≡ read_of k s ds
  read_only r q = one_question k s ds (λ ts os u n. Read k) (λ b os u n x y f g. f ∙ sym g) r (read_of k s ds) q read_is

  pub write_is : Question k s ds (λ ts os u n. Write k) (write_of k s ds)
  unfolding write_of
  write_is = asks_exactly k s s-bytes ds (λ ts os u n. Write k) _ (λ b os a p few clear. refl)

  pub write_only : (r : Told Bool) → Question k s ds (λ ts os u n. Write k) r → r ≡ write_of k s ds
  write_only r q = one_question k s ds (λ ts os u n. Write k) (λ b os u n x y f g. f ∙ sym g) r (write_of k s ds) q write_is

  pub xdomain_is : Question k s ds (λ ts os u n. Xdomain k) (xdomain_of k s ds)
  unfolding xdomain_of
  xdomain_is = asks_exactly k s s-bytes ds (λ ts os u n. Xdomain k) _ (λ b os a p few clear. refl)

  pub xdomain_only : (r : Told Bool) → Question k s ds (λ ts os u n. Xdomain k) r → r ≡ xdomain_of k s ds
  xdomain_only r q = one_question k s ds (λ ts os u n. Xdomain k) (λ b os u n x y f g. f ∙ sym g) r (xdomain_of k s ds) q xdomain_is
