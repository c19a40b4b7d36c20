-- Every stream has units, since one byte more ends the open unit or leaves it open; and a call on a part that has a byte takes one. Assumes nothing.
use Prim.Native.Nat.{ℕ, ◌+◌, ◌≤◌, ◌<◌}
use mathlib.Core.Path.{◌≡◌, refl, sym, ap, subst, ◌∙◌}
use mathlib.Core.Bool.{Bool, true, false}
use mathlib.Core.List.{List, [], ◌∷◌, ◌++◌, append_assoc, append-nil}
use native.Mathlib.Omega.{arith}
use lib.Dec.{eqb}
use lib.ListN.{length, get_or, length-append, get_or-append}
use lib.Seq.{get_or_at}
use borrow.Author.Tests.{eqb-true, eqb-false}
use Rattle.text.proofs.Places.{clash, by_order}
use Rattle.units.specs.declared.Framing.{Framing}
use Rattle.units.specs.declared.Fed as F
use Rattle.units.specs.Units.{is_record, stated, Bare, Whole, Open, Units, Rest, Sofar, closing}
use Rattle.units.specs.Feeding.{between, Answered, FedOn}
use Rattle.units.proofs.Firsts.{record_append, states_three, stated_append}
use Rattle.units.proofs.Streams.{rest_left, goes_on, ends_one, at_end, never_whole}
use Rattle.units.proofs.WhatIsKept.{between_none}
use Rattle.units.proofs.LinesOn.{bare_rest}

data Grown (f : Framing) (w : List ℕ) : Type 0 where
  whole : Whole f w → Grown f w
  left : Open f w → Grown f w

-- one byte more ends the unit or leaves it open
module _ (f : Framing) (u : List ℕ) (b : ℕ) (r : Rest f u) where
  w_length : length (u ++ (b ∷ [])) ≡ length u + 1
  w_length = length-append u (b ∷ [])

  -- what is open is of the kind that it will be
  u_kind : (k : Bool) → is_record f (u ++ (b ∷ [])) ≡ k → 0 < length u → is_record f u ≡ k
  u_kind k t s = sym (record_append f u (b ∷ []) s) ∙ t

  grown_record : is_record f (u ++ (b ∷ [])) ≡ true → Grown f (u ++ (b ∷ []))
  grown_record t =
      by_order (length (u ++ (b ∷ []))) (stated (u ++ (b ∷ []))) (λ h. Grown.left (Open.a_record t h)) (λ h. Grown.whole (Whole.a_record t h)) (λ h. absurd (over r h))
    where
      short : length u < 3 → stated (u ++ (b ∷ [])) < length (u ++ (b ∷ [])) → ⊥
      short l h = omega (arith, l, h, w_length, states_three (u ++ (b ∷ [])))

      long : length u < stated u → 3 ≤ length u → stated (u ++ (b ∷ [])) < length (u ++ (b ∷ [])) → ⊥
      long q l h = omega (arith, q, h, w_length, stated_append u (b ∷ []) l)

      over : Rest f u → stated (u ++ (b ∷ [])) < length (u ++ (b ∷ [])) → ⊥
      over (Rest.none e) h = short (omega (arith, ap length e)) h
      over (Rest.some (Open.line n s x)) h = clash (u_kind true t s) n
      over (Rest.some (Open.a_record n q)) h = by_order (length u) 3 (λ l. short l h) (λ l. long q (omega (arith, l)) h) (λ l. long q (omega (arith, l)) h)

  bare_u : is_record f (u ++ (b ∷ [])) ≡ false → Bare u (length u)
  bare_u t k h z = bare_rest f u (u_kind false t (omega (arith, h))) r k h z

  bare_front : is_record f (u ++ (b ∷ [])) ≡ false → Bare (u ++ (b ∷ [])) (length u)
  bare_front t k h z = bare_u t k h (sym (get_or-append u (b ∷ []) 0 k h) ∙ z)

  last_is : get_or (u ++ (b ∷ [])) (length u) 0 ≡ b
  last_is = get_or_at u b [] 0 (length u) refl

  grown_line : is_record f (u ++ (b ∷ [])) ≡ false → Grown f (u ++ (b ∷ []))
  grown_line t = go (eqb b 10) refl
    where
      go : (q : Bool) → eqb b 10 ≡ q → Grown f (u ++ (b ∷ []))
      go true e = Grown.whole (Whole.line (length u) t w_length (bare_front t) (last_is ∙ eqb-true b 10 e))
      go false e = Grown.left (Open.line t (omega (arith, w_length)) (λ k h z. by_order k (length u) (λ l. bare_front t k l z) (λ l. eqb-false b 10 e (sym last_is ∙ ap (λ (n : ℕ). get_or (u ++ (b ∷ [])) n 0) (sym l) ∙ z)) (λ l. omega (arith, l, h, w_length))))

  grown : Grown f (u ++ (b ∷ []))
  grown = go (is_record f (u ++ (b ∷ []))) refl
    where
      go : (q : Bool) → is_record f (u ++ (b ∷ [])) ≡ q → Grown f (u ++ (b ∷ []))
      go true e = grown_record e
      go false e = grown_line e

module _ (f : Framing) where
  -- a stream that has come so far comes further
  pub more_sofar : (s i u : List ℕ) (us : List (List ℕ)) → Sofar f i us u → (vs : List (List ℕ)) × ((v : List ℕ) × Sofar f (i ++ s) vs v)
  more_sofar [] i u us so = (us, (u, subst (λ (l : List ℕ). Sofar f l us u) (sym (append-nil i)) so))
  more_sofar (b ∷ s) i u us so = go (grown f u b (rest_left f so)) (more_sofar s)
    where
      again : (vs : List (List ℕ)) × ((v : List ℕ) × Sofar f ((i ++ (b ∷ [])) ++ s) vs v) → (vs : List (List ℕ)) × ((v : List ℕ) × Sofar f (i ++ (b ∷ s)) vs v)
      again x = (x.0, (x.1.0, subst (λ (l : List ℕ). Sofar f l x.0 x.1.0) (append_assoc i (b ∷ []) s) x.1.1))

      go : Grown f (u ++ (b ∷ [])) → ((i u : List ℕ) (us : List (List ℕ)) → Sofar f i us u → (vs : List (List ℕ)) × ((v : List ℕ) × Sofar f (i ++ s) vs v)) → (vs : List (List ℕ)) × ((v : List ℕ) × Sofar f (i ++ (b ∷ s)) vs v)
      go (Grown.whole w) more = again (more _ _ _ (ends_one f (b ∷ []) so w))
      go (Grown.left o) more = again (more _ _ _ (goes_on f (b ∷ []) so (Rest.some o)))

  pub has_sofar : (s : List ℕ) → (us : List (List ℕ)) × ((u : List ℕ) × Sofar f s us u)
  has_sofar s = more_sofar s [] [] [] (Sofar.begun [] (Rest.none refl))

  -- EVERY STREAM HAS UNITS
  pub has_units : (s : List ℕ) → (us : List (List ℕ)) × Units f s us
  has_units s = let x = has_sofar s in (x.0 ++ closing x.1.0, at_end f x.1.1)

  -- a call that ends a unit takes a byte
  pub moves : (u s : List ℕ) (from at : ℕ) → Rest f u → from ≤ at → Whole f (u ++ between s from at) → from < at
  moves u s from at r up w =
      by_order from at (λ h. h) (λ h. absurd (never_whole f u r (subst (Whole f) (ap (λ (n : ℕ). u ++ between s from n) (sym h) ∙ ap (λ (l : List ℕ). u ++ l) (between_none s from) ∙ append-nil u) w))) (λ h. absurd (omega (arith, h, up)))

  -- A CALL ON A PART THAT HAS A BYTE TAKES ONE
  pub takes_a_byte : {u s rest exit : List ℕ} {from : ℕ} {r : F.Fed} → Rest f u → from < length s → FedOn f u s from rest exit r → from < r.at
  takes_a_byte {u} {s} {rest} {exit} {from} {r} o h x = go x.answered
    where
      go : Answered f (u ++ between s from r.at) s r → from < r.at
      go (Answered.wants q e) = let n : r.at ≡ length s = ap (λ (y : F.Fed). y.at) e in omega (arith, n, h)
      go (Answered.ends w e) = moves u s from r.at o x.up w
