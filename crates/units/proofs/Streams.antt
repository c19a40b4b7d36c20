-- A stream has one list of units: what a unit begins with is open and never whole, so two readings cut at the same places. Assumes nothing.
use Prim.Native.Nat.{ℕ, ◌+◌, ◌≤◌, ◌<◌}
use mathlib.Core.Path.{◌≡◌, refl, sym, ap, subst, ◌∙◌}
use mathlib.Core.Bool.{true, false}
use mathlib.Core.List.{List, [], ◌∷◌, ◌++◌, append_assoc, append-nil}
use native.Mathlib.Omega.{arith}
use lib.ListN.{length, take, drop, length-append}
use lib.Seq.{take_at, drop_at, take-append-le, get_or-take, length-take-le}
use Rattle.text.proofs.Places.{clash, by_order}
use Rattle.units.specs.declared.Framing.{Framing}
use Rattle.units.specs.Units.{is_record, stated, Bare, Whole, Open, Units, Rest, Sofar, closing}
use Rattle.units.proofs.Firsts.{record_some, record_take, states_three, stated_take}

module _ (f : Framing) where
  -- a record's front of fewer bytes than it says
  record_front : (k : ℕ) (u : List ℕ) → 0 < k → k ≤ length u → k < stated u → is_record f u ≡ true → Open f (take k u)
  record_front k u p h l t =
      Open.a_record (record_take f k u p ∙ t) (by_order k 3 short (λ e. long (omega arith)) (λ e. long (omega arith)))
    where
      n : length (take k u) ≡ k
      n = length-take-le k u h

      short : k < 3 → length (take k u) < stated (take k u)
      short q = omega (arith, n, states_three (take k u))

      long : 3 ≤ k → length (take k u) < stated (take k u)
      long q = omega (arith, n, stated_take k u q)

  line_front : (k : ℕ) (u : List ℕ) → 0 < k → k ≤ length u → Bare u k → is_record f u ≡ false → Open f (take k u)
  line_front k u p h b t =
      let n : length (take k u) ≡ k = length-take-le k u h in
      Open.line (record_take f k u p ∙ t) (omega (arith, n)) (λ j q e. b j (omega (arith, n)) (sym (get_or-take k u j 0 (omega (arith, n))) ∙ e))

  -- THE LAW OF FRONTS: what a unit began with is open, and what an open one began with is open
  pub whole_front : (k : ℕ) (u : List ℕ) → 0 < k → k < length u → Whole f u → Open f (take k u)
  whole_front k u p h (Whole.line n t e b z) = line_front k u p (omega arith) (λ j q. b j (omega arith)) t
  whole_front k u p h (Whole.a_record t e) = record_front k u p (omega arith) (omega arith) t

  pub open_front : (k : ℕ) (u : List ℕ) → 0 < k → k ≤ length u → Open f u → Open f (take k u)
  open_front k u p h (Open.line t s b) = line_front k u p h (λ j q. b j (omega arith)) t
  open_front k u p h (Open.a_record t l) = record_front k u p h (omega arith) t

  pub not_both : (u : List ℕ) → Open f u → Whole f u → ⊥
  not_both u (Open.line t s b) (Whole.line n t' e b' z) = b n (omega arith) z
  not_both u (Open.line t s b) (Whole.a_record t' e) = clash t' t
  not_both u (Open.a_record t l) (Whole.line n t' e b' z) = clash t t'
  not_both u (Open.a_record t l) (Whole.a_record t' e) = omega arith

  pub whole_some : (u : List ℕ) → Whole f u → 0 < length u
  whole_some u (Whole.line n t e b z) = omega arith
  whole_some u (Whole.a_record t e) = omega (arith, states_three u)

  pub open_some : (u : List ℕ) → Open f u → 0 < length u
  open_some u (Open.line t s b) = s
  open_some u (Open.a_record t l) = record_some f u t

  pub never_whole : (u : List ℕ) → Rest f u → Whole f u → ⊥
  never_whole u (Rest.none e) w = let n = whole_some u w in omega (arith, n, ap length e)
  never_whole u (Rest.some o) w = not_both u o w

  -- no whole unit stands before another's end
  no_shorter : (u v r q : List ℕ) → Whole f u → Whole f v → u ++ r ≡ v ++ q → length u < length v → ⊥
  no_shorter u v r q w x e h =
      let a : take (length u) v ≡ u = sym (take-append-le (length u) v q (omega arith)) ∙ ap (take (length u)) (sym e) ∙ take_at u r (length u) refl in
      not_both u (subst (Open f) a (whole_front (length u) v (whole_some u w) h x)) w

  pub no_open : (u v q : List ℕ) → Open f u → Whole f v → u ≡ v ++ q → ⊥
  no_open u v q w x e =
      let n : length u ≡ length v + length q = ap length e ∙ length-append v q in
      let a : take (length v) u ≡ v = ap (take (length v)) e ∙ take_at v q (length v) refl in
      not_both v (subst (Open f) a (open_front (length v) u (whole_some v x) (omega (arith, n)) w)) x

  same_length : (u v r q : List ℕ) → length u ≡ length v → u ++ r ≡ v ++ q → (u ≡ v) × (r ≡ q)
  same_length u v r q n e = (
    sym (take_at u r (length v) n) ∙ ap (take (length v)) e ∙ take_at v q (length v) refl,
    sym (drop_at u r (length v) n) ∙ ap (drop (length v)) e ∙ drop_at v q (length v) refl,
  )

  pub one_first_unit : (u v r q : List ℕ) → Whole f u → Whole f v → u ++ r ≡ v ++ q → (u ≡ v) × (r ≡ q)
  one_first_unit u v r q w x e =
      by_order (length u) (length v) (λ h. absurd (no_shorter u v r q w x e h)) (λ n. same_length u v r q n e) (λ h. absurd (no_shorter v u q r x w (sym e) h))

  nil_not : (u r : List ℕ) → 0 < length u → [] ≡ u ++ r → ⊥
  nil_not u r h e = let n : 0 ≡ length u + length r = ap length e ∙ length-append u r in omega (arith, n)

  -- A STREAM HAS ONE LIST OF UNITS
  pub one_units : {s t : List ℕ} {us vs : List (List ℕ)} → s ≡ t → Units f s us → Units f t vs → us ≡ vs
  one_units p Units.none Units.none = refl
  one_units p Units.none (Units.last v x) = absurd (let h = open_some v x in let n : 0 ≡ length v = ap length p in omega (arith, h, n))
  one_units p Units.none (Units.next v q x e y) = absurd (nil_not v q (whole_some v x) (p ∙ e))
  one_units p (Units.last u w) Units.none = absurd (let h = open_some u w in let n : length u ≡ 0 = ap length p in omega (arith, h, n))
  one_units p (Units.last u w) (Units.last v x) = ap (λ (l : List ℕ). l ∷ []) p
  one_units p (Units.last u w) (Units.next v q x e y) = absurd (no_open u v q w x (p ∙ e))
  one_units p (Units.next u r w z y) Units.none = absurd (nil_not u r (whole_some u w) (sym p ∙ z))
  one_units p (Units.next u r w z y) (Units.last v x) = absurd (no_open v u r x w (sym p ∙ z))
  one_units p (Units.next u r {us = us} w z y) (Units.next v q {us = vs} x e y') =
      let both = one_first_unit u v r q w x (sym z ∙ p ∙ e) in
      ap (λ (l : List ℕ). l ∷ us) both.0 ∙ ap (λ (l : List (List ℕ)). v ∷ l) (one_units both.1 y y')

  -- a stream that came so far has one list of units that have ended, and one rest
  rest_not : (u v q : List ℕ) → Rest f u → Whole f v → u ≡ v ++ q → ⊥
  rest_not u v q (Rest.none e) x h = nil_not v q (whole_some v x) (sym e ∙ h)
  rest_not u v q (Rest.some o) x h = no_open u v q o x h

  pub one_sofar : {s t u v : List ℕ} {us vs : List (List ℕ)} → s ≡ t → Sofar f s us u → Sofar f t vs v → (us ≡ vs) × (u ≡ v)
  one_sofar p (Sofar.begun u r) (Sofar.begun v q) = (refl, p)
  one_sofar p (Sofar.begun u r) (Sofar.behind v q w e more) = absurd (rest_not u v q r w (p ∙ e))
  one_sofar p (Sofar.behind u r w e more) (Sofar.begun v q) = absurd (rest_not v u r q w (sym p ∙ e))
  one_sofar p (Sofar.behind u r {us = us} w z y) (Sofar.behind v q {us = vs} x e y') =
      let both = one_first_unit u v r q w x (sym z ∙ p ∙ e) in
      let rest = one_sofar both.1 y y' in
      (ap (λ (l : List ℕ). l ∷ us) both.0 ∙ ap (λ (l : List (List ℕ)). v ∷ l) rest.0, rest.1)

  -- the end of the stream ends what is open
  closed : (u : List ℕ) → Rest f u → Units f u (closing u)
  unfolding closing
  closed u (Rest.none e) = rw e Units.none
  closed [] (Rest.some o) = Units.none
  closed (b ∷ u) (Rest.some o) = Units.last (b ∷ u) o

  pub at_end : {s u : List ℕ} {us : List (List ℕ)} → Sofar f s us u → Units f s (us ++ closing u)
  at_end (Sofar.begun u r) = closed u r
  at_end (Sofar.behind u r w e more) = Units.next u r w e (at_end more)

  pub rest_left : {s u : List ℕ} {us : List (List ℕ)} → Sofar f s us u → Rest f u
  rest_left (Sofar.begun u r) = r
  rest_left (Sofar.behind u r w e more) = rest_left more

  -- a stream that came so far, and more of it: what is open goes on
  pub sofar_then : {s u t v : List ℕ} {us vs : List (List ℕ)} (a : List ℕ) → Sofar f s us u → t ≡ u ++ a → Sofar f t vs v → Sofar f (s ++ a) (us ++ vs) v
  sofar_then {v = v} {vs = vs} a (Sofar.begun u r) e more = subst (λ (l : List ℕ). Sofar f l vs v) e more
  sofar_then a (Sofar.behind u r w z so) e more = Sofar.behind u (r ++ a) w (ap (λ (l : List ℕ). l ++ a) z ∙ append_assoc u r a) (sofar_then a so e more)

  pub goes_on : {s u : List ℕ} {us : List (List ℕ)} (a : List ℕ) → Sofar f s us u → Rest f (u ++ a) → Sofar f (s ++ a) us (u ++ a)
  goes_on a (Sofar.begun u r) q = Sofar.begun (u ++ a) q
  goes_on a (Sofar.behind u r w e more) q = Sofar.behind u (r ++ a) w (ap (λ (l : List ℕ). l ++ a) e ∙ append_assoc u r a) (goes_on a more q)

  pub ends_one : {s u : List ℕ} {us : List (List ℕ)} (a : List ℕ) → Sofar f s us u → Whole f (u ++ a) → Sofar f (s ++ a) (us ++ ((u ++ a) ∷ [])) []
  ends_one a (Sofar.begun u r) q = Sofar.behind (u ++ a) [] q (sym (append-nil (u ++ a))) (Sofar.begun [] (Rest.none refl))
  ends_one a (Sofar.behind u r w e more) q = Sofar.behind u (r ++ a) w (ap (λ (l : List ℕ). l ++ a) e ∙ append_assoc u r a) (ends_one a more q)
