-- A record's first three bytes: what is put is kept, and the body goes on behind it. Assumes nothing.
use Prim.Native.Nat.{ℕ, min, ◌+◌, ◌-◌, ◌≤◌, ◌<◌}
use mathlib.Core.Path.{◌≡◌, refl, sym, ap, subst, ◌∙◌}
use mathlib.Core.Bool.{true}
use mathlib.Core.List.{List, ◌++◌, append_assoc}
use native.Mathlib.Omega.{arith}
use lib.ListN.{length, get_or, take, drop, length-append, length-drop}
use lib.Seq.{get_or-take, length-take-le, take-append-add}
use Rattle.text.proofs.Places.{clash, stands_within}
use Rattle.print.specs.Put.{Placed}
use Rattle.units.specs.declared.Framing.{Framing}
use Rattle.units.specs.declared.Fed as F
use Rattle.units.specs.Units.{marked, is_record, Open, Rest}
use Rattle.units.specs.Kept.{kept_text, kept_count, stood, Keeps}
use Rattle.units.specs.Feeding.{between, wants_at, Answered, FedOn, Ready, BodyFed, first_of}
use Rattle.units.proofs.Firsts.{none_marked, states_three}
use Rattle.units.proofs.WhatIsKept.{kept_few, kept_all, kept_three, stood_then, stood_keeps, length_between, between_then, Added, placed_added, added_stands}

-- a call that goes on behind another
pub fed_then : (f : Framing) (u s : List ℕ) (a b : ℕ) (rest mid exit : List ℕ) (r : F.Fed) → a ≤ b → length (u ++ between s a b) ≡ 3 → length (kept_text f (u ++ between s a b)) ≤ 3 → mid ≡ stood f (u ++ between s a b) rest → FedOn f (u ++ between s a b) s b mid exit r → FedOn f u s a rest exit r
fed_then f u s a b rest mid exit r h n few e x = record {
  up = omega (arith, x.up);
  within = x.within;
  buffer = x.buffer ∙ ap (stood f ((u ++ between s a b) ++ between s b r.at)) e ∙ stood_then f (u ++ between s a b) ((u ++ between s a b) ++ between s b r.at) rest longer ∙ ap (λ (l : List ℕ). stood f l rest) whole;
  answered = subst (λ (l : List ℕ). Answered f l s r) whole x.answered;
}
  where
    whole : (u ++ between s a b) ++ between s b r.at ≡ u ++ between s a r.at
    whole = append_assoc u (between s a b) (between s b r.at) ∙ ap (λ (l : List ℕ). u ++ l) (sym (between_then s a b r.at h x.up))

    longer : length (kept_text f (u ++ between s a b)) ≤ length (kept_text f ((u ++ between s a b) ++ between s b r.at))
    longer =
        let three = kept_three f ((u ++ between s a b) ++ between s b r.at) (omega (arith, length-append (u ++ between s a b) (between s b r.at), n)) in
        omega (arith, few, three)

module _ (f : Framing) (s : List ℕ) (from : ℕ) (near : from ≤ length s) (rest : List ℕ) (held : ℕ) (size : length rest ≡ 8192) (few : held < 3) (t : marked f (first_of s from rest held) ≡ true) (more : ℕ) (m : more ≡ min (length s - from) (3 - held)) (exit : List ℕ) (now : ℕ) (p : Placed rest held (take (from + more - from) (drop from s)) exit now) where
  abbrev w : List ℕ
  w = take held rest ++ between s from (from + more)

  held_is : length (take held rest) ≡ held
  held_is = length-take-le held rest (omega (arith, size, few))

  part_is : length (between s from (from + more)) ≡ more
  part_is = length_between s from (from + more) (omega (arith, m, near)) ∙ omega arith

  added : Added rest held (between s from (from + more)) exit now
  unfolding between
  added = placed_added rest held (take (from + more - from) (drop from s)) exit now (omega (arith, part_is, m, size, few)) p

  now_is : now ≡ held + more
  now_is = added.count ∙ ap (λ (n : ℕ). held + n) part_is

  w_length : length w ≡ now
  w_length = omega (arith, length-append (take held rest) (between s from (from + more)), held_is, added.count)

  w_front : w ≡ take (held + more) (take held rest ++ drop from s)
  unfolding between
  w_front =
      let e : from + more - from ≡ more = omega arith in
      ap (λ (n : ℕ). take held rest ++ take n (drop from s)) e
      ∙ sym (take-append-add (take held rest) (drop from s) more)
      ∙ ap (λ (n : ℕ). take (n + more) (take held rest ++ drop from s)) held_is

  some : 0 < held + more
  unfolding first_of
  some =
      let a : 0 < length (take held rest ++ drop from s) = stands_within (take held rest ++ drop from s) 0 (λ e. clash t (ap (marked f) e ∙ none_marked f)) in
      omega (arith, a, length-append (take held rest) (drop from s), length-drop from s, held_is, m, near, few)

  w_record : is_record f w ≡ true
  unfolding first_of
  w_record = ap (marked f) (ap (λ (l : List ℕ). get_or l 0 0) w_front ∙ get_or-take (held + more) (take held rest ++ drop from s) 0 0 some) ∙ t

  w_all : (kept_text f w ≡ w) × (kept_count f w ≡ 0)
  w_all = kept_all f w (omega (arith, w_length, now_is, m, few))

  w_stands : (exit ≡ stood f w rest) × (now ≡ length (kept_text f w))
  w_stands = added_stands f w added (sym w_all.0)

  w_kept : Keeps f w exit now 0
  w_kept =
      let k = stood_keeps f w rest size (omega (arith, w_stands.1, now_is, m, few)) in
      subst (λ (l : List ℕ). Keeps f w l now 0) (sym w_stands.0) (subst (λ (n : ℕ). Keeps f w (stood f w rest) n 0) (sym w_stands.1) (subst (Keeps f w (stood f w rest) (length (kept_text f w))) w_all.1 k))

  pub head_ready : 3 ≤ now → Ready f exit now 0
  head_ready h =
      let n : now ≡ 3 = omega (arith, now_is, m, few, h) in
      record {
        size = w_kept.size;
        three = h;
        room = omega (arith, n);
        first = ap (marked f) (sym (get_or-take now exit 0 0 (omega (arith, h))) ∙ ap (λ (l : List ℕ). get_or l 0 0) (w_kept.text_is ∙ w_all.0)) ∙ w_record;
        below = omega (arith, n, states_three exit);
        long = λ q. n;
        short = λ q. refl;
      }

  module _ (u : List ℕ) (k : Keeps f u rest held 0) where
    u_is : take held rest ≡ u
    u_is = k.text_is ∙ kept_few f u (let e : length (kept_text f u) ≡ held = ap length (sym k.text_is) ∙ held_is in omega (arith, e, few))

    pub head_open : now < 3 → {r : F.Fed} → r ≡ wants_at (from + more) now 0 → FedOn f u s from rest exit r
    head_open h e = rw e (subst (λ (l : List ℕ). FedOn f l s from rest exit (wants_at (from + more) now 0)) u_is here)
      where
        here : FedOn f (take held rest) s from rest exit (wants_at (from + more) now 0)
        here =
            let at : from + more ≡ length s = omega (arith, m, near, h, now_is) in
            record {
              up = omega arith;
              within = omega (arith, m, near);
              buffer = w_stands.0;
              answered =
                  Answered.wants (Rest.some (Open.a_record w_record (omega (arith, w_length, states_three w, h))))
                  (ap (λ (n : ℕ). wants_at n now 0) at ∙ ap (λ (n : ℕ). wants_at (length s) n 0) w_stands.1 ∙ ap (wants_at (length s) (length (kept_text f w))) (sym w_all.1));
            }

    pub head_body : 3 ≤ now → (out : List ℕ) (r : F.Fed) → BodyFed f s (from + more) exit now 0 out r → FedOn f u s from rest out r
    head_body h out r x =
        let n : now ≡ 3 = omega (arith, now_is, m, few, h) in
        subst (λ (l : List ℕ). FedOn f l s from rest out r) u_is
        (fed_then f (take held rest) s from (from + more) rest exit out r (omega arith) (w_length ∙ n) (omega (arith, w_stands.1, n)) w_stands.0 (x w w_kept))
