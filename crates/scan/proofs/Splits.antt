-- The split: the last colon has one place, and what is left on its sides is stripped to one header and one payload. Assumes nothing.
use Rattle.std.specs.Prelude.{Some}
use Prim.Native.Nat.{ℕ, suc, ◌+◌, ◌-◌, ◌≤◌}
use mathlib.Core.Path.{◌≡◌, refl, sym, ap, ◌∙◌}
use mathlib.Core.List.{List, [], ◌∷◌, ◌++◌}
use native.Mathlib.Numerals.{add-one}
use native.Mathlib.Omega.{arith}
use lib.ListN.{length, get_or, take, drop, length-append, length-drop}
use lib.Seq.{split_at, get_or-drop, get_or-append_seam, get_or-append-add, take_at}
use borrow.Author.Tests.{eq-eqb, ne_eqb, eqb-true}
use Rattle.text.specs.Place.{Last, last_byte, is_at}
use Rattle.text.specs.Run.{stripped}
use Rattle.text.proofs.Places.{clash, last_is, last_all}
use Rattle.text.proofs.Stripping.{strip_is, strip_all}
use Rattle.scan.specs.Frame.{Split}

-- header and payload behind the last colon are a split
pub split_is : (t : List ℕ) {k : ℕ} → last_byte 58 t ≡ Some k → Split t (stripped (take k t)) (stripped (drop (k + 1) t))
unfolding last_byte
split_is t {k} e =
    let r : Last (is_at 58 t) (length t) k = last_is (is_at 58 t) e in
    let here : get_or t k 0 ≡ 58 = eqb-true _ _ r.here in
    record {
      before = take k t;
      after = drop (k + 1) t;
      whole = rw add-one (split_at t k 0 r.within ∙ rw here);
      last = λ j h c. clash (eq-eqb (get_or t (k + 1 + j) 0) 58 (sym (get_or-drop (k + 1) t j 0) ∙ c)) (r.after (k + 1 + j) (omega arith) (omega (arith, length-drop (k + 1) t)));
      header_stripped = strip_is (take k t);
      payload_stripped = strip_is (drop (k + 1) t);
    }

-- the place of a split's colon
module _ (t h p : List ℕ) (s : Split t h p) where
  size : length t ≡ length s.before + suc (length s.after)
  size = ap length s.whole ∙ length-append s.before (58 ∷ s.after)

  pub split_colon : last_byte 58 t ≡ Some (length s.before)
  unfolding last_byte
  split_colon =
      last_all (is_at 58 t) (length t)
      (record {
        within = omega (arith, size);
        here = eq-eqb (get_or t (length s.before) 0) 58 colon-byte;
        after = λ j a b. ne_eqb _ _ (λ c. s.last (j - suc (length s.before)) (omega (arith, size)) (behind j a c));
      })
    where
      colon-byte : get_or t (length s.before) 0 ≡ 58
      colon-byte = rw s.whole (get_or-append_seam s.before 58 s.after 0)

      behind : (j : ℕ) → suc (length s.before) ≤ j → get_or t j 0 ≡ 58 → get_or s.after (j - suc (length s.before)) 0 ≡ 58
      behind j a c =
          let n : length s.before + suc (j - suc (length s.before)) ≡ j = omega arith in
          sym (get_or-append-add s.before (58 ∷ s.after) (suc (j - suc (length s.before))) 0) ∙ rw (← s.whole, n) c

  pub split_header : stripped (take (length s.before) t) ≡ h
  split_header =
      ap (λ (l : List ℕ). stripped (take (length s.before) l)) s.whole
      ∙ ap stripped (take_at s.before (58 ∷ s.after) (length s.before) refl)
      ∙ strip_all s.before s.header_stripped

  pub split_payload : stripped (drop (length s.before + 1) t) ≡ p
  split_payload =
      ap stripped (rw (add-one, s.whole) (drop-behind s.before s.after))
      ∙ strip_all s.after s.payload_stripped
    where
      drop-behind : (a b : List ℕ) → drop (suc (length a)) (a ++ (58 ∷ b)) ≡ b
      drop-behind [] b = refl
      drop-behind (x ∷ a) b = drop-behind a b

-- so there is one
module _ (t : List ℕ) {k : ℕ} (colon : last_byte 58 t ≡ Some k) {h p : List ℕ} (s : Split t h p) where
  pub one_header : h ≡ stripped (take k t)
  one_header =
      let e = split_colon t h p s in
      let q : length s.before ≡ k = cc in
      sym (split_header t h p s) ∙ ap (λ (j : ℕ). stripped (take j t)) q

  pub one_payload : p ≡ stripped (drop (k + 1) t)
  one_payload =
      let e = split_colon t h p s in
      let q : length s.before ≡ k = cc in
      sym (split_payload t h p s) ∙ ap (λ (j : ℕ). stripped (drop (j + 1) t)) q
