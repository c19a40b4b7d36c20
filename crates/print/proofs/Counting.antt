-- Digits from the last to the first: the number's text is the text of what is left, and then the digits that stand. Assumes nothing.
use Prim.Native.Nat.{ℕ, zero, suc, ◌+◌, ◌-◌, ◌/◌, ◌%◌, ◌^◌, ◌≤◌, ◌<◌}
use mathlib.Core.Path.{◌≡◌, refl, sym, ap, ◌∙◌}
use mathlib.Core.List.{List, [], ◌∷◌, ◌++◌, append-nil, append_assoc}
use native.Mathlib.Omega.{arith}
use lib.ListN.{length, take, drop, set, replicate, length-set, drop_of_length-le}
use lib.Seq.{drop-cons, get_or-set_same, drop-set-lt, take-set-le, take-take}
use Rattle.text.specs.Decimal.{decimal_text}
use Rattle.text.proofs.Decimals.{decimal_short, decimal_long, tenth_below}
use Rattle.print.specs.Put.{Digits}

-- the digits behind place i stand, and what is left has room up to it
pub record Counted (n : ℕ) (bytes : List ℕ) (rest i : ℕ) : Type 0 where
  pub size : length bytes ≡ 20
  pub place : i < 20
  pub most : rest < 10 ^ 20
  pub room : rest < 10 ^ suc i
  pub front : take (suc i) bytes ≡ replicate (suc i) 48
  pub is : decimal_text n ≡ decimal_text rest ++ drop (suc i) bytes

drop_set : (l : List ℕ) (i a : ℕ) → i < length l → drop i (set l i a) ≡ a ∷ drop (suc i) l
drop_set l i a h =
    drop-cons (set l i a) i 0 (rw length-set h)
    ∙ rw (get_or-set_same l i a 0 h, drop-set-lt (suc i) l i a (omega arith))

-- a store behind them leaves the zeros in front
zeros_fewer : (i : ℕ) → take {A = ℕ} i (replicate (suc i) 48) ≡ replicate i 48
zeros_fewer zero = refl
zeros_fewer (suc i) = ap (λ (l : List ℕ). 48 ∷ l) (zeros_fewer i)

fewer : (bytes : List ℕ) (i b : ℕ) → take (suc i) bytes ≡ replicate (suc i) 48 → take i (set bytes i b) ≡ replicate i 48
fewer bytes i b e =
    take-set-le i bytes i b (omega arith)
    ∙ sym (take-take i (suc i) bytes (omega arith))
    ∙ ap (take i) e
    ∙ zeros_fewer i

sooner : (bytes : List ℕ) (i b j : ℕ) → j ≡ i → take (suc i) bytes ≡ replicate (suc i) 48 → take j (set bytes i b) ≡ replicate j 48
sooner bytes i b j q e = ap (λ (k : ℕ). take k (set bytes i b)) q ∙ fewer bytes i b e ∙ ap (λ (k : ℕ). replicate k 48) (sym q)

pub counted_starts : (n : ℕ) → n < 10 ^ 20 → Counted n (replicate 20 48) n 19
counted_starts n h =
    let bytes : List ℕ = replicate 20 48 in
    record {
      size = refl;
      place = omega arith;
      most = h;
      room = h;
      front = refl;
      is = sym (append-nil (decimal_text n)) ∙ ap (λ (l : List ℕ). decimal_text n ++ l) (sym (drop_of_length-le (replicate {A = ℕ} 20 48) {i = 20} (omega arith)));
    }

more_than_one : (rest i : ℕ) → 10 ≤ rest → rest < 10 ^ suc i → 0 < i
more_than_one rest zero l h = absurd (omega arith)
more_than_one rest (suc i) l h = omega arith

-- two digits or more are left: there is a place in front
pub counted_goes_on : {n rest i : ℕ} {bytes : List ℕ} → Counted n bytes rest i → 10 ≤ rest → 0 < i
counted_goes_on {n} {rest} {i} r l = more_than_one rest i l r.room

pub counted_steps : {n rest i : ℕ} {bytes : List ℕ} → Counted n bytes rest i → 10 ≤ rest → Counted n (set bytes i (48 + rest % 10)) (rest / 10) (i - 1)
counted_steps {n} {rest} {i} {bytes} r l =
    let p : 0 < i = counted_goes_on r l in
    let e : suc (i - 1) ≡ i = omega arith in
    record {
      size = length-set bytes i (48 + rest % 10) ∙ r.size;
      place = omega (arith, r.place);
      most = omega (arith, r.most);
      room = rw e (tenth_below i rest r.room);
      front = sooner bytes i (48 + rest % 10) (suc (i - 1)) e r.front;
      is =
          r.is
          ∙ rw (decimal_long rest l r.most, e, drop_set bytes i (48 + rest % 10) (omega (arith, r.size, r.place)))
          (append_assoc (decimal_text (rest / 10)) ((48 + rest % 10) ∷ []) (drop (suc i) bytes));
    }

pub counted_ends : {n rest i : ℕ} {bytes : List ℕ} → Counted n bytes rest i → rest < 10 → Digits n (set bytes i (48 + rest)) i
counted_ends {n} {rest} {i} {bytes} r l =
    record {
      size = length-set bytes i (48 + rest) ∙ r.size;
      within = r.place;
      front = fewer bytes i (48 + rest) r.front;
      is = drop_set bytes i (48 + rest) (omega (arith, r.size, r.place)) ∙ sym (r.is ∙ rw (decimal_short rest l));
    }
