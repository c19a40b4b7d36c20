-- The brackets of a last pair's value: a value is a word run or brackets, and no word run starts with `[`, so its first byte tells which, and brackets
-- end where the value does. Assumes nothing.
use Rattle.std.specs.Prelude.{None}
use Prim.Native.Nat.{ℕ, zero, suc, ◌+◌, ◌-◌, ◌≤◌, ◌<◌}
use mathlib.Core.Path.{◌≡◌, refl, sym, ap, ◌∙◌}
use mathlib.Core.List.{List, [], ◌∷◌}
use native.Mathlib.Omega.{arith}
use lib.ListN.{length, get_or, take, drop, length-drop}
use lib.Seq.{take-nil, get_or-take, get_or-drop, drop-drop, length-take-le}
use Rattle.text.specs.declared.class.Class.TheVariants.{NotClose}
use Rattle.text.specs.Class.{is_word, in_class}
use Rattle.text.specs.Run.{Inside, Run}
use Rattle.text.proofs.Places.{clash}
use Rattle.text.proofs.Runs.{run_all}
use Rattle.pairs.specs.Pair.{part, Value, last_pair, span}
use Rattle.pairs.specs.Data.{inside_of}
use Rattle.pairs.proofs.Tries.{bracket_is_no_word, close_ends}
use Rattle.pairs.proofs.PairLists.{pairs_each}
use Rattle.pairs.proofs.LastPairs.{last_pair_is, last_within}
use Rattle.pairs.proofs.Slots.{inside_unopened, inside_some}

take_less : (n m : ℕ) (l : List ℕ) → n ≤ m → take n (take m l) ≡ take n l
take_less zero m l h = refl
take_less (suc n) zero l h = absurd (omega arith)
take_less (suc n) (suc m) [] h = refl
take_less (suc n) (suc m) (x ∷ l) h = ap (λ (r : List ℕ). x ∷ r) (take_less n m l (omega arith))

behind_first : (n : ℕ) (l : List ℕ) → drop 1 (take (suc n) l) ≡ take n (drop 1 l)
behind_first n [] = sym (take-nil n)
behind_first n (x ∷ l) = refl

-- a value from a up to b is brackets: one byte or more stands between them
pub record Brackets (s : List ℕ) (a b : ℕ) : Type 0 where
  pub some : a + 2 < b
  pub within : b ≤ length s
  pub inside : inside_of (part s a b) ≡ span 1 (b - a - 1)
  pub inner : part (part s a b) 1 (b - a - 1) ≡ part s (a + 1) (b - 1)

same_value : (s : List ℕ) {v w e f : ℕ} → v ≡ w → e ≡ f → Value s w f → Value s v e
same_value s p q x = rw (p, q) x

module _ (s key : List ℕ) {a b : ℕ} (found : last_pair s key ≡ span a b) where
  value : Value s a b
  value =
      let r = last_pair_is s key found in
      same_value s r.from r.to (pairs_each s r.before r.after r.all).value

  size : length (part s a b) ≡ b - a
  size =
      let w = last_within s key found in
      length-take-le (b - a) (drop a s) (omega (arith, w.0, w.1, length-drop a s))

  byte : {k : ℕ} → k < b - a → get_or (part s a b) k 0 ≡ get_or s (a + k) 0
  byte {k} h = get_or-take (b - a) (drop a s) k 0 h ∙ get_or-drop a s k 0

  first : get_or (part s a b) 0 0 ≡ get_or s a 0
  first =
      let w = last_within s key found in
      let z : a + 0 ≡ a = omega arith in
      byte (omega (arith, w.0)) ∙ ap (λ (k : ℕ). get_or s k 0) z

  pub last_unopened : (get_or s a 0 ≡ 91 → ⊥) → inside_of (part s a b) ≡ None
  last_unopened n = inside_unopened (part s a b) (λ e. n (sym first ∙ e))

  module _ (opens : get_or s a 0 ≡ 91) (c : ℕ) (more : a + 1 < c) (no_close : Inside (in_class NotClose) s (a + 1) c)
      (closes : get_or s c 0 ≡ 93) (ends : b ≡ c + 1) where
    run : Run (in_class NotClose) (part s a b) 1 (b - a - 1)
    run =
        record {
          from = omega arith;
          within = omega (arith, size);
          inside = λ k x y. rw (byte {k = k} (omega arith)) (no_close (a + k) (omega arith) (omega arith));
          stops =
              λ h. let e : a + (b - a - 1) ≡ c = omega arith in
              close_ends (byte {k = b - a - 1} (omega arith) ∙ ap (λ (k : ℕ). get_or s k 0) e ∙ closes);
        }

    brackets : Brackets s a b
    brackets =
        let w = last_within s key found in
        record {
          some = omega arith;
          within = w.1;
          inside =
              inside_some (part s a b) (b - a - 1) (sym (run_all (in_class NotClose) (part s a b) run)) (first ∙ opens) (omega arith)
              (omega (arith, size));
          inner =
              let n : b - a ≡ suc (b - a - 1) = omega arith in
              let m : b - a - 1 - 1 ≡ b - 1 - (a + 1) = omega arith in
              let front : drop 1 (part s a b) ≡ take (b - a - 1) (drop (a + 1) s) =
              ap (λ (k : ℕ). drop 1 (take k (drop a s))) n ∙ behind_first (b - a - 1) (drop a s) ∙ ap (take (b - a - 1)) (drop-drop 1 a s) in
              ap (take (b - a - 1 - 1)) front ∙ take_less (b - a - 1 - 1) (b - a - 1) (drop (a + 1) s) (omega arith)
              ∙ ap (λ (k : ℕ). take k (drop (a + 1) s)) m;
        }

  pub last_brackets : get_or s a 0 ≡ 91 → Brackets s a b
  last_brackets opens = go value
    where
      go : Value s a b → Brackets s a b
      go (Value.word h r) = absurd (clash (r.inside a (omega arith) h) (ap is_word opens ∙ bracket_is_no_word))
      go (Value.bracket c o more no_close closes ends) = brackets opens c more no_close closes ends
