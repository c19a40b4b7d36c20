-- Between two pairs the kernel prints a comma and a space, neither of which is of a word. Assumes nothing.
use Prim.Native.Nat.{ℕ, ◌+◌, ◌≤◌, ◌<◌}
use mathlib.Core.Path.{◌≡◌, refl, sym}
use mathlib.Core.Bool.{true}
use mathlib.Core.List.{List}
use native.Mathlib.Omega.{arith}
use lib.ListN.{length, get_or}
use Rattle.text.specs.Class.{between, is_letter, is_digit, is_word, no_word}
use Rattle.text.specs.Run.{EndsAt}
use Rattle.text.specs.Word.{Word}
use Rattle.text.proofs.Places.{by_order}
use Rattle.text.proofs.Runs.{run_all}
use Rattle.text.proofs.Words.{two_are}
use Rattle.pairs.proofs.Printed.{comma_space_number}

comma_is_no_word : no_word 44 ≡ true
unfolding is_word is_letter is_digit between
comma_is_no_word = refl

space_is_no_word : no_word 32 ≡ true
unfolding is_word is_letter is_digit between
space_is_no_word = refl

module _ (s : List ℕ) (from : ℕ) (w : Word 2 s from 0x202c) where
  two_bytes : (get_or s from 0 ≡ 44) × (get_or s (from + 1) 0 ≡ 32)
  two_bytes = two_are s from w (omega arith) comma_space_number

  pub behind_comma_space : from + 2 < length s → is_word (get_or s (from + 2) 0) ≡ true → EndsAt no_word s from (from + 2)
  behind_comma_space h t =
      record {
        is = sym (run_all no_word s (record { from = omega arith; within = omega arith; inside = no_word_lem; stops = λ l. rw t refl }));
        up = omega arith;
        within = omega arith;
      }
    where
      no_word_lem : (k : ℕ) → from ≤ k → k < from + 2 → no_word (get_or s k 0) ≡ true
      no_word_lem k a b =
          by_order k (from + 1) (λ l. let e : k ≡ from = omega arith in rw (e, two_bytes.0) comma_is_no_word)
          (λ e. rw (e, two_bytes.1) space_is_no_word)
          (λ l. absurd (omega arith))
