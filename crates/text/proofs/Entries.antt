-- What the table says of a byte is what the classes say of it: one test over all 256 bytes, computed. Assumes nothing.
use Prim.Native.Nat.{ℕ, zero, suc, ◌+◌, ◌≤◌, ◌<◌}
use mathlib.Core.Path.{◌≡◌, refl, sym, ap, ◌∙◌}
use mathlib.Core.Bool.{Bool, true, false, cond, ◌&&◌}
use mathlib.Core.List.{List}
use native.Mathlib.Omega.{arith}
use lib.Dec.{ltb, leb, eqb}
use lib.ListN.{length, get_or, get_or-eq_default}
use borrow.Author.Tests.{lt-ltb, ltb-true, eqb-true}
use Rattle.text.specs.Class.{between, is_letter, is_digit, is_word}
use Rattle.text.specs.Number.{digit_of}
use Rattle.text.proofs.Texts.{both_left, both_right}
use Rattle.text.proofs.Computed.{all, all_at, same, same_is}
use Rattle.text.specs.Table.{entry_of, entries, table}

entries_at : (n b k : ℕ) → k < n → get_or (entries n b) k 0 ≡ entry_of (b + k)
unfolding entries
entries_at zero b k h = absurd (omega arith)
entries_at (suc n) b zero h = let e : b + 0 ≡ b = omega arith in rw e
entries_at (suc n) b (suc k) h = let e : b + suc k ≡ suc b + k = omega arith in rw e (entries_at n (suc b) k (omega arith))

-- a word byte's entry is at most 128, and a digit's is its value
right : ℕ → Bool
right b =
    same (leb (entry_of b) 128) (is_word b)
    && eqb (digit_of b) (cond (ltb (entry_of b) 16) (entry_of b) 16)

computed : all right 256 0 ≡ true
unfolding all right same entry_of between is_letter is_digit is_word digit_of
computed = refl

-- no entry lies between a digit's and 128, so a sum below 128 is one of digits
apart : ℕ → Bool
apart b = same (ltb (entry_of b) 128) (ltb (entry_of b) 16)

apart_computed : all apart 256 0 ≡ true
unfolding all apart same entry_of between is_letter is_digit is_word digit_of
apart_computed = refl

module _ {t : List ℕ} (is : t ≡ table) {b : ℕ} (h : b < 256) where
  entry : get_or t b 0 ≡ entry_of b
  unfolding table
  entry = rw is (entries_at 256 0 b h ∙ ap entry_of (omega arith))

  tested : right b ≡ true
  tested = all_at right 256 0 computed b (omega arith) (omega arith)

  pub entry_word : leb (get_or t b 0) 128 ≡ is_word b
  unfolding right
  entry_word = rw entry (same_is _ _ (both_left _ _ tested))

  digit : digit_of b ≡ cond (ltb (get_or t b 0) 16) (get_or t b 0) 16
  unfolding right
  digit = rw entry (eqb-true _ _ (both_right (same (leb (entry_of b) 128) (is_word b)) _ tested))

  pub entry_digit : get_or t b 0 < 16 → digit_of b ≡ get_or t b 0
  entry_digit l = digit ∙ rw (lt-ltb (get_or t b 0) 16 l)

  pub entry_small : get_or t b 0 < 128 → get_or t b 0 < 16
  unfolding apart
  entry_small l =
      ltb-true _ _ (sym (same_is _ _ (rw (← entry) at (all_at apart 256 0 apart_computed b (omega arith) (omega arith)))) ∙ lt-ltb (get_or t b 0) 128 l)

-- no word byte stands behind a text
no_word_zero : is_word 0 ≡ false
unfolding is_word is_letter is_digit between
no_word_zero = refl

pub no_word_behind : (s : List ℕ) (j : ℕ) → length s ≤ j → is_word (get_or s j 0) ≡ false
no_word_behind s j h = rw (get_or-eq_default s 0 {n = j} h) no_word_zero
