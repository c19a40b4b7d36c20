-- `start_of` meets its contract: the chosen row's text stands there or no row's does. Assumes nothing.
use Prim.Native.Nat.{ℕ, ◌+◌, ◌/◌, ◌%◌}
use Rattle.text.proofs.Words.{first_two, mask_tells}
use Rattle.text.specs.Word.{Word, word_at}
use Rattle.walk.proofs.Starts.{OfRow, chosen_is, size_some, size_fits, mask_is, hit_is, miss_is}
use mathlib.Core.List.{List}
use Rattle.walk.specs.declared.start.Candidate.{Candidate}
use Rattle.walk.specs.Start.{chosen_at, candidate_of}
use borrow.Author.Tests.{eq-eqb, ne_eqb}
use lib.Bits.{bit_and}
use lib.Dec.{eqb}
use mathlib.Core.Path.{◌≡◌, sym, ap, ◌∙◌}
use native.Mathlib.Omega.{arith}
use Rattle.walk.proofs.start.start_of.Goals as goal

-- the first two bytes choose
chosen : {s : List ℕ} {i w : ℕ} {r : Candidate} → Word 8 s i w → r ≡ candidate_of ((w % 256 + w / 256 % 256) % 32) → r ≡ candidate_of (chosen_at s i)
unfolding chosen_at
chosen {s} {i} {w} {r} is e = e ∙ ap (λ (n : ℕ). candidate_of (n % 32)) (first_two _ 6 is)

of_row : (n : ℕ) {r : Candidate} → r ≡ candidate_of n → OfRow r
of_row n {r} e = rw e (chosen_is n)

-- the mask leaves the number of the row's bytes
stands : {s : List ℕ} {i w : ℕ} {r : Candidate} → Word 8 s i w → OfRow r → eqb (word_at r.size s i) r.want ≡ eqb (bit_and w r.mask) r.want
stands {s} {i} {w} {r} is of = ap (λ (n : ℕ). eqb n r.want) (sym (mask_tells _ _ (size_fits of) is (mask_is of)))

pub overflow_add-result : goal.overflow_add-result
overflow_add-result c = record { fits = omega (arith, size_fits (of_row _ c.choose-c.ensures), c.requires.1, c.well_formed.1.0) }

pub overflow_sub-result : goal.overflow_sub-result
overflow_sub-result c = omega (arith, size_some (of_row _ c.choose-c.ensures))

pub returns-then-w-c : goal.returns-then-w-c
returns-then-w-c c = hit_is _ _ c.requires.1 c.requires.2 (of_row _ c.choose-c.ensures) (stands c.requires.2 (of_row _ c.choose-c.ensures) ∙ eq-eqb _ _ c.if-w-c.true)

pub returns : goal.returns
returns c = rw c.other_start.ensures (miss_is _ _ c.requires.1 c.requires.2 c.word_end.ensures (chosen c.requires.2 c.choose-c.ensures) (stands c.requires.2 (of_row _ c.choose-c.ensures) ∙ ne_eqb _ _ c.if-w-c.false))
