-- Why a hex number was unreadable, in one statement; and no second answer. Assumes nothing.
use Rattle.std.specs.Prelude.{Option, Result}
use Rattle.refusal.specs.declared.Refusal.{Refusal}
use Rattle.refusal.specs.Told.{told_maybe}
use Rattle.refusal.proofs.Told.{one_told_maybe}
use Prim.Native.Nat.{ℕ, ◌-◌, ◌^◌}
use mathlib.Core.Path.{◌≡◌, refl, sym, ◌∙◌}
use mathlib.Core.List.{List}
use mathlib.Core.Logic.{◌↔◌}
use Rattle.text.specs.Told.{Told}
use Rattle.text.proofs.Hexes.{hex_exactly, one_meaning}
use Rattle.reasons.specs.declared.Key.{Key}
use Rattle.reasons.specs.declared.HexText.{HexText}
use Rattle.reasons.specs.Reasons.{limit_of, key_in, piece_in, key_answer, piece_answer}
use Rattle.reasons.specs.Meaning.{KeyAt, PieceAt, Tells, WhyUnreadable}
use Rattle.reasons.proofs.Spots.{key_answers}
use Rattle.reasons.proofs.Pieces.{piece_answers}
use Rattle.reasons.proofs.Told.{told_exactly}
use Rattle.reasons.proofs.Entries.{number_exactly, none_exactly, no_route, in_order, bad_exactly}

pub key_exactly : (t : List ℕ) (key : Key) (told : Told HexText) → (key_answer t key ≡ told) ↔ Tells (KeyAt key) (limit_of key) t told
unfolding key_answer
key_exactly t key told = told_exactly (KeyAt key) (limit_of key) (λ p start. key_in p start key) (key_answers key) t told

pub piece_exactly : (t : List ℕ) (i : ℕ) (told : Told HexText) → (piece_answer t i ≡ told) ↔ Tells (PieceAt i) (2 ^ 32 - 1) t told
unfolding piece_answer
piece_exactly t i told = told_exactly (PieceAt i) (2 ^ 32 - 1) (λ p start. piece_in p start i) (piece_answers i) t told

pub no_second_key : (t : List ℕ) (key : Key) (a b : Result (Option HexText) Refusal) → told_maybe a ≡ key_answer t key → told_maybe b ≡ key_answer t key → a ≡ b
no_second_key t key a b x y = one_told_maybe a b (x ∙ sym y)

pub no_second_piece : (t : List ℕ) (i : ℕ) (a b : Result (Option HexText) Refusal) → told_maybe a ≡ piece_answer t i → told_maybe b ≡ piece_answer t i → a ≡ b
no_second_piece t i a b x y = one_told_maybe a b (x ∙ sym y)

pub why_unreadable : WhyUnreadable
why_unreadable =
    record {
      hex_exactly = hex_exactly;
      one_case = one_meaning;
      key_exactly = key_exactly;
      piece_exactly = piece_exactly;
      number_exactly = number_exactly;
      none_exactly = none_exactly;
      no_route = no_route;
      one_answer = one_told_maybe;
      in_order = in_order;
      bad_exactly = bad_exactly;
    }
