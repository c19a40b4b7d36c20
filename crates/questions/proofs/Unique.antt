-- No second answer: each kind of answer is got back from what it tells, so two that tell the same are the same. Assumes nothing.
use Rattle.std.specs.Prelude.{Bool, None, Option, Result, Some, ℕ}
use Rattle.refusal.specs.declared.Refusal.{Refusal}
use Rattle.refusal.specs.Told.{told, told_maybe}
use Rattle.refusal.proofs.Told.{one_told, one_told_maybe}
use Rattle.book.specs.declared.Uuid.{Uuid}
use Rattle.field.specs.declared.Field.{Field}
use Rattle.questions.specs.declared.PacketType.{PacketType}
use mathlib.Core.Path.{◌≡◌, refl}
use Rattle.text.specs.Told.{maybe}
use Rattle.text.proofs.Told.{by_cases, fixed_by_told}

pub one_byte_answer : (a b : Result (Option ℕ) Refusal) → told_maybe a ≡ told_maybe b → a ≡ b
one_byte_answer = one_told_maybe

pub one_word_answer : (a b : Result (Option ℕ) Refusal) → told_maybe a ≡ told_maybe b → a ≡ b
one_word_answer = one_told_maybe

pub one_wide_answer : (a b : Result ℕ Refusal) → told a ≡ told b → a ≡ b
one_wide_answer = one_told

pub one_flag_answer : (a b : Result Bool Refusal) → told a ≡ told b → a ≡ b
one_flag_answer = one_told

pub one_uuid_answer : (a b : Result (Option Uuid) Refusal) → told_maybe a ≡ told_maybe b → a ≡ b
one_uuid_answer = one_told_maybe

pub one_type_answer : (a b : Result (Option PacketType) Refusal) → told_maybe a ≡ told_maybe b → a ≡ b
one_type_answer = one_told_maybe

pub one_field_answer : (a b : Result (Option Field) Refusal) → told_maybe a ≡ told_maybe b → a ≡ b
one_field_answer = one_told_maybe

-- `described::value_asked`
pub one_value_asked : (a b : Option ℕ) → maybe a ≡ maybe b → a ≡ b
one_value_asked = fixed_by_told maybe (by_cases Some None (λ k. None)) same
  where
    same : (a : Option ℕ) → by_cases Some None (λ k. None) (maybe a) ≡ a
    same (Some v) = refl
    same None = refl
