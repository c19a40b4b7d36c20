-- What an answer that refuses by a number tells: one word for every `Result<_, Refusal>`, and one where "none" is an answer too.
use Rattle.std.specs.Prelude.{ℕ, Err, None, Ok, Option, Result, Some}
use Rattle.text.specs.Told.{Told, is, absent, refused}
use Rattle.refusal.specs.declared.Refusal.{Refusal}
use Rattle.refusal.specs.Number.{number_of}

-- the value, or the number
abbrev pub told : {A : Type 0} → Result A Refusal → Told A
told (Ok a) = is a
told (Err e) = refused (number_of e)

-- the value, "none", or the number
abbrev pub told_maybe : {A : Type 0} → Result (Option A) Refusal → Told A
told_maybe (Ok (Some a)) = is a
told_maybe (Ok None) = absent
told_maybe (Err e) = refused (number_of e)
