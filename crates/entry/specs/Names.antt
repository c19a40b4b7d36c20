-- What a code prints tells the code (document 02 d).
use Rattle.std.specs.Prelude.{ℕ, ◌^◌, ◌<◌, ◌≡◌, Bool, true, false, ◌||◌, List, eqb}
use Rattle.text.specs.Class.{between}
use Rattle.text.specs.Quote.{bytes}
use Rattle.text.specs.Decimal.{decimal_text}
use Rattle.entry.specs.declared.events.Event.TheVariants.{Unknown}
use Rattle.entry.specs.Event.{event_of, name_of, padded}

-- the codes that have names: 0, 1, 2, 4, 7, 8, 9, 11 to 15 and 32 to 39
abbrev pub has_name : ℕ → Bool
has_name code = between 0 2 code || eqb code 4 || between 7 9 code || between 11 15 code || between 32 39 code

-- a code that does not stay unknown
abbrev pub Named : ℕ → Type 0
Named code = event_of code ≡ Unknown code → ⊥

-- what a code prints
abbrev pub printed : ℕ → List ℕ
printed code = name_of (event_of code)

pub record NamesTellCodes : Type 0 where
  -- 38 has its own name, and 36 the one that it had
  pub link_recovery : printed 38 ≡ bytes "LINK_RECOVERY"
  pub dp_con_change : printed 36 ≡ bytes "DP_CON_CHANGE"
  -- the named codes are document 01's
  pub these_are_named : (code : ℕ) → code < 256 → has_name code ≡ true → Named code
  pub others_are_unknown : (code : ℕ) → code < 256 → has_name code ≡ false → event_of code ≡ Unknown code
  -- all named codes have different names
  pub names_differ : (a b : ℕ) → Named a → Named b → printed a ≡ printed b → a ≡ b
  -- no named code's name is a decimal, so none is that of an unknown one
  pub no_decimal : (a n : ℕ) → Named a → n < 2 ^ 64 → printed a ≡ decimal_text n → ⊥
  -- so a printed name tells its code
  pub name_tells_code : (a b : ℕ) → a < 256 → b < 256 → printed a ≡ printed b → a ≡ b
  -- also as it is handed out
  pub padded_tells_code : (a b : ℕ) → a < 256 → b < 256 → padded (printed a) ≡ padded (printed b) → a ≡ b
