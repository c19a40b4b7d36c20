-- Small inputs and what is answered: each of 53, 54 and 55, and which state is none.
use Rattle.std.specs.Prelude.{ℕ, ◌≡◌, true, false, List, [], ◌∷◌, ◌++◌, replicate}
use Rattle.text.specs.Told.{refused}
use Rattle.scan.specs.declared.Pieces.{Pieces}
use Rattle.units.specs.declared.Framing.TheVariants.{Both}
use Rattle.units.specs.Units.{Open}
use Rattle.units.specs.Kept.{is_kept}
use Rattle.stream.specs.Answers.{answer_of}

-- a buffer that starts with these bytes, zeros behind them
abbrev pub buffer : List ℕ → ℕ → List ℕ
buffer front more = front ++ replicate more 0

pub record Worked (pieces : Pieces) : Type 0 where
  -- A1 and the end: 54. So with one byte of the length, and with a length that says one byte more.
  pub one_byte : answer_of pieces (0xA1 ∷ []) 256 ≡ refused 54
  pub two_bytes : answer_of pieces (0xA1 ∷ 0 ∷ []) 256 ≡ refused 54
  pub one_missing : answer_of pieces (0xA1 ∷ 1 ∷ 0 ∷ []) 256 ≡ refused 54
  -- A1 FF FF and the end: 55.
  pub too_long : answer_of pieces (0xA1 ∷ 0xFF ∷ 0xFF ∷ []) 256 ≡ refused 55
  -- Before the end it is open, and is not answered.
  pub still_open : Open Both (0xA1 ∷ 0xFF ∷ 0xFF ∷ [])
  -- A newline alone is a line, and idle: 1. So is the one behind a record.
  pub newline : answer_of pieces (10 ∷ []) 256 ≡ refused 1
  -- Nothing held in a buffer of 8,192 bytes is left by a stream; in one of 8,193 bytes it is 53.
  pub nothing_held : is_kept Both (replicate 8192 0) 0 0 ≡ true
  pub another_size : is_kept Both (replicate 8193 0) 0 0 ≡ false
  -- One byte held, a newline: 53.
  pub newline_held : is_kept Both (buffer (10 ∷ []) 8191) 1 0 ≡ false
  -- A1 FF FF held, and 65,534 bytes passed: left by a stream. With one more it has ended: 53.
  pub nearly_passed : is_kept Both (buffer (0xA1 ∷ 0xFF ∷ 0xFF ∷ []) 8189) 3 65534 ≡ true
  pub all_passed : is_kept Both (buffer (0xA1 ∷ 0xFF ∷ 0xFF ∷ []) 8189) 3 65535 ≡ false
