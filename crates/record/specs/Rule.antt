-- What the body of each tag must be, as a test of the body.
-- Assumes nothing.
use Rattle.std.specs.Prelude.{ℕ, ◌+◌, ◌%◌, Bool, false, not, ◌&&◌, List, [], ◌∷◌, ltb, leb, eqb, length, get_or, None, Option, Some}
use Rattle.text.specs.Class.{is_word}
use Rattle.tlv.specs.Number.{number}
use Rattle.std.specs.List.{list_all}
use Rattle.std.specs.Option.{is_some}
use Rattle.record.specs.declared.rule.Width.{Width}
use Rattle.record.specs.declared.rule.Width.TheVariants.{One, Two, Four, Eight}
use Rattle.record.specs.declared.rule.Rule.{Rule}
use Rattle.record.specs.declared.rule.Rule.TheVariants as R

-- how many bytes a width is
abbrev pub bytes_of : Width → ℕ
bytes_of One = 1
bytes_of Two = 2
bytes_of Four = 4
bytes_of Eight = 8

-- the rules of tags 00, 01, 02 and so on; no record has the tag 00
abbrev pub rules : List (Option Rule)
rules =
    None
    ∷ Some R.Task
    ∷ Some (R.Number Four 0xffffffff)
    ∷ Some (R.Number Two 999)
    ∷ Some (R.Number Eight 0x7fffffffffffffff)
    ∷ Some (R.Number Eight 0x7fffffffffffffff)
    ∷ Some R.Function
    ∷ Some (R.Number One 12)
    ∷ Some (R.Number Two 0xffff)
    ∷ Some (R.Number One 1)
    ∷ Some (R.Number Four 0xffffffff)
    ∷ Some (R.Number Eight 0xffffffffffffffff)
    ∷ Some (R.Number Two 0xffff)
    ∷ Some (R.Number One 0xff)
    ∷ Some (R.Number Two 0xffff)
    ∷ Some (R.Number One 0xff)
    ∷ Some (R.Number One 0xff)
    ∷ Some (R.Number One 0xff)
    ∷ Some (R.Number One 0xff)
    ∷ Some R.Dwords
    ∷ []

-- the rule of a tag
unfoldable pub rule_of : ℕ → Option Rule
rule_of tag = get_or rules tag None

-- a tag is known if it has a rule
abbrev pub is_known : Option Rule → Bool
is_known rule = is_some rule

-- the bytes of a task are below 128 and none is 32; those of a function are word bytes
unfoldable pub is_task_byte : ℕ → Bool
is_task_byte b = not (eqb b 32) && ltb b 128

-- one or more bytes that all pass
unfoldable pub fits_text : (ℕ → Bool) → List ℕ → Bool
fits_text ok s = ltb 0 (length s) && list_all ok s

-- a number of k bytes within a limit
unfoldable pub fits_number : ℕ → ℕ → List ℕ → Bool
fits_number k limit s = eqb (length s) k && leb (number k s 0) limit

-- a length of 0 to 256 dwords
unfoldable pub fits_dwords : ℕ → Bool
fits_dwords n = eqb (n % 4) 0 && leb n 1024

-- a body is as its rule asks, behind a task of a length; where no rule is, none is
unfoldable pub fits_rule : Option Rule → ℕ → List ℕ → Bool
fits_rule (Some R.Task) task body = fits_text is_task_byte body
fits_rule (Some R.Function) task body = leb (task + length body) 4096 && fits_text is_word body
fits_rule (Some (R.Number width limit)) task body = fits_number (bytes_of width) limit body
fits_rule (Some R.Dwords) task body = fits_dwords (length body)
fits_rule None task body = false
