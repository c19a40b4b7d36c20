-- Numbers 11 to 14: what a payload says but for its dwords, in the order of the numbers.
use Rattle.std.specs.Prelude.{ℕ, ◌-◌, ◌^◌, Bool, false, List, eqb, None, Option, Some}
use Rattle.text.specs.Told.{Told, is, refused}
use Rattle.text.specs.Quote.{bytes}
use Rattle.entry.specs.Kind.{kind_of}
use Rattle.pairs.specs.declared.pair.Span.{Span}
use Rattle.pairs.specs.Pair.{part, last_pair, decimal_of, hex_at}
use Rattle.scan.specs.declared.body.Optionals.{Optionals}
use Rattle.scan.specs.declared.body.Body.{Body}
use Rattle.scan.specs.Need.{need}

-- the text at a span, if there is one
unfoldable pub text_at : List ℕ → Option Span → Option (List ℕ)
text_at p (Some w) = Some (part p w.from w.to)
text_at p None = None

-- the key's last pair as hex of 8 bits
unfoldable pub hex_byte : List ℕ → List ℕ → Option ℕ
hex_byte p key = (hex_at p key (2 ^ 8 - 1))

-- the key's last pair as hex of 16 bits
unfoldable pub hex_word : List ℕ → List ℕ → Option ℕ
hex_word p key = (hex_at p key (2 ^ 16 - 1))

-- the key's last pair as decimal of 8 bits
unfoldable pub decimal_byte : List ℕ → List ℕ → Option ℕ
decimal_byte p key = (decimal_of p key (2 ^ 8 - 1))

-- the key's last pair as decimal of 16 bits
unfoldable pub decimal_word : List ℕ → List ℕ → Option ℕ
decimal_word p key = (decimal_of p key (2 ^ 16 - 1))

-- a number that reads as 1
unfoldable pub is_one : Option ℕ → Bool
is_one (Some v) = eqb v 1
is_one None = false

-- `dropped` is true if it reads as 1 in decimal 8 bits, else false
unfoldable pub dropped_of : List ℕ → Bool
dropped_of p = is_one (decimal_of p (bytes "dropped") (2 ^ 8 - 1))

-- the optional fields: none if missing or unreadable
unfoldable pub optionals_of : List ℕ → Optionals
optionals_of p =
    record {
      offset = hex_word p (bytes "offset");
      code = hex_byte p (bytes "error");
      len = decimal_word p (bytes "len");
      port = decimal_byte p (bytes "port");
      config = hex_byte p (bytes "config");
      seq = decimal_byte p (bytes "seq");
      unplug = hex_byte p (bytes "unplug");
    }

-- from each number on
abbrev pub body14 : List ℕ → ℕ → ℕ → ℕ → Told Body
body14 p kind size domain =
    need (refused 14) ((hex_at p (bytes "route") (2 ^ 64 - 1)))
    (λ route. is (record { kind = kind; size = size; dropped = dropped_of p; domain = domain; route = route; optionals = optionals_of p }))

abbrev pub body13 : List ℕ → ℕ → ℕ → Told Body
body13 p kind size = need (refused 13) ((decimal_of p (bytes "domain") (2 ^ 32 - 1))) (body14 p kind size)

abbrev pub body12 : List ℕ → ℕ → Told Body
body12 p kind = need (refused 12) ((decimal_of p (bytes "size") (2 ^ 16 - 1))) (body13 p kind)

-- what a payload says, given the function
unfoldable pub body_of : List ℕ → List ℕ → Told Body
body_of p function =
    need (refused 11) (text_at p (last_pair p (bytes "type"))) (λ name. body12 p (kind_of name function))
