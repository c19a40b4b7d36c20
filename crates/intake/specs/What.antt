-- What a text is: a record, a line, or neither, which a number tells. The auditor's question, and what the call `what_is` answers to it.
-- It is stated over the choice: a line is one of the choice's grammar. How to read it: as Demand3. `W.Record` and `W.Line` are the two grammars; `told answer ≡ refused k` is "the answer refuses by number k".
use Rattle.std.specs.Prelude.{ℕ, ◌≤◌, ◌≡◌, true, false, cond, List, ◌↔◌, take, Ok, Result}
use Rattle.tlv.specs.Number.{Bytes}
use Rattle.refusal.specs.declared.Refusal.{Refusal}
use Rattle.refusal.specs.Told.{told}
use Rattle.text.specs.Told.{Told, is, absent, refused, and_then}
use Rattle.entry.specs.Entry.{EntryValue}
use Rattle.scan.specs.declared.Pieces.{Pieces}
use Rattle.scan.specs.Line.{Line, Applies}
use Rattle.record.specs.Grammar.{IsRecord}
use Rattle.record.specs.Conditions.{Breaks}
use Rattle.intake.specs.declared.What.{What}
use Rattle.intake.specs.declared.What.TheVariants as W
use Rattle.intake.specs.Intake.{starts_a1, taken_of}
use Rattle.intake.specs.Demand3Packets.{Comes}

-- ---- the answer

-- the grammar of a text that is accepted: a record starts with A1, a line does not
unfoldable pub grammar_of : List ℕ → What
grammar_of t = cond (starts_a1 t) W.Record W.Line

-- what is told of a text's grammar, by what is told of its entry with 256 slots: the grammar that it belongs to, or the number of document 01 or 02
unfoldable pub what_of : Pieces → List ℕ → Told What
what_of pieces t = and_then (taken_of pieces t 256) (λ e. is (grammar_of t))

-- ---- what it means

-- the number that applies to a text: that of a record if it starts with A1, else that of a line, with 256 slots
pub data Number (pieces : Pieces) (t : List ℕ) (k : ℕ) : Type 0 where
  of_a_record : starts_a1 t ≡ true → Breaks t k → Number pieces t k
  of_a_line : starts_a1 t ≡ false → Applies pieces t 256 k → Number pieces t k

-- a text that belongs to neither grammar, and its number
pub record Outside (pieces : Pieces) (t : List ℕ) (k : ℕ) : Type 0 where
  pub no_record : (v : EntryValue) → IsRecord t v → ⊥
  pub no_line : (v : EntryValue) → Line pieces t v → ⊥
  pub number : Number pieces t k

-- what a text is, by the grammars and the numbers of documents 01 and 02
abbrev pub Is : Pieces → List ℕ → Told What → Type 0
Is pieces t (is W.Record) = (v : EntryValue) × IsRecord t v
Is pieces t (is W.Line) = (v : EntryValue) × Line pieces t v
Is pieces t absent = ⊥
Is pieces t (refused k) = Outside pieces t k

-- ---- what is promised

-- A call of `what_is`: it was lent a text and told the choice, and gave this answer.
pub record WhatCall (pieces : Pieces) (text : List ℕ) (answer : Result What Refusal) : Type 0 where
  -- The text is bytes, as every lent text is.
  pub bytes : Bytes text
  -- The call keeps its contract.
  pub contract : told answer ≡ what_of pieces text

-- What the call tells of every text.
pub record WhatATextIs (pieces : Pieces) : Type 0 where
  -- It says "record" exactly when the text belongs to the record grammar.
  pub says_record : (text : List ℕ) (answer : Result What Refusal) → WhatCall pieces text answer → (answer ≡ Ok W.Record) ↔ ((v : EntryValue) × IsRecord text v)
  -- It says "line" exactly when the text belongs to the choice's line grammar.
  pub says_line : (text : List ℕ) (answer : Result What Refusal) → WhatCall pieces text answer → (answer ≡ Ok W.Line) ↔ ((v : EntryValue) × Line pieces text v)
  -- It refuses it with number k exactly when the text belongs to neither grammar and k is the number that applies.
  pub says_neither : (text : List ℕ) (answer : Result What Refusal) → WhatCall pieces text answer → (k : ℕ) → (told answer ≡ refused k) ↔ Outside pieces text k
  -- One of the three holds of every text.
  pub one_holds : (text : List ℕ) → Bytes text → (r : Told What) × Is pieces text r
  -- No two of them hold of one text, nor two numbers.
  pub no_two_hold : (text : List ℕ) → Bytes text → (q r : Told What) → Is pieces text q → Is pieces text r → q ≡ r
  -- Already decoded: it says "record" exactly when the text is what reading some text and writing its entry gives, once or more often.
  pub already_decoded : (text : List ℕ) (answer : Result What Refusal) → WhatCall pieces text answer → (answer ≡ Ok W.Record) ↔ ((first : List ℕ) × Comes pieces first text)
  -- The number of a text that starts with A1 is 30 to 34.
  pub record_numbers : (text : List ℕ) (k : ℕ) → Outside pieces text k → starts_a1 text ≡ true → (30 ≤ k) × (k ≤ 34)
  -- The number of any other text is 1 to 16 or 18: 256 slots are enough, so it is never 17.
  pub line_numbers : (text : List ℕ) (k : ℕ) → Outside pieces text k → starts_a1 text ≡ false → (1 ≤ k) × (k ≤ 18) × (k ≡ 17 → ⊥)
  -- The first 65,539 bytes tell: with as many or more of them the answer is that of the whole text.
  pub first_bytes_tell : (text : List ℕ) → Bytes text → (n : ℕ) → 65539 ≤ n → what_of pieces (take n text) ≡ what_of pieces text
