-- Numbers 30 to 34 of a text, in the order of document 01: 30; field by field 31, 32, 34; then 33.
-- Assumes nothing.
use Rattle.std.specs.Prelude.{ℕ, ◌-◌, Bool, false, cond, ◌&&◌, List, [], ◌∷◌, ltb, eqb, length}
use Rattle.std.specs.List.{list_all}
use Rattle.tlv.specs.declared.Step.{Step}
use Rattle.tlv.specs.declared.Step.TheVariants.{Field, Stray, Overrun, End}
use Rattle.tlv.specs.Reading.{field_at, Part, between, walk}
use Rattle.record.specs.Rule.{rule_of, is_known, fits_rule}
use Rattle.record.specs.Finding.{span_of, is_there}

-- a step is one field of tag A1 that ends at a place
abbrev pub framed_by : ℕ → Step → Bool
framed_by end (Field tag from to) = eqb tag 0xA1 && eqb to end
framed_by end Stray = false
framed_by end Overrun = false
framed_by end End = false

-- number 30 is not due: three bytes or more, A1 first, and the length that of the rest
unfoldable pub framed : List ℕ → Bool
framed t = framed_by (length t) (field_at t 0)

-- the length of a step's body, if its tag is 01
abbrev pub task_in : Step → ℕ
task_in (Field tag from to) = cond (eqb tag 1) (to - from) 0
task_in Stray = 0
task_in Overrun = 0
task_in End = 0

-- the length of the task, which, tags ascending, is the first field where there is one
unfoldable pub task_size : List ℕ → ℕ
task_size t = task_in (field_at t 3)

-- the number of a field behind the tag `last`: 32, then 34; 0 for none
unfoldable pub judge_field : ℕ → ℕ → List ℕ → ℕ → ℕ
judge_field task tag body last =
    cond (ltb last tag && is_known (rule_of tag)) (cond (fits_rule (rule_of tag) task body) 0 34) 32

-- a field's number, if it has one, else the number of the fields behind it
abbrev pub joined : List ℕ → Part → (ℕ → ℕ) → ℕ → ℕ
joined t p rest last =
    let n : ℕ = judge_field (task_size t) p.tag (between t p.from p.to) last in
    cond (eqb n 0) (rest p.tag) n

-- the number of the fields from a place on, behind the tag `last`
unfoldable pub judged : List ℕ → ℕ → ℕ → ℕ
judged t = walk (joined t) (λ last. 0) (λ last. 31) t

-- tags 01 to 0B and 13 are required
abbrev pub required_tags : List ℕ
required_tags = 1 ∷ 2 ∷ 3 ∷ 4 ∷ 5 ∷ 6 ∷ 7 ∷ 8 ∷ 9 ∷ 10 ∷ 11 ∷ 19 ∷ []

-- number 33 is not due
unfoldable pub has_required : List ℕ → Bool
has_required t = list_all (λ tag. is_there (span_of t tag)) required_tags

-- a number that is 0 gives way to the next
abbrev pub or_else : ℕ → ℕ → ℕ
or_else n m = cond (eqb n 0) m n

-- the number of a text, 0 for none
unfoldable pub refusal_of : List ℕ → ℕ
refusal_of t = cond (framed t) (or_else (judged t 3 0) (cond (has_required t) 0 33)) 30
