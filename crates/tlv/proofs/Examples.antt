-- A small text and what stands in it, each fact computed. Assumes nothing.
use Prim.Native.Nat.{ℕ}
use mathlib.Core.Path.{◌≡◌, refl}
use mathlib.Core.Bool.{true, false}
use mathlib.Core.List.{List, [], ◌∷◌, ◌++◌}
use Rattle.tlv.specs.declared.Step.TheVariants.{Field, Stray, Overrun, End}
use Rattle.tlv.specs.Number.{number, number_bytes}
use Rattle.tlv.specs.Grammar.{field_bytes}
use Rattle.tlv.specs.Reading.{step_from, field_at, part_at, walk_from, walk, parts, filled, fills}

-- tag 1 with the body 8, 9, and behind it tag 2 with no body
abbrev text : List ℕ
text = 1 ∷ 2 ∷ 0 ∷ 8 ∷ 9 ∷ 2 ∷ 0 ∷ 0 ∷ []

-- one word to open what the facts compute with
computed : Unit {0}
unfolding number number_bytes field_bytes step_from field_at walk_from walk parts filled
computed = tt

what_it_is_made_from : field_bytes 1 (8 ∷ 9 ∷ []) ++ field_bytes 2 [] ≡ text
unfolding computed
what_it_is_made_from = refl

first_field : field_at text 0 ≡ Field 1 3 5
unfolding computed
first_field = refl

field_without_body : field_at text 5 ≡ Field 2 8 8
unfolding computed
field_without_body = refl

two_bytes_left : field_at text 6 ≡ Stray
unfolding computed
two_bytes_left = refl

-- tag 8 and a length of 9 + 256 · 2
body_too_long : field_at text 3 ≡ Overrun
unfolding computed
body_too_long = refl

nothing_left : field_at text 8 ≡ End
unfolding computed
nothing_left = refl

two_parts : parts text 0 ≡ part_at 0 1 2 ∷ part_at 5 2 0 ∷ []
unfolding computed
two_parts = refl

filled_exactly : fills text 0 ≡ true
unfolding computed
filled_exactly = refl

not_with_a_byte_behind : fills (text ++ (0 ∷ [])) 0 ≡ false
unfolding computed
not_with_a_byte_behind = refl

low_byte_first : number 4 (0x78 ∷ 0x56 ∷ 0x34 ∷ 0x12 ∷ []) 0 ≡ 0x12345678
unfolding computed
low_byte_first = refl
