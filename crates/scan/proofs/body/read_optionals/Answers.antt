-- `body::read_optionals` meets its contract: each field by its row, whose width is the field's. Assumes nothing.
use Rattle.scan.proofs.Said.{offset_said, offset_most, error_said, error_most, len_said, len_most, port_said, port_most, config_said, config_most, seq_said, seq_most, unplug_said, unplug_most}
use Rattle.scan.specs.Body.{hex_byte, hex_word, decimal_byte, decimal_word, optionals_of}
use mathlib.Core.Path.{sym, ap, ◌∙◌}
use borrow.Author.Rules.{rules}
use native.Mathlib.Omega.{arith}
use Rattle.scan.proofs.body.read_optionals.Goals as goal
use Rattle.std.specs.Prelude.{ℕ, ◌≡◌, Option, Some, None, MatchOption, IsSomeAnd}

-- a map that keeps the number
mapped : (o r : Option ℕ) {Q : ℕ → ℕ → Type 0} → MatchOption o (r ≡ None) (λ x. IsSomeAnd r (Q x)) → ((x y : ℕ) → Q x y → y ≡ x) → r ≡ o
mapped (Some x) (Some y) m f = ap Some (f x y m)
mapped (Some x) None m f = absurd m
mapped None r m f = m

pub map-requires : goal.map-requires
map-requires c = λ x e r g. record { fits = omega (arith, offset_most c.requires.0 c.requires.1 (sym c.number.ensures ∙ e)) }

pub map-requires-2 : goal.map-requires-2
map-requires-2 c = λ x e r g. record { fits = omega (arith, error_most c.requires.0 c.requires.1 (sym c.number-2.ensures ∙ e)) }

pub map-requires-3 : goal.map-requires-3
map-requires-3 c = λ x e r g. record { fits = omega (arith, len_most c.requires.0 c.requires.1 (sym c.number-3.ensures ∙ e)) }

pub map-requires-4 : goal.map-requires-4
map-requires-4 c = λ x e r g. record { fits = omega (arith, port_most c.requires.0 c.requires.1 (sym c.number-4.ensures ∙ e)) }

pub map-requires-5 : goal.map-requires-5
map-requires-5 c = λ x e r g. record { fits = omega (arith, config_most c.requires.0 c.requires.1 (sym c.number-5.ensures ∙ e)) }

pub map-requires-6 : goal.map-requires-6
map-requires-6 c = λ x e r g. record { fits = omega (arith, seq_most c.requires.0 c.requires.1 (sym c.number-6.ensures ∙ e)) }

pub map-requires-7 : goal.map-requires-7
map-requires-7 c = λ x e r g. record { fits = omega (arith, unplug_most c.requires.0 c.requires.1 (sym c.number-7.ensures ∙ e)) }

pub returns : goal.returns
unfolding optionals_of hex_byte hex_word decimal_byte decimal_word
returns c = λ p w.
    rw (
      mapped c.number.result c.map.result c.map.ensures.cases (λ x y q. search rules) ∙ c.number.ensures ∙ sym (offset_said p w),
      mapped c.number-2.result c.map-2.result c.map-2.ensures.cases (λ x y q. search rules) ∙ c.number-2.ensures ∙ sym (error_said p w),
      mapped c.number-3.result c.map-3.result c.map-3.ensures.cases (λ x y q. search rules) ∙ c.number-3.ensures ∙ sym (len_said p w),
      mapped c.number-4.result c.map-4.result c.map-4.ensures.cases (λ x y q. search rules) ∙ c.number-4.ensures ∙ sym (port_said p w),
      mapped c.number-5.result c.map-5.result c.map-5.ensures.cases (λ x y q. search rules) ∙ c.number-5.ensures ∙ sym (config_said p w),
      mapped c.number-6.result c.map-6.result c.map-6.ensures.cases (λ x y q. search rules) ∙ c.number-6.ensures ∙ sym (seq_said p w),
      mapped c.number-7.result c.map-7.result c.map-7.ensures.cases (λ x y q. search rules) ∙ c.number-7.ensures ∙ sym (unplug_said p w),
    )
