-- `book::grammar::values` meets its contract: fields of tag 7 with a value's body fill the text, and none stands behind again. Assumes nothing.
use Rattle.std.proofs.Common.{rules, ◌≡◌, ◌&&◌, List, [], ℕ}
use Rattle.book.proofs.Rows.{row_fresh, fresh, value_fresh}
use Rattle.book.specs.Reading.{field_ok, value_body, same_value, values_fill}
use Rattle.book.specs.Search.{has_wanted}
use Rattle.book.specs.declared.seek.Want.TheVariants as W
use Rattle.tlv.specs.Number.{number}
use lib.Dec.{eqb}
use lib.ListN.{length}
use mathlib.Core.Bool.{not}
use mathlib.Core.Path.{sym, ◌∙◌}
use Rattle.book.proofs.grammar.values.Goals as goal

pub returns : goal.returns
unfolding values_fill
returns c =
    let s : List ℕ = c.args.s.now in
    c.fills.ensures (fresh (field_ok 7 value_body s) (same_value s) s)
    (λ p b t e n h.
    let says : t ≡ (eqb p.tag 7 && (value_body b.now p.from && not (has_wanted (W.Value (number 4 b.now p.from)) [] s (length b.now)))) = search rules in
    says ∙ value_fresh s p b.now e n)
    ∙ sym (row_fresh (field_ok 7 value_body s) (same_value s) s c.args.start)
