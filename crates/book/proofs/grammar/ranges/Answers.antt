-- `book::grammar::ranges` meets its contract: fields of tag 6 with a range's body fill the text. Assumes nothing.
use Rattle.std.proofs.Common.{rules, ◌≡◌, ◌&&◌, List, ℕ}
use Rattle.book.specs.Reading.{field_ok, range_body, ranges_fill}
use lib.Dec.{eqb}
use mathlib.Core.Path.{ap, ◌∙◌}
use Rattle.book.proofs.grammar.ranges.Goals as goal

pub returns : goal.returns
unfolding ranges_fill
returns c =
    c.fills.ensures (field_ok 6 range_body c.args.s.now)
    (λ p b t e n h.
    let says : t ≡ (eqb p.tag 6 && range_body b.now p.from) = search rules in
    says ∙ ap (λ (u : List ℕ). eqb p.tag 6 && range_body u p.from) n)
