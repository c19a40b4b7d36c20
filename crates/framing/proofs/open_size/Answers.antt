-- `open_size` meets its contract: the three bytes are read where they lie. Assumes nothing.
use Rattle.framing.proofs.Endings.{too_few, no_mark, stated}
use borrow.Author.Rules.{rules}
use mathlib.Core.Path.{sym, ◌∙◌}
use Rattle.framing.proofs.open_size.Goals.{then-not-has_three-via-then-not-has_three, then-not-has_three-via-else-not-has_three+then-open_byte}
use Rattle.framing.proofs.open_size.Goals as goal

pub returns-then-not-has_three : goal.returns-then-not-has_three
returns-then-not-has_three c =
    elim c.then-not-has_three.branch [
      | then-not-has_three-via-then-not-has_three w ↦ too_few c.args.part.now c.args.from c.args.held.now c.requires (search rules)
      | then-not-has_three-via-else-not-has_three+then-open_byte w ↦ no_mark c.args.part.now c.args.from c.args.held.now c.requires (search rules) (λ e. w.if-open_byte.true (w.open_byte.ensures ∙ e))
    ]

pub returns : goal.returns
returns c =
    stated c.args.part.now c.args.from c.args.held.now c.requires (search rules) (sym c.open_byte.ensures ∙ c.if-open_byte.false) c.open_byte-low.ensures c.open_byte-high.ensures (search rules) (search rules) (search rules)
