-- `packet::seek::first_asked` meets its contract: what is first from the start on is first from here on. Assumes nothing.
use Rattle.packet.proofs.Gathering.{first_over, first_here, first_later}
use Rattle.packet.specs.Field.{asks}
use borrow.Author.Rules.{rules}
use mathlib.Core.Path.{sym, ap, ◌∙◌, refl}
use Rattle.packet.proofs.seek.first_asked.Goals as goal

pub loop-i-init : goal.loop-i-init
loop-i-init c = refl

pub returns-then-is_asked : goal.returns-then-is_asked
returns-then-is_asked c =
    sym (c.loop-i.invariant ∙ first_here (asks c.args.ask c.args.book.now c.args.name.now) c.args.places.now c.loop-i.i (search rules)
    (ap (asks c.args.ask c.args.book.now c.args.name.now) (sym c.wide.ensures) ∙ sym c.is_asked.ensures ∙ c.if-is_asked.true))

pub loop-i-preserved : goal.loop-i-preserved
loop-i-preserved c =
    c.loop-i.invariant ∙ first_later (asks c.args.ask c.args.book.now c.args.name.now) c.args.places.now c.loop-i.i (search rules)
    (ap (asks c.args.ask c.args.book.now c.args.name.now) (sym c.wide.ensures) ∙ sym c.is_asked.ensures ∙ c.if-is_asked.false)

pub returns : goal.returns
returns c = sym (c.loop-i.invariant ∙ first_over (asks c.args.ask c.args.book.now c.args.name.now) c.args.places.now c.loop-i.i (search rules))
