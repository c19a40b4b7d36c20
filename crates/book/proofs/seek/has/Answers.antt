-- `book::seek::has` meets its contract: one is wanted just where a first one is found. Assumes nothing.
use Rattle.book.proofs.Searching.{has_found}
use Rattle.std.specs.Option.{is_some}
use Rattle.book.specs.Search.{wanted, first_wanted, has_wanted}
use mathlib.Core.Path.{sym, ap, ◌∙◌}
use Rattle.book.proofs.seek.has.Goals as goal

pub returns : goal.returns
unfolding has_wanted first_wanted
returns c =
    c.is_some.ensures ∙ ap is_some c.first.ensures
    ∙ sym (has_found (wanted c.args.want c.args.key.now c.args.s.now) c.args.s.now c.args.start)
