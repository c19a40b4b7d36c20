-- `questions::described::address_in` meets its contract: which name is asked goes by the kind. Assumes nothing.
use Rattle.questions.specs.Described.{address_in}
use mathlib.Core.Path.{sym, ◌∙◌}
use Rattle.questions.proofs.described.address_in.Goals as goal

pub returns-then-is_xdomain_kind : goal.returns-then-is_xdomain_kind
unfolding address_in
returns-then-is_xdomain_kind c = rw (sym c.is_xdomain_kind.ensures ∙ c.if-is_xdomain_kind.true) c.word_asked.ensures

pub returns : goal.returns
unfolding address_in
returns c = rw (sym c.is_xdomain_kind.ensures ∙ c.if-is_xdomain_kind.false) c.word_asked-2.ensures
