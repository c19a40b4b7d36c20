-- `questions::described::size_in` meets its contract: which name is asked goes by the kind. Assumes nothing.
use Rattle.questions.specs.Described.{size_in}
use mathlib.Core.Path.{sym, ◌∙◌}
use Rattle.questions.proofs.described.size_in.Goals as goal

pub returns-then-is_reading : goal.returns-then-is_reading
unfolding size_in
returns-then-is_reading c = rw (sym c.is_reading.ensures ∙ c.if-is_reading.true) c.word_asked.ensures

pub returns-then-is_writing : goal.returns-then-is_writing
unfolding size_in
returns-then-is_writing c = rw (sym c.is_reading.ensures ∙ c.if-is_reading.false, sym c.is_writing.ensures ∙ c.if-is_writing.true) c.word_asked-then-is_writing.ensures

pub returns-then-is_xdomain_kind : goal.returns-then-is_xdomain_kind
unfolding size_in
returns-then-is_xdomain_kind c = rw (sym c.is_reading.ensures ∙ c.if-is_reading.false, sym c.is_writing.ensures ∙ c.if-is_writing.false, sym c.is_xdomain_kind.ensures ∙ c.if-is_xdomain_kind.true) c.word_asked-then-is_xdomain_kind.ensures

pub returns : goal.returns
unfolding size_in
returns c = rw (sym c.is_reading.ensures ∙ c.if-is_reading.false, sym c.is_writing.ensures ∙ c.if-is_writing.false, sym c.is_xdomain_kind.ensures ∙ c.if-is_xdomain_kind.false)
