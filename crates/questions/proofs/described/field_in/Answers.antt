-- `questions::described::field_in` meets its contract: the dword and the place at its index. Assumes nothing.
use Prim.Native.Nat.{◌%◌}
use Rattle.field.specs.Source.{field_of}
use Rattle.questions.specs.Described.{field_in}
use mathlib.Core.Path.{ap₂, ◌∙◌}
use Rattle.questions.proofs.described.field_in.Goals as goal

pub returns : goal.returns
unfolding field_in
returns c = c.field_of.ensures ∙ ap₂ (field_of c.args.kind c.args.book.now (c.args.i % 65536)) c.dword_at.ensures (c.wide.ensures ∙ c.dword_at-2.ensures)
