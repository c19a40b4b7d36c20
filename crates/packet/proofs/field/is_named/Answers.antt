-- `packet::field::is_named` meets its contract: an empty name is none. Assumes nothing.
use Prim.Native.Nat.{ℕ}
use Rattle.packet.proofs.Fields.{byte_there}
use Rattle.packet.specs.Field.{asks}
use Rattle.text.specs.Same.{same_text}
use mathlib.Core.Bool.{not}
use mathlib.Core.List.{List}
use mathlib.Core.Path.{◌∙◌, ap, sym}
use Rattle.packet.proofs.field.is_named.Goals as goal

pub returns-then-not-is_empty : goal.returns-then-not-is_empty
unfolding asks
returns-then-not-is_empty c =
    rw (byte_there c.args.name.now ∙ ap not (sym c.is_empty.ensures ∙ c.if-not-is_empty.true))
    (c.eq.ensures ∙ ap (λ (l : List ℕ). same_text l c.args.name.now) c.name_in.ensures.is)

pub returns-else-not-is_empty : goal.returns-else-not-is_empty
unfolding asks
returns-else-not-is_empty c =
    rw (byte_there c.args.name.now ∙ ap not (sym c.is_empty.ensures ∙ c.if-not-is_empty.false)) (ap not c.if-not-is_empty.false)
