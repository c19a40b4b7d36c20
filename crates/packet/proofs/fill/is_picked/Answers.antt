-- `packet::fill::is_picked` meets its contract: any, or by the type. Assumes nothing.
use Prim.Native.Nat.{ℕ}
use Rattle.text.specs.Same.{same_text}
use mathlib.Core.List.{List}
use mathlib.Core.Path.{◌∙◌, ap}
use Rattle.packet.proofs.fill.is_picked.Goals as goal

pub returns-in-Any : goal.returns-in-Any
returns-in-Any c = rw c.in-Any.is

pub returns-in-Typed : goal.returns-in-Typed
returns-in-Typed c = rw c.in-Typed.is (c.eq.ensures ∙ ap (λ (l : List ℕ). same_text l c.args.name.now) c.type_of.ensures.is)
