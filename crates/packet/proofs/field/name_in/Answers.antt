-- `packet::field::name_in` meets its contract: no name at no place. Assumes nothing.
use Rattle.packet.proofs.Fields.{name_none, name_some}
use Rattle.text.proofs.OwnParts.{no_text, text_is}
use mathlib.Core.Path.{refl, sym}
use Rattle.packet.proofs.field.name_in.Goals as goal

pub returns-then-place-eq0 : goal.returns-then-place-eq0
returns-then-place-eq0 c = no_text _ refl refl refl (sym (name_none c.args.book.now c.args.place c.if-place-eq0.true))

pub returns : goal.returns
returns c = text_is _ _ (sym (name_some c.args.book.now c.args.place c.if-place-eq0.false)) refl c.name_of.ensures
