-- `questions::packet_type_name` meets its contract: the name at the place that the type has. Assumes nothing.
use Rattle.book.specs.Finders.{name_place}
use Rattle.questions.proofs.Views.{no_type}
use Rattle.refusal.specs.Told.{told_maybe}
use Rattle.questions.specs.Questions.{name_by, type_name, named_place}
use Rattle.questions.specs.declared.PacketType.{PacketType}
use Rattle.text.proofs.OwnParts.{no_text, text_is}
use Rattle.text.specs.Told.{Told}
use mathlib.Core.Path.{refl, sym, ap, ◌∙◌}
use Rattle.std.specs.Prelude.{Ok}
use Rattle.std.proofs.Common.{rules}
use Rattle.questions.proofs.packet_type_name.Goals as goal

pub returns-in_default : goal.returns-in_default
unfolding type_name
returns-in_default c = no_text _ refl refl refl (sym (no_type c.args.kind c.args.book.now c.args.dwords.now c.packet_type.result (λ t e. search rules)) ∙ ap (name_by c.args.kind c.args.book.now c.args.dwords.now) c.packet_type.ensures)

pub returns : goal.returns
unfolding type_name
returns c =
    let s = c.args.book.now in
    let told = ap told_maybe (sym (c.in-Ok-Some.is ∙ ap Ok c.in-Ok-Some.field-0-is)) ∙ c.packet_type.ensures in
    text_is _ _ (ap (name_by c.args.kind s c.args.dwords.now) told) (ap (λ (t : Told PacketType). name_place s (named_place t)) told) c.name_in.ensures
