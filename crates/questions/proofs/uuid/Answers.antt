-- `questions::uuid` meets its contract: a number first, or what the packet keeps. Assumes nothing.
use Rattle.text.specs.Told.{maybe}
use Rattle.refusal.proofs.Told.{passed_on}
use Rattle.packet.specs.Packet.{packet_of}
use Rattle.packet.specs.declared.Packet.{Packet}
use Rattle.questions.proofs.Over.{refused_first, answers_of, kept}
use Rattle.questions.specs.Questions.{uuid_answer}
use mathlib.Core.Path.{refl, ◌∙◌}
use Rattle.questions.proofs.uuid.Goals as goal

pub returns-in_err-packet : goal.returns-in_err-packet
unfolding uuid_answer packet_of
returns-in_err-packet c =
    rw (passed_on c.from_residual.result c.from_residual.ensures.1)
    (refused_first c.parse.ensures refl c.in_err-packet.was (maybe (packet_of c.args.kind c.args.book.now c.args.dwords.now).uuid))

pub returns : goal.returns
unfolding uuid_answer packet_of
returns c = kept c.in_ok-packet.packet.uuid ∙ answers_of c.parse.ensures refl c.in_ok-packet.was (λ (p : Packet). maybe p.uuid)
