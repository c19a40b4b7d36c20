-- `say_event` meets its contract: the name is said behind the word. Assumes nothing.
use Rattle.saying.proofs.Telling.{said_told, told_then, told_same, no_event}
use Rattle.saying.specs.Telling.{event_text}
use Rattle.entry.proofs.Pads.{name_start}
use mathlib.Core.Path.{◌∙◌}
use Rattle.saying.proofs.say_event.Goals as goal

pub returns-in-Some : goal.returns-in-Some
unfolding event_text
returns-in-Some c =
    rw c.in-Some.is (told_then (said_told c.say.ensures) (told_same (c.as_bytes.ensures ∙ name_start _ c.name.ensures) (said_told c.say-in-Some.ensures)))

pub returns-in_default : goal.returns-in_default
returns-in_default c = no_event _ _ _ c.in_default.not-Some
