-- Case P1 of document 01: code 38 is link recovery and code 3 is unknown, by computation. Assumes nothing.
use mathlib.Core.Path.{◌≡◌, refl}
use Rattle.entry.specs.declared.events.Event.TheVariants.{LinkRecovery, Unknown}
use Rattle.text.specs.Class.{between}
use Rattle.entry.specs.Codes.{table}
use Rattle.entry.specs.Event.{event_of}

pub record P1 : Type 0 where
  pub link_recovery : event_of 38 ≡ LinkRecovery
  pub unknown : event_of 3 ≡ Unknown 3

pub case_P1 : P1
unfolding event_of table between
case_P1 = record { link_recovery = refl; unknown = refl }
