-- The packet of a text: its entry's kind and dwords over a book.
use Rattle.refusal.specs.Told as answers
use Rattle.refusal.specs.declared.Refusal.{Refusal}
use Rattle.std.specs.Prelude.{ℕ, ◌≡◌, List, length, Result}
use Rattle.text.specs.Told.{Told, is, absent, refused, and_then}
use Rattle.entry.specs.declared.Entry.{Entry}
use Rattle.scan.specs.declared.Pieces.{Pieces}
use Rattle.packet.specs.declared.Packet.{Packet}
use Rattle.packet.specs.Packet.{parse_of, places_of, list_by}
use Rattle.intake.specs.Intake.{taken_of, taken_dwords}

-- the packet of what is told of a text: the text's number comes first, then those of the packet
unfoldable pub packet_by : Told Entry → List ℕ → List ℕ → ℕ → Told Packet
packet_by told s ds room = and_then told (λ e. parse_of e.kind s ds room)

-- the packet of a text over a book, given the choice and the number of slots and of places
unfoldable pub packet_taken : Pieces → List ℕ → List ℕ → ℕ → ℕ → Told Packet
packet_taken pieces t s slots places = packet_by (taken_of pieces t slots) s (taken_dwords t) places

-- the kind of the packet that is told, 0 for none
abbrev pub kind_in : Told Packet → ℕ
kind_in (is p) = p.kind
kind_in absent = 0
kind_in (refused k) = 0

-- the answer, each slot and each place: a packet writes its dwords and their places from the first and no others, a refusal nothing
pub record PacketTaken (pieces : Pieces) (t s slots slots' places places' : List ℕ) (r : Result Packet Refusal) : Type 0 where
  pub answer : answers.told r ≡ packet_taken pieces t s (length slots) (length places)
  pub slots_left : slots' ≡ list_by (answers.told r) (taken_dwords t) slots
  pub places_left : places' ≡ list_by (answers.told r) (places_of (kind_in (answers.told r)) s (taken_dwords t)) places

-- the same of a kind and dwords that were read
pub record Handed (kind : ℕ) (s ds slots slots' places places' : List ℕ) (r : Result Packet Refusal) : Type 0 where
  pub answer : answers.told r ≡ parse_of kind s ds (length places)
  pub slots_left : slots' ≡ list_by (answers.told r) ds slots
  pub places_left : places' ≡ list_by (answers.told r) (places_of kind s ds) places
