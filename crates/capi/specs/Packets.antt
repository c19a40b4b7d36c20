-- What the C calls on packets answer: the answers of the calls below them, as plain structs.
use Rattle.book.specs.declared.Uuid.{Uuid}
use Rattle.std.specs.Prelude.{ℕ, ◌≡◌, List, length, None, Option, Some}
use Rattle.text.specs.Told as T
use Rattle.c_entry.specs.Flat.{flat_word}
use Rattle.packet.specs.declared.Packet.{Packet}
use Rattle.packet.specs.Packet.{places_of, list_by}
use Rattle.scan.specs.declared.Pieces.{Pieces}
use Rattle.intake.specs.Intake.{taken_dwords}
use Rattle.intake.specs.Packets.{packet_taken, kind_in}
use Rattle.capi.specs.declared.packets.PacketAnswer.{PacketAnswer}
use Rattle.capi.specs.declared.packets.TextPacket.{TextPacket}

-- number, start and UUID, whose dwords are 0 where there is none
abbrev pub uuid_by : ℕ → Option ℕ → Option Uuid → PacketAnswer
uuid_by number start (Some u) =
    record { number = number; start = flat_word start; has_uuid = 1; first = u.first; second = u.second; third = u.third; fourth = u.fourth }
uuid_by number start None =
    record { number = number; start = flat_word start; has_uuid = 0; first = 0; second = 0; third = 0; fourth = 0 }

-- number 0 and the packet
unfoldable pub made_by : Packet → PacketAnswer
made_by p = uuid_by 0 p.start p.uuid

-- or the number, no start and no UUID
unfoldable pub packet_by : T.Told Packet → PacketAnswer
packet_by (T.is p) = made_by p
packet_by T.absent = uuid_by 0 None None
packet_by (T.refused k) = uuid_by k None None

-- the answer, and each place: a packet's places over the first, a refusal leaves them as found
pub record Described (told : T.Told Packet) (places out exit : List ℕ) (r : PacketAnswer) : Type 0 where
  pub is : r ≡ packet_by told
  pub list : exit ≡ list_by told places out

-- a text's packet: kind, how many dwords, and the packet
unfoldable pub of_packet : Packet → TextPacket
of_packet p = record { kind = p.kind; dwords = p.dwords; packet = made_by p }

-- or the number, with no kind and no dword
unfoldable pub text_by : T.Told Packet → TextPacket
text_by (T.is p) = of_packet p
text_by T.absent = record { kind = 0; dwords = 0; packet = packet_by T.absent }
text_by (T.refused k) = record { kind = 0; dwords = 0; packet = packet_by (T.refused k) }

-- the answer, each slot and each place, by the choice: a packet's dwords and their places over the first, a refusal leaves them as found
pub record TextRead (pieces : Pieces) (t s slots slots' places places' : List ℕ) (r : TextPacket) : Type 0 where
  pub is : r ≡ text_by (packet_taken pieces t s (length slots) (length places))
  pub slots_left : slots' ≡ list_by (packet_taken pieces t s (length slots) (length places)) (taken_dwords t) slots
  pub places_left : places'
      ≡ list_by (packet_taken pieces t s (length slots) (length places))
      (places_of (kind_in (packet_taken pieces t s (length slots) (length places))) s (taken_dwords t)) places
