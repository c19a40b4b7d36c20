-- Demand 3 for packets: a line and its record give one packet, and its data view is cut once. It is stated over the contracts of four calls, `read` and
-- `packet` of crate `intake`, `write` of crate `writer`, and `data` of crate `questions`, and over the choice, as Demand3 is.
use Rattle.refusal.specs.Told.{told}
use Rattle.refusal.specs.declared.Refusal.{Refusal}
use Rattle.std.specs.Prelude.{ℕ, ◌≤◌, ◌≡◌, true, List, length, take, drop, Ok, Result, Some}
use Rattle.text.specs.Part.{Slice, OwnDwords}
use Rattle.text.specs.Told.{Told}
use Rattle.tlv.specs.Number.{Bytes}
use Rattle.entry.specs.declared.Entry.{Entry}
use Rattle.entry.specs.Entry.{EntryValue}
use Rattle.scan.specs.declared.Pieces.{Pieces}
use Rattle.scan.specs.Line.{Line}
use Rattle.packet.specs.declared.Packet.{Packet}
use Rattle.packet.specs.Packet.{is_read_response_or_write_request, entries_of, places_of, parse_of, list_by}
use Rattle.questions.specs.Questions.{view_of, DataView}
use Rattle.record.specs.Grammar.{IsRecord}
use Rattle.intake.specs.Intake.{Belongs}
use Rattle.intake.specs.Packets.{PacketTaken}
use Rattle.intake.specs.Demand3.{ReadCall, WriteCall, LinesAndRecords}

-- A call of `packet` with enough slots and places: it was lent a text, a book, slots and places and told the choice, and gave this answer
-- and left slots and places so.
pub record PacketCall (pieces : Pieces) (text book slots places : List ℕ) (answer : Result Packet Refusal) (slots_left places_left : List ℕ) : Type 0 where
  -- The text is bytes, as every lent text is.
  pub bytes : Bytes text
  -- 256 slots are lent, or more.
  pub enough_slots : 256 ≤ length slots
  -- So are 256 places, or more.
  pub enough_places : 256 ≤ length places
  -- The call keeps its contract.
  pub contract : PacketTaken pieces text book slots slots_left places places_left answer

-- The packet of v over a book, or the number that refuses it, with a place lent for each dword: v's kind and dwords are all that is asked of v.
unfoldable pub packet_for : EntryValue → List ℕ → Told Packet
packet_for v book = parse_of v.kind book v.dwords (length v.dwords)

-- A call gave the packet of v, or the number that refuses it.
pub record Gives (v : EntryValue) (book slots places : List ℕ) (answer : Result Packet Refusal) (slots_left places_left : List ℕ) : Type 0 where
  -- The answer is that packet or that number.
  pub is : told answer ≡ packet_for v book
  -- With a packet the slots start with v's dwords, and the rest is as found; with a number all are as found.
  pub slots_hold : slots_left ≡ list_by (told answer) v.dwords slots
  -- The places likewise start with the places of the entries that describe these dwords.
  pub places_hold : places_left ≡ list_by (told answer) (places_of v.kind book v.dwords) places

-- Two calls gave the same.
pub record SamePacket (a : Result Packet Refusal) (slots-a places-a : List ℕ) (b : Result Packet Refusal) (slots-b places-b : List ℕ) : Type 0 where
  -- The same packet, or the same number.
  pub answer : a ≡ b
  -- With a packet, the same dwords in the first slots.
  pub dwords : (p : Packet) → a ≡ Ok p → take p.dwords slots-a ≡ take p.dwords slots-b
  -- With a packet, the same entry for each dword.
  pub places : (p : Packet) → a ≡ Ok p → take p.dwords places-a ≡ take p.dwords places-b

-- The data view of a packet of v, which is of kind 2 or 3, is cut once, at n, the number of control entries of the kind: `entries_are` of crate `packet`
-- says that `entries_of` is that number.
pub record CutOnce (v : EntryValue) (book : List ℕ) (p : Packet) (slots_left : List ℕ) : Type 0 where
  -- The view starts at n.
  pub start : p.start ≡ Some (entries_of book v.kind)
  -- There are n dwords or more: with fewer there is no packet, so nothing is cut short.
  pub enough : entries_of book v.kind ≤ length v.dwords
  -- The packet's dwords from n onward are v's own from n onward.
  pub view : drop (entries_of book v.kind) (take p.dwords slots_left) ≡ drop (entries_of book v.kind) v.dwords
  -- They are what `data` of crate `questions` hands out, asked with the kind, the book and the packet's dwords.
  pub handed_out : view_of v.kind book (take p.dwords slots_left) ≡ drop (entries_of book v.kind) v.dwords
  -- What it hands out is the caller's own: lend it the packet's dwords, the first of the slots, and whatever it answers by its contract lies in these
  -- slots, n dwords behind their start.
  pub callers_own : (slots dwords view : Slice) → slots.now ≡ slots_left → OwnDwords slots 0 (take p.dwords slots_left) dwords → DataView v.kind book dwords view
      → OwnDwords slots (entries_of book v.kind) (drop (entries_of book v.kind) v.dwords) view

-- A text was read by the choice, its entry was written, and what was written is handed on as a text.
pub record Round (pieces : Pieces) (text next : List ℕ) : Type 0 where
  -- `read` was lent these slots.
  pub slots : List ℕ
  -- It answered this entry.
  pub entry : Entry
  -- It left the slots so, the entry's dwords in front.
  pub left : List ℕ
  -- That was a call of `read` on the text.
  pub read : ReadCall pieces text slots (Ok entry) left
  -- `write` was lent this buffer.
  pub buffer : List ℕ
  -- It answered that it wrote so many bytes.
  pub count : ℕ
  -- It left the buffer so.
  pub written : List ℕ
  -- That was a call of `write` on the entry, with the text and the slots that it was read from and into.
  pub write : WriteCall text entry left buffer (Ok count) written
  -- The bytes that were written are the next text.
  pub handed_on : next ≡ take count written

-- One text comes from another by one round, or by more: it was read first by the choice, and what came of it, which is a record, by any.
pub data Comes (pieces : Pieces) (text : List ℕ) : List ℕ → Type 0 where
  -- The next text comes from the text.
  once : {next : List ℕ} → Round pieces text next → Comes pieces text next
  -- So does whatever comes from that by one more round.
  again : {any : Pieces} {next last : List ℕ} → Comes pieces text next → Round any next last → Comes pieces text last

-- What demand 3 asks of packets.
pub record OnePacket (pieces : Pieces) : Type 0 where
  -- A text that belongs, line or record, gives the packet of what it says.
  pub of_what_it_says : (text : List ℕ) (v : EntryValue) → Belongs pieces text v
      → (book slots places : List ℕ) (answer : Result Packet Refusal) (slots_left places_left : List ℕ) → PacketCall pieces text book slots places answer slots_left places_left
      → Gives v book slots places answer slots_left places_left
  -- With one book a line and its record, which is read by any choice, give the same packet, or the same number.
  pub line_and_record : (line record-text : List ℕ) (v : EntryValue) → Line pieces line v → IsRecord record-text v
      → (book : List ℕ)
      → (slots places : List ℕ) (a : Result Packet Refusal) (slots-a places-a : List ℕ) → PacketCall pieces line book slots places a slots-a places-a
      → (any : Pieces) (slots' places' : List ℕ) (b : Result Packet Refusal) (slots-b places-b : List ℕ) → PacketCall any record-text book slots' places' b slots-b places-b
      → SamePacket a slots-a places-a b slots-b places-b
  -- The data view of kinds 2 and 3 is cut once, from what the text says.
  pub cut_once : (text : List ℕ) (v : EntryValue) → Belongs pieces text v → is_read_response_or_write_request v.kind ≡ true
      → (book slots places : List ℕ) (p : Packet) (slots_left places_left : List ℕ) → PacketCall pieces text book slots places (Ok p) slots_left places_left
      → CutOnce v book p slots_left
  -- Never a second cut: however often a text is read, written as a record and fed again, its packet stays the same.
  pub never_a_second_cut : (text last : List ℕ) → Comes pieces text last
      → (book : List ℕ)
      → (slots places : List ℕ) (a : Result Packet Refusal) (slots-a places-a : List ℕ) → PacketCall pieces text book slots places a slots-a places-a
      → (any : Pieces) (slots' places' : List ℕ) (b : Result Packet Refusal) (slots-b places-b : List ℕ) → PacketCall any last book slots' places' b slots-b places-b
      → SamePacket a slots-a places-a b slots-b places-b

-- Demand 3, for strict and for lenient.
pub record Demand3 (pieces : Pieces) : Type 0 where
  -- Every accepted line has a record, which reads back as the same entry and writes back as the same bytes; no text is both; each says one thing.
  pub lines_and_records : LinesAndRecords pieces
  -- A line and its record give one packet, and its data view is cut once.
  pub one_packet : OnePacket pieces
