-- No second answer satisfies the contract of a C call, lent memory included: each record fixes the answer and every lent element. The calls whose
-- contract is one equation need no more. Assumes nothing.
use Prim.Native.Nat.{ℕ}
use mathlib.Core.Path.{◌≡◌, sym, ◌∙◌, ap}
use mathlib.Core.List.{List}
use Rattle.text.specs.Told.{Told}
use Rattle.entry.specs.declared.Entry.{Entry}
use Rattle.packet.specs.declared.Packet.{Packet}
use Rattle.scan.specs.declared.Pieces.{Pieces}
use Rattle.slots.specs.declared.Slot.{Slot}
use Rattle.matched.proofs.One.{one_answer, one_count, one_place}
use Rattle.c_entry.specs.declared.Flat.{Flat}
use Rattle.c_entry.specs.Flat.{entry_of}
use Rattle.capi.specs.declared.EntryAnswer.{EntryAnswer}
use Rattle.capi.specs.declared.WriteAnswer.{WriteAnswer}
use Rattle.capi.specs.declared.packets.PacketAnswer.{PacketAnswer}
use Rattle.capi.specs.declared.packets.TextPacket.{TextPacket}
use Rattle.capi.specs.declared.requests.StepAnswer.{StepAnswer}
use Rattle.capi.specs.declared.requests.CountAnswer.{CountAnswer}
use Rattle.capi.specs.declared.requests.PlaceAnswer.{PlaceAnswer}
use Rattle.capi.specs.declared.told.NameTold.{NameTold}
use Rattle.capi.specs.Calls.{Read, Wrote}
use Rattle.capi.specs.Packets.{Described, TextRead}
use Rattle.capi.specs.Requests.{step_by, count_by, place_by, Stepped, Counted, Placed}
use Rattle.capi.specs.Told.{NamePart, Copied}

-- `ck_parse`, `ck_record_read`, `ck_read`, and the lenient forms
pub no_second_read : (told : Told Entry) (dwords out : List ℕ) {exit exit' : List ℕ} {q r : EntryAnswer}
    → Read told dwords out exit q → Read told dwords out exit' r → (q ≡ r) × (exit ≡ exit')
no_second_read told dwords out a b = (a.is ∙ sym b.is, a.slots ∙ sym b.slots)

-- `ck_record_write`
pub no_second_write : (text : List ℕ) (f : Flat) (dwords out : List ℕ) {exit exit' : List ℕ} {q r : WriteAnswer}
    → Wrote text f dwords out exit q → Wrote text f dwords out exit' r → (q ≡ r) × (exit ≡ exit')
no_second_write text f dwords out a b = (a.is ∙ sym b.is, a.buffer ∙ sym b.buffer)

-- `ck_packet`, `ck_checked_packet`
pub no_second_description : (told : Told Packet) (places out : List ℕ) {exit exit' : List ℕ} {q r : PacketAnswer}
    → Described told places out exit q → Described told places out exit' r → (q ≡ r) × (exit ≡ exit')
no_second_description told places out a b = (a.is ∙ sym b.is, a.list ∙ sym b.list)

-- `ck_read_packet`, `ck_read_packet_lenient`
pub no_second_text_packet : (pieces : Pieces) (t s slots places : List ℕ) {slots₁ slots₂ places₁ places₂ : List ℕ} {q r : TextPacket}
    → TextRead pieces t s slots slots₁ places places₁ q → TextRead pieces t s slots slots₂ places places₂ r
    → (q ≡ r) × (slots₁ ≡ slots₂) × (places₁ ≡ places₂)
no_second_text_packet pieces t s slots places a b =
    (a.is ∙ sym b.is, a.slots_left ∙ sym b.slots_left, a.places_left ∙ sym b.places_left)

-- `ck_name_at`
pub no_second_name_part : (s : List ℕ) (place : ℕ) (q r : NameTold) → NamePart s place q → NamePart s place r → q ≡ r
no_second_name_part s place q r a b = a.is ∙ sym b.is

-- `ck_name`, `ck_value_name`, `ck_packet_type_name`
pub no_second_copy : (name out : List ℕ) {exit exit' : List ℕ} {q r : ℕ} → Copied name out exit q → Copied name out exit' r → (q ≡ r) × (exit ≡ exit')
no_second_copy name out a b = (a.size ∙ sym b.size, a.buffer ∙ sym b.buffer)

-- `ck_pending_step`
pub no_second_step : (f : Flat) (t : List Slot) (u v : List Slot) (q r : StepAnswer) → Stepped f t q u → Stepped f t r v → (q ≡ r) × (u ≡ v)
no_second_step f t u v q r a b =
    let same = one_answer (entry_of f) t u v a.report b.report a.steps b.steps in (a.answer ∙ ap step_by same.0 ∙ sym b.answer, same.1)

-- `ck_pending_waiting`
pub no_second_count : (t : List Slot) (q r : CountAnswer) → Counted t q → Counted t r → q ≡ r
no_second_count t q r a b = a.answer ∙ ap count_by (one_count t a.told b.told a.counts b.counts) ∙ sym b.answer

-- `ck_pending_oldest`
pub no_second_place : (t : List Slot) (k : ℕ) (q r : PlaceAnswer) → Placed t k q → Placed t k r → q ≡ r
no_second_place t k q r a b = a.answer ∙ ap place_by (one_place t k a.told b.told a.lies b.lies) ∙ sym b.answer
