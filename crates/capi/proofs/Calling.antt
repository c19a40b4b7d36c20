-- A C call hands the answer of the call below it on, as a plain struct. Assumes nothing.
use Rattle.std.specs.Prelude.{Bool, None, Option, Result, Some}
use Rattle.refusal.specs.declared.Refusal.{Refusal}
use Prim.Native.Nat.{ℕ}
use mathlib.Core.Path.{◌≡◌, refl, ap, ◌∙◌}
use mathlib.Core.List.{List}
use Rattle.refusal.specs.Told.{told}
use Rattle.text.specs.Told as T
use Rattle.entry.specs.declared.Entry.{Entry}
use Rattle.text.specs.Told.{maybe}
use Rattle.scan.specs.Parse.{slots_by}
use Rattle.writer.specs.Writing.{Writing, buffer_by}
use Rattle.c_entry.specs.declared.Flat.{Flat}
use Rattle.c_entry.specs.Flat.{flat_byte, flat_flag, raised_told, raise_of}
use Rattle.capi.specs.declared.EntryAnswer.{EntryAnswer}
use Rattle.capi.specs.declared.WriteAnswer.{WriteAnswer}
use Rattle.packet.specs.declared.Packet.{Packet}
use Rattle.packet.specs.Packet.{list_by}
use Rattle.capi.specs.declared.packets.PacketAnswer.{PacketAnswer}
use Rattle.capi.specs.Packets.{Described, packet_by}
use Rattle.capi.specs.Told.{as_number, flat_told}
use Rattle.capi.specs.Calls.{Read, Wrote, answer_by, written_by, write_for, record_for}

-- an answer that is the one wanted, and the slots behind it
pub handed_on : {q want : T.Told Entry} {ds out exit : List ℕ} {r : EntryAnswer} → r ≡ answer_by q → q ≡ want → exit ≡ slots_by q ds out → Read want ds out exit r
handed_on is e s = record { is = is ∙ ap answer_by e; slots = rw (← e) s }

module _ (text : List ℕ) (f : Flat) (dwords out : List ℕ) {q : Option Entry} (raised : raised_told q ≡ raise_of f) {r : WriteAnswer} where
  pub wrote_entry : {e : Entry} {w : Result ℕ Refusal} {exit : List ℕ} → q ≡ Some e → Writing text e dwords out w exit → r ≡ written_by (told w) → Wrote text f dwords out exit r
  unfolding write_for record_for
  wrote_entry e p is =
      record { is = rw (← raised, e) (is ∙ ap written_by p.answer); buffer = rw (← raised, e, ← p.answer) p.buffer }

  pub wrote_nothing : q ≡ None → r ≡ written_by (T.refused 37) → Wrote text f dwords out out r
  unfolding write_for record_for buffer_by
  wrote_nothing e is = record { is = rw (← raised, e) is; buffer = rw (← raised, e) }

-- a packet call's answer told, with its places
pub described_call : (want : T.Told Packet) (places out : List ℕ) {r : T.Told Packet} {exit : List ℕ} {told : PacketAnswer} → r ≡ want
    → exit ≡ list_by r places out → told ≡ packet_by r → Described want places out exit told
described_call want places out is left tells =
    record { is = tells ∙ ap packet_by is; list = left ∙ ap (λ (r : T.Told Packet). list_by r places out) is }

-- what an entry is asked, as one number
pub flat_byte_told : (b : Option ℕ) → flat_byte b ≡ flat_told (maybe b)
unfolding flat_byte
flat_byte_told (Some b) = refl
flat_byte_told None = refl

pub flat_flag_told : (f : Option Bool) → flat_flag f ≡ flat_told (as_number (maybe f))
unfolding flat_flag
flat_flag_told (Some b) = refl
flat_flag_told None = refl
