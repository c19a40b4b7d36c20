-- The text's packet from its parts: once the text is read its number is settled, and the packet call says the rest. Assumes nothing.
use Rattle.refusal.specs.Told.{told}
use Rattle.std.specs.Prelude.{Err, Ok, Result}
use Rattle.refusal.specs.declared.Refusal.{Refusal}
use Rattle.refusal.specs.Number.{number_of as number_in}
use Rattle.packet.specs.declared.Packet.{Packet}
use Prim.Native.Nat.{ℕ, zero, suc}
use mathlib.Core.Path.{◌≡◌, refl, sym, ap, ◌∙◌}
use mathlib.Core.List.{List}
use native.Mathlib.Omega.{arith}
use lib.ListN.{length}
use Rattle.text.specs.Told as T
use Rattle.entry.specs.declared.Entry.{Entry}
use Rattle.pairs.specs.Data.{filled}
use Rattle.scan.specs.declared.Pieces.{Pieces}
use Rattle.packet.specs.declared.Packet as Described
use Rattle.packet.specs.Packet.{number_of, packet_of, parse_of, places_of, list_by, Parsed}
use Rattle.packet.proofs.Packets.{one_packet_answer, length_listed}
use Rattle.intake.specs.Intake.{taken_of, taken_dwords}
use Rattle.intake.specs.Packets.{packet_by, packet_taken, kind_in, PacketTaken, Handed}

-- ---- a kind and dwords

module _ (kind : ℕ) (s ds slots places : List ℕ) {places' : List ℕ} {r : Result Packet Refusal} (parsed : Parsed kind s ds places places' r) where
  -- a packet, and its dwords in the slots
  pub handed_packet : {p : Described.Packet} → r ≡ Ok p → {slots' : List ℕ} → slots' ≡ filled ds slots
      → Handed kind s ds slots slots' places places' (Ok p)
  unfolding list_by
  handed_packet e x = record { answer = ap told (sym e) ∙ parsed.answer; slots_left = x; places_left = parsed.places ∙ rw e }

  -- a number, and the slots as found
  pub handed_refused : {k : Refusal} → r ≡ Err k → Handed kind s ds slots slots places places' (Err k)
  unfolding list_by
  handed_refused e = record { answer = ap told (sym e) ∙ parsed.answer; slots_left = refl; places_left = parsed.places ∙ rw e }

  -- as many places as were lent
  pub places_kept : length places' ≡ length places
  places_kept = ap length (parsed.places ∙ ap (λ (a : T.Told Described.Packet). list_by a (places_of kind s ds) places) parsed.answer) ∙ length_listed kind s ds places

-- ---- a text

-- a packet is the one of the kind and the dwords
pub packet_is : (kind : ℕ) (s ds : List ℕ) (room : ℕ) {p : Described.Packet} → parse_of kind s ds room ≡ T.is p → p ≡ packet_of kind s ds
unfolding parse_of
packet_is kind s ds room {p} q = go (number_of kind s (length ds) room) q
  where
    go : (n : ℕ) → T.unless n (T.is (packet_of kind s ds)) ≡ T.is p → p ≡ packet_of kind s ds
    go zero h = let same : packet_of kind s ds ≡ p = cc in sym same
    go (suc n) h = absurd (let z : ◌≡◌ {A = ℕ} 0 1 = cc in omega arith)

-- a packet has its own kind, so the places of that kind are its places
pub places_by_kind : (kind : ℕ) (s ds out : List ℕ) (room : ℕ) (r : T.Told Described.Packet) → r ≡ parse_of kind s ds room
    → list_by r (places_of kind s ds) out ≡ list_by r (places_of (kind_in r) s ds) out
unfolding packet_of list_by
places_by_kind kind s ds out room (T.is p) e =
    let same : p.kind ≡ kind = ap (λ (w : Described.Packet). w.kind) (packet_is kind s ds room (sym e)) in
    rw same
places_by_kind kind s ds out room T.absent e = refl
places_by_kind kind s ds out room (T.refused k) e = refl

module _ (pieces : Pieces) (t s slots places : List ℕ) where
  -- the text is an entry: its kind and dwords give the packet
  pub taken_packet : {e : Entry} → taken_of pieces t (length slots) ≡ T.is e → {ds : List ℕ} → ds ≡ taken_dwords t → {slots' places' : List ℕ} {r : Result Packet Refusal}
      → Handed e.kind s ds slots slots' places places' r → PacketTaken pieces t s slots slots' places places' r
  unfolding packet_taken packet_by
  taken_packet {e} a {ds} same {slots'} {places'} {r} handed =
      let h : Handed e.kind s (taken_dwords t) slots slots' places places' r = rw same at handed in
      record {
        answer = h.answer ∙ rw a;
        slots_left = h.slots_left;
        places_left = h.places_left ∙ places_by_kind e.kind s (taken_dwords t) places (length places) (told r) h.answer;
      }

  -- the text is refused, and nothing is touched
  pub taken_refused : {k : Refusal} → taken_of pieces t (length slots) ≡ T.refused (number_in k) → PacketTaken pieces t s slots slots places places (Err k)
  unfolding packet_taken packet_by list_by
  taken_refused a = record { answer = rw a; slots_left = refl; places_left = refl }

-- ---- the promises

-- a refusal leaves slots and places as found
pub refused_packet_changes_nothing : (pieces : Pieces) (t s slots places : List ℕ) {slots' places' : List ℕ} {k : Refusal} → PacketTaken pieces t s slots slots' places places' (Err k)
    → (slots' ≡ slots) × (places' ≡ places)
unfolding list_by
refused_packet_changes_nothing pieces t s slots places p = (p.slots_left, p.places_left)

-- no second answer satisfies the contract, slots and places included
pub no_second_packet : (pieces : Pieces) (t s slots places : List ℕ) {slots' places' slots'' places'' : List ℕ} {q r : Result Packet Refusal}
    → PacketTaken pieces t s slots slots' places places' q → PacketTaken pieces t s slots slots'' places places'' r
    → (q ≡ r) × (slots' ≡ slots'') × (places' ≡ places'')
no_second_packet pieces t s slots places {q = q} {r = r} a b =
    let same : told q ≡ told r = a.answer ∙ sym b.answer in
    (one_packet_answer q r same, a.slots_left ∙ rw same (sym b.slots_left), a.places_left ∙ rw same (sym b.places_left))
