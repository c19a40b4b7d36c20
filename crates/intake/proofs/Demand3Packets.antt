-- Demand 3 for packets: a packet is asked for kind and dwords alone, and these are what the text says; a line and its record say one thing. However often a
-- text is written and read again it says the same, so nothing is ever cut but what it says. Assumes nothing.
use Rattle.refusal.specs.Told as answers
use Rattle.std.specs.Prelude.{Ok, Result, Some}
use Rattle.refusal.specs.declared.Refusal.{Refusal}
use Prim.Native.Nat.{ℕ, zero, suc, ◌≤◌, ◌%◌}
use mathlib.Core.Path.{◌≡◌, refl, sym, ap, ap₂, subst, ◌∙◌}
use mathlib.Core.Bool.{Bool, true, false, ◌&&◌}
use mathlib.Core.List.{List}
use native.Mathlib.Omega.{arith}
use borrow.Author.Tests.{le-ltb, ltb-false}
use lib.Dec.{ltb}
use lib.ListN.{length, take, drop}
use lib.Seq.{take-append_seam}
use Rattle.text.specs.Part.{Slice, OwnDwords}
use Rattle.text.proofs.OwnParts.{own_is, own_front}
use Rattle.text.specs.Told as T
use Rattle.entry.specs.declared.Entry.{Entry}
use Rattle.entry.specs.Entry.{EntryValue, part_of, value_of}
use Rattle.scan.specs.declared.Pieces.{Pieces}
use Rattle.scan.specs.Parse.{slots_by}
use Rattle.scan.proofs.Values.{dwords_part}
use Rattle.packet.specs.declared.Packet.{Packet}
use Rattle.packet.specs.Packet.{is_read_response_or_write_request, entries_of, number_checked, number_of, places_of, view_from, packet_of, parse_of, list_by}
use Rattle.packet.proofs.Packets.{passed_whole, length_places, one_packet_answer}
use Rattle.questions.specs.Questions.{refusal, view_of, DataView}
use Rattle.questions.proofs.Views.{view_is_from_n, view_is_the_callers_own}
use Rattle.record.specs.Grammar.{record_bytes, IsRecord}
use Rattle.intake.specs.Intake.{Belongs, starts_a1, taken_of, taken_dwords}
use Rattle.intake.specs.Packets.{packet_by, packet_taken, kind_in}
use Rattle.intake.specs.Demand3.{ReadCall, HasRecord}
use Rattle.intake.specs.Demand3Packets.{PacketCall, packet_for, Gives, SamePacket, CutOnce, Round, Comes, OnePacket, Demand3}
use Rattle.intake.proofs.Theorems.{one_reading, accepted_exactly_when_it_belongs}
use Rattle.intake.proofs.Slots.{with_more_slots, taken_count}
use Rattle.intake.proofs.Handing.{packet_is, places_by_kind}
use Rattle.intake.proofs.Demand3.{line_has_a_record, record_is_the_writers, lines_and_records}

-- ---- what an accepted text says pieces

-- an accepted text belongs, and what it says pieces has a record
accepted_says : (pieces : Pieces) (text slots : List ℕ) (e : Entry) (left : List ℕ) → ReadCall pieces text slots (Ok e) left
    → (v : EntryValue) × Belongs pieces text v × HasRecord text e left v
accepted_says pieces text slots e left c = by (starts_a1 text) refl
  where
    by : (b : Bool) → starts_a1 text ≡ b → (v : EntryValue) × Belongs pieces text v × HasRecord text e left v
    by true first =
        let h = record_is_the_writers pieces text slots e left first c in
        let r : IsRecord text h.0 = rw h.1 at h.2.is_record in
        (h.0, Belongs.a_record r, h.2)
    by false first =
        let h = line_has_a_record pieces text slots e left first c in
        (h.0, Belongs.line h.1, h.2)

-- the entry of a text that belongs has the kind and the dwords that the text says pieces
record Read (pieces : Pieces) (text slots : List ℕ) (v : EntryValue) : Type 0 where
  entry : Entry
  answer : taken_of pieces text (length slots) ≡ T.is entry
  kind : entry.kind ≡ v.kind
  dwords : taken_dwords text ≡ v.dwords
  few : length v.dwords ≤ 256

module _ (pieces : Pieces) (text book slots places : List ℕ) (answer : Result Packet Refusal) (slots_left places_left : List ℕ) (c : PacketCall pieces text book slots places answer slots_left places_left) where
  says : (v : EntryValue) → Belongs pieces text v → Read pieces text slots v
  unfolding slots_by value_of
  says v b =
      let accepted = (accepted_exactly_when_it_belongs pieces text c.bytes).1 (v, b) in
      let told : taken_of pieces text (length slots) ≡ T.is accepted.0 = with_more_slots pieces text c.bytes (length slots) c.enough_slots ∙ accepted.1 in
      let read : ReadCall pieces text slots (Ok accepted.0) (slots_by (T.is accepted.0) (taken_dwords text) slots) =
      record { bytes = c.bytes; enough = c.enough_slots; contract = record { answer = sym told; slots = refl } } in
      let h = accepted_says pieces text slots accepted.0 _ read in
      let one : h.0 ≡ v = one_reading pieces text h.0 v h.1 b in
      let is : value_of accepted.0 text (slots_by (T.is accepted.0) (taken_dwords text) slots) ≡ v = h.2.says.is ∙ one in
      let part : part_of (slots_by (T.is accepted.0) (taken_dwords text) slots) 0 accepted.0.dwords ≡ taken_dwords text =
      rw (taken_count pieces text (length slots) told) (dwords_part (taken_dwords text) slots) in
      record {
        entry = accepted.0;
        answer = told;
        kind = ap (λ (w : EntryValue). w.kind) is;
        dwords = sym part ∙ ap (λ (w : EntryValue). w.dwords) is;
        few = rw one at h.2.is_record.ranged.few;
      }

  -- places past one for each dword change no answer
  enough_places : (kind : ℕ) (ds : List ℕ) (room : ℕ) → length ds ≤ room → parse_of kind book ds room ≡ parse_of kind book ds (length ds)
  unfolding parse_of number_of number_checked
  enough_places kind ds room h = rw (le-ltb room (length ds) h, le-ltb (length ds) (length ds) (omega arith))

  -- a text that belongs gives pieces the packet of what it says pieces
  gives : (v : EntryValue) → Belongs pieces text v → Gives v book slots places answer slots_left places_left
  unfolding packet_taken packet_by packet_for
  gives v b =
      let r = says v b in
      let first : answers.told answer ≡ parse_of r.entry.kind book (taken_dwords text) (length places) = c.contract.answer ∙ rw r.answer in
      let by_value : answers.told answer ≡ parse_of v.kind book v.dwords (length places) =
      first ∙ ap₂ (λ (k : ℕ) (ds : List ℕ). parse_of k book ds (length places)) r.kind r.dwords in
      record {
        is = by_value ∙ enough_places v.kind v.dwords (length places) (omega (arith, r.few, c.enough_places));
        slots_hold = c.contract.slots_left ∙ ap (λ (ds : List ℕ). list_by (answers.told answer) ds slots) r.dwords;
        places_hold =
            c.contract.places_left
            ∙ ap (λ (ds : List ℕ). list_by (answers.told answer) (places_of (kind_in (answers.told answer)) book ds) places) r.dwords
            ∙ sym (places_by_kind v.kind book v.dwords places (length places) (answers.told answer) by_value);
      }

-- ---- one packet

-- the packet of v, its dwords and their places
module _ (v : EntryValue) (book slots places : List ℕ) {answer : Result Packet Refusal} {slots_left places_left : List ℕ} (g : Gives v book slots places answer slots_left places_left) {p : Packet} (e : answer ≡ Ok p) where
  is_packet : p ≡ packet_of v.kind book v.dwords
  unfolding packet_for
  is_packet = packet_is v.kind book v.dwords (length v.dwords) (sym g.is ∙ ap answers.told e)

  count_is : p.dwords ≡ length v.dwords
  unfolding packet_of
  count_is = ap (λ (q : Packet). q.dwords) is_packet

  dwords_are : take p.dwords slots_left ≡ v.dwords
  unfolding list_by
  dwords_are = rw (count_is, g.slots_hold, e) (take-append_seam v.dwords (drop (length v.dwords) slots))

  places_are : take p.dwords places_left ≡ places_of v.kind book v.dwords
  unfolding list_by
  places_are =
      rw (count_is ∙ sym (length_places v.kind book v.dwords), g.places_hold, e)
      (take-append_seam (places_of v.kind book v.dwords) (drop (length (places_of v.kind book v.dwords)) places))

-- two calls that gave the packet of v gave the same
same_packet : (v : EntryValue) (book : List ℕ) {slots places slots' places' : List ℕ} {a b : Result Packet Refusal} {slots-a places-a slots-b places-b : List ℕ}
    → Gives v book slots places a slots-a places-a → Gives v book slots' places' b slots-b places-b
    → SamePacket a slots-a places-a b slots-b places-b
same_packet v book {slots} {places} {slots'} {places'} {a} {b} g h =
    record {
      answer = same;
      dwords = λ p e. dwords_are v book slots places g e ∙ sym (dwords_are v book slots' places' h (sym same ∙ e));
      places = λ p e. places_are v book slots places g e ∙ sym (places_are v book slots' places' h (sym same ∙ e));
    }
  where
    same : a ≡ b
    same = one_packet_answer a b (g.is ∙ sym h.is)

-- ---- the cut

-- no packet of kind 2 or 3 has fewer dwords than there are control entries
enough_dwords : (kind : ℕ) (s : List ℕ) (count room : ℕ) → is_read_response_or_write_request kind ≡ true → number_of kind s count room ≡ 0 → entries_of s kind ≤ count
enough_dwords kind s count room view none =
    ltb-false count (entries_of s kind)
    (subst (λ (b : Bool). (b && ltb count (entries_of s kind)) ≡ false) view (passed_whole kind s count room none).enough)

accepted_number : (kind : ℕ) (s ds : List ℕ) (room : ℕ) {p : Packet} → parse_of kind s ds room ≡ T.is p → number_of kind s (length ds) room ≡ 0
unfolding parse_of
accepted_number kind s ds room {p} q = by (number_of kind s (length ds) room) q
  where
    by : (n : ℕ) → T.unless n (T.is (packet_of kind s ds)) ≡ T.is p → n ≡ 0
    by zero h = refl
    by (suc n) h = absurd (let z : ◌≡◌ {A = ℕ} 0 1 = cc in omega arith)

-- the view of kinds 2 and 3 starts at n, which is within the dwords
cut_at : (v : EntryValue) (book : List ℕ) → is_read_response_or_write_request v.kind ≡ true → length v.dwords ≤ 256 → {p : Packet} → packet_for v book ≡ T.is p
    → (p.start ≡ Some (entries_of book v.kind)) × (entries_of book v.kind ≤ length v.dwords)
unfolding packet_for packet_of view_from
cut_at v book view few {p} q =
    let within = enough_dwords v.kind book (length v.dwords) (length v.dwords) view (accepted_number v.kind book v.dwords (length v.dwords) q) in
    let whole : entries_of book v.kind % 65536 ≡ entries_of book v.kind = omega (arith, within, few) in
    let start = ap (λ (w : Packet). w.start) (packet_is v.kind book v.dwords (length v.dwords) q) in
    (start ∙ rw view (ap Some whole), within)

-- a question about an accepted packet is answered
no_refusal : (v : EntryValue) (book : List ℕ) {p : Packet} → packet_for v book ≡ T.is p → refusal v.kind book v.dwords ≡ 0
unfolding packet_for refusal
no_refusal v book q = accepted_number v.kind book v.dwords (length v.dwords) q

-- what `data` hands out of the first slots lies n dwords behind their start
own_view : (v : EntryValue) (book : List ℕ) (count : ℕ) {left : List ℕ} → is_read_response_or_write_request v.kind ≡ true → refusal v.kind book v.dwords ≡ 0 → take count left ≡ v.dwords
    → (slots dwords view : Slice) → slots.now ≡ left → OwnDwords slots 0 (take count left) dwords → DataView v.kind book dwords view
    → OwnDwords slots (entries_of book v.kind) (drop (entries_of book v.kind) v.dwords) view
own_view v book count {left} kind none says slots dwords view slots_are first handed =
    let are : dwords.now ≡ v.dwords = first.is ∙ says in
    let passed : refusal v.kind book dwords.now ≡ 0 = ap (refusal v.kind book) are ∙ none in
    own_is (ap (drop (entries_of book v.kind)) are)
    (own_front count (first.is ∙ ap (take count) (sym slots_are)) first.memory (omega (arith, first.place))
    (view_is_the_callers_own v.kind book kind passed handed))

-- a packet of kind 2 or 3 has its view from n onward, as the text says pieces
cut_once : (pieces : Pieces) (text : List ℕ) (v : EntryValue) → Belongs pieces text v → is_read_response_or_write_request v.kind ≡ true
    → (book slots places : List ℕ) (p : Packet) (slots_left places_left : List ℕ) → PacketCall pieces text book slots places (Ok p) slots_left places_left
    → CutOnce v book p slots_left
cut_once pieces text v b view book slots places p slots_left places_left c =
    let g = gives pieces text book slots places (Ok p) slots_left places_left c v b in
    let r = says pieces text book slots places (Ok p) slots_left places_left c v b in
    let at = cut_at v book view r.few (sym g.is) in
    let own = dwords_are v book slots places g refl in
    let none = no_refusal v book (sym g.is) in
    record {
      start = at.0;
      enough = at.1;
      view = ap (drop (entries_of book v.kind)) own;
      handed_out = ap (view_of v.kind book) own ∙ view_is_from_n v.kind book v.dwords view none;
      callers_own = own_view v book p.dwords view none own;
    }

-- ---- round after round

-- what a text says pieces is what is written, and that is a record of it
round_says : (pieces : Pieces) (text next : List ℕ) → Round pieces text next → (v : EntryValue) × Belongs pieces text v × IsRecord next v
round_says pieces text next r =
    let h = accepted_says pieces text r.slots r.entry r.left r.read in
    let w = h.2.written r.buffer (Ok r.count) r.written r.write in
    let number : r.count ≡ length (record_bytes h.0) = cc in
    let next_is : next ≡ record_bytes h.0 = r.handed_on ∙ ap (λ (n : ℕ). take n r.written) number ∙ w.first in
    (h.0, h.1, rw next_is h.2.is_record)

pub comes_says : (pieces : Pieces) (text last : List ℕ) → Comes pieces text last → (v : EntryValue) × Belongs pieces text v × IsRecord last v
comes_says pieces text last (Comes.once r) = round_says pieces text last r
comes_says pieces text last (Comes.again {any} {next} a r) =
    let h = comes_says pieces text next a in
    let k = round_says any next last r in
    let one : h.0 ≡ k.0 = one_reading any next h.0 k.0 (Belongs.a_record h.2) k.1 in
    (k.0, rw one at h.1, k.2)

-- ---- the promises

-- demand 3 for packets
pub one_packet : (pieces : Pieces) → OnePacket pieces
one_packet pieces =
    record {
      of_what_it_says = λ text v b book slots places answer slots_left places_left c. gives pieces text book slots places answer slots_left places_left c v b;
      line_and_record =
          λ line record-text v l r book slots places a slots-a places-a c any slots' places' b slots-b places-b d.
          same_packet v book (gives pieces line book slots places a slots-a places-a c v (Belongs.line l))
          (gives any record-text book slots' places' b slots-b places-b d v (Belongs.a_record r));
      cut_once = cut_once pieces;
      never_a_second_cut =
          λ text last comes book slots places a slots-a places-a c any slots' places' b slots-b places-b d.
          let h = comes_says pieces text last comes in
          same_packet h.0 book (gives pieces text book slots places a slots-a places-a c h.0 h.1)
          (gives any last book slots' places' b slots-b places-b d h.0 (Belongs.a_record h.2));
    }

-- demand 3, one proof for both choices
pub demand_3 : (pieces : Pieces) → Demand3 pieces
demand_3 pieces = record { lines_and_records = lines_and_records pieces; one_packet = one_packet pieces }
