-- What is proved of packets, as one record: the packet call, the questions and the calls of a field answer what the relation says, and nothing else
-- is what it says.
-- Assumes nothing.
use Rattle.refusal.specs.Told as answers
use Rattle.refusal.specs.declared.Refusal.{Refusal}
use Rattle.packet.specs.declared.Packet.{Packet}
use Rattle.std.specs.Prelude.{ℕ, ◌≡◌, true, List, [], ◌∷◌, ◌++◌, ◌↔◌, ◌⊎◌, length, Option, Result}
use Rattle.tlv.specs.Number.{Bytes}
use Rattle.book.specs.declared.Uuid.{Uuid}
use Rattle.book.specs.Grammar.{text_of, Value, Range, Table, IsBook}
use Rattle.packet.specs.declared.field.Ask.TheVariants as Ask
use Rattle.packet.specs.Packet.{is_read_response_or_write_request, is_xdomain, Parsed}
use Rattle.field.specs.declared.Field.{Field}
use Rattle.field.specs.declared.Range.{Range as RangeAnswer}
use Rattle.field.specs.declared.Span.{Span}
use Rattle.field.specs.Source.{entry_of}
use Rattle.field.specs.Names.{Names}
use Rattle.text.specs.Told.{Told}
use Rattle.questions.specs.Described.{is_read, is_write}
use Rattle.questions.specs.Questions as questions
use Rattle.meaning.specs.Packet.{Description, IsPacket}
use Rattle.meaning.specs.Places.{Stands, PlaceOf, RangeStands, ValueStands}
use Rattle.meaning.specs.Call.{Means}
use Rattle.meaning.specs.Questions.{
  Route,
  Cm,
  Read,
  Write,
  Xdomain,
  Adapter,
  Address,
  Size,
  UuidNamed,
  Kept,
  FromOnward,
  ViewTold,
  handed_out,
  IsSource,
  FieldOfOffset,
  FieldNamed,
  FieldHolding,
  TypeTold,
  TypeNameTold,
  Sentence,
  Question,
}
use Rattle.meaning.specs.Fields.{RangeAt, RangeOfName, NumberPlace, NumberName, FieldSays, RangeSays, NameSays}

module _ (k : ℕ) (s ds : List ℕ) {A : Type 0} (Say : Sentence A) where
  -- an answer is what the sentence says, and nothing else is
  pub record OneAnswer (told : Told A) : Type 0 where
    pub is : Question k s ds Say told
    pub only : (r : Told A) → Question k s ds Say r → r ≡ told

-- what is handed out is the list that is told, none where none is, and nothing else is
pub record OneList (k : ℕ) (s ds : List ℕ) (Say : Sentence (List ℕ)) (handed : List ℕ) : Type 0 where
  pub told : Told (List ℕ)
  pub is : Question k s ds Say told
  pub handed_is : handed ≡ handed_out told
  pub only : (r : Told (List ℕ)) → Question k s ds Say r → handed_out r ≡ handed

-- The kinds that the sentences speak of.
pub record Kinds (k : ℕ) : Type 0 where
  -- Reads are kinds 1 and 2, writes 3 and 4.
  pub reads : (is_read k ≡ true) ↔ ((k ≡ 1) ⊎ (k ≡ 2))
  pub writes : (is_write k ≡ true) ↔ ((k ≡ 3) ⊎ (k ≡ 4))
  -- Kinds 8 and 9 go on; the view of kinds 2 and 3 starts at n.
  pub goes_on : (is_xdomain k ≡ true) ↔ ((k ≡ 8) ⊎ (k ≡ 9))
  pub viewed : (is_read_response_or_write_request k ≡ true) ↔ ((k ≡ 2) ⊎ (k ≡ 3))

-- The packet call.
pub record ParseCall : Type 0 where
  -- What it answers, and what it leaves in the place list, is what the relation says; and whatever the relation says is that.
  pub exactly : (k : ℕ) (s : List ℕ) → Bytes s → (ds out exit : List ℕ) (r : Result Packet Refusal) → Parsed k s ds out exit r ↔ Means k s ds out exit (answers.told r)
  -- A kind, tables and dwords make one packet.
  pub one_packet : (k : ℕ) (tables : List Table) (ds : List ℕ) (os qs : List (Option Description)) (u v : Option Uuid) (n m : Option ℕ)
      → IsPacket k tables ds os u n → IsPacket k tables ds qs v m → (os ≡ qs) × (u ≡ v) × (n ≡ m)

-- The questions of a packet, for every kind, book and dwords.
pub record Questions (k : ℕ) (s ds : List ℕ) : Type 0 where
  -- The route is the first dword above the second, 27 under two; cm is its top bit.
  pub route : OneAnswer k s ds (λ ts os u n. Route ds) (questions.route_of k s ds)
  pub cm : OneAnswer k s ds (λ ts os u n. Cm ds) (questions.cm_of k s ds)
  -- Reads, writes and inter-domain packets are so by their kind.
  pub is_read : OneAnswer k s ds (λ ts os u n. Read k) (questions.read_of k s ds)
  pub is_write : OneAnswer k s ds (λ ts os u n. Write k) (questions.write_of k s ds)
  pub is_xdomain : OneAnswer k s ds (λ ts os u n. Xdomain k) (questions.xdomain_of k s ds)
  -- Adapter, address and size are values of the first range of a name, cut to 8 and 16 bits.
  pub adapter_num : OneAnswer k s ds (λ ts os u n. Adapter ds os) (questions.adapter_of k s ds)
  pub data_address : OneAnswer k s ds (λ ts os u n. Address ds os k) (questions.address_of k s ds)
  pub data_size : OneAnswer k s ds (λ ts os u n. Size ds os k) (questions.size_of k s ds)
  -- The view starts where the packet says and is the dwords from there onward; it is empty exactly when there are as many dwords.
  pub data_start : OneAnswer k s ds (λ ts os u n. Kept n) (questions.start_of k s ds)
  pub data_view : OneList k s ds (λ ts os u n. ViewTold ds n) (questions.view_of k s ds)
  pub empty_at_start : (n : ℕ) (view : List ℕ) → FromOnward ds n view → (view ≡ []) ↔ (length ds ≡ n)
  -- The UUID is that of step 2; by name it gathers over the final descriptions.
  pub uuid : OneAnswer k s ds (λ ts os u n. Kept u) (questions.uuid_answer k s ds)
  pub uuid_by_name : (name : List ℕ) → OneAnswer k s ds (λ ts os u n. UuidNamed ds os name) (questions.uuid_by_name k s ds name)
  -- The packet type is the value of the first such range, with the place of its name; 28 where it has none.
  pub packet_type : OneAnswer k s ds (λ ts os u n. TypeTold ds ts os) (questions.type_of k s ds)
  pub packet_type_name : OneList k s ds (λ ts os u n. TypeNameTold ds os) (questions.type_name k s ds)
  -- A field by its offset, by its name, or by the name of a range; the first counts.
  pub field_by_offset : (i : ℕ) → OneAnswer k s ds (λ ts os u n. FieldOfOffset ds ts os i) (questions.field_by_offset k s ds i)
  pub field_by_name : (name : List ℕ) → OneAnswer k s ds (λ ts os u n. FieldNamed ds ts os name) (questions.field_by k s ds Ask.Named name)
  pub field_by_bitfield_name : (name : List ℕ) → OneAnswer k s ds (λ ts os u n. FieldHolding ds ts os name) (questions.field_by k s ds Ask.Holds name)

-- The calls of a field, a range and a name, over a book.
pub record FieldCalls (s : List ℕ) (b : IsBook s) : Type 0 where
  -- A field says what the description has whose entry stands at its place; the place of a packet's field is that of its description.
  pub of_field : (o : Option Description) (f : Field) → PlaceOf b.tables o (entry_of f) → FieldSays s b.tables o f
  pub of_source : (o : Option Description) (f : Field) → IsSource b.tables o f.source → PlaceOf b.tables o (entry_of f)
  -- It has one range behind so many others, and one that is the first of a name.
  pub one_nth : (o : Option Description) (dword k : ℕ) (x y : Told RangeAnswer) → RangeAt b.tables o dword k x → RangeAt b.tables o dword k y → x ≡ y
  pub one_named : (o : Option Description) (dword : ℕ) (name : List ℕ) (x y : Told RangeAnswer) → RangeOfName b.tables o dword name x
      → RangeOfName b.tables o dword name y → x ≡ y
  -- A range says what it has in its description.
  pub of_range : (d : Description) (before : List Range) (range : Range) (behind : List Range) → d.entry.ranges ≡ before ++ (range ∷ behind)
      → (r : RangeAnswer) → RangeStands b.tables d before r.place.at → RangeSays s b.tables d before range r
  -- A number has one name and one place among the values of a range.
  pub one_number_name : (range : Range) (number : ℕ) (x y : List ℕ) → NumberName range number x → NumberName range number y → x ≡ y
  pub one_number_place : (d : Description) (before : List Range) (range : Range) (number p q : ℕ) → NumberPlace b.tables d before range number p
      → NumberPlace b.tables d before range number q → p ≡ q
  -- Where the names of entries, ranges and values stand.
  pub entry_name : (d : Description) (p : ℕ) → Stands b.tables d p → (span : Span) → Names s p span → NameSays s 8 p (text_of d.entry.name) span
  pub range_name : (d : Description) (before : List Range) (range : Range) (behind : List Range) → d.entry.ranges ≡ before ++ (range ∷ behind)
      → (p : ℕ) → RangeStands b.tables d before p → (span : Span) → Names s p span → NameSays s 8 p range.name span
  pub value_name : (d : Description) (ranges : List Range) (r : Range) (others : List Range) → d.entry.ranges ≡ ranges ++ (r ∷ others)
      → (before : List Value) (v : Value) (behind : List Value) → r.values ≡ before ++ (v ∷ behind)
      → (p : ℕ) → ValueStands b.tables d ranges r before p → (span : Span) → Names s p span → NameSays s 7 p v.name span

-- All of it.
pub record PacketMeaning : Type 0 where
  -- The words for kinds mean the kinds that document 01 names.
  pub kinds : (k : ℕ) → Kinds k
  -- The packet call answers the relation.
  pub packet : ParseCall
  -- So do the questions, for every book's bytes.
  pub questions : (k : ℕ) (s : List ℕ) → Bytes s → (ds : List ℕ) → Questions k s ds
  -- So do the calls of a field.
  pub fields : (s : List ℕ) (b : IsBook s) → FieldCalls s b
