-- The packet from its tables: what was opened are the tables of the kind, and what they describe is what the steps say. Assumes nothing.
use Rattle.std.specs.Prelude.{Err, None, Ok, Option, Result, Some}
use Rattle.refusal.specs.declared.Refusal.{Refusal}
use Rattle.book.specs.declared.Uuid.{Uuid}
use Prim.Native.Nat.{ℕ, zero, suc, ◌≤◌, ◌<◌}
use mathlib.Core.Path.{◌≡◌, refl, sym, ap, ap₂, subst, ◌∙◌}
use mathlib.Core.Bool.{Bool, true, false, cond, ◌&&◌}
use mathlib.Core.List.{List, [], ◌∷◌, ◌++◌}
use native.Mathlib.Omega.{arith}
use borrow.Author.Tests.{leb-true, ltb-false, le-ltb, lt-ltb}
use lib.Dec.{eqb, leb, ltb}
use lib.ListN.{length, drop, replicate, length-append, length-drop}
use Rattle.text.specs.Told as T
use Rattle.refusal.specs.Number as numbers
use Rattle.refusal.specs.Told.{told}
use Rattle.refusal.proofs.Told.{one_told}
use Rattle.text.specs.Quote.{bytes}
use Rattle.book.specs.Reading.{accepted, check_of, tables_fill}
use Rattle.book.specs.Finders.{control_table, uuid_table, place_of}
use Rattle.packet.specs.declared.Packet.{Packet}
use Rattle.packet.specs.declared.Tables.{Tables}
use Rattle.packet.specs.declared.fill.Pick.TheVariants.{Any, Typed}
use Rattle.packet.specs.Steps.{entry_of, filled, control_places, header_places, gathered, places_in, places_by, uuid_places, protocol_places, protocol_from, fitting, latch_behind}
use Rattle.packet.specs.Field.{or_else}
use Rattle.packet.specs.Packet.{
  is_xdomain,
  zero_uuid,
  is_nothing,
  control_at,
  header_at,
  is_read_response_or_write_request,
  entries_of,
  number_checked,
  after,
  number_of,
  number_over,
  step_one,
  places_of,
  uuid_of,
  view_from,
  word,
  packet_of,
  parse_of,
  over_of,
  list_by,
  Parsed,
  Over,
}
use Rattle.packet.specs.Inner.{header_for, tables_of, open_of, places_with, uuid_with, Described, Made}
use Rattle.packet.proofs.Filling.{length_filled, length_map_from}
use Rattle.packet.proofs.Clearing.{filled_zeros}

-- ---- what is told fixes the answer

-- two answers that tell the same are the same
pub one_packet_answer : (a b : Result Packet Refusal) → told a ≡ told b → a ≡ b
one_packet_answer = one_told

pub one_opened : (a b : Result Tables Refusal) → told a ≡ told b → a ≡ b
one_opened = one_told

-- ---- how many places

pub length_protocol : (s : List ℕ) (table latched i : ℕ) (ds ps : List ℕ) → length (protocol_from s table latched i ds ps) ≡ length ps
unfolding protocol_from
length_protocol s table latched i [] ps = refl
length_protocol s table latched i (d ∷ ds) [] = refl
length_protocol s table latched i (d ∷ ds) (p ∷ ps) = ap suc (length_protocol s table (latch_behind s (fitting s table i latched) (or_else p (fitting s table i latched)) d latched) (suc i) ds ps)

length_by : (s : List ℕ) (u : Option Uuid) (ds ps : List ℕ) → length (places_by s u ds ps) ≡ length ps
unfolding protocol_places
length_by s (Some u) ds ps = by (uuid_table s u)
  where
    by : (f : Option ℕ) → length (places_in s f ds ps) ≡ length ps
    by (Some table) = length_protocol s table 0 0 ds ps
    by None = refl
length_by s None ds ps = refl

-- each dword has its place
pub length_places : (kind : ℕ) (s ds : List ℕ) → length (places_of kind s ds) ≡ length ds
unfolding places_of uuid_places step_one header_places control_places
length_places kind s ds = by (is_xdomain kind)
  where
    control : length (control_places s (control_at s kind) ds) ≡ length ds
    control = length_map_from (λ i d. entry_of Any [] s (control_at s kind) i) 0 ds

    by : (b : Bool) → length (cond b (uuid_places s ds (step_one kind s ds)) (control_places s (control_at s kind) ds)) ≡ length ds
    by true =
        length_by s (gathered s (bytes "UUID") ds (step_one kind s ds)) ds (step_one kind s ds)
        ∙ length_filled (entry_of Typed [] s (header_at s)) (control_places s (control_at s kind) ds) ∙ control
    by false = control

-- ---- control places from cleared ones

pub control_filled : (s : List ℕ) (table : ℕ) (ds m : List ℕ) → length m ≡ length ds
    → filled (entry_of Any [] s table) (replicate (length m) 0) ≡ control_places s table ds
unfolding filled control_places
control_filled s table ds m n = filled_zeros (entry_of Any [] s table) 0 (length m) ds n

-- ---- by the header

module _ (s ds : List ℕ) where
  -- with a header table: steps 1, 2 and 3
  pub described_on : {header : ℕ} {ps m exit : List ℕ} {uuid : Option Uuid} → m ≡ header_places s header ps → uuid ≡ gathered s (bytes "UUID") ds m
      → exit ≡ places_by s uuid ds m → Described (Some header) s ds ps exit uuid
  unfolding uuid_places
  described_on a b x = record { uuid = b ∙ ap (gathered s (bytes "UUID") ds) a; places = x ∙ ap₂ (λ (u : Option Uuid) (l : List ℕ). places_by s u ds l) (b ∙ ap (gathered s (bytes "UUID") ds) a) a }

  module _ {ps m : List ℕ} (a : m ≡ ps) {header : Option ℕ} where
    pub described_at : {table : ℕ} → header ≡ Some table → {exit : List ℕ} {uuid : Option Uuid} → Described (Some table) s ds m exit uuid → Described header s ds ps exit uuid
    described_at {table} e {exit} {uuid} d =
        subst (λ h. Described h s ds ps exit uuid) (sym e) (subst (λ l. Described (Some table) s ds l exit uuid) a d)

    pub described_none : header ≡ None → Described header s ds ps m None
    described_none e = record { uuid = rw e; places = a ∙ rw e }

-- ---- what was opened

module _ (kind : ℕ) (s : List ℕ) (count room : ℕ) where
  -- no number applies: what four of the tests then say
  pub record Passed : Type 0 where
    pub few : count ≤ 256
    pub enough : (is_read_response_or_write_request kind && ltb count (entries_of s kind)) ≡ false
    pub fit : count ≤ room
    pub there : (is_xdomain kind && is_nothing (uuid_table s zero_uuid)) ≡ false

  pub passed : number_checked kind s count room ≡ 0 → Passed
  unfolding number_checked
  passed e =
      by (eqb kind 0) (is_nothing (control_table s kind)) (is_xdomain kind && is_nothing (uuid_table s zero_uuid)) refl (ltb 256 count) refl
      (is_read_response_or_write_request kind && ltb count (entries_of s kind)) refl (ltb room count) refl e
    where
      hit : {n : ℕ} → suc n ≡ 0 → Passed
      hit h = absurd (omega arith)

      by : (a b c : Bool) → (is_xdomain kind && is_nothing (uuid_table s zero_uuid)) ≡ c → (d : Bool) → ltb 256 count ≡ d
          → (x : Bool) → (is_read_response_or_write_request kind && ltb count (entries_of s kind)) ≡ x → (f : Bool) → ltb room count ≡ f
          → ◌≡◌ {A = ℕ} (cond a 21 (cond b 22 (cond c 23 (cond d 24 (cond x 25 (cond f 26 0)))))) 0 → Passed
      by true b c p d q x v f r h = hit h
      by false true c p d q x v f r h = hit h
      by false false true p d q x v f r h = hit h
      by false false false p true q x v f r h = hit h
      by false false false p false q true v f r h = hit h
      by false false false p false q false v true r h = hit h
      by false false false p false q false v false r h =
          record { few = ltb-false 256 count q; enough = v; fit = ltb-false room count r; there = p }

  -- the same where number 20 is among those that do not apply
  pub passed_whole : number_of kind s count room ≡ 0 → Passed
  unfolding number_of
  passed_whole e = by (T.number_in (check_of s)) e
    where
      by : (n : ℕ) → after n (number_checked kind s count room) ≡ 0 → Passed
      by zero h = passed h
      by (suc n) h = absurd (omega (arith, h))

  -- the tables that were opened are the kind's
  pub record Open (t : Tables) : Type 0 where
    pub none : number_checked kind s count room ≡ 0
    pub few : count ≤ 256
    pub fit : count ≤ room
    pub control : t.control ≡ control_at s kind
    pub header : t.header ≡ header_for kind s
    pub there : (is_xdomain kind && is_nothing (uuid_table s zero_uuid)) ≡ false

  pub opened_tables : {t : Tables} → open_of kind s count room ≡ T.is t → Open t
  unfolding open_of
  opened_tables {t} e = by (number_checked kind s count room) refl e
    where
      by : (n : ℕ) → number_checked kind s count room ≡ n → T.unless n (T.is (tables_of kind s)) ≡ T.is t → Open t
      by zero z h =
          let w = passed z in
          let same : record { control = control_at s kind; header = header_for kind s } ≡ t = cc in
          record {
            none = z;
            few = w.few;
            fit = w.fit;
            control = ap (λ (u : Tables). u.control) (sym same);
            header = ap (λ (u : Tables). u.header) (sym same);
            there = w.there;
          }
      by (suc n) z h = absurd (let q : ◌≡◌ {A = ℕ} 0 1 = cc in omega arith)

  pub opened_refused : {k : ℕ} → open_of kind s count room ≡ T.refused k → (number_checked kind s count room ≡ k) × (0 < k)
  unfolding open_of
  opened_refused {k} e = by (number_checked kind s count room) refl e
    where
      by : (n : ℕ) → number_checked kind s count room ≡ n → T.unless n (T.is (tables_of kind s)) ≡ T.refused k → (number_checked kind s count room ≡ k) × (0 < k)
      by zero z h = absurd (let q : ◌≡◌ {A = ℕ} 0 1 = cc in omega arith)
      by (suc n) z h = let same : suc n ≡ k = cc in (z ∙ same, omega (arith, same))

-- ---- the packet

module _ (kind : ℕ) (s ds : List ℕ) {t : Tables} {room : ℕ} (o : Open kind s (length ds) room t) where
  -- kinds 8 and 9 have the header table, all others none
  header_at_lem : (b : Bool) → is_xdomain kind ≡ b → t.header ≡ cond b (Some (header_at s)) None
  unfolding header_for header_at
  header_at_lem true x = o.header ∙ rw x (by (uuid_table s zero_uuid) (subst (λ b. (b && is_nothing (uuid_table s zero_uuid)) ≡ false) x o.there))
    where
      by : (f : Option ℕ) → is_nothing f ≡ false → f ≡ Some (place_of f)
      by (Some p) e = refl
      by None e = absurd (let q : ◌≡◌ {A = ℕ} 0 1 = cc in omega arith)
  header_at_lem false x = o.header ∙ rw x

  control_is : control_places s t.control ds ≡ control_places s (control_at s kind) ds
  control_is = ap (λ (c : ℕ). control_places s c ds) o.control

  with_header : (b : Bool) → is_xdomain kind ≡ b
      → (places_with t.header s ds (control_places s t.control ds) ≡ places_of kind s ds)
      × (uuid_with t.header s ds (control_places s t.control ds) ≡ uuid_of kind s ds)
  unfolding places_of uuid_of step_one
  with_header true x = (
    ap₂ (λ (h : Option ℕ) (l : List ℕ). places_with h s ds l) (header_at_lem true x) control_is ∙ rw x,
    ap₂ (λ (h : Option ℕ) (l : List ℕ). uuid_with h s ds l) (header_at_lem true x) control_is ∙ rw x,
  )
  with_header false x = (
    ap₂ (λ (h : Option ℕ) (l : List ℕ). places_with h s ds l) (header_at_lem false x) control_is ∙ rw x,
    ap₂ (λ (h : Option ℕ) (l : List ℕ). uuid_with h s ds l) (header_at_lem false x) control_is ∙ rw x,
  )

  pub described_places : places_with t.header s ds (control_places s t.control ds) ≡ places_of kind s ds
  described_places = (with_header (is_xdomain kind) refl).0

  pub described_uuid : uuid_with t.header s ds (control_places s t.control ds) ≡ uuid_of kind s ds
  described_uuid = (with_header (is_xdomain kind) refl).1

module _ (kind : ℕ) (s ds out : List ℕ) (fits : length s ≤ 65535) where
  number_is : number_over kind s (length ds) (length out) ≡ number_checked kind s (length ds) (length out)
  unfolding number_over
  number_is = rw (le-ltb 65535 (length s) fits)

  -- a packet: its places in front, the rest as found
  pub over_packet : {t : Tables} → open_of kind s (length ds) (length out) ≡ T.is t → {p : Packet} {ps exit : List ℕ} → Made kind s t ds ps p
      → exit ≡ ps ++ drop (length ds) out → Over kind s ds out exit (Ok p)
  unfolding over_of packet_of list_by
  over_packet {t} e {p} {ps} m x =
      let o = opened_tables kind s (length ds) (length out) e in
      let places : ps ≡ places_of kind s ds = m.places ∙ described_places kind s ds o in
      let none : number_over kind s (length ds) (length out) ≡ 0 = number_is ∙ o.none in
      let start : p.start ≡ word (view_from kind s (places_of kind s ds)) = m.start_is ∙ ap (λ (l : List ℕ). word (view_from kind s l)) places in
      let uuid : p.uuid ≡ uuid_of kind s ds = m.uuid_is ∙ described_uuid kind s ds o in
      record {
        answer = rw none (λ i. T.is (record { kind = m.kind_is i; dwords = m.dwords_are i; uuid = uuid i; start = start i }));
        places = x ∙ ap₂ ◌++◌ places (ap (λ (n : ℕ). drop n out) (sym (length_places kind s ds)));
      }

  -- as many places as before
  pub length_over : {t : Tables} → open_of kind s (length ds) (length out) ≡ T.is t → {p : Packet} {ps : List ℕ} → Made kind s t ds ps p
      → length (ps ++ drop (length ds) out) ≡ length out
  length_over e {p} {ps} m =
      let o = opened_tables kind s (length ds) (length out) e in
      let size : length ps ≡ length ds = ap length (m.places ∙ described_places kind s ds o) ∙ length_places kind s ds in
      length-append ps (drop (length ds) out) ∙ omega (arith, size, length-drop (length ds) out, o.fit)

  -- a number: nothing is touched
  pub over_number : {e : Refusal} → open_of kind s (length ds) (length out) ≡ T.refused (numbers.number_of e) → Over kind s ds out out (Err e)
  unfolding over_of list_by
  over_number {e} h =
      let w = opened_refused kind s (length ds) (length out) h in
      record { answer = sym (refuses (numbers.number_of e) (number_is ∙ w.0) w.1); places = refl }
    where
      refuses : (n : ℕ) → number_over kind s (length ds) (length out) ≡ n → 0 < n
          → T.unless (number_over kind s (length ds) (length out)) (T.is (packet_of kind s ds)) ≡ T.refused n
      refuses zero h lt = absurd (omega arith)
      refuses (suc n) h lt = rw h

-- the check refuses by one number
pub number_20 : (s : List ℕ) {k : ℕ} → check_of s ≡ T.refused k → k ≡ 20
unfolding check_of
number_20 s {k} e = by (leb (length s) 65535 && tables_fill s 0) e
  where
    by : (b : Bool) → cond b accepted (T.refused 20) ≡ T.refused k → k ≡ 20
    by true h = absurd (let q : ◌≡◌ {A = ℕ} 0 1 = cc in omega arith)
    by false h = let same : 20 ≡ k = cc in sym same

-- a checked book is not too long
pub checked_fits : (s : List ℕ) → check_of s ≡ accepted → length s ≤ 65535
unfolding check_of
checked_fits s e = by (leb (length s) 65535) refl (tables_fill s 0) e
  where
    by : (a : Bool) → leb (length s) 65535 ≡ a → (b : Bool) → cond (a && b) accepted (T.refused 20) ≡ accepted → length s ≤ 65535
    by true h b x = leb-true (length s) 65535 h
    by false h b x = absurd (let q : ◌≡◌ {A = ℕ} 0 1 = cc in omega arith)

-- number 20
pub parsed_20 : (kind : ℕ) (s ds out : List ℕ) {e : Refusal} → check_of s ≡ T.refused (numbers.number_of e) → Parsed kind s ds out out (Err e)
unfolding parse_of number_of list_by
parsed_20 kind s ds out {e} h =
    let twenty : numbers.number_of e ≡ 20 = number_20 s h in
    let none : check_of s ≡ T.refused 20 = h ∙ ap T.refused twenty in
    record { answer = rw (twenty, none); places = refl }

-- a call leaves as many places as it was lent
pub length_listed : (kind : ℕ) (s ds out : List ℕ) → length (list_by (parse_of kind s ds (length out)) (places_of kind s ds) out) ≡ length out
unfolding parse_of list_by number_of
length_listed kind s ds out = by (T.number_in (check_of s)) (number_checked kind s (length ds) (length out)) refl
  where
    by : (a b : ℕ) → number_checked kind s (length ds) (length out) ≡ b
        → length (list_by (T.unless (after a b) (T.is (packet_of kind s ds))) (places_of kind s ds) out) ≡ length out
    by (suc a) b e = refl
    by zero (suc b) e = refl
    by zero zero e =
        let fit : length ds ≤ length out = (passed kind s (length ds) (length out) e).fit in
        let size = length_places kind s ds in
        length-append (places_of kind s ds) (drop (length (places_of kind s ds)) out)
        ∙ omega (arith, size, length-drop (length (places_of kind s ds)) out, fit)

-- a book too long to have passed
pub over_20 : (kind : ℕ) (s ds out : List ℕ) → 65535 < length s → Over kind s ds out out (Err Refusal.BadBook)
unfolding over_of number_over list_by
over_20 kind s ds out long = record { answer = rw (lt-ltb 65535 (length s) long); places = refl }

-- over a checked book it makes no difference that the check was made before
pub over_is_parsed : (kind : ℕ) (s ds : List ℕ) {out exit : List ℕ} {r : Result Packet Refusal} → check_of s ≡ accepted → Over kind s ds out exit r
    → Parsed kind s ds out exit r
unfolding over_of parse_of number_of number_over
over_is_parsed kind s ds {out} checked o =
    let fits : ltb 65535 (length s) ≡ false = le-ltb 65535 (length s) (checked_fits s checked) in
    record { answer = o.answer ∙ rw (checked, fits); places = o.places }
