-- What the packet call promises, said of the book's tables: a number is answered exactly when it applies and no earlier one does. Each test of the
-- call is its number's condition, and the first that holds is the answer. Assumes nothing.
use Rattle.std.specs.Prelude.{Err, None, Ok, Option, Result, Some}
use Rattle.refusal.specs.declared.Refusal.{Refusal}
use Prim.Native.Nat.{ℕ, zero, suc, ◌<◌}
use mathlib.Core.Path.{◌≡◌, refl, sym, ap, subst, ◌∙◌}
use mathlib.Core.Bool.{Bool, true, false, cond, ◌&&◌}
use mathlib.Core.List.{List, [], ◌∷◌, ◌++◌}
use mathlib.Core.Logic.{◌↔◌, ⊎_elim}
use native.Mathlib.Omega.{arith}
use borrow.Author.Tests.{ltb-true, ltb-false, eqb-true, eqb-false, ne_eqb}
use lib.Dec.{eqb, ltb}
use lib.ListN.{length, take, drop}
use lib.Seq.{take_at, drop_at}
use Rattle.text.specs.Told as T
use Rattle.text.proofs.Places.{by_order}
use Rattle.tlv.specs.Number.{Bytes}
use Rattle.tlv.specs.Grammar.{All, Apart}
use Rattle.book.specs.Grammar.{Owner, kind, uuid, entry_piece, Table, GoodTable, table_piece, IsBook}
use Rattle.book.specs.Reading.{accepted, check_of}
use Rattle.book.specs.Finders.{FirstSo, Finds, place_of, control_table, uuid_table, entry_count, entry_of_offset}
use Rattle.book.proofs.Book.{book_is, book_all, check_decides}
use Rattle.book.proofs.Unique.{one_book}
use Rattle.book.proofs.Answers.{control_table_is, control_table_none, uuid_table_is, uuid_table_none, count_entries_is, first_good, entry_of_offset_is}
use Rattle.book.proofs.Finding.{first_stands}
use Rattle.packet.specs.declared.Packet.{Packet}
use Rattle.packet.specs.Packet.{
  is_read_response_or_write_request,
  is_xdomain,
  zero_uuid,
  is_nothing,
  control_at,
  entries_of,
  number_checked,
  number_of,
  after,
  parse_of,
  places_of,
  packet_of,
  list_by,
  Parsed,
  Over,
}
use Rattle.packet.specs.declared.fill.Pick.TheVariants.{Any}
use Rattle.packet.specs.Steps.{entry_of}
use Rattle.packet.specs.Conditions.{Has, HasNot, NoHeader, TooFew, Condition, Applies}
use Rattle.refusal.specs.Number as numbers
use Rattle.refusal.specs.Told.{told}
use Rattle.refusal.proofs.Told.{number_some}
use Rattle.packet.proofs.Packets.{one_packet_answer, length_places}

-- ---- tables

nothing_at : {p : ℕ} → None ≡ Some p → ⊥
nothing_at h = let z : ◌≡◌ {A = ℕ} 0 1 = cc in omega arith

false_true : false ≡ true → ⊥
false_true h = let z : ◌≡◌ {A = ℕ} 0 1 = cc in omega arith

-- a table among others is not one that none of them is
among_all : (P : Table → Type 0) (before : List Table) (t : Table) (behind : List Table) → All P (before ++ (t ∷ behind)) → P t
among_all P [] t behind a = a.0
among_all P (x ∷ before) t behind a = among_all P before t behind a.1

module _ (s : List ℕ) (b : IsBook s) (owner : Owner) where
  none_has : All (λ t. t.owner ≡ owner → ⊥) b.tables → HasNot s owner
  none_has a t h =
      among_all (λ t. t.owner ≡ owner → ⊥) h.before t h.behind (subst (All (λ t. t.owner ≡ owner → ⊥)) (one_book b h.book ∙ h.among) a) h.owner_is

  found_has : {place : ℕ} (f : FirstSo s table_piece (λ t. t.owner ≡ owner) b.tables place) → Has s owner f.value
  found_has f = record { book = b; before = f.before; behind = f.behind; among = f.among; owner_is = f.so }

-- a table of one owner stands once
abbrev Once : List Table → Type 0
Once = Apart (λ t u. t.owner ≡ u.owner)

one_table : (xs ys : List Table) (t u : Table) (behind rest : List Table) → xs ++ (t ∷ behind) ≡ ys ++ (u ∷ rest) → Once (xs ++ (t ∷ behind)) → t.owner ≡ u.owner → t ≡ u
one_table [] [] t u behind rest e a o = cc
one_table [] (y ∷ ys) t u behind rest e a o =
    let later : behind ≡ ys ++ (u ∷ rest) = cc in
    absurd (among_all (λ v. t.owner ≡ v.owner → ⊥) ys u rest (subst (All (λ v. t.owner ≡ v.owner → ⊥)) later a.0) o)
one_table (x ∷ xs) [] t u behind rest e a o =
    let same : x ≡ u = cc in
    absurd (among_all (λ v. x.owner ≡ v.owner → ⊥) xs t behind a.0 (ap (λ (v : Table). v.owner) same ∙ sym o))
one_table (x ∷ xs) (y ∷ ys) t u behind rest e a o =
    let tails : xs ++ (t ∷ behind) ≡ ys ++ (u ∷ rest) = cc in
    one_table xs ys t u behind rest tails a.1 o

has_one : (s : List ℕ) (owner : Owner) (t u : Table) → Has s owner t → Has s owner u → t ≡ u
has_one s owner t u h g =
    one_table h.before g.before t u h.behind g.behind (sym h.among ∙ one_book h.book g.book ∙ g.among)
    (subst Once h.among h.book.tables_apart) (h.owner_is ∙ sym g.owner_is)

-- ---- the tests are the conditions

module _ (k : ℕ) (s : List ℕ) (count room : ℕ) where
  -- no number below this one applies
  abbrev Clear : ℕ → Type 0
  Clear n = (j : ℕ) → j < n → Condition k s count room j → ⊥

  -- a number in its place: the first that applies, or 0 where none does
  data Answered : ℕ → Type 0 where
    refused : (n : ℕ) → 0 < n → Applies k s count room n → Answered n
    packet : Clear 27 → Answered 0

  clear_next : (n : ℕ) → Clear n → (Condition k s count room n → ⊥) → Clear (suc n)
  clear_next n f not_so j h c = by_order j n (λ l. f j l c) (λ e. not_so (rw e at c)) (λ l. absurd (omega arith))

  -- a test: where it holds the number applies, else the rest is judged
  test : (n : ℕ) → 0 < n → (b : Bool) (rest : ℕ) → (b ≡ true → Condition k s count room n) → (b ≡ false → Condition k s count room n → ⊥) → Clear n
      → (Clear (suc n) → Answered rest) → Answered (cond b n rest)
  test n some true rest so not_so c later = refused n some (record { holds = so refl; first = c })
  test n some false rest so not_so c later = later (clear_next n c (not_so refl))

  clear_20 : Clear 20
  unfolding Condition
  clear_20 j h c =
      rw (ne_eqb j 20 (omega arith), ne_eqb j 21 (omega arith), ne_eqb j 22 (omega arith), ne_eqb j 23 (omega arith), ne_eqb j 24 (omega arith), ne_eqb j 25 (omega arith), ne_eqb j 26 (omega arith)) at c

  module _ (b : IsBook s) where
    no_control : (f : Option ℕ) → control_table s k ≡ f → is_nothing f ≡ true → HasNot s (kind k)
    no_control (Some p) e h = absurd (false_true h)
    no_control None e h = none_has s b (kind k) (control_table_none s b k e)

    some_control : (f : Option ℕ) → control_table s k ≡ f → is_nothing f ≡ false → HasNot s (kind k) → ⊥
    some_control (Some p) e h n = let f = control_table_is s b k p e in n f.value (found_has s b (kind k) f)
    some_control None e h n = absurd (false_true (sym h))

    no_header : (f : Option ℕ) → uuid_table s zero_uuid ≡ f → (c : Bool) → is_xdomain k ≡ c → (c && is_nothing f) ≡ true → NoHeader k s
    no_header (Some p) e true x h = absurd (false_true h)
    no_header None e true x h = record { crossing = x; none = none_has s b (uuid zero_uuid) (uuid_table_none s b zero_uuid e) }
    no_header f e false x h = absurd (false_true h)

    some_header : (f : Option ℕ) → uuid_table s zero_uuid ≡ f → (c : Bool) → is_xdomain k ≡ c → (c && is_nothing f) ≡ false → NoHeader k s → ⊥
    some_header (Some p) e true x h n = let f = uuid_table_is s b zero_uuid p e in n.none f.value (found_has s b (uuid zero_uuid) f)
    some_header None e true x h n = false_true (sym h)
    some_header f e false x h n = false_true (sym x ∙ n.crossing)

    -- n is the number of control entries
    pub entries_are : (t : Table) → Has s (kind k) t → entries_of s k ≡ length t.entries
    unfolding entries_of control_at
    entries_are t h = by (control_table s k) refl
      where
        by : (f : Option ℕ) → control_table s k ≡ f → entry_count s (place_of f) ≡ length t.entries
        by (Some p) e =
            let f = control_table_is s b k p e in
            let same : f.value ≡ t = has_one s (kind k) f.value t (found_has s b (kind k) f) h in
            count_entries_is s f.value p (first_good GoodTable f b.tables_good) (first_stands f) ∙ ap (λ (u : Table). length u.entries) same
        by None e = absurd (none_has s b (kind k) (control_table_none s b k e) t h)

    too_few : (HasNot s (kind k) → ⊥) → (f : Option ℕ) → control_table s k ≡ f → (v : Bool) → is_read_response_or_write_request k ≡ v → (v && ltb count (entries_of s k)) ≡ true → TooFew k s count
    too_few some None e v x l = absurd (some (none_has s b (kind k) (control_table_none s b k e)))
    too_few some (Some p) e false x l = absurd (false_true l)
    too_few some (Some p) e true x l =
        let f = control_table_is s b k p e in
        let h = found_has s b (kind k) f in
        record { viewing = x; table = f.value; has = h; fewer = omega (arith, entries_are f.value h, ltb-true count (entries_of s k) l) }

    enough : (v : Bool) → is_read_response_or_write_request k ≡ v → (v && ltb count (entries_of s k)) ≡ false → TooFew k s count → ⊥
    enough false x l t = false_true (sym x ∙ t.viewing)
    enough true x l t = absurd (let le = ltb-false count (entries_of s k) l in omega (arith, le, entries_are t.table t.has, t.fewer))

  -- the chain of numbers
  checked_chain : IsBook s → Clear 21 → Answered (number_checked k s count room)
  unfolding number_checked Condition
  checked_chain b c21 =
      test 21 (omega arith) (eqb k 0) _ (eqb-true k 0) (eqb-false k 0) c21
      (λ c22. test 22 (omega arith) (is_nothing (control_table s k)) _ (no_control b (control_table s k) refl) (some_control b (control_table s k) refl) c22
      (λ c23. test 23 (omega arith) (is_xdomain k && is_nothing (uuid_table s zero_uuid)) _ (no_header b (uuid_table s zero_uuid) refl (is_xdomain k) refl) (some_header b (uuid_table s zero_uuid) refl (is_xdomain k) refl) c23
      (λ c24. test 24 (omega arith) (ltb 256 count) _ (ltb-true 256 count) (λ h l. absurd (let le = ltb-false 256 count h in omega (arith, le, l))) c24
      (λ c25. test 25 (omega arith) (is_read_response_or_write_request k && ltb count (entries_of s k)) _ (too_few b (c25 22 (omega arith)) (control_table s k) refl (is_read_response_or_write_request k) refl) (enough b (is_read_response_or_write_request k) refl) c25
      (λ c26. test 26 (omega arith) (ltb room count) 0 (ltb-true room count) (λ h l. absurd (let le = ltb-false room count h in omega (arith, le, l))) c26 packet)))))

  chain : Bytes s → Answered (number_of k s count room)
  unfolding number_of Condition
  chain bytes = ⊎_elim passes fails (check_decides s)
    where
      passes : check_of s ≡ accepted → Answered (after (T.number_in (check_of s)) (number_checked k s count room))
      passes e =
          let b = book_is s bytes e in
          rw e (checked_chain b (clear_next 20 clear_20 (λ n. n b)))

      fails : check_of s ≡ T.refused 20 → Answered (after (T.number_in (check_of s)) (number_checked k s count room))
      fails e =
          rw e (refused 20 (omega arith) (record { holds = λ b. absurd (let z : accepted ≡ T.refused 20 = sym (book_all s b) ∙ e in let y : ◌≡◌ {A = ℕ} 0 1 = cc in omega arith); first = clear_20 }))

-- above 26 there is no number
above : (k : ℕ) (s : List ℕ) (count room n : ℕ) → 26 < n → Condition k s count room n → ⊥
unfolding Condition
above k s count room n h c =
    rw (ne_eqb n 20 (omega arith), ne_eqb n 21 (omega arith), ne_eqb n 22 (omega arith), ne_eqb n 23 (omega arith), ne_eqb n 24 (omega arith), ne_eqb n 25 (omega arith), ne_eqb n 26 (omega arith)) at c

-- a number is answered exactly when it applies and no earlier one does
pub packet_number_exactly : (k : ℕ) (s : List ℕ) → Bytes s → (count room n : ℕ) → 0 < n → (number_of k s count room ≡ n) ↔ Applies k s count room n
packet_number_exactly k s bytes count room n some = (λ q. mp (number_of k s count room) (chain k s count room bytes) q, λ a. mpr (number_of k s count room) (chain k s count room bytes) a)
  where
    mp : (r : ℕ) → Answered k s count room r → r ≡ n → Applies k s count room n
    mp r (Answered.refused j p a) e = rw e at a
    mp r (Answered.packet c) e = absurd (omega (arith, e))

    mpr : (r : ℕ) → Answered k s count room r → Applies k s count room n → r ≡ n
    mpr r (Answered.refused j p b) a = by_order j n (λ l. absurd (a.first j l b.holds)) (λ e. e) (λ l. absurd (b.first n l a.holds))
    mpr r (Answered.packet c) a =
        by_order n 27 (λ l. absurd (c n l a.holds)) (λ e. absurd (above k s count room n (omega arith) a.holds)) (λ l. absurd (above k s count room n (omega arith) a.holds))

-- a packet is answered exactly when no number applies
pub packet_answered_exactly : (k : ℕ) (s : List ℕ) → Bytes s → (count room : ℕ)
    → (number_of k s count room ≡ 0) ↔ ((n : ℕ) → Condition k s count room n → ⊥)
packet_answered_exactly k s bytes count room = (λ q. mp (number_of k s count room) (chain k s count room bytes) q, λ f. mpr (number_of k s count room) (chain k s count room bytes) f)
  where
    mp : (r : ℕ) → Answered k s count room r → r ≡ 0 → (n : ℕ) → Condition k s count room n → ⊥
    mp r (Answered.refused j p a) e n h = absurd (omega (arith, e, p))
    mp r (Answered.packet c) e n h =
        by_order n 27 (λ l. c n l h) (λ q. above k s count room n (omega arith) h) (λ l. above k s count room n (omega arith) h)

    mpr : (r : ℕ) → Answered k s count room r → ((n : ℕ) → Condition k s count room n → ⊥) → r ≡ 0
    mpr r (Answered.refused j p a) f = absurd (f j a.holds)
    mpr r (Answered.packet c) f = refl

-- the same through the number that is told, which is 0 for a packet alone
pub packet_answer_number : (k : ℕ) (s : List ℕ) → Bytes s → (ds : List ℕ) (room n : ℕ) → 0 < n
    → (T.number_in (parse_of k s ds room) ≡ n) ↔ Applies k s (length ds) room n
unfolding parse_of
packet_answer_number k s bytes ds room n some = (
  λ q. (packet_number_exactly k s bytes (length ds) room n some).0 (sym (told (number_of k s (length ds) room)) ∙ q),
  λ a. told (number_of k s (length ds) room) ∙ (packet_number_exactly k s bytes (length ds) room n some).1 a,
)
  where
    told : (m : ℕ) → T.number_in (T.unless m (T.is (packet_of k s ds))) ≡ m
    told zero = refl
    told (suc m) = refl

-- ---- what the places are

-- the entry of an offset in a table that the book has, by its place in the book up to the table's end: the first of that offset, of any type
module _ (s : List ℕ) (b : IsBook s) (k : ℕ) (t : Table) (h : Has s (kind k) t) where
  pub control_entry_is : (i : ℕ) → (to : ℕ) × Finds (take to s) entry_piece (λ e. e.offset ≡ i) t.entries (entry_of Any [] s (control_at s k) i)
  unfolding entry_of control_at
  control_entry_is i = by (control_table s k) refl
    where
      by : (f : Option ℕ) → control_table s k ≡ f → (to : ℕ) × Finds (take to s) entry_piece (λ e. e.offset ≡ i) t.entries (entry_of_offset s (place_of f) i)
      by (Some p) e =
          let f = control_table_is s b k p e in
          let same : f.value ≡ t = has_one s (kind k) f.value t (found_has s b (kind k) f) h in
          let to : ℕ = (first_stands f).part.to in (
            to,
            subst (λ v. Finds (take to s) entry_piece (λ e. e.offset ≡ i) v.entries (entry_of_offset s p i)) same
                (entry_of_offset_is s f.value p (first_good GoodTable f b.tables_good) (first_stands f) i),
          )
      by None e = absurd (none_has s b (kind k) (control_table_none s b k e) t h)

-- ---- the call

-- a refusal is the first number that applies, and no place is touched
pub refused_packet : {k : ℕ} {s ds out exit : List ℕ} {e : Refusal} → Bytes s → Parsed k s ds out exit (Err e)
    → Applies k s (length ds) (length out) (numbers.number_of e) × (exit ≡ out)
unfolding list_by
refused_packet {k} {s} {ds} {out} {exit} {e} bytes p =
    ((packet_answer_number k s bytes ds (length out) (numbers.number_of e) (omega (arith, number_some e))).0 (sym (ap T.number_in p.answer)), p.places)

-- a packet writes as many places as it has dwords, and leaves the others
pub packet_writes_its_places : {k : ℕ} {s ds out exit : List ℕ} {p : Packet} → Parsed k s ds out exit (Ok p)
    → (take (length ds) exit ≡ places_of k s ds) × (drop (length ds) exit ≡ drop (length ds) out)
unfolding list_by
packet_writes_its_places {k} {s} {ds} {out} p =
    let size = length_places k s ds in (
      ap (take (length ds)) p.places ∙ take_at (places_of k s ds) (drop (length (places_of k s ds)) out) (length ds) size,
      ap (drop (length ds)) p.places ∙ drop_at (places_of k s ds) (drop (length (places_of k s ds)) out) (length ds) size ∙ ap (λ (n : ℕ). drop n out) size,
    )

-- no second answer satisfies the contract, places included
pub no_second_packet : {k : ℕ} {s ds out exit exit' : List ℕ} {r r' : Result Packet Refusal} → Parsed k s ds out exit r → Parsed k s ds out exit' r' → (r ≡ r') × (exit ≡ exit')
no_second_packet {k} {s} {ds} {out} {exit} {exit'} {r} {r'} a b =
    let same : told r ≡ told r' = a.answer ∙ sym b.answer in
    (one_packet_answer r r' same, a.places ∙ rw same (sym b.places))

-- nor that of a call over a book that was checked before
pub no_second_packet_over : {k : ℕ} {s ds out exit exit' : List ℕ} {r r' : Result Packet Refusal} → Over k s ds out exit r → Over k s ds out exit' r' → (r ≡ r') × (exit ≡ exit')
no_second_packet_over {k} {s} {ds} {out} {exit} {exit'} {r} {r'} a b =
    let same : told r ≡ told r' = a.answer ∙ sym b.answer in
    (one_packet_answer r r' same, a.places ∙ rw same (sym b.places))

-- the same answer whatever the place list held
pub answer_needs_no_old_place : {k : ℕ} {s ds out other exit exit' : List ℕ} {r r' : Result Packet Refusal} → length out ≡ length other
    → Parsed k s ds out exit r → Parsed k s ds other exit' r' → r ≡ r'
answer_needs_no_old_place {k} {s} {ds} {out} {other} {exit} {exit'} {r} {r'} e a b =
    one_packet_answer r r' (a.answer ∙ ap (parse_of k s ds) e ∙ sym b.answer)
