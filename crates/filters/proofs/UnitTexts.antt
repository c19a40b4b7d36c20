-- What a unit puts out, from what the row or the record puts out. Assumes nothing.
use Rattle.std.specs.Prelude.{Err, None, Ok, Option, Result, Some}
use Rattle.refusal.specs.declared.Refusal.{Refusal}
use Prim.Native.Nat.{ℕ, ◌+◌, ◌≤◌}
use mathlib.Core.Path.{◌≡◌, refl, ap, ◌∙◌}
use mathlib.Core.List.{List, [], ◌∷◌, ◌++◌}
use native.Mathlib.Omega.{arith}
use lib.ListN.{length, take, length-append}
use Rattle.text.specs.Told as T
use Rattle.text.specs.Decimal.{decimal_text}
use Rattle.text.specs.Quote.{bytes}
use Rattle.entry.specs.declared.Entry.{Entry}
use Rattle.scan.specs.declared.Pieces.{Pieces}
use Rattle.scan.specs.declared.Pieces.TheVariants.{Lenient}
use Rattle.scan.specs.Parse.{parse_of}
use Rattle.writer.specs.Writing.{bytes_of}
use Rattle.units.specs.declared.Unit.{Unit}
use Rattle.units.specs.declared.Unit.TheVariants as U
use Rattle.units.specs.Feeding.{text_length}
use Rattle.refusal.specs.Number.{number_of}
use Rattle.refusal.specs.Told.{told_maybe}
use Rattle.stream.specs.Feeding.{unit_told}
use Rattle.listing_rows.specs.Rows.{Put, word_and_number, refused_row, entry_row, totals_row}
use Rattle.listing_rows.proofs.Putting.{decimal_length, word_length}
use Rattle.filters.specs.declared.Filter.TheVariants as F
use Rattle.filters.specs.declared.Counts.{Counts}
use Rattle.filters.specs.declared.Run.{Run}
use Rattle.filters.specs.Seen.{Seen}
use Rattle.filters.specs.Seen as S
use Rattle.filters.specs.Texts.{seen_by, row_of, record_by, told_by, line_told, cut_told}
use Rattle.filters.specs.Filter.{one_more, counted, out_by, tell_by, last_out, last_told}
use Rattle.filters.specs.Rows.{RowPut, Told, Recorded, RecordPut}
use Rattle.filters.specs.Calls.{CutPut, LastPut}
use Rattle.filters.proofs.Parts.{put_none}

-- what is told of a unit, from the answer with an array of 256 slots
module _ {k : ℕ} (enough : k ≡ 256) (pieces : Pieces) (cut : Unit) (rest : List ℕ) {r : Result (Option Entry) Refusal} (a : told_maybe r ≡ unit_told pieces cut rest k) where
  pub unit_is : {e : Entry} → r ≡ Ok (Some e) → unit_told pieces cut rest 256 ≡ T.is e
  unit_is q = rw (← enough, ← a, q)

  pub unit_refused : {n : Refusal} → r ≡ Err n → unit_told pieces cut rest 256 ≡ T.refused (number_of n)
  unit_refused q = rw (← enough, ← a, q)

  pub unit_none : r ≡ Ok None → unit_told pieces cut rest 256 ≡ T.absent
  unit_none q = rw (← enough, ← a, q)

-- a line that was cut off
module _ {cut : Unit} (rest : List ℕ) {n : ℕ} (q : cut ≡ U.Text n) where
  pub line_fits : text_length cut ≤ length rest → n ≤ length rest
  unfolding text_length
  line_fits h = rw q at h

  pub line_text : {k : ℕ} → k ≡ 256 → {t : T.Told Entry} → t ≡ parse_of Lenient (take n rest) k → t ≡ line_told cut rest
  unfolding line_told
  line_text enough e = e ∙ rw (enough, q)

pub line_none : (cut : Unit) (rest : List ℕ) → ((n : ℕ) → cut ≡ U.Text n → ⊥) → T.absent ≡ line_told cut rest
unfolding line_told
line_none (U.Text n) rest h = absurd (h n refl)
line_none U.Long rest h = refl
line_none U.Cut rest h = refl
line_none U.Open rest h = refl
line_none U.Alien rest h = refl

-- one unit more
module _ (c : Counts) {seen : Seen} where
  count_none : seen ≡ S.Nothing → c ≡ counted c seen
  unfolding counted
  count_none q = rw q

  units_entry : {d : Counts} {kind dwords : ℕ} → d ≡ counted c seen → seen ≡ S.Entry kind dwords → d.units ≡ one_more c.units
  unfolding counted
  units_entry e q = ap (λ (d : Counts). d.units) (e ∙ ap (counted c) q)

  units_refused : {d : Counts} {k : ℕ} → d ≡ counted c seen → seen ≡ S.Refused k → d.units ≡ one_more c.units
  unfolding counted
  units_refused e q = ap (λ (d : Counts). d.units) (e ∙ ap (counted c) q)

-- a row is short
entry_short : (n kind dwords : ℕ) → length (entry_row n kind dwords) ≤ 75
unfolding entry_row
entry_short n kind dwords =
    three (decimal_text n) (word_and_number (bytes " kind ") kind) (word_and_number (bytes " dwords ") dwords) (decimal_length n) (word_length (bytes " kind ") kind) (word_length (bytes " dwords ") dwords)
  where
    three : (x y z : List ℕ) → length x ≤ 20 → length y ≤ 6 + 20 → length z ≤ 8 + 20 → length (x ++ (y ++ (z ++ (10 ∷ [])))) ≤ 75
    three x y z a b d = omega (arith, length-append x (y ++ (z ++ (10 ∷ []))), length-append y (z ++ (10 ∷ [])), length-append z (10 ∷ []))

refused_short : (n k : ℕ) → length (refused_row n k) ≤ 75
unfolding refused_row
refused_short n k =
    two (decimal_text n) (word_and_number (bytes " refused ") k) (decimal_length n) (word_length (bytes " refused ") k)
  where
    two : (x y : List ℕ) → length x ≤ 20 → length y ≤ 9 + 20 → length (x ++ (y ++ (10 ∷ []))) ≤ 75
    two x y a b = omega (arith, length-append x (y ++ (10 ∷ [])), length-append y (10 ∷ []))

-- the row of a unit, by its answer
module _ (out : List ℕ) (run : Run) (out' : List ℕ) (answer : Result (Option Entry) Refusal) {next : Counts}
    (count : next ≡ counted run.counts (seen_by (told_maybe answer))) (r : ℕ) where
  abbrev with_row : Run
  with_row = record { from = run.from; state = run.state; at = r; told = run.told; counts = next }

  pub entry_row_put : {e : Entry} → answer ≡ Ok (Some e) → Put out run.at (entry_row next.units e.kind e.dwords) out' r
      → RowPut (seen_by (told_maybe answer)) out run out' with_row
  unfolding row_of seen_by
  entry_row_put {e} q p =
      let seen : seen_by (told_maybe answer) ≡ S.Entry e.kind e.dwords = rw q in
      let units : next.units ≡ one_more run.counts.units = units_entry run.counts count seen in
      record {
        from_is = refl;
        state_is = refl;
        counts_is = count;
        told_is = refl;
        put = rw (q, ← units) p;
        short = omega (arith, p.place, entry_short next.units e.kind e.dwords);
      }

  pub refused_row_put : {k : Refusal} → answer ≡ Err k → Put out run.at (refused_row next.units (number_of k)) out' r
      → RowPut (seen_by (told_maybe answer)) out run out' with_row
  unfolding row_of seen_by
  refused_row_put {k} q p =
      let seen : seen_by (told_maybe answer) ≡ S.Refused (number_of k) = rw q in
      let units : next.units ≡ one_more run.counts.units = units_refused run.counts count seen in
      record {
        from_is = refl;
        state_is = refl;
        counts_is = count;
        told_is = refl;
        put = rw (q, ← units) p;
        short = omega (arith, p.place, refused_short next.units (number_of k));
      }

  -- no row where no unit ended
  pub no_row_put : answer ≡ Ok None → out' ≡ out → r ≡ run.at → run.at ≤ length out → RowPut (seen_by (told_maybe answer)) out run out' with_row
  unfolding row_of seen_by
  no_row_put q same place room =
      record {
        from_is = refl;
        state_is = refl;
        counts_is = count;
        told_is = refl;
        put = rw (q, same, place) (put_none out run.at room);
        short = omega (arith, place);
      }

-- what is told of a unit without a record
module _ (told : List ℕ) (run : Run) (told' : List ℕ) {next : Counts} (r : ℕ) where
  pub refused_told : {k : ℕ} → next ≡ counted run.counts (S.Refused k) → Put told run.told (refused_row next.units k) told' r → Told (S.Refused k) told run told' (record { from = run.from; state = run.state; at = run.at; told = r; counts = next })
  unfolding told_by
  refused_told {k} count p =
      record {
        from_is = refl;
        state_is = refl;
        counts_is = count;
        at_is = refl;
        tells = rw (← units_refused run.counts {seen = S.Refused k} count refl) p;
        short = omega (arith, p.place, refused_short next.units k);
      }

-- a unit that was cut off, by its row
module _ (cut : Unit) (unit out told : List ℕ) (run : Run) (out' : List ℕ) (r : Run) (room : run.told ≤ length told) where
  pub listed_unit : RowPut (seen_by (line_told cut unit)) out run out' r → CutPut F.Listing cut unit out told run out' told r
  unfolding out_by tell_by cut_told
  listed_unit p =
      record {
        from_is = p.from_is;
        state_is = p.state_is;
        counts_is = p.counts_is;
        put = p.put;
        tells = rw p.told_is (put_none told run.told room);
        short = omega (arith, p.short);
        told_short = omega (arith, p.told_is);
      }

  pub unpacked_unit : (pieces : Pieces) → RowPut (seen_by (unit_told pieces cut unit 256)) out run out' r → CutPut (F.Unpack pieces) cut unit out told run out' told r
  unfolding out_by tell_by cut_told
  unpacked_unit pieces p =
      record {
        from_is = p.from_is;
        state_is = p.state_is;
        counts_is = p.counts_is;
        put = p.put;
        tells = rw p.told_is (put_none told run.told room);
        short = omega (arith, p.short);
        told_short = omega (arith, p.told_is);
      }

-- a unit that is packed
module _ (pieces : Pieces) (cut : Unit) (unit out told : List ℕ) (run : Run) (at_room : run.at ≤ length out) (told-room : run.told ≤ length told) where
  pub nothing_packed : unit_told pieces cut unit 256 ≡ T.absent → CutPut (F.Pack pieces) cut unit out told run out told run
  unfolding out_by tell_by cut_told record_by Rattle.stream.specs.Answers.records_of Rattle.stream.specs.Answers.said_by seen_by told_by counted
  nothing_packed q =
      record {
        from_is = refl;
        state_is = refl;
        counts_is = rw q;
        put = rw q (put_none out run.at at_room);
        tells = rw q (put_none told run.told told-room);
        short = omega arith;
        told_short = omega arith;
      }

  pub refused_unit : {k : ℕ} → unit_told pieces cut unit 256 ≡ T.refused k → {told' : List ℕ} {r : Run} → Told (S.Refused k) told run told' r → CutPut (F.Pack pieces) cut unit out told run out told' r
  unfolding out_by tell_by cut_told record_by Rattle.stream.specs.Answers.records_of Rattle.stream.specs.Answers.said_by seen_by
  refused_unit q p =
      record {
        from_is = p.from_is;
        state_is = p.state_is;
        counts_is = p.counts_is ∙ rw q;
        put = rw (q, p.at_is) (put_none out run.at at_room);
        tells = rw q p.tells;
        short = omega (arith, p.at_is);
        told_short = omega (arith, p.short);
      }

  pub packed_unit : {e : Entry} {dwords : List ℕ} → unit_told pieces cut unit 256 ≡ T.is e → record_by (take (text_length cut) unit) (T.is e) ≡ bytes_of (take (text_length cut) unit) e dwords → Recorded (take (text_length cut) unit) e dwords → {out' : List ℕ} {r : Run} → RecordPut (take (text_length cut) unit) e dwords out run out' r → CutPut (F.Pack pieces) cut unit out told run out' told r
  unfolding out_by tell_by cut_told seen_by told_by
  packed_unit q is has p =
      record {
        from_is = p.from_is;
        state_is = p.state_is;
        counts_is = p.counts_is ∙ rw q;
        put = rw (q, is) p.put;
        tells = rw (q, p.told_is) (put_none told run.told told-room);
        short = omega (arith, p.put.place, has.short);
        told_short = omega (arith, p.told_is);
      }

-- the end
module _ (out told : List ℕ) (run : Run) (at_room : run.at ≤ length out) (told-room : run.told ≤ length told) where
  pub last_listing : {out' : List ℕ} {r : ℕ} → Put out run.at (totals_row run.counts.units run.counts.entries) out' r → LastPut F.Listing out told run out' told (record { from = run.from; state = run.state; at = r; told = run.told; counts = run.counts })
  unfolding last_out last_told
  last_listing p = record { counts_is = refl; put = p; tells = put_none told run.told told-room }

  pub last_unpack : (pieces : Pieces) {out' : List ℕ} {r : ℕ} → Put out run.at (totals_row run.counts.units run.counts.entries) out' r → LastPut (F.Unpack pieces) out told run out' told (record { from = run.from; state = run.state; at = r; told = run.told; counts = run.counts })
  unfolding last_out last_told
  last_unpack pieces p = record { counts_is = refl; put = p; tells = put_none told run.told told-room }

  pub last_pack : (pieces : Pieces) {told' : List ℕ} {r : ℕ} → Put told run.told (totals_row run.counts.units run.counts.entries) told' r → LastPut (F.Pack pieces) out told run out told' (record { from = run.from; state = run.state; at = run.at; told = r; counts = run.counts })
  unfolding last_out last_told
  last_pack pieces p = record { counts_is = refl; put = put_none out run.at at_room; tells = p }

-- the size of a record that was written
pub bytes_size : {m n : ℕ} → ◌≡◌ {A = Result ℕ Refusal} (Ok m) (Ok n) → m ≡ n
bytes_size e = cc

-- a record that was put
pub record_unit : (text : List ℕ) (e : Entry) (dwords out : List ℕ) (run : Run) (out' : List ℕ) (n : ℕ) {next : Counts} → next ≡ counted run.counts (S.Entry e.kind e.dwords) → ◌≡◌ {A = Result ℕ Refusal} (Ok (length (bytes_of text e dwords))) (Ok n) → Put out run.at (bytes_of text e dwords) out' (run.at + length (bytes_of text e dwords)) → RecordPut text e dwords out run out' (record { from = run.from; state = run.state; at = run.at + n; told = run.told; counts = next })
record_unit text e dwords out run out' n count q p =
    record { from_is = refl; state_is = refl; counts_is = count; told_is = refl; put = rw (← bytes_size q) p }
