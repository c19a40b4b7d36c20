-- A record is one unit, whole and short, so the records of what units say, one behind the other, are the units of a stream that says the same.
-- Assumes nothing.
use Prim.Native.Nat.{ℕ, ◌≤◌}
use mathlib.Core.Path.{◌≡◌, refl, sym, ap, subst, ◌∙◌}
use mathlib.Core.Bool.{Bool, true, false, cond}
use mathlib.Core.List.{List, [], ◌∷◌, ◌++◌, map}
use native.Mathlib.Omega.{arith}
use lib.Dec.{ltb}
use lib.ListN.{length, replicate, length-replicate}
use borrow.Author.Tests.{eq-eqb, ne_eqb, le-ltb}
use Rattle.text.specs.Told as T
use Rattle.tlv.specs.Number.{Bytes}
use Rattle.tlv.specs.Grammar.{All}
use Rattle.tlv.proofs.Fields.{field_found, two_bytes}
use Rattle.entry.specs.declared.Entry.{Entry}
use Rattle.entry.specs.Entry.{EntryValue, value_of}
use Rattle.scan.specs.declared.Pieces.{Pieces}
use Rattle.scan.specs.Parse.{parse_of, line_dwords}
use Rattle.scan.specs.Line.{Line}
use Rattle.scan.proofs.Theorems.{line_entry_is, line_entry_all}
use Rattle.record.specs.Grammar.{record_bytes, Ranged, IsRecord}
use Rattle.record.specs.Reading.{read_of, dwords_of}
use Rattle.record.proofs.Complete.{value_in, record_not_refused}
use Rattle.record.proofs.Sound.{passes_all, framed_is}
use Rattle.record.proofs.Records.{entry_answered, Accepts, record_accepted_exactly, accepted_is_record, one_record_reading, record_at_most_5227}
use Rattle.intake.specs.Intake.{Belongs, starts_a1, taken_dwords}
use Rattle.intake.proofs.Theorems.{record_starts, line_starts}
use Rattle.intake.proofs.Ranges.{line_ranged}
use Rattle.intake.proofs.Made.{record_bytes_lem}
use Rattle.units.specs.declared.Framing.TheVariants.{Both}
use Rattle.units.specs.Units.{marked, stated, Whole, Units}
use Rattle.units.specs.Kept.{most, is_long}
use Rattle.stream.specs.Answers.{answer_of, said_by, said_of, records_of}

module _ (t : List ℕ) (v : EntryValue) (r : IsRecord t v) where
  pub starts_a1_lem : starts_a1 t ≡ true
  unfolding starts_a1
  starts_a1_lem = eq-eqb _ _ (record_starts t v r)

  -- a record has the length that it says
  pub record_stated : length t ≡ stated t
  unfolding stated
  record_stated =
      let f = field_found t 0 (framed_is t (passes_all t (record_not_refused t v r)).frame) in
      omega (arith, f.to_is, f.from_is, two_bytes t 1)

  pub record_whole : Whole Both t
  unfolding marked starts_a1
  record_whole = Whole.a_record starts_a1_lem record_stated

  record_short : stated t ≤ most
  record_short = omega (arith, record_stated, record_at_most_5227 t v r)

  -- so it is answered as a record is read
  pub record_answer : (pieces : Pieces) (room : ℕ) → answer_of pieces t room ≡ read_of t room
  unfolding answer_of is_long
  record_answer pieces room = rw (starts_a1_lem, le-ltb most (stated t) record_short, le-ltb (length t) (stated t) (omega (arith, record_stated)))

  pub record_is_bytes : Bytes t
  record_is_bytes = subst Bytes r.bytes (record_bytes_lem v r.ranged)

-- what an accepted record says
record_said : (t : List ℕ) → Bytes t → (room : ℕ) (e : Entry) → read_of t room ≡ T.is e → IsRecord t (value_of e t (dwords_of t))
unfolding value_in
record_said t bytes room e q = subst (λ (f : Entry). IsRecord t (value_of f t (dwords_of t))) (entry_answered t room e q).2 (accepted_is_record t bytes room e q)

-- an answer that is an entry is that of a record or of a line, and the unit belongs with what it says
pub said_belongs : (pieces : Pieces) (u : List ℕ) → Bytes u → (room : ℕ) (e : Entry) → answer_of pieces u room ≡ T.is e → Belongs pieces u (value_of e u (taken_dwords u))
unfolding answer_of taken_dwords
said_belongs pieces u bytes room e q = go (starts_a1 u) refl (is_long u) (ltb (length u) (stated u)) q
  where
    go : (a : Bool) → starts_a1 u ≡ a → (b d : Bool) → cond a (cond b (T.refused 55) (cond d (T.refused 54) (read_of u room))) (parse_of pieces u room) ≡ T.is e → Belongs pieces u (value_of e u (cond a (dwords_of u) (line_dwords u)))
    go true x true d h = absurd (let z : ◌≡◌ {A = ℕ} 0 1 = cc in omega arith)
    go true x false true h = absurd (let z : ◌≡◌ {A = ℕ} 0 1 = cc in omega arith)
    go true x false false h = Belongs.a_record (record_said u bytes room e h)
    go false x b d h = Belongs.line (line_entry_is pieces u room h)

-- what a unit of either grammar says
module _ (pieces : Pieces) (u : List ℕ) where
  said_record : (e : Entry) → starts_a1 u ≡ true → answer_of pieces u 256 ≡ T.is e → said_by u (answer_of pieces u 256) ≡ value_of e u (dwords_of u) ∷ []
  unfolding said_by taken_dwords
  said_record e x q = rw (q, x)

  said_line : (e : Entry) → starts_a1 u ≡ false → parse_of pieces u 256 ≡ T.is e → said_by u (answer_of pieces u 256) ≡ value_of e u (line_dwords u) ∷ []
  unfolding said_by taken_dwords answer_of
  said_line e x q = rw (x, q, x)

  no_a1 : (v : EntryValue) → Line pieces u v → starts_a1 u ≡ false
  unfolding starts_a1
  no_a1 v a = ne_eqb _ _ (line_starts pieces u v a)

  record_entry : (v : EntryValue) → IsRecord u v → (e : Entry) × (read_of u 256 ≡ T.is e)
  record_entry v r =
      let n : length {A = ℕ} (replicate 256 0) ≡ 256 = length-replicate {A = ℕ} 256 0 in
      let a : Accepts u (replicate 256 0) v = (record_accepted_exactly u (record_is_bytes u v r) (replicate 256 0) (omega (arith, n)) v).1 r in
      (a.entry, ap (read_of u) (sym n) ∙ a.answer)

  pub record_accepted : (v : EntryValue) → IsRecord u v → (e : Entry) × (answer_of pieces u 256 ≡ T.is e)
  record_accepted v r = let a = record_entry v r in (a.0, record_answer u v r pieces 256 ∙ a.1)

  pub record_says : (v : EntryValue) → IsRecord u v → said_by u (answer_of pieces u 256) ≡ v ∷ []
  record_says v r =
      let a = record_entry v r in
      said_record a.0 (starts_a1_lem u v r) (record_answer u v r pieces 256 ∙ a.1)
      ∙ ap (λ (w : EntryValue). w ∷ []) (one_record_reading u _ v (record_said u (record_is_bytes u v r) 256 a.0 a.1) r)

  pub line_accepted : (v : EntryValue) → Line pieces u v → (e : Entry) × (answer_of pieces u 256 ≡ T.is e)
  unfolding answer_of
  line_accepted v a = let f = line_entry_all pieces u a in (f.0, rw (no_a1 v a) f.1)

  pub line_says : (v : EntryValue) → Line pieces u v → said_by u (answer_of pieces u 256) ≡ v ∷ []
  line_says v a = let f = line_entry_all pieces u a in said_line f.0 (no_a1 v a) f.1 ∙ ap (λ (w : EntryValue). w ∷ []) f.2

  pub unit_says : (v : EntryValue) → Belongs pieces u v → said_by u (answer_of pieces u 256) ≡ v ∷ []
  unit_says v (Belongs.line a) = line_says v a
  unit_says v (Belongs.a_record r) = record_says v r

-- what belongs keeps the record's ranges
pub belongs_ranged : (pieces : Pieces) (u : List ℕ) (v : EntryValue) → Belongs pieces u v → Ranged v
belongs_ranged pieces u v (Belongs.line a) = line_ranged pieces u a
belongs_ranged pieces u v (Belongs.a_record r) = r.ranged

-- so does all that units of bytes say
unit_ranged : (pieces : Pieces) (u : List ℕ) → Bytes u → (r : T.Told Entry) → answer_of pieces u 256 ≡ r → All Ranged (said_by u r)
unfolding said_by
unit_ranged pieces u bytes (T.is e) q = (belongs_ranged pieces u _ (said_belongs pieces u bytes 256 e q), tt)
unit_ranged pieces u bytes T.absent q = tt
unit_ranged pieces u bytes (T.refused k) q = tt

all_both : (a b : List EntryValue) → All Ranged a → All Ranged b → All Ranged (a ++ b)
all_both [] b x y = y
all_both (v ∷ a) b x y = (x.0, all_both a b x.1 y)

pub said_ranged : (pieces : Pieces) (us : List (List ℕ)) → All Bytes us → All Ranged (said_of pieces us)
unfolding said_of
said_ranged pieces [] h = tt
said_ranged pieces (u ∷ us) h = all_both (said_by u (answer_of pieces u 256)) (said_of pieces us) (unit_ranged pieces u h.0 (answer_of pieces u 256) refl) (said_ranged pieces us h.1)

-- ---- the records of values

made : (v : EntryValue) → Ranged v → IsRecord (record_bytes v) v
made v r = record { ranged = r; bytes = refl }

pub records_units : (vs : List EntryValue) → All Ranged vs → Units Both (records_of vs) (map record_bytes vs)
unfolding records_of
records_units [] h = Units.none
records_units (v ∷ vs) h = Units.next (record_bytes v) (records_of vs) (record_whole (record_bytes v) v (made v h.0)) refl (records_units vs h.1)

pub records_say : (any : Pieces) (vs : List EntryValue) → All Ranged vs → said_of any (map record_bytes vs) ≡ vs
unfolding said_of
records_say any [] h = refl
records_say any (v ∷ vs) h =
    ap (λ (l : List EntryValue). l ++ said_of any (map record_bytes vs)) (record_says any (record_bytes v) v (made v h.0))
    ∙ ap (λ (l : List EntryValue). v ∷ l) (records_say any vs h.1)

pub records_accepted : (any : Pieces) (vs : List EntryValue) → All Ranged vs → All (λ u. (e : Entry) × (answer_of any u 256 ≡ T.is e)) (map record_bytes vs)
records_accepted any [] h = tt
records_accepted any (v ∷ vs) h = (record_accepted any (record_bytes v) v (made v h.0), records_accepted any vs h.1)
