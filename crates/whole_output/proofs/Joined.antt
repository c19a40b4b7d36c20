-- `pack` into `unpack`, and into `pack` again: the records of what units say are the units of what was put out, and they say it again. Assumes nothing.
use Prim.Native.Nat.{ℕ, ◌+◌}
use mathlib.Core.Path.{◌≡◌, refl, sym, ap, subst, ◌∙◌}
use mathlib.Core.List.{List, [], ◌∷◌, ◌++◌, map}
use native.Mathlib.Omega.{arith}
use lib.ListN.{length}
use Rattle.tlv.specs.Number.{Bytes}
use Rattle.tlv.specs.Grammar.{All}
use Rattle.entry.specs.Entry.{EntryValue}
use Rattle.scan.specs.declared.Pieces.{Pieces}
use Rattle.record.specs.Grammar.{record_bytes, Ranged}
use Rattle.listing_rows.specs.Rows.{entry_row, totals_row}
use Rattle.units.specs.declared.Framing.TheVariants.{Both}
use Rattle.units.specs.Units.{Units}
use Rattle.units.proofs.Existence.{has_units}
use Rattle.stream.specs.Answers.{said_of, records_of}
use Rattle.stream.proofs.Records.{said_ranged, records_units, records_say}
use Rattle.stream.proofs.FedAgain.{units_bytes}
use Rattle.filters.specs.declared.Filter.TheVariants as F
use Rattle.filters.specs.Seen.{Seen}
use Rattle.filters.specs.Seen as S
use Rattle.filters.specs.Texts.{seen_of, row_of, is_entry, told_by}
use Rattle.whole_output.specs.Output.{rows_from, entries_in, listed, refused_rows, unpacking_of, packing_of, packing_tells}
use Rattle.whole_output.specs.Chains.{Went}
use Rattle.whole_output.specs.Joined.{value_rows, value_listing, PackIntoUnpack, PackTwice}
use Rattle.whole_output.proofs.Meaning.{made_seen}
use Rattle.whole_output.proofs.Whole.{packing_is_whole, unpacking_is_whole}

-- ---- the records of values

module _ (see : List ℕ → Seen) (seen : (v : EntryValue) → Ranged v → see (record_bytes v) ≡ S.Entry v.kind (length v.dwords)) where
  rows_made : (n : ℕ) (vs : List EntryValue) → All Ranged vs → rows_from see n (map record_bytes vs) ≡ value_rows n vs
  unfolding rows_from value_rows row_of
  rows_made n [] h = refl
  rows_made n (v ∷ vs) h = rw (seen v h.0) (ap (λ (t : List ℕ). entry_row (n + 1) v.kind (length v.dwords) ++ t) (rows_made (n + 1) vs h.1))

  none_told : (n : ℕ) (vs : List EntryValue) → All Ranged vs → refused_rows see n (map record_bytes vs) ≡ []
  unfolding refused_rows told_by
  none_told n [] h = refl
  none_told n (v ∷ vs) h = rw (seen v h.0) (none_told (n + 1) vs h.1)

  entries_made : (vs : List EntryValue) → All Ranged vs → entries_in see (map record_bytes vs) ≡ length vs
  unfolding entries_in is_entry
  entries_made [] h = refl
  entries_made (v ∷ vs) h = rw (seen v h.0) (omega (arith, entries_made vs h.1))

length_map : (vs : List EntryValue) → length (map record_bytes vs) ≡ length vs
length_map [] = refl
length_map (v ∷ vs) = omega (arith, length_map vs)

module _ (any : Pieces) (vs : List EntryValue) (ranged : All Ranged vs) where
  listing_made : unpacking_of any (map record_bytes vs) ≡ value_listing vs
  unfolding unpacking_of listed value_listing
  listing_made = rw (rows_made (seen_of (F.Unpack any)) (made_seen any) 0 vs ranged, entries_made (seen_of (F.Unpack any)) (made_seen any) vs ranged, length_map vs)

  tells_made : packing_tells any (map record_bytes vs) ≡ totals_row (length vs) (length vs)
  unfolding packing_tells seen_of Rattle.filters.specs.Texts.answer_by
  tells_made = rw (none_told (seen_of (F.Pack any)) (made_seen any) 0 vs ranged, entries_made (seen_of (F.Pack any)) (made_seen any) vs ranged, length_map vs)

  packing_made : packing_of any (map record_bytes vs) ≡ records_of vs
  unfolding packing_of
  packing_made = ap records_of (records_say any vs ranged)

module _ (pieces : Pieces) (s : List ℕ) (us : List (List ℕ)) (bytes : Bytes s) (are : Units Both s us) where
  ranged : All Ranged (said_of pieces us)
  ranged = said_ranged pieces us (units_bytes bytes are)

  made_units : Units Both (packing_of pieces us) (map record_bytes (said_of pieces us))
  unfolding packing_of
  made_units = records_units (said_of pieces us) ranged

  -- so they are of what was put out
  put_units : (packed told : List ℕ) → Went (F.Pack pieces) s packed told → Units Both packed (map record_bytes (said_of pieces us))
  put_units packed told w = subst (λ (l : List ℕ). Units Both l (map record_bytes (said_of pieces us))) (sym (packing_is_whole pieces s packed told us w are).0) made_units

  piped : (any : Pieces) (packed told out told' : List ℕ) → Went (F.Pack pieces) s packed told → Went (F.Unpack any) packed out told' → out ≡ value_listing (said_of pieces us)
  piped any packed told out told' w w' = (unpacking_is_whole any packed out told' (map record_bytes (said_of pieces us)) w' (put_units packed told w)).0 ∙ listing_made any (said_of pieces us) ranged

  same_bytes : (any : Pieces) (packed told again told' : List ℕ) → Went (F.Pack pieces) s packed told → Went (F.Pack any) packed again told' → again ≡ packed
  unfolding packing_of
  same_bytes any packed told again told' w w' =
      (packing_is_whole any packed again told' (map record_bytes (said_of pieces us)) w' (put_units packed told w)).0
      ∙ packing_made any (said_of pieces us) ranged
      ∙ sym (packing_is_whole pieces s packed told us w are).0

  none_refused : (any : Pieces) (packed told again told' : List ℕ) → Went (F.Pack pieces) s packed told → Went (F.Pack any) packed again told' → told' ≡ totals_row (length (said_of pieces us)) (length (said_of pieces us))
  none_refused any packed told again told' w w' = (packing_is_whole any packed again told' (map record_bytes (said_of pieces us)) w' (put_units packed told w)).1 ∙ tells_made any (said_of pieces us) ranged

pub pack_into_unpack : (pieces : Pieces) → PackIntoUnpack pieces
pack_into_unpack pieces =
    record {
      records_are = made_units pieces;
      listing_is = λ s us b x any. listing_made any (said_of pieces us) (ranged pieces s us b x);
      piped = λ s us x any packed told out told' w. piped pieces s us w.bytes x any packed told out told' w;
    }

-- PACKED TWICE, nothing changes
pub pack_twice : (pieces : Pieces) → PackTwice pieces
pack_twice pieces =
    record {
      same_bytes = λ s any packed told again told' w. let u = has_units Both s in same_bytes pieces s u.0 w.bytes u.1 any packed told again told' w;
      none_refused = λ s us x any packed told again told' w. none_refused pieces s us w.bytes x any packed told again told' w;
    }
