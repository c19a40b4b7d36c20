-- Counts that stay within 64 bits count the units, so what a filter puts out unit by unit is its definition. Assumes nothing.
use Prim.Native.Nat.{ℕ, suc, ◌+◌, ◌^◌, ◌≤◌, ◌<◌}
use mathlib.Core.Path.{◌≡◌, refl, sym, ap, ◌∙◌}
use mathlib.Core.Bool.{Bool, true, false, cond}
use mathlib.Core.List.{List, [], ◌∷◌, ◌++◌, append_assoc}
use native.Mathlib.Omega.{arith}
use lib.Dec.{ltb}
use lib.ListN.{length}
use Rattle.text.specs.Told as T
use Rattle.entry.specs.declared.Entry.{Entry}
use Rattle.entry.specs.Entry.{EntryValue}
use Rattle.scan.specs.declared.Pieces.{Pieces}
use Rattle.scan.specs.declared.Pieces.TheVariants.{Lenient}
use Rattle.scan.specs.Parse.{parse_of}
use Rattle.record.specs.Grammar.{record_bytes}
use Rattle.record.specs.Reading.{read_of}
use Rattle.intake.specs.Intake.{starts_a1}
use Rattle.intake.proofs.WhatItIs.{line_never_none, record_never_none}
use Rattle.listing_rows.specs.Rows.{totals_row}
use Rattle.units.specs.Units.{stated}
use Rattle.units.specs.Kept.{is_long}
use Rattle.stream.specs.Answers.{answer_of, said_by, said_of, records_of}
use Rattle.filters.specs.declared.Filter.{Filter}
use Rattle.filters.specs.declared.Filter.TheVariants as F
use Rattle.filters.specs.declared.Counts.{Counts}
use Rattle.filters.specs.Seen.{Seen}
use Rattle.filters.specs.Seen as S
use Rattle.filters.specs.Texts.{answer_by, seen_by, seen_of, row_of, is_entry, record_by, told_by}
use Rattle.filters.specs.Filter.{one_more, counted, out_by, tell_by, out_text, told_text, next_counts, last_out, last_told, after, texts}
use Rattle.whole_output.specs.Output.{rows_from, entries_in, listed, refused_rows, packing_of, packing_tells}

abbrev counts : ℕ → ℕ → Counts
counts n m = record { units = n; entries = m }

-- ---- a unit is always answered

unit_answered : (pieces : Pieces) (u : List ℕ) → answer_of pieces u 256 ≡ T.absent → ⊥
unfolding answer_of
unit_answered pieces u q = go (starts_a1 u) (is_long u) (ltb (length u) (stated u)) q
  where
    go : (a b d : Bool) → cond a (cond b (T.refused 55) (cond d (T.refused 54) (read_of u 256))) (parse_of pieces u 256) ≡ T.absent → ⊥
    go true true d h = let z : ◌≡◌ {A = ℕ} 0 1 = cc in omega arith
    go true false true h = let z : ◌≡◌ {A = ℕ} 0 1 = cc in omega arith
    go true false false h = record_never_none u 256 h
    go false b d h = line_never_none pieces u 256 h

answered : (f : Filter) (u : List ℕ) → answer_by f u ≡ T.absent → ⊥
unfolding answer_by
answered F.Listing u q = line_never_none Lenient u 256 q
answered (F.Pack pieces) u q = unit_answered pieces u q
answered (F.Unpack pieces) u q = unit_answered pieces u q

-- so it is always seen
always_seen : (f : Filter) (u : List ℕ) → seen_of f u ≡ S.Nothing → ⊥
unfolding seen_of seen_by
always_seen f u q = go (answer_by f u) refl q
  where
    go : (t : T.Told Entry) → answer_by f u ≡ t → seen_by t ≡ S.Nothing → ⊥
    go (T.is e) e₁ h = let z : ◌≡◌ {A = ℕ} 0 1 = cc in omega arith
    go T.absent e₁ h = answered f u e₁
    go (T.refused k) e₁ h = let z : ◌≡◌ {A = ℕ} 0 1 = cc in omega arith

-- ---- the counts

one_more_lem : (n : ℕ) → n + 1 < 2 ^ 64 → one_more n ≡ n + 1
unfolding one_more
one_more_lem n h = omega arith

entry_one : (s : Seen) → is_entry s ≤ 1
unfolding is_entry
entry_one (S.Entry kind dwords) = omega arith
entry_one (S.Refused k) = omega arith
entry_one S.Nothing = omega arith

counted_is : (n m : ℕ) (s : Seen) → (s ≡ S.Nothing → ⊥) → n + 1 < 2 ^ 64 → m + 1 < 2 ^ 64 → counted (counts n m) s ≡ counts (n + 1) (m + is_entry s)
unfolding counted is_entry
counted_is n m (S.Entry kind dwords) some a b = rw (one_more_lem n a, one_more_lem m b)
counted_is n m (S.Refused k) some a b = let z : m + 0 ≡ m = omega arith in rw (one_more_lem n a, z)
counted_is n m S.Nothing some a b = absurd (some refl)

module _ (f : Filter) where
  next_is : (n m : ℕ) (u : List ℕ) → n + 1 < 2 ^ 64 → m + 1 < 2 ^ 64 → next_counts f (counts n m) u ≡ counts (n + 1) (m + is_entry (seen_of f u))
  unfolding next_counts seen_of
  next_is n m u a b = counted_is n m (seen_of f u) (always_seen f u) a b

  pub counts_are : (us : List (List ℕ)) (n m : ℕ) → n + length us < 2 ^ 64 → m + length us < 2 ^ 64 → after (next_counts f) (counts n m) us ≡ counts (n + length us) (m + entries_in (seen_of f) us)
  unfolding after entries_in
  counts_are [] n m a b =
      let x : n + 0 ≡ n = omega arith in
      let y : m + 0 ≡ m = omega arith in
      rw (x, y)
  counts_are (u ∷ us) n m a b =
      let small : is_entry (seen_of f u) ≤ 1 = entry_one (seen_of f u) in
      let x : n + suc (length us) ≡ n + 1 + length us = omega arith in
      let y : m + (is_entry (seen_of f u) + entries_in (seen_of f) us) ≡ m + is_entry (seen_of f u) + entries_in (seen_of f) us = omega arith in
      ap (λ (c : Counts). after (next_counts f) c us) (next_is n m u (omega arith) (omega arith))
      ∙ counts_are us (n + 1) (m + is_entry (seen_of f u)) (omega arith) (omega (arith, small))
      ∙ rw (x, y)

  -- texts by the number of the unit alone
  module _ (text : Counts → List ℕ → List ℕ) (line : ℕ → List ℕ → List ℕ) (from : ℕ → List (List ℕ) → List ℕ) (none : (n : ℕ) → from n [] ≡ []) (some : (n : ℕ) (u : List ℕ) (us : List (List ℕ)) → from n (u ∷ us) ≡ line (n + 1) u ++ from (n + 1) us) (by_number : (c : Counts) (u : List ℕ) → text c u ≡ line (one_more c.units) u) where
    pub numbered : (us : List (List ℕ)) (n m : ℕ) → n + length us < 2 ^ 64 → m + length us < 2 ^ 64 → texts (next_counts f) text (counts n m) us ≡ from n us
    unfolding texts
    numbered [] n m a b = sym (none n)
    numbered (u ∷ us) n m a b =
        let small : is_entry (seen_of f u) ≤ 1 = entry_one (seen_of f u) in
        ap (λ (t : List ℕ). t ++ texts (next_counts f) text (next_counts f (counts n m) u) us) (by_number (counts n m) u ∙ ap (λ (k : ℕ). line k u) (one_more_lem n (omega arith)))
        ∙ ap (λ (c : Counts). line (n + 1) u ++ texts (next_counts f) text c us) (next_is n m u (omega arith) (omega arith))
        ∙ ap (λ (t : List ℕ). line (n + 1) u ++ t) (numbered us (n + 1) (m + is_entry (seen_of f u)) (omega arith) (omega (arith, small)))
        ∙ sym (some n u us)

  module _ (us : List (List ℕ)) (few : length us < 2 ^ 64) where
    small : 0 + length us < 2 ^ 64
    small = omega (arith, few)

    totals_are : after (next_counts f) (counts 0 0) us ≡ counts (length us) (entries_in (seen_of f) us)
    totals_are =
        let a : 0 + length us ≡ length us = omega arith in
        let b : 0 + entries_in (seen_of f) us ≡ entries_in (seen_of f) us = omega arith in
        counts_are us 0 0 small small ∙ rw (a, b)

    -- a filter that lists: its row for each unit, then the totals
    pub listed_is : ((c : Counts) (u : List ℕ) → out_text f c u ≡ row_of (one_more c.units) (seen_of f u)) → ((c : Counts) → last_out f c ≡ totals_row c.units c.entries) → texts (next_counts f) (out_text f) (counts 0 0) us ++ last_out f (after (next_counts f) (counts 0 0) us) ≡ listed (seen_of f) us
    unfolding listed rows_from
    listed_is row last =
        ap (λ (t : List ℕ). t ++ last_out f (after (next_counts f) (counts 0 0) us)) (numbered (out_text f) (λ n u. row_of n (seen_of f u)) (rows_from (seen_of f)) (λ n. refl) (λ n u us. refl) row us 0 0 small small)
        ∙ ap (λ (t : List ℕ). rows_from (seen_of f) 0 us ++ t) (last (after (next_counts f) (counts 0 0) us) ∙ ap (λ (c : Counts). totals_row c.units c.entries) totals_are)

-- a filter that tells nothing
pub tells_nothing : (f : Filter) → ((c : Counts) (u : List ℕ) → told_text f c u ≡ []) → ((c : Counts) → last_told f c ≡ []) → (c : Counts) (us : List (List ℕ)) → texts (next_counts f) (told_text f) c us ++ last_told f (after (next_counts f) c us) ≡ []
unfolding texts after
tells_nothing f none last c [] = last c
tells_nothing f none last c (u ∷ us) = rw (none c u) (tells_nothing f none last (next_counts f c u) us)

-- ---- packing

records_append : (a b : List EntryValue) → records_of (a ++ b) ≡ records_of a ++ records_of b
unfolding records_of
records_append [] b = refl
records_append (v ∷ a) b = ap (λ (t : List ℕ). record_bytes v ++ t) (records_append a b) ∙ sym (append_assoc (record_bytes v) (records_of a) (records_of b))

module _ (pieces : Pieces) where
  pub records_are : (c : Counts) (us : List (List ℕ)) → texts (next_counts (F.Pack pieces)) (out_text (F.Pack pieces)) c us ≡ packing_of pieces us
  unfolding texts out_text out_by answer_by record_by packing_of said_of records_of
  records_are c [] = refl
  records_are c (u ∷ us) =
      ap (λ (t : List ℕ). records_of (said_by u (answer_of pieces u 256)) ++ t) (records_are (next_counts (F.Pack pieces) c u) us)
      ∙ sym (records_append (said_by u (answer_of pieces u 256)) (said_of pieces us))

  -- what packing tells: the refused units' rows, then the totals
  pub tells_are : (us : List (List ℕ)) → length us < 2 ^ 64 → texts (next_counts (F.Pack pieces)) (told_text (F.Pack pieces)) (counts 0 0) us ++ last_told (F.Pack pieces) (after (next_counts (F.Pack pieces)) (counts 0 0) us) ≡ packing_tells pieces us
  unfolding packing_tells refused_rows told_text tell_by answer_by seen_of last_told
  tells_are us few =
      ap (λ (t : List ℕ). t ++ last_told (F.Pack pieces) (after (next_counts (F.Pack pieces)) (counts 0 0) us)) (numbered (F.Pack pieces) (told_text (F.Pack pieces)) (λ n u. told_by n (seen_of (F.Pack pieces) u)) (refused_rows (seen_of (F.Pack pieces))) (λ n. refl) (λ n u us. refl) (λ c u. refl) us 0 0 (omega (arith, few)) (omega (arith, few)))
      ∙ ap (λ (c : Counts). refused_rows (seen_of (F.Pack pieces)) 0 us ++ totals_row c.units c.entries) (totals_are (F.Pack pieces) us few)
