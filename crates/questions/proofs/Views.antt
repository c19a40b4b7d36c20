-- The data view: its start lies within the dwords, so that the cut to 16 bits loses nothing and the view is the rest of the lent dwords.
-- Assumes nothing.
use Rattle.std.specs.Prelude.{Err, None, Ok, Option, Result, Some}
use Rattle.refusal.specs.declared.Refusal.{Refusal}
use Prim.Native.Nat.{ℕ, zero, suc, ◌+◌, ◌%◌, ◌≤◌, ◌<◌}
use mathlib.Core.Path.{◌≡◌, refl, sym, ap, ◌∙◌}
use mathlib.Core.Bool.{Bool, true, false, cond, ◌&&◌}
use mathlib.Core.List.{List, [], ◌∷◌}
use native.Mathlib.Omega.{arith}
use borrow.Author.Tests.{ltb-false}
use lib.Dec.{ltb}
use lib.ListN.{length, drop, length-drop}
use Rattle.text.specs.Part.{Slice, OwnDwords}
use Rattle.text.proofs.OwnParts.{own_is, own_from}
use Rattle.text.specs.Quote.{bytes}
use Rattle.packet.specs.declared.field.Ask.TheVariants.{Holds}
use Rattle.packet.specs.Field.{asks}
use Rattle.packet.specs.Packet.{is_read_response_or_write_request, is_xdomain, entries_of, places_of, first_from, behind, view_from, word}
use Rattle.packet.proofs.Packets.{length_places}
use Rattle.packet.proofs.Gathering.{first_within}
use Rattle.questions.specs.declared.PacketType.{PacketType}
use Rattle.refusal.specs.Told.{told_maybe}
use Rattle.questions.specs.Questions.{refusal, answer, start_of, view_at, view_of, view_place, DataView, name_by}
use Rattle.text.specs.Told.{Told, is, absent, unless, maybe}
use Rattle.questions.proofs.Over.{passed, no_number}

-- the view of what was found, with no cut
abbrev pub started : Option ℕ → Told ℕ
started (Some n) = is n
started None = absent

module _ (kind : ℕ) (s ds : List ℕ) where
  -- ---- the start lies within the dwords

  behind_within : (f : Option ℕ) → ((j : ℕ) → f ≡ Some j → j < length ds) → (n : ℕ) → behind f ≡ Some n → n ≤ length ds
  behind_within (Some j) within n e = let same : j + 1 ≡ n = cc in omega (arith, within j refl, same)
  behind_within None within n e = absurd (let q : ◌≡◌ {A = ℕ} 0 1 = cc in omega arith)

  pub start_within : refusal kind s ds ≡ 0 → (n : ℕ) → view_from kind s (places_of kind s ds) ≡ Some n → n ≤ length ds
  unfolding view_from
  start_within none n e = by (is_read_response_or_write_request kind) refl (is_xdomain kind) e
    where
      ok : ℕ → Bool
      ok = asks Holds s (bytes "Properties Block Generation")

      control : (b : Bool) → is_read_response_or_write_request kind ≡ b → ltb (length ds) (entries_of s kind) ≡ false → Some (entries_of s kind) ≡ Some n → n ≤ length ds
      control b v l h = let same : entries_of s kind ≡ n = cc in omega (arith, ltb-false (length ds) (entries_of s kind) l, same)

      by : (v : Bool) → is_read_response_or_write_request kind ≡ v → (x : Bool)
          → cond v (Some (entries_of s kind)) (cond x (behind (first_from ok 0 (places_of kind s ds))) None) ≡ Some n → n ≤ length ds
      by true v x h = control true v (ap (λ (b : Bool). b && ltb (length ds) (entries_of s kind)) (sym v) ∙ (passed kind s ds none).enough) h
      by false v true h =
          behind_within (first_from ok 0 (places_of kind s ds))
          (λ j w. omega (arith, first_within ok 0 j (places_of kind s ds) w, length_places kind s ds)) n h
      by false v false h = absurd (let q : ◌≡◌ {A = ℕ} 0 1 = cc in omega arith)

  -- ---- theorems

  -- the start cut to 16 bits loses nothing
  pub start_is_not_cut : refusal kind s ds ≡ 0 → start_of kind s ds ≡ started (view_from kind s (places_of kind s ds))
  unfolding start_of
  start_is_not_cut none =
      sym (no_number kind s ds (maybe (word (view_from kind s (places_of kind s ds)))) none)
      ∙ by (view_from kind s (places_of kind s ds)) (start_within none)
    where
      by : (f : Option ℕ) → ((n : ℕ) → f ≡ Some n → n ≤ length ds) → maybe (word f) ≡ started f
      by (Some n) within = ap is (let few = (passed kind s ds none).few in omega (arith, few, within n refl))
      by None within = refl

  -- an answer lies within the dwords
  pub start_fits : (n : ℕ) → is n ≡ start_of kind s ds → n ≤ length ds
  unfolding start_of answer
  start_fits n e = by (refusal kind s ds) refl e
    where
      start : (f : Option ℕ) → view_from kind s (places_of kind s ds) ≡ f → refusal kind s ds ≡ 0 → is n ≡ maybe (word f) → n ≤ length ds
      start (Some m) f none h =
          let same : n ≡ m % 65536 = cc in
          omega (arith, same, start_within none m f)
      start None f none h = absurd (let q : ◌≡◌ {A = ℕ} 0 1 = cc in omega arith)

      by : (k : ℕ) → refusal kind s ds ≡ k → is n ≡ unless k (maybe (word (view_from kind s (places_of kind s ds)))) → n ≤ length ds
      by zero z h = start (view_from kind s (places_of kind s ds)) refl z h
      by (suc k) z h = absurd (let q : ◌≡◌ {A = ℕ} 0 1 = cc in omega arith)

  -- the view of an accepted packet: its dwords from the start onward
  view_from_lem : refusal kind s ds ≡ 0 → {f : Option ℕ} → view_from kind s (places_of kind s ds) ≡ f → view_of kind s ds ≡ view_at kind s ds (started f)
  unfolding view_of
  view_from_lem none e = ap (view_at kind s ds) (start_is_not_cut none ∙ ap started e)

  viewed_from : is_read_response_or_write_request kind ≡ true → view_from kind s (places_of kind s ds) ≡ Some (entries_of s kind)
  unfolding view_from
  viewed_from v = rw v

  xdomain_from : is_read_response_or_write_request kind ≡ false → is_xdomain kind ≡ true
      → view_from kind s (places_of kind s ds) ≡ behind (first_from (asks Holds s (bytes "Properties Block Generation")) 0 (places_of kind s ds))
  unfolding view_from
  xdomain_from v x = rw (v, x)

  other_from : is_read_response_or_write_request kind ≡ false → is_xdomain kind ≡ false → view_from kind s (places_of kind s ds) ≡ None
  unfolding view_from
  other_from v x = rw (v, x)

  -- kinds 2 and 3: the caller's own dwords from n onward, n being the number of control entries
  pub view_is_from_n : is_read_response_or_write_request kind ≡ true → refusal kind s ds ≡ 0 → view_of kind s ds ≡ drop (entries_of s kind) ds
  view_is_from_n v none = view_from_lem none (viewed_from v)

  view_starts_at_n : is_read_response_or_write_request kind ≡ true → refusal kind s ds ≡ 0 → start_of kind s ds ≡ is (entries_of s kind)
  view_starts_at_n v none = start_is_not_cut none ∙ ap started (viewed_from v)

  -- empty exactly when there are n dwords
  pub view_is_empty_at_n : is_read_response_or_write_request kind ≡ true → refusal kind s ds ≡ 0
      → ((view_of kind s ds ≡ []) → length ds ≡ entries_of s kind) × (length ds ≡ entries_of s kind → view_of kind s ds ≡ [])
  view_is_empty_at_n v none = (
    λ e. omega (arith, enough, length-drop (entries_of s kind) ds, ap length (sym (view_is_from_n v none) ∙ e)),
    λ n. view_is_from_n v none ∙ no_more (drop (entries_of s kind) ds) (omega (arith, length-drop (entries_of s kind) ds, n)),
  )
    where
      enough : entries_of s kind ≤ length ds
      enough =
          ltb-false (length ds) (entries_of s kind)
          (ap (λ (b : Bool). b && ltb (length ds) (entries_of s kind)) (sym v) ∙ (passed kind s ds none).enough)

      no_more : (l : List ℕ) → length l ≡ 0 → l ≡ []
      no_more [] z = refl
      no_more (x ∷ l) z = absurd (omega arith)

  -- kinds 8 and 9: from just after the first field with `Properties Block Generation`, else none
  pub view_is_behind_generation : is_read_response_or_write_request kind ≡ false → is_xdomain kind ≡ true → refusal kind s ds ≡ 0
      → start_of kind s ds ≡ started (behind (first_from (asks Holds s (bytes "Properties Block Generation")) 0 (places_of kind s ds)))
  view_is_behind_generation v x none = start_is_not_cut none ∙ ap started (xdomain_from v x)

  -- other kinds: none
  pub others_have_no_view : is_read_response_or_write_request kind ≡ false → is_xdomain kind ≡ false → refusal kind s ds ≡ 0
      → (start_of kind s ds ≡ absent) × (view_of kind s ds ≡ [])
  others_have_no_view v x none = (start_is_not_cut none ∙ ap started (other_from v x), view_from_lem none (other_from v x))

-- kinds 2 and 3: what is handed out lies n dwords behind the start of what was lent, and is no equal part elsewhere
pub view_is_the_callers_own : (kind : ℕ) (s : List ℕ) {dwords view : Slice} → is_read_response_or_write_request kind ≡ true → refusal kind s dwords.now ≡ 0
    → DataView kind s dwords view → OwnDwords dwords (entries_of s kind) (drop (entries_of s kind) dwords.now) view
view_is_the_callers_own kind s {dwords} v none h =
    own_is (view_is_from_n kind s dwords.now v none) (own_from (ap view_place (view_starts_at_n kind s dwords.now v none)) h)

-- ---- where there is none

-- no start, no place
pub no_place : (r : Result (Option ℕ) Refusal) → ((n : ℕ) → r ≡ Ok (Some n) → ⊥) → view_place (told_maybe r) ≡ 0
no_place (Ok (Some n)) h = absurd (h n refl)
no_place (Ok None) h = refl
no_place (Err k) h = refl

module _ (kind : ℕ) (s ds : List ℕ) where
  -- no start, no view
  pub no_start : (r : Result (Option ℕ) Refusal) → ((n : ℕ) → r ≡ Ok (Some n) → ⊥) → view_at kind s ds (told_maybe r) ≡ []
  no_start (Ok (Some n)) h = absurd (h n refl)
  no_start (Ok None) h = refl
  no_start (Err k) h = refl

  -- no packet type, no name
  pub no_type : (r : Result (Option PacketType) Refusal) → ((t : PacketType) → r ≡ Ok (Some t) → ⊥) → name_by kind s ds (told_maybe r) ≡ []
  no_type (Ok (Some t)) h = absurd (h t refl)
  no_type (Ok None) h = refl
  no_type (Err k) h = refl
