-- A description's source by the tests that find it, and its ranges by their places: each case of place and test leaves one answer.
-- Assumes nothing.
use Rattle.std.specs.Prelude.{None, Option, Some}
use Rattle.field.specs.declared.Range.{Range}
use Prim.Native.Nat.{ℕ, zero, suc, ◌+◌, ◌≤◌, ◌<◌}
use mathlib.Core.Path.{◌≡◌, refl, sym}
use mathlib.Core.Bool.{true, false}
use mathlib.Core.List.{List}
use native.Mathlib.Omega.{arith}
use borrow.Author.Tests.{le-leb, lt-leb}
use lib.Dec.{ltb}
use lib.ListN.{get_or}
use Rattle.text.specs.Told.{is, absent, maybe}
use Rattle.text.proofs.Told.{by_cases, fixed_by_told}
use Rattle.tlv.specs.declared.Step.TheVariants as T
use Rattle.tlv.specs.Reading.{field_at}
use Rattle.book.proofs.Steps as steps
use Rattle.book.specs.Finders.{control_table, uuid_table}
use Rattle.packet.specs.Packet.{zero_uuid}
use Rattle.packet.specs.Field as dword
use Rattle.field.specs.declared.Source.TheVariants.{Control, Header, Protocol, Bare}
use Rattle.field.specs.Source.{stands_in, source_of}
use Rattle.field.specs.Ranges.{range_at}

-- ---- in a table or not

module _ (s : List ℕ) (entry : ℕ) {table : Option ℕ} where
  pub no_table : table ≡ None → false ≡ stands_in s table entry
  unfolding stands_in
  no_table e = rw e

  module _ {at : ℕ} (found : table ≡ Some at) where
    pub no_field : steps.Bare (field_at s at) → false ≡ stands_in s table entry
    unfolding stands_in
    no_field b = rw found (sym (steps.field_bare _ false (field_at s at) b))

    module _ {tag from to : ℕ} (field : field_at s at ≡ T.Field tag from to) where
      pub before-body : entry < from → false ≡ stands_in s table entry
      unfolding stands_in
      before-body lt = rw (found, field, lt-leb from entry lt)

      pub in_body : from ≤ entry → ltb entry to ≡ stands_in s table entry
      unfolding stands_in
      in_body le = rw (found, field, le-leb from entry le)

-- ---- the source

module _ (kind : ℕ) (s : List ℕ) where
  pub bare_source : (entry : ℕ) → entry ≡ 0 → Bare ≡ source_of kind s entry
  unfolding source_of
  bare_source zero e = refl
  bare_source (suc p) e = absurd (omega arith)

  pub control_source : (entry : ℕ) → (entry ≡ 0 → ⊥) → stands_in s (control_table s kind) entry ≡ true
      → Control (record { at = entry }) ≡ source_of kind s entry
  unfolding source_of
  control_source zero n c = absurd (n refl)
  control_source (suc p) n c = rw c

  pub header_source : (entry : ℕ) → (entry ≡ 0 → ⊥) → stands_in s (control_table s kind) entry ≡ false
      → stands_in s (uuid_table s zero_uuid) entry ≡ true → Header (record { at = entry }) ≡ source_of kind s entry
  unfolding source_of
  header_source zero n c h = absurd (n refl)
  header_source (suc p) n c h = rw (c, h)

  pub protocol_source : (entry : ℕ) → (entry ≡ 0 → ⊥) → stands_in s (control_table s kind) entry ≡ false
      → stands_in s (uuid_table s zero_uuid) entry ≡ false → Protocol (record { at = entry }) ≡ source_of kind s entry
  unfolding source_of
  protocol_source zero n c h = absurd (n refl)
  protocol_source (suc p) n c h = rw (c, h)

-- ---- a bit range

module _ (s : List ℕ) (value : ℕ) where
  pub no_range : (place : ℕ) → place ≡ 0 → absent ≡ range_at s place value
  unfolding range_at
  no_range zero e = refl
  no_range (suc p) e = absurd (omega arith)

  pub range_at_lem : (place : ℕ) → (place ≡ 0 → ⊥) → {low high v : ℕ} → low ≡ get_or s (place + 3) 0 → high ≡ get_or s (place + 4) 0
      → v ≡ dword.value_in s place value
      → is (record { low = low; high = high; value = v; place = record { at = place } }) ≡ range_at s place value
  unfolding range_at
  range_at_lem zero n l h v = absurd (n refl)
  range_at_lem (suc p) n l h v = λ i. is (record { low = l i; high = h i; value = v i; place = record { at = suc p } })

-- no second answer to `nth_range` and `range_named`: two answers that tell the same are the same
pub one_range : (a b : Option Range) → maybe a ≡ maybe b → a ≡ b
one_range = fixed_by_told maybe (by_cases Some None (λ k. None)) same
  where
    same : (a : Option Range) → by_cases Some None (λ k. None) (maybe a) ≡ a
    same (Some range) = refl
    same None = refl
