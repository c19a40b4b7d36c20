-- A search steps from field to field: where no field stands it ends with nothing, a wanted field ends it, and one that is not wanted is passed.
-- Assumes nothing.
use Rattle.std.specs.Prelude.{None, Some}
use Rattle.std.specs.Option.{is_some}
use Prim.Native.Nat.{ℕ, ◌+◌, ◌≤◌, ◌<◌}
use mathlib.Core.Path.{◌≡◌, ◌∙◌, sym, ap, refl}
use mathlib.Core.Bool.{Bool, true, false, cond, ◌&&◌, ◌||◌}
use mathlib.Core.List.{List, []}
use mathlib.Core.Logic.{inl, ⊎_elim}
use native.Mathlib.Omega.{arith}
use borrow.Author.Tests.{eq-eqb, ne_eqb}
use lib.Dec.{eqb}
use lib.ListN.{length}
use Rattle.tlv.specs.declared.Step.TheVariants.{End}
use Rattle.tlv.specs.Reading.{Part, Stands, field_at, refusal_of, parts, has}
use Rattle.tlv.proofs.Fields.{end_all, field_found}
use Rattle.tlv.proofs.Fields as fields
use Rattle.tlv.proofs.Numbers.{number_past}
use Rattle.tlv.proofs.Walks.{by_fields, walk_end, walk_cut, walk_field, parts_end, parts_cut, parts_field}
use Rattle.book.specs.declared.seek.Want.{Want}
use Rattle.book.specs.Search.{body_at, after, name_at, type_at, uuid_at, tag_of, wanted, first_part, first_wanted}
use Rattle.book.proofs.Steps.{Bare, tag_bare}

-- ---- the walk

module _ (ok : Part → Bool) (s : List ℕ) where
  first_end : (at : ℕ) → field_at s at ≡ End → first_part ok s at ≡ None
  unfolding first_part
  first_end = walk_end (λ p later. cond (ok p) (Some p.at) later) None None s

  first_cut : (at : ℕ) → refusal_of (field_at s at) ≡ 31 → first_part ok s at ≡ None
  unfolding first_part
  first_cut = walk_cut (λ p later. cond (ok p) (Some p.at) later) None None s

  first_field : (p : Part) → Stands s p → first_part ok s p.at ≡ cond (ok p) (Some p.at) (first_part ok s p.to)
  unfolding first_part
  first_field = walk_field (λ p later. cond (ok p) (Some p.at) later) None None s

  -- no field stands there
  pub first_none : (at : ℕ) → Bare (field_at s at) → first_part ok s at ≡ None
  first_none at h = ⊎_elim (first_end at) (first_cut at) h

  -- the field there is wanted
  pub first_hit : (p : Part) → Stands s p → ok p ≡ true → first_part ok s p.at ≡ Some p.at
  first_hit p e h = first_field p e ∙ rw h

  -- the field there is not
  pub first_miss : (p : Part) → Stands s p → ok p ≡ false → first_part ok s p.at ≡ first_part ok s p.to
  first_miss p e h = first_field p e ∙ rw h

  -- one of the fields is wanted just where a first one is found
  pub has_found : (at : ℕ) → has ok (parts s at) ≡ is_some (first_part ok s at)
  has_found =
      by_fields s (λ at. has ok (parts s at) ≡ is_some (first_part ok s at))
      (λ at e. rw (parts_end s at e, first_end at e))
      (λ at e. rw (parts_cut s at e, first_cut at e))
      (λ p e rest. rw (parts_field s p e, first_field p e) (by (ok p) p rest))
    where
      by : (b : Bool) (p : Part) → has ok (parts s p.to) ≡ is_some (first_part ok s p.to)
          → (b || has ok (parts s p.to)) ≡ is_some (cond b (Some p.at) (first_part ok s p.to))
      by true p rest = refl
      by false p rest = rest

  -- what was found stands in the text, from the start of the search on
  pub first_bounds : (at q : ℕ) → first_part ok s at ≡ Some q → (at ≤ q) × (q < length s)
  first_bounds =
      by_fields s (λ at. (q : ℕ) → first_part ok s at ≡ Some q → (at ≤ q) × (q < length s))
      (λ at e q h. absurd (nothing-found q (sym (first_end at e) ∙ h)))
      (λ at e q h. absurd (nothing-found q (sym (first_cut at e) ∙ h)))
      (λ p e rest q h. by (ok p) p e rest q (sym (first_field p e) ∙ h))
    where
      nothing-found : (q : ℕ) → None ≡ Some q → ⊥
      nothing-found q h = let z : ◌≡◌ {A = ℕ} 0 1 = cc in omega arith

      by : (b : Bool) (p : Part) → Stands s p → ((q : ℕ) → first_part ok s p.to ≡ Some q → (p.to ≤ q) × (q < length s))
          → (q : ℕ) → cond b (Some p.at) (first_part ok s p.to) ≡ Some q → (p.at ≤ q) × (q < length s)
      by true p e rest q h =
          let f : fields.Found s p.at p.tag p.from p.to = field_found s p.at e in
          let here : p.at ≡ q = cc in
          (omega arith, omega arith)
      by false p e rest q h =
          let f : fields.Found s p.at p.tag p.from p.to = field_found s p.at e in
          let w = rest q h in
          (omega arith, omega arith)

-- the same of what is wanted, for callers that only know the search
pub wanted_bounds : (want : Want) (key s : List ℕ) (at q : ℕ) → first_wanted want key s at ≡ Some q → (at ≤ q) × (q < length s)
unfolding first_wanted
wanted_bounds want key s = first_bounds (wanted want key s) s

-- ---- what is wanted

module _ {tag : ℕ} (want : Want) (b : Bool) where
  -- a field of another tag is not wanted
  pub other_tag : (tag ≡ tag_of want → ⊥) → (eqb tag (tag_of want) && b) ≡ false
  other_tag h = rw (ne_eqb tag (tag_of want) h)

  -- of a field of that tag the body decides
  pub right_tag : tag ≡ tag_of want → (eqb tag (tag_of want) && b) ≡ b
  right_tag h = rw (eq-eqb tag (tag_of want) h)

-- ---- past the end

module _ (s : List ℕ) (from : ℕ) (past : length s ≤ from) where
  nothing_there : (k : ℕ) → Bare (field_at s (from + k))
  nothing_there k = inl (end_all s (from + k) (omega arith))

  -- no name, no type, and a UUID of zeros
  pub name_past : name_at s from ≡ []
  unfolding name_at body_at
  name_past = tag_bare 4 _ _ (field_at s (from + 2)) (nothing_there 2)

  pub type_past : type_at s from ≡ []
  unfolding type_at body_at after
  type_past =
      ap (λ (n : ℕ). body_at 5 s n) (tag_bare 4 (λ from to. to) (from + 2) (field_at s (from + 2)) (nothing_there 2))
      ∙ tag_bare 5 _ _ (field_at s (from + 2)) (nothing_there 2)

  pub uuid_past : uuid_at s from ≡ record { first = 0; second = 0; third = 0; fourth = 0 }
  uuid_past =
      λ i. record {
        first = number_past 4 s from past i;
        second = number_past 4 s (from + 4) (omega arith) i;
        third = number_past 4 s (from + 8) (omega arith) i;
        fourth = number_past 4 s (from + 12) (omega arith) i;
      }
