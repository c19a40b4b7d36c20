-- Fields that fill a text are judged one by one: the answer from a field on is false if the field fails, else the answer from its end on. That
-- nothing stands twice is judged at each field against the later ones. Assumes nothing.
use Prim.Native.Nat.{ℕ, ◌+◌, ◌≤◌}
use mathlib.Core.Path.{◌≡◌, ◌∙◌, sym, ap, ap₂, refl}
use mathlib.Core.Bool.{Bool, true, false, cond, not, ◌&&◌, and-false}
use mathlib.Core.List.{List, []}
use native.Mathlib.Omega.{arith}
use borrow.Author.Tests.{eq-eqb, ne_eqb, lt-leb}
use lib.Dec.{eqb}
use lib.ListN.{length, take}
use Rattle.tlv.proofs.Places.{stands_cut}
use Rattle.tlv.specs.declared.Step.{Step}
use Rattle.tlv.specs.declared.Step.TheVariants.{Stray, Overrun, End}
use Rattle.tlv.specs.Reading.{Part, Stands, field_at, refusal_of, parts, filled, has, once}
use Rattle.tlv.proofs.Walks.{filled_end, filled_cut, filled_field, filled_once}
use Rattle.tlv.specs.Number.{number}
use Rattle.book.specs.declared.seek.Want.{Want}
use Rattle.book.specs.declared.seek.Want.TheVariants as W
use Rattle.book.specs.Search.{wanted, has_wanted, table_want}
use Rattle.book.specs.Reading.{field_ok, value_body, table_ok, same_value, same_table, control_body, uuid_body, table_body}

module _ (ok : Part → Bool) (s : List ℕ) where
  -- a field that fails
  pub fill_stop : (p : Part) → Stands s p → ok p ≡ false → filled ok s p.at ≡ false
  fill_stop p e h = filled_field s ok p e ∙ rw h

  -- a field that passes
  pub fill_next : (p : Part) → Stands s p → ok p ≡ true → filled ok s p.at ≡ filled ok s p.to
  fill_next p e h = filled_field s ok p e ∙ rw h

  module _ (at : ℕ) {r : Step} (is : r ≡ field_at s at) where
    -- one or two bytes are left
    pub fill_stray : r ≡ Stray → filled ok s at ≡ false
    fill_stray h = filled_cut s ok at (ap refusal_of (sym is ∙ h))

    -- a field runs past the end
    pub fill_overrun : r ≡ Overrun → filled ok s at ≡ false
    fill_overrun h = filled_cut s ok at (ap refusal_of (sym is ∙ h))

    -- the end
    pub fill_end : r ≡ End → filled ok s at ≡ true
    fill_end h = filled_end s ok at (sym is ∙ h)

module _ (ok : Part → Bool) (same : Part → Part → Bool) (s : List ℕ) where
  -- a field passes, and none behind it is the same
  abbrev pub fresh : Part → Bool
  fresh p = ok p && not (has (same p) (parts s p.to))

  -- what is asked of a row, field by field
  pub row_fresh : (at : ℕ) → (filled ok s at && once same (parts s at)) ≡ filled fresh s at
  row_fresh at = sym (filled_once s ok same at)

  pub fresh_fails : (p : Part) → ok p ≡ false → fresh p ≡ false
  fresh_fails p h = rw h

  pub fresh_twice : (p : Part) → has (same p) (parts s p.to) ≡ true → fresh p ≡ false
  fresh_twice p h = rw h (and-false (ok p))

  pub fresh_new : (p : Part) → ok p ≡ true → has (same p) (parts s p.to) ≡ false → fresh p ≡ true
  fresh_new p h k = rw (h, k)

module _ (tag : ℕ) (body : List ℕ → ℕ → Bool) (s : List ℕ) (p : Part) where
  -- a field of another tag
  pub field_other : (p.tag ≡ tag → ⊥) → field_ok tag body s p ≡ false
  field_other h = rw (ne_eqb p.tag tag h)

  -- of a field of that tag the body decides
  pub field_body : {b : Bool} → p.tag ≡ tag → body (take p.to s) p.from ≡ b → field_ok tag body s p ≡ b
  field_body h k = rw (eq-eqb p.tag tag h) k

module _ (s : List ℕ) (p : Part) {b : Bool} where
  -- a search for the same value answers whether one stands behind
  pub value_behind : {n : ℕ} → n ≡ number 4 (take p.to s) p.from → b ≡ has_wanted (W.Value n) [] s p.to
      → has (same_value s p) (parts s p.to) ≡ b
  unfolding has_wanted same_value
  value_behind is h = ap (λ (m : ℕ). has (wanted (W.Value m) [] s) (parts s p.to)) (sym is) ∙ sym h

  -- the same for a table's kind or UUID
  pub table_behind : {want : Want} → want ≡ table_want (take p.to s) p.tag p.from → b ≡ has_wanted want [] s p.to
      → has (same_table s p) (parts s p.to) ≡ b
  unfolding has_wanted same_table
  table_behind is h = ap (λ (w : Want). has (wanted w [] s) (parts s p.to)) (sym is) ∙ sym h

both_first : (a b c : Bool) → (a && (b && c)) ≡ ((a && b) && c)
both_first true b c = refl
both_first false b c = refl

module _ (s : List ℕ) (p : Part) (u : List ℕ) (e : Stands s p) (n : u ≡ take p.to s) where
  ends : length u ≡ p.to
  ends = ap length n ∙ sym (stands_cut s p e)

  -- a value's body, and no search that finds it behind
  pub value_fresh : (eqb p.tag 7 && (value_body u p.from && not (has_wanted (W.Value (number 4 u p.from)) [] s (length u))))
      ≡ fresh (field_ok 7 value_body s) (same_value s) s p
  unfolding has_wanted same_value
  value_fresh =
      ap₂ (λ (w : List ℕ) (k : ℕ). eqb p.tag 7 && (value_body w p.from && not (has (wanted (W.Value (number 4 w p.from)) [] s) (parts s k)))) n ends
      ∙ both_first (eqb p.tag 7) (value_body (take p.to s) p.from) _

  -- the same for a table's kind or UUID
  pub table_fresh : (table_body p.tag u p.from && not (has_wanted (table_want u p.tag p.from) [] s (length u)))
      ≡ fresh (table_ok s) (same_table s) s p
  unfolding has_wanted same_table
  table_fresh =
      ap₂ (λ (w : List ℕ) (k : ℕ). table_body p.tag w p.from && not (has (wanted (table_want w p.tag p.from) [] s) (parts s k))) n ends

-- a table with no byte in its body
pub table_empty : (tag : ℕ) (s : List ℕ) (from : ℕ) → length s ≤ from → table_body tag s from ≡ false
unfolding table_body control_body uuid_body
table_empty tag s from h =
    rw (lt-leb (from + 1) (length s) (omega arith), lt-leb (from + 16) (length s) (omega arith)) (by (eqb tag 1) (eqb tag 2))
  where
    by : (a b : Bool) → cond a false (b && false) ≡ false
    by true b = refl
    by false b = and-false b
