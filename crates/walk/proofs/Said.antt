-- What is kept of a last pair is what its key's row says: where it stands, or the number that it says in the row's base, within the row's
-- width. Assumes nothing.
use Rattle.std.specs.Prelude.{None, Option, Some}
use Rattle.std.proofs.lemmas.Option.{none-some}
use Prim.Native.Nat.{ℕ, ◌≤◌, ◌<◌}
use mathlib.Core.Path.{◌≡◌, refl, sym, ap, ◌∙◌}
use mathlib.Core.List.{List}
use native.Mathlib.Omega.{arith}
use Rattle.text.specs.Number.{number_of, hex_number_of}
use Rattle.text.proofs.Numbers.{number_is}
use Rattle.pairs.specs.declared.keys.Form.{Form}
use Rattle.pairs.specs.declared.keys.Form.TheVariants.{Text, Decimal, Hex, Dwords}
use Rattle.pairs.specs.declared.pair.Span.{Span}
use Rattle.pairs.specs.Pair.{part, last_pair, decimal_in, decimal_of, hex_in, hex_at}
use Rattle.pairs.specs.Table.{Row}
use Rattle.pairs.proofs.Slots.{hex_fits}
use Rattle.walk.specs.declared.value.Kept.{Kept}
use Rattle.walk.specs.declared.value.Kept.TheVariants as K
use Rattle.walk.specs.Kept.{kept_number, kept_in, kept_at, kept_of, number_in, part_in, base_of, limit_of}

-- the last pair of a key, read as a form
abbrev pub read_key : Form → List ℕ → List ℕ → Option ℕ
read_key (Decimal limit) s key = decimal_of s key limit
read_key (Hex limit) s key = hex_at s key limit
read_key Text s key = None
read_key Dwords s key = None

-- a number that was read is the one that is kept
number_said : (n : Option ℕ) → n ≡ number_in (kept_number n)
unfolding kept_number number_in
number_said (Some v) = refl
number_said None = refl

module _ (s : List ℕ) (row : Row) {k : Option Kept} (is : k ≡ kept_of s row) where
  -- ---- of a text or of dwords: where it stands
  pub stands : ((a b : ℕ) → kept_in row.form s a b ≡ Some (K.Part (record { from = a; to = b }))) → part_in k ≡ last_pair s row.name
  unfolding kept_of kept_at part_in
  stands placed = ap part_in is ∙ go (last_pair s row.name)
    where
      go : (r : Option Span) → part_in (kept_at s row.form r) ≡ r
      go (Some w) = ap part_in (placed w.from w.to)
      go None = refl

  -- ---- of a number: what it says
  module _ (based : 0 < base_of row.form) where
    pub says : read_key row.form s row.name ≡ number_in k
    unfolding kept_of kept_at kept_in decimal_of decimal_in hex_at hex_in base_of number_in
    says = go row.form (last_pair s row.name) refl based ∙ ap number_in (sym is)
      where
        go : (form : Form) (r : Option Span) → last_pair s row.name ≡ r → 0 < base_of form → read_key form s row.name ≡ number_in (kept_at s form r)
        go (Decimal limit) (Some w) q h = rw q (number_said (number_of 10 limit (part s w.from w.to)))
        go (Decimal limit) None q h = rw q
        go (Hex limit) (Some w) q h = rw q (number_said (hex_number_of limit (part s w.from w.to)))
        go (Hex limit) None q h = rw q
        go Text r q h = absurd (omega arith)
        go Dwords r q h = absurd (omega arith)

    pub says_most : {v : ℕ} → number_in k ≡ Some v → v ≤ limit_of row.form
    unfolding kept_of kept_at kept_in base_of limit_of number_in
    says_most {v} e = go row.form (last_pair s row.name) (sym (ap number_in is) ∙ e) based
      where
        go : (form : Form) (r : Option Span) → number_in (kept_at s form r) ≡ Some v → 0 < base_of form → v ≤ limit_of form
        go (Decimal limit) (Some w) q h = (number_is 10 limit (part s w.from w.to) (number_said (number_of 10 limit (part s w.from w.to)) ∙ q)).within
        go (Hex limit) (Some w) q h = hex_fits limit (part s w.from w.to) (number_said (hex_number_of limit (part s w.from w.to)) ∙ q)
        go (Decimal limit) None q h = absurd (none-some _ q)
        go (Hex limit) None q h = absurd (none-some _ q)
        go Text r q h = absurd (omega arith)
        go Dwords r q h = absurd (omega arith)
