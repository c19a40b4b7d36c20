-- Rising tags: fields whose tags ascend are the fields found tag by tag, so an absent field needs no case of its own. One law, over any rows.
-- Assumes nothing.
use Rattle.std.specs.Prelude.{None, Option, Some}
use Prim.Native.Nat.{ℕ, zero, suc, ◌+◌, ◌≤◌, ◌<◌}
use mathlib.Core.Path.{◌≡◌, ◌∙◌, refl}
use mathlib.Core.Bool.{Bool, true, false, cond}
use mathlib.Core.List.{List, [], ◌∷◌}
use native.Mathlib.Omega.{arith}
use native.Mathlib.Decide.{dec_le}
use borrow.Author.Tests.{eq-eqb, ne_eqb, eqb-true}
use lib.Dec.{eqb}
use lib.ListN.{length, length-append}
use Rattle.tlv.specs.Grammar.{Piece, field_bytes, fields_bytes, All}
use Rattle.tlv.proofs.Pieces.{field_bytes_length}
use Rattle.record.specs.Grammar.{Row, placed, present}
use Rattle.record.specs.Conditions.{GoodFields}
use Rattle.record.specs.Rule.{rule_of, is_known, fits_rule}
use Rattle.record.proofs.Finding.{lookup}

-- tags ascend, from above a tag
abbrev pub Rising : ℕ → List Piece → Type 0
Rising last [] = Unit {0}
Rising last (p ∷ ps) = (last < p.tag) × Rising p.tag ps

abbrev pub RisingRows : ℕ → List Row → Type 0
RisingRows last [] = Unit {0}
RisingRows last (r ∷ rs) = (last < r.tag) × RisingRows r.tag rs

-- the body of the first row with a tag
abbrev pub body_at : ℕ → List Row → Option (List ℕ)
body_at tag [] = None
body_at tag (r ∷ rs) = cond (eqb r.tag tag) r.body (body_at tag rs)

-- n rows from a tag on, with the bodies that a function gives
abbrev pub rows_from : ℕ → ℕ → (ℕ → Option (List ℕ)) → List Row
rows_from zero tag f = []
rows_from (suc n) tag f = record { tag = tag; body = f tag } ∷ rows_from n (suc tag) f

rising_lower : (ps : List Piece) (low last : ℕ) → low ≤ last → Rising last ps → Rising low ps
rising_lower [] low last h r = tt
rising_lower (p ∷ ps) low last h r = (omega (arith, r.0), r.1)

-- a tag that is not above is not found
pub lookup_low : (ps : List Piece) (last tag : ℕ) → tag ≤ last → Rising last ps → lookup tag ps ≡ None
unfolding lookup
lookup_low [] last tag h r = refl
lookup_low (p ∷ ps) last tag h r =
    rw (ne_eqb p.tag tag (λ e. omega (arith, e, r.0))) (lookup_low ps p.tag tag (omega (arith, r.0)) r.1)

pub present_rising : (rs : List Row) (last : ℕ) → RisingRows last rs → Rising last (present rs)
unfolding present
present_rising [] last r = tt
present_rising (row ∷ rs) last r = go row.body (present_rising rs row.tag r.1)
  where
    go : (b : Option (List ℕ)) → Rising row.tag (present rs) → Rising last (placed row.tag b (present rs))
    go None rest = rising_lower (present rs) last row.tag (omega (arith, r.0)) rest
    go (Some b) rest = (r.0, rest)

-- what is found among the rows that are there is the row's body
pub lookup_present : (rs : List Row) (last : ℕ) → RisingRows last rs → (tag : ℕ) → lookup tag (present rs) ≡ body_at tag rs
unfolding present lookup
lookup_present [] last r tag = refl
lookup_present (row ∷ rs) last r tag = go row.body (eqb row.tag tag) refl (lookup_present rs row.tag r.1 tag)
  where
    go : (b : Option (List ℕ)) (x : Bool) → eqb row.tag tag ≡ x → lookup tag (present rs) ≡ body_at tag rs
        → lookup tag (placed row.tag b (present rs)) ≡ cond x b (body_at tag rs)
    go None true h e =
        lookup_low (present rs) row.tag tag (omega (arith, eqb-true row.tag tag h)) (present_rising rs row.tag r.1)
    go None false h e = e
    go (Some b) true h e = rw h
    go (Some b) false h e = rw h e

-- pieces whose tags ascend from above `low`, and are at most n above it, are those found tag by tag
pub found_by_tag : (n low : ℕ) (f : ℕ → Option (List ℕ)) (ps : List Piece) → Rising low ps → All (λ p. p.tag ≤ low + n) ps
    → ((tag : ℕ) → low < tag → f tag ≡ lookup tag ps) → present (rows_from n (suc low) f) ≡ ps
unfolding present lookup
found_by_tag zero low f [] r b g = refl
found_by_tag zero low f (p ∷ ps) r b g = absurd (omega (arith, r.0, b.0))
found_by_tag (suc n) low f [] r b g =
    rw (g (suc low) (omega arith)) (found_by_tag n (suc low) f [] tt tt (λ tag h. g tag (omega arith)))
found_by_tag (suc n) low f (p ∷ ps) r b g =
    elim (dec_le p.tag (suc low)) [
      | yes le ↦
          let e : p.tag ≡ suc low = omega (arith, le, r.0) in
          let here : f (suc low) ≡ Some p.body = g (suc low) (omega arith) ∙ rw (eq-eqb p.tag (suc low) e) in
          let rest : present (rows_from n (suc (suc low)) f) ≡ ps =
          found_by_tag n (suc low) f ps (rising_lower ps (suc low) p.tag (omega (arith, e)) r.1) (raised ps b.1)
          (λ tag h. g tag (omega arith) ∙ rw (ne_eqb p.tag tag (λ k. omega (arith, k, e)))) in
          rw (here, rest, ← e)
      | no e ↦
          let none_here : f (suc low) ≡ None =
          g (suc low) (omega arith) ∙ lookup_low (p ∷ ps) (suc low) (suc low) (omega arith) (omega (arith, r.0, e), r.1) in
          rw none_here (found_by_tag n (suc low) f (p ∷ ps) (omega (arith, r.0, e), r.1) (raised (p ∷ ps) b) (λ tag h. g tag (omega arith)))
    ]
  where
    raised : (l : List Piece) → All (λ q. q.tag ≤ low + suc n) l → All (λ q. q.tag ≤ suc low + n) l
    raised [] a = tt
    raised (q ∷ l) a = (omega (arith, a.0), raised l a.1)

-- rows whose tags ascend and whose bodies are good are good fields, those that are absent left out
abbrev pub GoodRows : ℕ → ℕ → List Row → Type 0
GoodRows task last [] = Unit {0}
GoodRows task last (r ∷ rs) =
    (last < r.tag)
    × (is_known (rule_of r.tag) ≡ true)
    × ((b : List ℕ) → r.body ≡ Some b → fits_rule (rule_of r.tag) task b ≡ true)
    × GoodRows task r.tag rs

good_lower : (task : ℕ) (ps : List Piece) (low last : ℕ) → low ≤ last → GoodFields task last ps → GoodFields task low ps
good_lower task [] low last h g = tt
good_lower task (p ∷ ps) low last h g =
    (record { ascends = omega (arith, g.0.ascends); known = g.0.known; fits = g.0.fits }, g.1)

pub rows_good : (task : ℕ) (rs : List Row) (last : ℕ) → GoodRows task last rs → GoodFields task last (present rs)
unfolding present
rows_good task [] last g = tt
rows_good task (row ∷ rs) last g = go row.body refl (rows_good task rs row.tag g.3)
  where
    go : (b : Option (List ℕ)) → row.body ≡ b → GoodFields task row.tag (present rs)
        → GoodFields task last (placed row.tag b (present rs))
    go None e rest = good_lower task (present rs) last row.tag (omega (arith, g.0)) rest
    go (Some b) e rest = (record { ascends = g.0; known = g.1; fits = g.2 b e }, rest)

pub good_rising : (task : ℕ) (ps : List Piece) (last : ℕ) → GoodFields task last ps → Rising last ps
good_rising task [] last g = tt
good_rising task (p ∷ ps) last g = (g.0.ascends, good_rising task ps p.tag g.1)

-- a body that is found among good fields is as the rule of its tag asks
pub good_lookup : (task : ℕ) (ps : List Piece) (last : ℕ) → GoodFields task last ps → (tag : ℕ) (b : List ℕ)
    → lookup tag ps ≡ Some b → fits_rule (rule_of tag) task b ≡ true
unfolding lookup
good_lookup task [] last g tag b e = absurd (let z : ◌≡◌ {A = ℕ} 0 1 = cc in omega arith)
good_lookup task (p ∷ ps) last g tag b e = go (eqb p.tag tag) refl (λ r. good_lookup task ps p.tag g.1 tag b r)
  where
    go : (x : Bool) → eqb p.tag tag ≡ x → (lookup tag ps ≡ Some b → fits_rule (rule_of tag) task b ≡ true)
        → fits_rule (rule_of tag) task b ≡ true
    go true h rest =
        let same : Some p.body ≡ Some b = rw h at e in
        let body : p.body ≡ b = cc in
        let t : p.tag ≡ tag = eqb-true p.tag tag h in
        rw (← body, ← t) g.0.fits
    go false h rest = rest (rw h at e)

-- how many bytes rows take
abbrev pub size_of : Option (List ℕ) → ℕ
size_of None = 0
size_of (Some b) = length b + 3

abbrev pub sizes_of : List Row → ℕ
sizes_of [] = 0
sizes_of (r ∷ rs) = size_of r.body + sizes_of rs

pub present_length : (rs : List Row) → length (fields_bytes (present rs)) ≡ sizes_of rs
unfolding present fields_bytes
present_length [] = refl
present_length (row ∷ rs) = go row.body (present_length rs)
  where
    go : (b : Option (List ℕ)) → length (fields_bytes (present rs)) ≡ sizes_of rs
        → length (fields_bytes (placed row.tag b (present rs))) ≡ size_of b + sizes_of rs
    go None e = omega arith
    go (Some b) e =
        length-append (field_bytes row.tag b) (fields_bytes (present rs)) ∙ omega (arith, field_bytes_length row.tag b, e)
