-- Finding a field by its tag: the field sought among those from a place on is the one there, if it has the tag, else the one sought from its end on.
-- Assumes nothing.
use Rattle.std.specs.Prelude.{None, Option, Some}
use Prim.Native.Nat.{ℕ, ◌≤◌, ◌<◌}
use mathlib.Core.Path.{◌≡◌, ◌∙◌, sym, ap, refl}
use mathlib.Core.Bool.{Bool, true, false, cond}
use mathlib.Core.List.{List, [], ◌∷◌}
use native.Mathlib.Omega.{arith}
use borrow.Author.Tests.{eq-eqb, ne_eqb, eqb-true}
use lib.Dec.{eqb}
use lib.ListN.{length}
use Rattle.tlv.specs.declared.Step.{Step}
use Rattle.tlv.specs.declared.Step.TheVariants.{Field, Stray, Overrun, End}
use Rattle.tlv.specs.Reading.{field_at, refusal_of, Part, Stands, parts}
use Rattle.tlv.specs.Grammar.{Piece, All}
use Rattle.tlv.proofs.Fields.{Found, field_found}
use Rattle.tlv.proofs.Walks.{parts_end, parts_cut, parts_field, parts_stand}
use Rattle.record.specs.declared.find.Span.{Span}
use Rattle.record.specs.Finding.{span_among, span_of}

-- the body of the first piece with a tag
unfoldable pub lookup : ℕ → List Piece → Option (List ℕ)
lookup tag [] = None
lookup tag (p ∷ ps) = cond (eqb p.tag tag) (Some p.body) (lookup tag ps)

-- a field that stands at a place ends behind it, within the text
pub record Moves (t : List ℕ) (at from to : ℕ) : Type 0 where
  pub on : at < to
  pub body : from ≤ to
  pub within : to ≤ length t

pub field_moves : (t : List ℕ) (at : ℕ) {tag from to : ℕ} → field_at t at ≡ Field tag from to → Moves t at from to
field_moves t at {tag} {from} {to} e =
    let f : Found t at tag from to = field_found t at e in
    record { on = omega arith; body = omega arith; within = f.within }

-- the part that a span is of
pub record Spanned (t : List ℕ) (tag : ℕ) (s : Span) (ps : List Part) : Type 0 where
  pub part : Part
  pub stands : Stands t part
  pub tag_is : part.tag ≡ tag
  pub from_is : part.from ≡ s.from
  pub to_is : part.to ≡ s.to

module _ (t : List ℕ) (tag : ℕ) where
  pub spanned : (ps : List Part) → All (Stands t) ps → {s : Span} → span_among tag ps ≡ Some s → Spanned t tag s ps
  unfolding span_among lookup
  spanned [] all {s} e = absurd (let z : ◌≡◌ {A = ℕ} 0 1 = cc in omega arith)
  spanned (p ∷ ps) all {s} e = go (eqb p.tag tag) refl (λ r. spanned ps all.1 r)
    where
      go : (b : Bool) → eqb p.tag tag ≡ b → (span_among tag ps ≡ Some s → Spanned t tag s ps) → Spanned t tag s (p ∷ ps)
      go true h rest =
          let same : Some (record { from = p.from; to = p.to }) ≡ Some s = rw h at e in
          let is : ◌≡◌ {A = Span} (record { from = p.from; to = p.to }) s = cc in
          record {
            part = p;
            stands = all.0;
            tag_is = eqb-true p.tag tag h;
            from_is = ap (λ (s : Span). s.from) is;
            to_is = ap (λ (s : Span). s.to) is;
          }
      go false h rest =
          let r : Spanned t tag s ps = rest (rw h at e) in
          record {
            part = r.part;
            stands = r.stands;
            tag_is = r.tag_is;
            from_is = r.from_is;
            to_is = r.to_is;
          }

  -- a field that is found lies within the text
  pub span_moves : {s : Span} → span_of t tag ≡ Some s → (s.from ≤ s.to) × (s.to ≤ length t)
  unfolding span_of
  span_moves {s} e =
      let w : Spanned t tag s (parts t 3) = spanned (parts t 3) (parts_stand t 3) e in
      let f : Found t w.part.at w.part.tag w.part.from w.part.to = field_found t w.part.at w.stands in
      (omega (arith, w.from_is, w.to_is, f.to_is, f.from_is), omega (arith, w.to_is, f.within))

  -- the field sought in the text is the one sought from a place on
  pub record Sought (at : ℕ) : Type 0 where
    pub same : span_of t tag ≡ span_among tag (parts t at)

  pub seeking_starts : Sought 3
  unfolding span_of
  seeking_starts = record { same = refl }

  module _ {at : ℕ} (sought : Sought at) where
    pub sought_end : field_at t at ≡ End → None ≡ span_of t tag
    unfolding span_among
    sought_end e = sym (sought.same ∙ rw (parts_end t at e))

    pub sought_cut : refusal_of (field_at t at) ≡ 31 → None ≡ span_of t tag
    unfolding span_among
    sought_cut e = sym (sought.same ∙ rw (parts_cut t at e))

    -- no field stands there: the text ends, or what is left is not one
    pub sought_over : ((tag from to : ℕ) → field_at t at ≡ Field tag from to → ⊥) → None ≡ span_of t tag
    sought_over none = go (field_at t at) refl
      where
        go : (s : Step) → field_at t at ≡ s → None ≡ span_of t tag
        go (Field tag from to) e = absurd (none tag from to e)
        go Stray e = sought_cut (ap refusal_of e)
        go Overrun e = sought_cut (ap refusal_of e)
        go End e = sought_end e

    module _ {found from to : ℕ} (here : field_at t at ≡ Field found from to) where
      pub sought-hit : found ≡ tag → Some (record { from = from; to = to }) ≡ span_of t tag
      unfolding span_among
      sought-hit e =
          let p : Part = record { at = at; tag = found; from = from; to = to } in
          sym (sought.same ∙ rw (parts_field t p here, eq-eqb found tag e))

      pub sought-miss : (found ≡ tag → ⊥) → Sought to
      unfolding span_among
      sought-miss e =
          let p : Part = record { at = at; tag = found; from = from; to = to } in
          record { same = sought.same ∙ rw (parts_field t p here, ne_eqb found tag e) }
