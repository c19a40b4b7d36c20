-- The judgement of a text's fields: the number from a place on is that of the field there, if it has one, else the number from its end on.
-- Assumes nothing.
use Prim.Native.Nat.{ℕ, ◌≤◌, ◌<◌}
use mathlib.Core.Path.{◌≡◌, ◌∙◌, sym, ap, refl}
use mathlib.Core.Bool.{Bool, true, false, cond}
use mathlib.Core.List.{List, map}
use native.Mathlib.Omega.{arith}
use borrow.Author.Tests.{eq-eqb, ne_eqb, lt-ltb, le-ltb, ltb-true, eqb-true, eqb-false}
use mathlib.Core.Bool.{◌&&◌, false≢true}
use lib.Dec.{eqb, ltb}
use Rattle.tlv.specs.declared.Step.TheVariants.{Field, End}
use Rattle.tlv.specs.Reading.{field_at, Part, Stands, between, piece_of, parts, fills}
use Rattle.tlv.specs.Reading.{refusal_of as cut_of}
use Rattle.tlv.proofs.Walks.{by_fields, walk_end, walk_cut, walk_field, parts_end, parts_field, filled_end, filled_cut, filled_field}
use Rattle.record.specs.Judging.{framed, task_size, judge_field, joined, judged, has_required, refusal_of}
use Rattle.record.specs.Conditions.{GoodField, GoodFields}
use Rattle.record.specs.Rule.{rule_of, is_known, fits_rule}

module _ (t : List ℕ) where
  pub judged_end : (at last : ℕ) → field_at t at ≡ End → judged t at last ≡ 0
  unfolding judged
  judged_end at last e = ap (λ (f : ℕ → ℕ). f last) (walk_end (joined t) (λ last. 0) (λ last. 31) t at e)

  pub judged_cut : (at last : ℕ) → cut_of (field_at t at) ≡ 31 → judged t at last ≡ 31
  unfolding judged
  judged_cut at last e = ap (λ (f : ℕ → ℕ). f last) (walk_cut (joined t) (λ last. 0) (λ last. 31) t at e)

  pub judged_field : (p : Part) (last : ℕ) → Stands t p → judged t p.at last ≡ joined t p (judged t p.to) last
  unfolding judged
  judged_field p last e = ap (λ (f : ℕ → ℕ). f last) (walk_field (joined t) (λ last. 0) (λ last. 31) t p e)

  -- the number of a field behind a tag
  abbrev pub number_of : ℕ → ℕ → ℕ → ℕ → ℕ
  number_of tag from to last = judge_field (task_size t) tag (between t from to) last

  -- the number of the text's fields is that of the fields from a place on, behind a tag
  pub record SoFar (at last : ℕ) : Type 0 where
    pub same : judged t 3 0 ≡ judged t at last

  pub judging_starts : SoFar 3 0
  judging_starts = record { same = refl }

  module _ {at last : ℕ} (so_far : SoFar at last) where
    pub judging_ends : field_at t at ≡ End → 0 ≡ judged t 3 0
    judging_ends e = sym (so_far.same ∙ judged_end at last e)

    pub judging_cut : cut_of (field_at t at) ≡ 31 → 31 ≡ judged t 3 0
    judging_cut e = sym (so_far.same ∙ judged_cut at last e)

    module _ {tag from to : ℕ} (here : field_at t at ≡ Field tag from to) where
      pub judging-stops : (n : ℕ) → n ≡ number_of tag from to last → (n ≡ 0 → ⊥) → n ≡ judged t 3 0
      judging-stops n e h =
          let p : Part = record { at = at; tag = tag; from = from; to = to } in
          let other : number_of tag from to last ≡ 0 → ⊥ = λ z. h (e ∙ z) in
          e ∙ sym (so_far.same ∙ judged_field p last here ∙ rw (ne_eqb (number_of tag from to last) 0 other))

      pub judging-steps : 0 ≡ number_of tag from to last → SoFar to tag
      judging-steps e =
          let p : Part = record { at = at; tag = tag; from = from; to = to } in
          record { same = so_far.same ∙ judged_field p last here ∙ rw (eq-eqb (number_of tag from to last) 0 (sym e)) }

-- the ways to a field's number
module _ (task tag last : ℕ) (body : List ℕ) where
  pub tag_low : tag ≤ last → 32 ≡ judge_field task tag body last
  unfolding judge_field
  tag_low h = rw (le-ltb last tag h)

  module _ (up : last < tag) where
    pub tag_unknown : is_known (rule_of tag) ≡ false → 32 ≡ judge_field task tag body last
    unfolding judge_field
    tag_unknown e = rw (lt-ltb last tag up, e)

    module _ (known : is_known (rule_of tag) ≡ true) where
      pub body-good : fits_rule (rule_of tag) task body ≡ true → 0 ≡ judge_field task tag body last
      unfolding judge_field
      body-good e = rw (lt-ltb last tag up, known, e)

      pub body-bad : fits_rule (rule_of tag) task body ≡ false → 34 ≡ judge_field task tag body last
      unfolding judge_field
      body-bad e = rw (lt-ltb last tag up, known, e)

-- a field without a number is good, and a good field has none
pub field_good : (task tag last : ℕ) (body : List ℕ) → judge_field task tag body last ≡ 0 → GoodField task last (record { tag = tag; body = body })
unfolding judge_field
field_good task tag last body e =
    go (ltb last tag) (is_known (rule_of tag)) (fits_rule (rule_of tag) task body) refl refl refl e
  where
    go : (x y z : Bool) → ltb last tag ≡ x → is_known (rule_of tag) ≡ y → fits_rule (rule_of tag) task body ≡ z
        → ◌≡◌ {A = ℕ} (cond (x && y) (cond z 0 34) 32) 0 → GoodField task last (record { tag = tag; body = body })
    go false y z a b c e = absurd (omega (arith, e))
    go true false z a b c e = absurd (omega (arith, e))
    go true true false a b c e = absurd (omega (arith, e))
    go true true true a b c e = record { ascends = ltb-true last tag a; known = b; fits = c }

module _ (t : List ℕ) where
  -- fields that fill the text and are good have no number
  pub judged_good : (at last : ℕ) → fills t at ≡ true → GoodFields (task_size t) last (map (piece_of t) (parts t at)) → judged t at last ≡ 0
  judged_good =
      by_fields t (λ at. (last : ℕ) → fills t at ≡ true → GoodFields (task_size t) last (map (piece_of t) (parts t at)) → judged t at last ≡ 0)
      (λ at e last f g. judged_end t at last e)
      (λ at e last f g. absurd (false≢true (sym (filled_cut t (λ p. true) at e) ∙ f)))
      (λ p e rest last f g. step p e rest last f (rw (parts_field t p e) at g))
    where
      step : (p : Part) → Stands t p
          → ((last : ℕ) → fills t p.to ≡ true → GoodFields (task_size t) last (map (piece_of t) (parts t p.to)) → judged t p.to last ≡ 0)
          → (last : ℕ) → fills t p.at ≡ true
          → GoodField (task_size t) last (piece_of t p) × GoodFields (task_size t) p.tag (map (piece_of t) (parts t p.to))
          → judged t p.at last ≡ 0
      step p e rest last f g =
          let n : ℕ = judge_field (task_size t) p.tag (between t p.from p.to) last in
          let zero-here : n ≡ 0 =
          sym (body-good (task_size t) p.tag last (between t p.from p.to) g.0.ascends g.0.known g.0.fits) in
          judged_field t p last e ∙ rw (eq-eqb n 0 zero-here) (rest p.tag (sym (filled_field t (λ p. true) p e) ∙ f) g.1)

  -- fields that have no number fill the text and are good
  pub judged_zero : (at last : ℕ) → judged t at last ≡ 0
      → (fills t at ≡ true) × GoodFields (task_size t) last (map (piece_of t) (parts t at))
  judged_zero =
      by_fields t (λ at. (last : ℕ) → judged t at last ≡ 0 → (fills t at ≡ true) × GoodFields (task_size t) last (map (piece_of t) (parts t at)))
      (λ at e last z. (filled_end t (λ p. true) at e, rw (parts_end t at e) tt))
      (λ at e last z. absurd (omega (arith, judged_cut t at last e, z)))
      (λ p e rest last z. step p e rest last (sym (judged_field t p last e) ∙ z))
    where
      step : (p : Part) → Stands t p
          → ((last : ℕ) → judged t p.to last ≡ 0 → (fills t p.to ≡ true) × GoodFields (task_size t) last (map (piece_of t) (parts t p.to)))
          → (last : ℕ) → joined t p (judged t p.to) last ≡ 0
          → (fills t p.at ≡ true) × GoodFields (task_size t) last (map (piece_of t) (parts t p.at))
      step p e rest last z =
          go (eqb n 0) refl z
        where
          n : ℕ
          n = judge_field (task_size t) p.tag (between t p.from p.to) last

          go : (x : Bool) → eqb n 0 ≡ x → cond x (judged t p.to p.tag) n ≡ 0
              → (fills t p.at ≡ true) × GoodFields (task_size t) last (map (piece_of t) (parts t p.at))
          go true h k =
              let r = rest p.tag k in (
                filled_field t (λ p. true) p e ∙ r.0,
                rw (parts_field t p e) (field_good (task_size t) p.tag last (between t p.from p.to) (eqb-true n 0 h), r.1),
              )
          go false h k = absurd (eqb-false n 0 h k)

-- the ways to a text's number
module _ (t : List ℕ) where
  pub not_framed : framed t ≡ false → 30 ≡ refusal_of t
  unfolding refusal_of
  not_framed e = rw e

  module _ (frame : framed t ≡ true) where
    pub field_refused : (n : ℕ) → n ≡ judged t 3 0 → (n ≡ 0 → ⊥) → n ≡ refusal_of t
    unfolding refusal_of
    field_refused n e h = rw (frame, ← e, ne_eqb n 0 h)

    module _ (fields : judged t 3 0 ≡ 0) where
      pub tag-missing : has_required t ≡ false → 33 ≡ refusal_of t
      unfolding refusal_of
      tag-missing e = rw (frame, fields, e)

      pub nothing-refused : has_required t ≡ true → 0 ≡ refusal_of t
      unfolding refusal_of
      nothing-refused e = rw (frame, fields, e)
