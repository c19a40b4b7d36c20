-- Each number is answered exactly where its condition holds: up to the first thing wrong the fields are good, and a text has one first thing wrong,
-- since the judgement passes over good fields. Assumes nothing.
use Rattle.std.specs.Prelude.{None, Option, Some}
use Prim.Native.Nat.{ℕ, ◌+◌, ◌-◌, ◌≤◌, ◌<◌}
use mathlib.Core.Path.{◌≡◌, ◌∙◌, sym, ap, ap₂, refl}
use mathlib.Core.Bool.{Bool, true, false, cond, ◌&&◌, and-false, false≢true}
use mathlib.Core.List.Memᴰ
use mathlib.Core.List.{List, [], ◌∷◌, ◌++◌, append-nil, Memᴰ}
use mathlib.Core.Logic.{◌↔◌, ⊎_elim}
use native.Mathlib.Omega.{arith}
use borrow.Author.Tests.{eq-eqb, ne_eqb, eqb-true, eqb-false, ltb-true, ltb-false}
use lib.Dec.{eqb, ltb}
use lib.ListN.{length, take, drop, length-take, drop_of_length-le}
use lib.Seq.{take_at, take-take}
use Rattle.tlv.specs.Number.{Bytes}
use Rattle.tlv.specs.Grammar.{Piece, field_bytes, fields_bytes, FieldAt}
use Rattle.std.specs.List.{list_all}
use Rattle.tlv.specs.Reading.{Part, part_at, Stands, between, piece_of}
use Rattle.tlv.proofs.Fields.{Found, field_found, field_all, field_is, refusal_is, refusal_all, end_all}
use Rattle.tlv.proofs.Places.{between_length, between_end, between_join, between_is, stands_widens}
use Rattle.tlv.proofs.Walks.{by_fields}
use Rattle.tlv.proofs.Pieces.{field_bytes_length, fields_bytes_append, part_made, made_pieces, fills_made}
use Rattle.tlv.proofs.Levels.{first_all}
use Rattle.record.specs.Rule.{rule_of, is_known, fits_rule}
use Rattle.record.specs.Judging.{framed, task_size, judge_field, joined, judged, required_tags, has_required, refusal_of}
use Rattle.record.specs.Conditions.{GoodField, GoodFields, last_tag, Framed, GoodUpTo, Lacks, Breaks, unframed, runs_past, wrong_tag, wrong_body, lacks_tag}
use Rattle.record.specs.Finding.{span_of, is_there}
use Rattle.record.proofs.Finding.{lookup}
use Rattle.record.proofs.Bodies.{pieces_in, body_absent, body_there}
use Rattle.record.proofs.Judging.{judged_end, judged_cut, judged_field, field_good, body-good, body-bad, judged_zero, not_framed, field_refused, tag-missing}
use Rattle.record.proofs.Sound.{framed_is}

-- ---- the number of a field, by its ground

data FieldNumber (task tag last : ℕ) (b : List ℕ) : Type 0 where
  none_due : judge_field task tag b last ≡ 0 → FieldNumber task tag last b
  tag_due : judge_field task tag b last ≡ 32 → (last < tag → is_known (rule_of tag) ≡ true → ⊥) → FieldNumber task tag last b
  body_due : judge_field task tag b last ≡ 34 → last < tag → is_known (rule_of tag) ≡ true → (fits_rule (rule_of tag) task b ≡ true → ⊥)
      → FieldNumber task tag last b

field_number : (task tag last : ℕ) (b : List ℕ) → FieldNumber task tag last b
unfolding judge_field
field_number task tag last b = go (ltb last tag) (is_known (rule_of tag)) (fits_rule (rule_of tag) task b) refl refl refl
  where
    go : (x y z : Bool) → ltb last tag ≡ x → is_known (rule_of tag) ≡ y → fits_rule (rule_of tag) task b ≡ z → FieldNumber task tag last b
    go false y z a c d = tag_due (rw a) (λ h k. omega (arith, h, ltb-false last tag a))
    go true false z a c d = tag_due (rw (a, c)) (λ h k. false≢true (sym c ∙ k))
    go true true false a c d = body_due (rw (a, c, d)) (ltb-true last tag a) c (λ h. false≢true (sym d ∙ h))
    go true true true a c d = none_due (rw (a, c, d))

-- ---- good fields, one more

good_more : (task last : ℕ) (ps : List Piece) (p : Piece) → GoodFields task last ps → GoodField task (last_tag last ps) p
    → GoodFields task last (ps ++ (p ∷ []))
good_more task last [] p g h = (h, tt)
good_more task last (q ∷ ps) p g h = (g.0, good_more task q.tag ps p g.1 h)

last_more : (last : ℕ) (ps : List Piece) (p : Piece) → last_tag last (ps ++ (p ∷ [])) ≡ p.tag
last_more last [] p = refl
last_more last (q ∷ ps) p = last_more q.tag ps p

-- ---- fields that lack a tag

lacks_none : (tag : ℕ) (ps : List Piece) → Lacks tag ps → lookup tag ps ≡ None
unfolding lookup
lacks_none tag [] l = refl
lacks_none tag (p ∷ ps) l = rw (ne_eqb p.tag tag l.0) (lacks_none tag ps l.1)

none_lacks : (tag : ℕ) (ps : List Piece) → lookup tag ps ≡ None → Lacks tag ps
unfolding lookup
none_lacks tag [] e = tt
none_lacks tag (p ∷ ps) e = go (eqb p.tag tag) refl (none_lacks tag ps)
  where
    go : (x : Bool) → eqb p.tag tag ≡ x → (lookup tag ps ≡ None → Lacks tag ps) → Lacks tag (p ∷ ps)
    go true h rest =
        let same : Some p.body ≡ None = rw h at e in
        absurd (let z : ◌≡◌ {A = ℕ} 0 1 = cc in omega arith)
    go false h rest = (eqb-false p.tag tag h, rest (rw h at e))

all_false : (ok : ℕ → Bool) (x : ℕ) (l : List ℕ) → Memᴰ x l → ok x ≡ false → list_all ok l ≡ false
all_false ok x [] m e = absurd (Memᴰ.not-nil m)
all_false ok x (y ∷ l) m e =
    ⊎_elim
    (λ (h : x ≡ y). let here : ok y ≡ false = rw (← h) e in rw here)
    (λ (n : Memᴰ x l). rw (all_false ok x l n e) (and-false (ok y)))
    (Memᴰ.cases_cons m)

-- one of the elements does not pass
record Fails (ok : ℕ → Bool) (l : List ℕ) : Type 0 where
  at : ℕ
  in_list : Memᴰ at l
  fails : ok at ≡ false

one_fails : (ok : ℕ → Bool) (l : List ℕ) → list_all ok l ≡ false → Fails ok l
one_fails ok [] e = absurd (false≢true (sym e))
one_fails ok (x ∷ l) e = go (ok x) refl (λ r. one_fails ok l r)
  where
    go : (b : Bool) → ok x ≡ b → (list_all ok l ≡ false → Fails ok l) → Fails ok (x ∷ l)
    go false h rest = record { at = x; in_list = Memᴰ.head refl; fails = h }
    go true h rest =
        let r : Fails ok l = rest (rw h at e) in
        record { at = r.at; in_list = Memᴰ.tail r.in_list; fails = r.fails }

-- ---- the frame

framed_all : (t : List ℕ) → Framed t → framed t ≡ true
unfolding framed
framed_all t f = rw (field_all t 0 0xA1 3 (length t) f, eq-eqb (length t) (length t) refl)

frame_there : (t : List ℕ) → framed t ≡ true → Framed t
frame_there t e = field_is t 0 0xA1 3 (length t) (framed_is t e)

frame_long : (t : List ℕ) → Framed t → 3 ≤ length t
frame_long t f = omega (arith, f.end, f.start)

-- ---- the judgement passes over good fields

none_between : (t : List ℕ) (from at : ℕ) → from ≤ at → at ≤ length t → between t from at ≡ [] → from ≡ at
none_between t from at h k e = omega (arith, between_length t from at k, ap length e)

passes_over : (t : List ℕ) (at : ℕ) → at ≤ length t → (ps : List Piece) (from last : ℕ) → from ≤ at → between t from at ≡ fields_bytes ps
    → GoodFields (task_size t) last ps → judged t from last ≡ judged t at (last_tag last ps)
unfolding fields_bytes
passes_over t at k [] from last h e g = ap (λ (n : ℕ). judged t n last) (none_between t from at h k e)
passes_over t at k (p ∷ ps) from last h e g =
    let f = first_all t at from p.tag p.body (fields_bytes ps) e in
    let w = stands_widens t at (part_at from p.tag (length p.body)) f.0 in
    let to : ℕ = from + 3 + length p.body in
    let n : ℕ = judge_field (task_size t) p.tag (between t (from + 3) to) last in
    let fits : fits_rule (rule_of p.tag) (task_size t) (between t (from + 3) to) ≡ true = rw f.1 g.0.fits in
    let zero-here : n ≡ 0 = sym (body-good (task_size t) p.tag last (between t (from + 3) to) g.0.ascends g.0.known fits) in
    judged_field t (part_at from p.tag (length p.body)) last w.0
    ∙ rw (eq-eqb n 0 zero-here) (passes_over t at k ps to p.tag w.1 f.2 g.1)

module _ (t : List ℕ) {at : ℕ} {ps : List Piece} (g : GoodUpTo t at ps) where
  judged_so_far : judged t 3 0 ≡ judged t at (last_tag 0 ps)
  judged_so_far = passes_over t at g.within ps 3 0 g.from g.fields g.good

  -- a number that the fields from there on have is the text's
  number_from : (k : ℕ) → judged t at (last_tag 0 ps) ≡ k → (k ≡ 0 → ⊥) → refusal_of t ≡ k
  number_from k e h = sym (field_refused t (framed_all t g.frame) k (sym (judged_so_far ∙ e)) h)

  number_of_field : (k tag from to : ℕ) → FieldAt t at tag from to → judge_field (task_size t) tag (between t from to) (last_tag 0 ps) ≡ k
      → (k ≡ 0 → ⊥) → refusal_of t ≡ k
  number_of_field k tag from to f e h =
      let p : Part = record { at = at; tag = tag; from = from; to = to } in
      let n : ℕ = judge_field (task_size t) tag (between t from to) (last_tag 0 ps) in
      number_from k
      (judged_field t p (last_tag 0 ps) (field_all t at tag from to f) ∙ rw (ne_eqb n 0 (λ z. h (sym e ∙ z))) e) h

-- ---- a condition gives its number

tag_number : (task tag last : ℕ) (b : List ℕ) → (last < tag → is_known (rule_of tag) ≡ true → ⊥) → judge_field task tag b last ≡ 32
unfolding judge_field
tag_number task tag last b h = go (ltb last tag) (is_known (rule_of tag)) refl refl
  where
    go : (x y : Bool) → ltb last tag ≡ x → is_known (rule_of tag) ≡ y → ◌≡◌ {A = ℕ} (cond (x && y) (cond (fits_rule (rule_of tag) task b) 0 34) 32) 32
    go false y a c = refl
    go true false a c = refl
    go true true a c = absurd (h (ltb-true last tag a) c)

false_unless : (b : Bool) → (b ≡ true → ⊥) → b ≡ false
false_unless true h = absurd (h refl)
false_unless false h = refl

not_all : (t : List ℕ) (tag : ℕ) → Memᴰ tag required_tags → is_there (span_of t tag) ≡ false → has_required t ≡ false
unfolding has_required
not_all t tag m e = all_false (λ n. is_there (span_of t n)) tag required_tags m e

breaks_number : (t : List ℕ) (k : ℕ) → Breaks t k → refusal_of t ≡ k
breaks_number t k (unframed e h) = rw e (sym (not_framed t (false_unless (framed t) (λ f. h (frame_there t f)))))
breaks_number t k (runs_past e at ps g r) =
    rw e (number_from t g 31 (judged_cut t at (last_tag 0 ps) (refusal_all t at r)) (λ z. omega (arith, z)))
breaks_number t k (wrong_tag e at ps tag from to g f h) =
    rw e (number_of_field t g 32 tag from to f (tag_number (task_size t) tag (last_tag 0 ps) (between t from to) h) (λ z. omega (arith, z)))
breaks_number t k (wrong_body e at ps tag from to g f up known h) =
    rw e
    (number_of_field t g 34 tag from to f
    (sym (body-bad (task_size t) tag (last_tag 0 ps) (between t from to) up known (false_unless _ h)))
    (λ z. omega (arith, z)))
breaks_number t k (lacks_tag e ps tag g m l) =
    let zero-all : judged t 3 0 ≡ 0 = judged_so_far t g ∙ judged_end t (length t) (last_tag 0 ps) (end_all t (length t) (omega arith)) in
    let pieces : pieces_in t ≡ ps = made_pieces t ps 3 (sym (between_end t 3) ∙ g.fields) in
    let absent : span_of t tag ≡ None = body_absent t tag (ap (lookup tag) pieces ∙ lacks_none tag ps l) in
    rw e (sym (tag-missing t (framed_all t g.frame) zero-all (not_all t tag m (ap is_there absent))))

-- ---- a number gives its condition

module _ (t : List ℕ) (bytes : Bytes t) where
  -- a text that is good up to a field is good up to that field's end
  one_more : (p : Part) → Stands t p → (ps : List Piece) → GoodUpTo t p.at ps → GoodField (task_size t) (last_tag 0 ps) (piece_of t p)
      → GoodUpTo t p.to (ps ++ (piece_of t p ∷ []))
  unfolding fields_bytes
  one_more p e ps g h =
      let f : Found t p.at p.tag p.from p.to = field_found t p.at e in
      let here : List ℕ = field_bytes p.tag (between t p.from p.to) in
      let made : drop p.at t ≡ here ++ drop p.to t = part_made t bytes p e in
      let size : length here ≡ p.to - p.at =
      field_bytes_length p.tag (between t p.from p.to) ∙ omega (arith, between_length t p.from p.to f.within, f.from_is, f.to_is) in
      let cut : between t p.at p.to ≡ here =
      between_is t p.at p.to ∙ rw made (take_at here (drop p.to t) (p.to - p.at) size) in
      record {
        frame = g.frame;
        from = omega (arith, g.from, f.from_is, f.to_is);
        within = f.within;
        fields =
            sym (between_join (take p.to t) 3 p.at g.from)
            ∙ ap₂ {A = List ℕ} {B = List ℕ} ◌++◌ (ap (drop 3) (take-take p.at p.to t (omega (arith, f.from_is, f.to_is))) ∙ g.fields) cut
            ∙ ap (λ (l : List ℕ). fields_bytes ps ++ l) (sym (append-nil here))
            ∙ sym (fields_bytes_append ps (piece_of t p ∷ []));
        good = good_more (task_size t) 0 ps (piece_of t p) g.good h;
      }

  -- from a place up to which the text is good, a number of the fields gives its condition
  field_breaks : (at : ℕ) (ps : List Piece) (k : ℕ) → GoodUpTo t at ps → judged t at (last_tag 0 ps) ≡ k → (k ≡ 0 → ⊥) → Breaks t k
  field_breaks =
      by_fields t (λ at. (ps : List Piece) (k : ℕ) → GoodUpTo t at ps → judged t at (last_tag 0 ps) ≡ k → (k ≡ 0 → ⊥) → Breaks t k)
      (λ at e ps k g j h. absurd (h (sym j ∙ judged_end t at (last_tag 0 ps) e)))
      (λ at e ps k g j h. runs_past (sym j ∙ judged_cut t at (last_tag 0 ps) e) at ps g (refusal_is t at e))
      (λ p e rest ps k g j h. step p e rest ps k g (sym (judged_field t p (last_tag 0 ps) e) ∙ j) h)
    where
      step : (p : Part) → Stands t p
          → ((ps : List Piece) (k : ℕ) → GoodUpTo t p.to ps → judged t p.to (last_tag 0 ps) ≡ k → (k ≡ 0 → ⊥) → Breaks t k)
          → (ps : List Piece) (k : ℕ) → GoodUpTo t p.at ps → joined t p (judged t p.to) (last_tag 0 ps) ≡ k → (k ≡ 0 → ⊥) → Breaks t k
      step p e rest ps k g j h = go (eqb n 0) refl j
        where
          n : ℕ
          n = judge_field (task_size t) p.tag (between t p.from p.to) (last_tag 0 ps)

          stands : FieldAt t p.at p.tag p.from p.to
          stands = field_is t p.at p.tag p.from p.to e

          go : (x : Bool) → eqb n 0 ≡ x → cond x (judged t p.to p.tag) n ≡ k → Breaks t k
          go true z j =
              let good : GoodField (task_size t) (last_tag 0 ps) (piece_of t p) =
              field_good (task_size t) p.tag (last_tag 0 ps) (between t p.from p.to) (eqb-true n 0 z) in
              rest (ps ++ (piece_of t p ∷ [])) k (one_more p e ps g good)
              (ap (judged t p.to) (last_more 0 ps (piece_of t p)) ∙ j) h
          go false z j = which (field_number (task_size t) p.tag (last_tag 0 ps) (between t p.from p.to))
            where
              which : FieldNumber (task_size t) p.tag (last_tag 0 ps) (between t p.from p.to) → Breaks t k
              which (none_due d) = absurd (eqb-false n 0 z d)
              which (tag_due d w) = wrong_tag (sym j ∙ d) p.at ps p.tag p.from p.to g stands w
              which (body_due d up known w) = wrong_body (sym j ∙ d) p.at ps p.tag p.from p.to g stands up known w

  not_there : (n : ℕ) → is_there (span_of t n) ≡ false → lookup n (pieces_in t) ≡ None
  not_there n e = by (lookup n (pieces_in t)) refl
    where
      by : (o : Option (List ℕ)) → lookup n (pieces_in t) ≡ o → lookup n (pieces_in t) ≡ None
      by None h = h
      by (Some b) h = absurd (false≢true (sym e ∙ body_there t n b h))

  number_breaks : (k : ℕ) → refusal_of t ≡ k → (k ≡ 0 → ⊥) → Breaks t k
  unfolding refusal_of has_required fields_bytes
  number_breaks k e h = go (framed t) (eqb (judged t 3 0) 0) (list_all (λ n. is_there (span_of t n)) required_tags) refl refl refl e
    where
      start : framed t ≡ true → GoodUpTo t 3 []
      start f =
          let w : Framed t = frame_there t f in
          record {
            frame = w;
            from = omega arith;
            within = frame_long t w;
            fields = drop_of_length-le (take 3 t) {i = 3} (rw (length-take 3 t) (omega arith));
            good = tt;
          }

      go : (x y z : Bool) → framed t ≡ x → eqb (judged t 3 0) 0 ≡ y → list_all (λ n. is_there (span_of t n)) required_tags ≡ z
          → cond x (cond y (cond z 0 33) (judged t 3 0)) 30 ≡ k → Breaks t k
      go false y z a b c e = unframed (sym e) (λ f. false≢true (sym a ∙ framed_all t f))
      go true false z a b c e = field_breaks 3 [] k (start a) e h
      go true true true a b c e = absurd (h (sym e))
      go true true false a b c e =
          let j = judged_zero t 3 0 (eqb-true (judged t 3 0) 0 b) in
          let f : Fails (λ n. is_there (span_of t n)) required_tags = one_fails (λ n. is_there (span_of t n)) required_tags c in
          let w : Framed t = frame_there t a in
          lacks_tag (sym e) (pieces_in t) f.at
          (record {
            frame = w;
            from = frame_long t w;
            within = omega arith;
            fields = between_end t 3 ∙ fills_made t bytes 3 j.0;
            good = j.1;
          })
          f.in_list
          (none_lacks f.at (pieces_in t) (not_there f.at f.fails))

  -- a number from 30 to 34 is answered exactly if its condition holds, which says too that nothing is wrong before it
  pub number_exactly : (k : ℕ) → (k ≡ 0 → ⊥) → (refusal_of t ≡ k) ↔ Breaks t k
  number_exactly k h = ((λ e. number_breaks k e h), (λ b. breaks_number t k b))
