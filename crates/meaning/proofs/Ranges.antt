-- The calls of `field` say what the description has: its place is that of its entry, and what is found inside stands behind what comes before it.
-- Assumes nothing.
use Rattle.std.specs.Prelude.{None, Option, Some}
use Prim.Native.Nat.{ℕ, zero, suc, ◌+◌, ◌≤◌, ◌<◌}
use mathlib.Core.Path.{◌≡◌, refl, sym, ap, subst, ◌∙◌}
use mathlib.Core.Bool.{Bool, true, false}
use mathlib.Core.List.{List, [], ◌∷◌, ◌++◌, map}
use mathlib.Core.Logic.{◌⊎◌, inl, inr}
use Rattle.std.proofs.lemmas.Option.{same_Some}
use native.Mathlib.Omega.{arith}
use borrow.Author.Tests.{ltb-true, ltb-false}
use lib.Dec.{ltb}
use lib.ListN.{length, get_or, take, drop, length-append}
use Rattle.text.specs.Told.{Told, is, absent, refused}
use Rattle.text.specs.Part.{or_start}
use Rattle.tlv.specs.Grammar.{Piece, fields_bytes}
use Rattle.tlv.proofs.Fields.{field_found}
use Rattle.book.specs.Grammar.{text_of, Value, value_piece, Range, GoodRange, range_piece, entry_piece, IsBook}
use Rattle.book.specs.Finders as finders
use Rattle.book.specs.Finders.{StandsAt, count_inside, value_of_number}
use Rattle.book.proofs.Answers.{range_low_is, range_high_is, range_name_is, count_ranges_is, nth_range_is, nth_range_none}
use Rattle.packet.specs.Field.{inside, name_in, range_in, value_in}
use Rattle.packet.proofs.Fields.{inside_none, inside_some, name_none, name_some}
use Rattle.field.specs.declared.Source.{Source}
use Rattle.field.specs.declared.Source.TheVariants as S
use Rattle.field.specs.declared.Field.{Field}
use Rattle.field.specs.declared.Span.{Span}
use Rattle.field.specs.declared.Range.{Range as RangeAnswer}
use Rattle.field.specs.Source.{place_in, entry_of}
use Rattle.field.specs.Ranges.{field_name, range_count, range_at, nth_range, range_named, range_name, value_place, value_name}
use Rattle.book.specs.Finders.{before_name, name_place}
use Rattle.field.specs.Names.{span_of, Names}
use Rattle.meaning.specs.First.{NoneOf}
use Rattle.meaning.specs.Packet.{Description}
use Rattle.meaning.specs.Places.{Stands, PlaceOf, entry_up_to, RangeStands, ValueStands}
use Rattle.meaning.specs.Questions.{IsSource}
use Rattle.meaning.specs.Fields.{NameOf, RangeCount, IsRange, RangeAt, RangeOfName, NumberPlace, NumberName, SpanOf, FieldSays, RangeSays, NameSays}
use Rattle.meaning.proofs.One.{first_some, one_first}
use Rattle.meaning.proofs.Bridge.{Stood, At, some_bytes, drop_place, name_at, value_at, value_name_at}
use Rattle.meaning.proofs.Exactly.{one_range_stands, one_value_stands}
use Rattle.meaning.proofs.Standing.{located, range_stood, value_stood, range_rest}
use Rattle.meaning.proofs.Placing.{RangeHere, range_placed, NumberHere, number_placed}

-- ---- lists

-- the element behind so many others
record Split {X : Type 0} (l : List X) (k : ℕ) : Type 0 where
  before : List X
  value : X
  behind : List X
  among : l ≡ before ++ (value ∷ behind)
  so_many : length before ≡ k

split : {X : Type 0} (l : List X) (k : ℕ) → k < length l → Split l k
split [] k h = absurd (omega arith)
split (x ∷ l) zero h = record { before = []; value = x; behind = l; among = refl; so_many = refl }
split {X} (x ∷ l) (suc k) h =
    let r = split l k (omega arith) in
    record { before = x ∷ r.before; value = r.value; behind = r.behind; among = ap (λ (m : List X). x ∷ m) r.among; so_many = ap suc r.so_many }

-- ---- a range at a place

module _ (s : List ℕ) (b : IsBook s) (d : Description) (dword : ℕ) where
  range_answer : (before : List Range) (r : Range) (q : ℕ) → Stood range_piece GoodRange s r q → RangeStands b.tables d before q
      → (low high value : ℕ) → low ≡ get_or s (q + 3) 0 → high ≡ get_or s (q + 4) 0 → value ≡ value_in s q dword
      → IsRange b.tables (Some d) dword before r (record { low = low; high = high; value = value; place = record { at = q } })
  range_answer before r q a stands low high value l h v =
      record {
        description = d;
        description_is = refl;
        low_is = l ∙ range_low_is s r q a.good a.stands;
        high_is = h ∙ range_high_is s r q a.good a.stands;
        value_is = v ∙ value_at b.tables s r q dword a;
        stands = stands;
      }

-- ---- of a field

module _ (s : List ℕ) (b : IsBook s) where
  -- the place of a field's source is that of its description
  pub source_place : (o : Option Description) (x : Source) → IsSource b.tables o x → PlaceOf b.tables o (place_in x)
  source_place (Some d) (S.Control p) h = h.2
  source_place (Some d) (S.Header p) h = h.1
  source_place (Some d) (S.Protocol p) h = h.3
  source_place (Some d) S.Bare h = absurd h
  source_place None (S.Control p) h = absurd h
  source_place None (S.Header p) h = absurd h
  source_place None (S.Protocol p) h = absurd h
  source_place None S.Bare h = refl

  -- what stands at a place is read there
  place_at : (o : Option Description) (q : ℕ) → PlaceOf b.tables o q → At b.tables s o q
  place_at (Some d) q h = located s b d q h
  place_at None q h = h

  name_says : (o : Option Description) (q : ℕ) → At b.tables s o q → NameOf o (name_in s q)
  name_says (Some d) q a = name_at b.tables s (Some d) q a
  name_says None q a = name_at b.tables s None q a

  count_says : (o : Option Description) (q : ℕ) → At b.tables s o q → RangeCount o (inside (count_inside s) q)
  count_says (Some d) q a =
      inside_some (count_inside s) q (λ e. absurd (omega (arith, a.stood.some_place, e)))
      ∙ count_ranges_is s d.entry q a.stood.good a.stood.stands
  count_says None q a = inside_none (count_inside s) q a

  module _ (dword : ℕ) where
    nth_says : (o : Option Description) (q : ℕ) → At b.tables s o q → (k : ℕ)
        → RangeAt b.tables o dword k (range_at s (inside (λ e. finders.nth_range s e k) q) dword)
    unfolding range_at
    nth_says None q a k = rw (inside_none (λ e. finders.nth_range s e k) q a) (omega arith)
    nth_says (Some d) q a k = by (ltb k (length d.entry.ranges)) refl
      where
        found : inside (λ e. finders.nth_range s e k) q ≡ finders.nth_range s q k
        found = inside_some (λ e. finders.nth_range s e k) q (λ e. absurd (omega (arith, a.stood.some_place, e)))

        answered : (p : ℕ) → finders.nth_range s q k ≡ p → (w : Split d.entry.ranges k) → Stood range_piece GoodRange s w.value p
            → RangeStands b.tables d w.before p → RangeAt b.tables (Some d) dword k (range_at s p dword)
        answered zero e w stood stands = absurd (omega (arith, stood.some_place))
        answered (suc p) e w stood stands =
            record {
              before = w.before;
              range = w.value;
              behind = w.behind;
              among = w.among;
              so_many = w.so_many;
              is = range_answer s b d dword w.before w.value (suc p) stood stands _ _ _ refl refl refl;
            }

        there : (w : Split d.entry.ranges k) → RangeStands b.tables d w.before (finders.nth_range s q k)
        there w =
            let n : ℕ = finders.nth_range s q k in
            let u : List ℕ = take a.stood.stands.part.to s in
            let back : List ℕ = fields_bytes (map range_piece (w.value ∷ w.behind)) in
            let Some : 0 < length back = some_bytes range_piece w.value w.behind in
            let found : drop (finders.nth_range s q (length w.before)) u ≡ back =
            nth_range_is s d.entry q a.stood.good a.stood.stands w.before w.value w.behind w.among in
            let here : drop n u ≡ back = subst (λ m. drop (finders.nth_range s q m) u ≡ back) w.so_many found in
            let rest : drop (q + 3 + entry_up_to d.entry w.before) u ≡ back =
            range_rest s d.entry q a.stood.stands w.before w.value w.behind w.among in
            record {
              entry_place = q;
              entry_stands = a.stands;
              place_is = omega (arith, drop_place n u back here Some, drop_place (q + 3 + entry_up_to d.entry w.before) u back rest Some);
            }

        by : (c : Bool) → ltb k (length d.entry.ranges) ≡ c → RangeAt b.tables (Some d) dword k (range_at s (inside (λ e. finders.nth_range s e k) q) dword)
        by true h =
            let w = split d.entry.ranges k (ltb-true k (length d.entry.ranges) h) in
            let stands = there w in
            rw found
            (answered (finders.nth_range s q k) refl w
            (range_stood s b d w.before w.value w.behind w.among (finders.nth_range s q k) stands) stands)
        by false h =
            let far : length d.entry.ranges ≤ k = ltb-false k (length d.entry.ranges) h in
            rw (found, nth_range_none s d.entry q a.stood.good a.stood.stands k far) far

    named_says : (o : Option Description) (q : ℕ) → At b.tables s o q → (name : List ℕ)
        → RangeOfName b.tables o dword name (range_at s (range_in s name q) dword)
    unfolding range_at range_in
    named_says None q a name = rw (inside_none (λ e. finders.range_of_name s e name) q a) tt
    named_says (Some d) q a name = by (range_in s name q) (range_placed s b name d q a)
      where
        by : (p : ℕ) → ((p ≡ 0) × NoneOf (λ r. r.name ≡ name) d.entry.ranges) ⊎ RangeHere s b name d q a p
            → RangeOfName b.tables (Some d) dword name (range_at s p dword)
        by zero (inl h) = h.1
        by zero (inr h) = absurd (omega (arith, h.stood.some_place))
        by (suc p) (inl h) = absurd (omega (arith, h.0))
        by (suc p) (inr h) =
            record {
              range = h.value;
              first = h.first;
              is =
                  range_answer s b d dword h.first.before h.value (suc p) h.stood
                  (record { entry_place = q; entry_stands = a.stands; place_is = h.place_is }) _ _ _ refl refl refl;
            }

  -- what the calls say of a field is what its description has
  pub field_says : (o : Option Description) (f : Field) → PlaceOf b.tables o (entry_of f) → FieldSays s b.tables o f
  unfolding field_name range_count nth_range range_named
  field_says o f h =
      let a : At b.tables s o (entry_of f) = place_at o (entry_of f) h in
      record {
        name_is = name_says o (entry_of f) a;
        count_is = count_says o (entry_of f) a;
        nth_is = λ k. nth_says f.value o (entry_of f) a k;
        named_is = λ name. named_says f.value o (entry_of f) a name;
      }

-- ---- of a range

module _ (s : List ℕ) (b : IsBook s) (d : Description) (before : List Range) (range : Range) (behind : List Range)
    (among : d.entry.ranges ≡ before ++ (range ∷ behind)) (p : ℕ) (f : RangeStands b.tables d before p) where
  stood : Stood range_piece GoodRange s range p
  stood = range_stood s b d before range behind among p f

  found_at : (n : ℕ) → value_place s p n ≡ value_of_number s p n
  unfolding value_place
  found_at n = inside_some (λ r. value_of_number s r n) p (λ e. absurd (omega (arith, stood.some_place, e)))

  place_says : (n : ℕ) → NumberPlace b.tables d before range n (value_place s p n)
  place_says n = rw (found_at n) (by (number_placed s b n range p stood))
    where
      by : ((value_of_number s p n ≡ 0) × NoneOf (λ w. w.number ≡ n) range.values) ⊎ NumberHere s b n range p stood (value_of_number s p n)
          → NumberPlace b.tables d before range n (value_of_number s p n)
      by (inl h) = inr (h.1, h.0)
      by (inr h) =
          inl (record { value = h.value; first = h.first; stands = record { range_place = p; range_stands = f; place_is = h.place_is } })

  number_name_says : (n : ℕ) → NumberName range n (name_in s (value_place s p n))
  number_name_says n = rw (found_at n) (by (number_placed s b n range p stood))
    where
      by : ((value_of_number s p n ≡ 0) × NoneOf (λ w. w.number ≡ n) range.values) ⊎ NumberHere s b n range p stood (value_of_number s p n)
          → NumberName range n (name_in s (value_of_number s p n))
      by (inl h) = inr (h.1, name_none s (value_of_number s p n) h.0)
      by (inr h) = inl (h.value, h.first, value_name_at b.tables s h.value (value_of_number s p n) h.stood)

  range_name_says : name_in s p ≡ range.name
  range_name_says = name_some s p (λ e. absurd (omega (arith, stood.some_place, e))) ∙ range_name_is s range p stood.good stood.stands

-- what the calls say of a range is what the range has
pub range_says : (s : List ℕ) (b : IsBook s) (d : Description) (before : List Range) (range : Range) (behind : List Range)
    → d.entry.ranges ≡ before ++ (range ∷ behind) → (r : RangeAnswer) → RangeStands b.tables d before r.place.at
    → RangeSays s b.tables d before range r
unfolding range_name value_name
range_says s b d before range behind among r f =
    record {
      name_is = range_name_says s b d before range behind among r.place.at f;
      value_name_is = number_name_says s b d before range behind among r.place.at f r.value;
      value_place_is = place_says s b d before range behind among r.place.at f;
    }

-- ---- where names stand

-- the tag of what stands at a place
tag_there : {X : Type 0} (piece : X → Piece) (s : List ℕ) (x : X) (p : ℕ) → StandsAt s piece x p → get_or s p 0 ≡ (piece x).tag
tag_there piece s x p a =
    let f = field_found s a.part.at a.stands in
    ap (λ (n : ℕ). get_or s n 0) (sym a.here) ∙ sym f.tag_is ∙ sym (ap (λ (q : Piece). q.tag) a.is)

name_span : (s : List ℕ) (p : ℕ) (name : List ℕ) → name_in s p ≡ name → (skip : ℕ) → before_name (get_or s p 0) ≡ skip
    → (span : Span) → Names s p span → NameSays s skip p name span
unfolding span_of or_start
name_span s p name e skip back span f =
    record {
      span_is =
          by name (ap (λ (x : Span). x.at) f.is ∙ ap (or_start (name_place s p)) e) (ap (λ (x : Span). x.len) f.is ∙ ap length e);
      bytes_are = f.holds ∙ e;
    }
  where
    by : (n : List ℕ) → span.at ≡ or_start (name_place s p) n → span.len ≡ length n → SpanOf skip p n span
    by [] a l = (a, l)
    by (x ∷ n) a l = (a ∙ ap (λ (m : ℕ). p + m) back, l)

module _ (s : List ℕ) (b : IsBook s) where
  pub entry_name_span : (d : Description) (p : ℕ) → Stands b.tables d p → (span : Span) → Names s p span
      → NameSays s 8 p (text_of d.entry.name) span
  entry_name_span d p f =
      let a = located s b d p f in
      name_span s p (text_of d.entry.name) (name_at b.tables s (Some d) p a) 8
      (ap before_name (tag_there entry_piece s d.entry p a.stood.stands))

  pub range_name_span : (d : Description) (before : List Range) (range : Range) (behind : List Range) → d.entry.ranges ≡ before ++ (range ∷ behind)
      → (p : ℕ) → RangeStands b.tables d before p → (span : Span) → Names s p span → NameSays s 8 p range.name span
  range_name_span d before range behind among p f =
      let a = range_stood s b d before range behind among p f in
      name_span s p range.name (range_name_says s b d before range behind among p f) 8
      (ap before_name (tag_there range_piece s range p a.stands))

  pub value_name_span : (d : Description) (ranges : List Range) (r : Range) (others : List Range) → d.entry.ranges ≡ ranges ++ (r ∷ others)
      → (before : List Value) (v : Value) (behind : List Value) → r.values ≡ before ++ (v ∷ behind)
      → (p : ℕ) → ValueStands b.tables d ranges r before p → (span : Span) → Names s p span → NameSays s 7 p v.name span
  value_name_span d ranges r others among before v behind within p f =
      let a = value_stood s b d ranges r others among before v behind within p f in
      name_span s p v.name (value_name_at b.tables s v p a) 7 (ap before_name (tag_there value_piece s v p a.stands))

-- ---- one answer

module _ (s : List ℕ) (b : IsBook s) (o : Option Description) (dword : ℕ) where
  one_is_range : (before other : List Range) → before ≡ other → (range : Range) → (x y : RangeAnswer) → IsRange b.tables o dword before range x
      → IsRange b.tables o dword other range y → x ≡ y
  one_is_range before other e range x y f g =
      let same : f.description ≡ g.description = same_Some f.description g.description (sym f.description_is ∙ g.description_is) in
      let stands : RangeStands b.tables g.description other x.place.at =
      subst (λ d. RangeStands b.tables d other x.place.at) same (subst (λ l. RangeStands b.tables f.description l x.place.at) e f.stands) in
      let place : x.place.at ≡ y.place.at = one_range_stands s b g.description other x.place.at y.place.at stands g.stands in
      let low : x.low ≡ y.low = f.low_is ∙ sym g.low_is in
      let high : x.high ≡ y.high = f.high_is ∙ sym g.high_is in
      let value : x.value ≡ y.value = f.value_is ∙ sym g.value_is in
      λ i. record { low = low i; high = high i; value = value i; place = record { at = place i } }

  same_split : {X : Type 0} (a c : List X) (x y : X) (p q : List X) → a ++ (x ∷ p) ≡ c ++ (y ∷ q) → length a ≡ length c → (a ≡ c) × (x ≡ y)
  same_split [] [] x y p q e n = (refl, cc)
  same_split [] (z ∷ c) x y p q e n = absurd (omega arith)
  same_split (z ∷ a) [] x y p q e n = absurd (omega arith)
  same_split {X} (z ∷ a) (w ∷ c) x y p q e n =
      let tails : a ++ (x ∷ p) ≡ c ++ (y ∷ q) = cc in
      let head : z ≡ w = cc in
      let r = same_split a c x y p q tails (omega arith) in
      let tail : a ≡ c = r.0 in
      (cc, r.1)

  -- a field has one range behind so many others
  pub one_range_at : (k : ℕ) (x y : Told RangeAnswer) → RangeAt b.tables o dword k x → RangeAt b.tables o dword k y → x ≡ y
  one_range_at k (is x) (is y) f g =
      let w = same_split f.before g.before f.range g.range f.behind g.behind (sym f.among ∙ g.among) (f.so_many ∙ sym g.so_many) in
      ap is
      (one_is_range f.before g.before w.0 g.range x y (subst (λ r. IsRange b.tables o dword f.before r x) w.1 f.is) g.is)
  one_range_at k (is x) absent f g =
      absurd (omega (arith, g, ap length f.among, length-append f.before (f.range ∷ f.behind), f.so_many))
  one_range_at k absent (is y) f g =
      absurd (omega (arith, f, ap length g.among, length-append g.before (g.range ∷ g.behind), g.so_many))
  one_range_at k absent absent f g = refl
  one_range_at k (refused n) y f g = absurd f
  one_range_at k (is x) (refused n) f g = absurd g
  one_range_at k absent (refused n) f g = absurd g

  -- and one that is the first of a name
  pub one_range_of_name : (name : List ℕ) (x y : Told RangeAnswer) → RangeOfName b.tables o dword name x → RangeOfName b.tables o dword name y → x ≡ y
  one_range_of_name name (is x) (is y) f g =
      let w = one_first (λ (q : Range). q.name ≡ name) f.first g.first in
      ap is
      (one_is_range f.first.before g.first.before w.1 g.range x y
      (subst (λ r. IsRange b.tables o dword f.first.before r x) w.0 f.is) g.is)
  one_range_of_name name (is x) absent f g = absurd (first_some (λ (q : Range). q.name ≡ name) f.first g)
  one_range_of_name name absent (is y) f g = absurd (first_some (λ (q : Range). q.name ≡ name) g.first f)
  one_range_of_name name absent absent f g = refl
  one_range_of_name name (refused n) y f g = absurd f
  one_range_of_name name (is x) (refused n) f g = absurd g
  one_range_of_name name absent (refused n) f g = absurd g

-- a number has one name among the values of a range
pub one_number_name : (range : Range) (number : ℕ) (x y : List ℕ) → NumberName range number x → NumberName range number y → x ≡ y
one_number_name range number x y (inl f) (inl g) =
    f.2 ∙ ap (λ (v : Value). v.name) (one_first (λ (w : Value). w.number ≡ number) f.1 g.1).0 ∙ sym g.2
one_number_name range number x y (inl f) (inr g) = absurd (first_some (λ (w : Value). w.number ≡ number) f.1 g.0)
one_number_name range number x y (inr f) (inl g) = absurd (first_some (λ (w : Value). w.number ≡ number) g.1 f.0)
one_number_name range number x y (inr f) (inr g) = f.1 ∙ sym g.1

-- and one place
pub one_number_place : (s : List ℕ) (b : IsBook s) (d : Description) (before : List Range) (range : Range) (number p q : ℕ)
    → NumberPlace b.tables d before range number p → NumberPlace b.tables d before range number q → p ≡ q
one_number_place s b d before range number p q (inl f) (inl g) =
    let same = (one_first (λ (w : Value). w.number ≡ number) f.first g.first).1 in
    one_value_stands s b d before range g.first.before p q (subst (λ l. ValueStands b.tables d before range l p) same f.stands) g.stands
one_number_place s b d before range number p q (inl f) (inr g) = absurd (first_some (λ (w : Value). w.number ≡ number) f.first g.0)
one_number_place s b d before range number p q (inr f) (inl g) = absurd (first_some (λ (w : Value). w.number ≡ number) g.first f.0)
one_number_place s b d before range number p q (inr f) (inr g) = f.1 ∙ sym g.1
