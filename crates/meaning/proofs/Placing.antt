-- Where a finder finds a range or a value is where the relation says that it stands: as many bytes behind its entry or range as stand before it.
-- Assumes nothing.
use Prim.Native.Nat.{ℕ, zero, suc, ◌+◌, ◌<◌}
use mathlib.Core.Path.{◌≡◌, refl, sym, ap, ◌∙◌}
use mathlib.Core.List.{List, ◌∷◌, ◌++◌, map}
use mathlib.Core.Logic.{◌⊎◌, inl, inr}
use native.Mathlib.Omega.{arith}
use lib.ListN.{length, take, drop, length-append}
use Rattle.tlv.specs.Number.{number_bytes}
use Rattle.tlv.specs.Grammar.{Piece, All, field_bytes, fields_bytes}
use Rattle.tlv.proofs.Fields.{Found as FieldFound, field_found}
use Rattle.book.specs.Grammar.{optional_bytes, Value, GoodValue, value_piece, Range, GoodRange, range_piece, Entry, entry_piece, IsBook}
use Rattle.book.specs.Finders.{StandsAt, Finds, range_of_name, value_of_number}
use Rattle.book.proofs.Finding.{first_stands, stands_whole}
use Rattle.book.proofs.Answers.{first_good, range_of_name_is, value_of_number_is}
use Rattle.packet.specs.Field.{inside, range_in, value_in, named_in}
use Rattle.packet.proofs.Fields.{inside_some}
use Rattle.meaning.specs.First.{First, NoneOf}
use Rattle.meaning.specs.Packet.{Description, value_of}
use Rattle.meaning.specs.Places.{entry_up_to, range_up_to}
use Rattle.meaning.proofs.Bridge.{Stood, Located, some_bytes, fields_both, drop_place, value_at}

-- ---- places inside a field, by the bytes before them

module _ {X Y : Type 0} (outer : X → Piece) (piece : Y → Piece) (Good : Y → Type 0) (s : List ℕ) (x : X) (place : ℕ) (a : StandsAt s outer x place) (ys : List Y) (good : All Good ys)
    (head : List Y → ℕ) (sized : (before back : List Y) → ys ≡ before ++ back → length (outer x).body ≡ head before + length (fields_bytes (map piece back))) where
  pub record Placed (So : Y → Type 0) (q : ℕ) : Type 0 where
    pub value : Y
    pub first : First So ys value
    pub stood : Stood piece Good s value q
    pub place_is : q ≡ place + 3 + head first.before

  pub placed : {So : Y → Type 0} (q : ℕ) → Finds (take a.part.to s) piece So ys q → ((q ≡ 0) × NoneOf So ys) ⊎ Placed So q
  placed zero f = inl (refl, f.none refl)
  placed (suc q) f =
      let w = f.first (omega arith) in
      let u : List ℕ = take a.part.to s in
      let back : List ℕ = fields_bytes (map piece (w.value ∷ w.behind)) in
      let some : 0 < length back = some_bytes piece w.value w.behind in
      let size : length (outer x).body ≡ head w.before + length back = sized w.before (w.value ∷ w.behind) w.among in
      let body : drop a.part.from u ≡ (outer x).body = ap (λ (p : Piece). p.body) (sym a.is) in
      let all : a.part.from + length (outer x).body ≡ length u = drop_place a.part.from u (outer x).body body (omega (arith, size, some)) in
      let ends : suc q + length back ≡ length u = drop_place (suc q) u back w.rest some in
      let g : FieldFound s a.part.at a.part.tag a.part.from a.part.to = field_found s a.part.at a.stands in
      let start : a.part.from ≡ place + 3 = omega (arith, a.here) in
      inr
      (record {
        value = w.value;
        first = record { before = w.before; behind = w.behind; among = w.among; so = w.so; none_before = w.none_before };
        stood = record { some_place = omega arith; stands = stands_whole s a.part.to (first_stands w); good = first_good Good w good };
        place_is = omega (arith, size, all, ends, start);
      })

pub entry_sized : (e : Entry) (before back : List Range) → e.ranges ≡ before ++ back → length (entry_piece e).body ≡ entry_up_to e before + length (fields_bytes (map range_piece back))
entry_sized e before back among =
    let A : List ℕ = number_bytes 2 e.offset in
    let B : List ℕ = optional_bytes 4 e.name in
    let C : List ℕ = optional_bytes 5 e.type in
    let f : List ℕ = fields_bytes (map range_piece before) in
    let k : List ℕ = fields_bytes (map range_piece back) in
    let all : fields_bytes (map range_piece e.ranges) ≡ f ++ k = ap (λ (l : List Range). fields_bytes (map range_piece l)) among ∙ fields_both range_piece before back in
    ap (λ (l : List ℕ). length (A ++ (B ++ (C ++ l)))) all
    ∙ omega (
      arith,
      length-append A (B ++ (C ++ (f ++ k))),
      length-append B (C ++ (f ++ k)),
      length-append C (f ++ k),
      length-append f k,
      length-append A (B ++ (C ++ f)),
      length-append B (C ++ f),
      length-append C f,
    )

pub range_sized : (r : Range) (before back : List Value) → r.values ≡ before ++ back → length (range_piece r).body ≡ range_up_to r before + length (fields_bytes (map value_piece back))
range_sized r before back among =
    let A : List ℕ = field_bytes 4 r.name in
    let f : List ℕ = fields_bytes (map value_piece before) in
    let k : List ℕ = fields_bytes (map value_piece back) in
    let all : fields_bytes (map value_piece r.values) ≡ f ++ k = ap (λ (l : List Value). fields_bytes (map value_piece l)) among ∙ fields_both value_piece before back in
    ap (λ (l : List ℕ). length (r.low ∷ r.high ∷ (A ++ l))) all
    ∙ omega (arith, length-append A (f ++ k), length-append f k, length-append A f)

module _ (s : List ℕ) (b : IsBook s) where
  -- the first range of a name in an entry
  module _ (name : List ℕ) (d : Description) (q : ℕ) (a : Located b.tables s d q) where
    abbrev pub RangeHere : ℕ → Type 0
    RangeHere = Placed entry_piece range_piece GoodRange s d.entry q a.stood.stands d.entry.ranges a.stood.good.ranges_good (entry_up_to d.entry) (entry_sized d.entry) (λ r. r.name ≡ name)

    pub range_placed : ((range_in s name q ≡ 0) × NoneOf (λ r. r.name ≡ name) d.entry.ranges) ⊎ RangeHere (range_in s name q)
    unfolding range_in
    range_placed =
        let e : inside (λ e. range_of_name s e name) q ≡ range_of_name s q name = inside_some (λ e. range_of_name s e name) q (λ e. absurd (omega (arith, a.stood.some_place, e))) in
        rw e
        (placed entry_piece range_piece GoodRange s d.entry q a.stood.stands d.entry.ranges a.stood.good.ranges_good (entry_up_to d.entry) (entry_sized d.entry) (range_of_name s q name)
        (range_of_name_is s d.entry q a.stood.good a.stood.stands name))

  -- the first value of a number in a range
  module _ (n : ℕ) (r : Range) (q : ℕ) (a : Stood range_piece GoodRange s r q) where
    abbrev pub NumberHere : ℕ → Type 0
    NumberHere = Placed range_piece value_piece GoodValue s r q a.stands r.values a.good.values_good (range_up_to r) (range_sized r) (λ w. w.number ≡ n)

    pub number_placed : ((value_of_number s q n ≡ 0) × NoneOf (λ w. w.number ≡ n) r.values) ⊎ NumberHere (value_of_number s q n)
    number_placed =
        placed range_piece value_piece GoodValue s r q a.stands r.values a.good.values_good (range_up_to r) (range_sized r) (value_of_number s q n)
        (value_of_number_is s r q a.good a.stands n)

  -- the first value of what a dword has in a range
  module _ (dword : ℕ) (r : Range) (q : ℕ) (a : Stood range_piece GoodRange s r q) where
    abbrev pub ValueHere : ℕ → Type 0
    ValueHere = NumberHere (value_of r dword) r q a

    pub value_placed : ((named_in s q dword ≡ 0) × NoneOf (λ w. w.number ≡ value_of r dword) r.values) ⊎ ValueHere (named_in s q dword)
    unfolding named_in
    value_placed =
        let find : ℕ → ℕ = λ p. value_of_number s p (value_in s p dword) in
        let e : inside find q ≡ value_of_number s q (value_in s q dword) = inside_some find q (λ e. absurd (omega (arith, a.some_place, e))) in
        rw (e, value_at b.tables s r q dword a) (number_placed (value_of r dword) r q a)
