-- The table that an entry is found in is the one that it stands in: a search inside a table ends before the table does, and of two tables that
-- are met on one walk the first ends before the second begins. Assumes nothing.
use Rattle.std.specs.Prelude.{None, Option, Some}
use Prim.Native.Nat.{ℕ, ◌+◌, ◌≤◌, ◌<◌}
use mathlib.Core.Path.{◌≡◌, refl, sym, ap, subst, ◌∙◌}
use mathlib.Core.Bool.{Bool, true, false, ◌&&◌}
use mathlib.Core.Logic.{◌⊎◌, inl, inr}
use mathlib.Core.List.{List, []}
use native.Mathlib.Decide.{dec_le}
use native.Mathlib.Omega.{arith}
use borrow.Author.Tests.{eqb-true, leb-true, ltb-true, le-leb, lt-ltb, le-ltb}
use lib.Dec.{leb, ltb}
use lib.ListN.{length, take, get_or}
use lib.Seq.{length-take-le}
use Rattle.tlv.specs.declared.Step.{Step}
use Rattle.tlv.specs.declared.Step.TheVariants as T
use Rattle.tlv.specs.Number.{number}
use Rattle.tlv.specs.Reading.{Part, Stands, field_at}
use Rattle.tlv.proofs.Fields.{field_found}
use Rattle.tlv.proofs.Pieces.{both_true}
use Rattle.tlv.proofs.Walks.{by_fields}
use Rattle.book.specs.declared.seek.Want.{Want}
use Rattle.book.specs.declared.seek.Want.TheVariants as W
use Rattle.book.specs.declared.Uuid.{Uuid}
use Rattle.book.specs.Search.{at_field, tag_of, wanted, first_part, first_wanted}
use Rattle.book.specs.Finders.{inner_from, seek_of, control_table, uuid_table}
use Rattle.packet.specs.Packet.{zero_uuid}
use Rattle.book.proofs.Searching.{first_none, first_hit, first_miss, first_bounds, wanted_bounds}
use Rattle.book.proofs.Answers.{inner_up}
use Rattle.field.specs.declared.Source.TheVariants.{Control, Header, Protocol}
use Rattle.field.specs.Source.{stands_in, source_of}
use Rattle.field.proofs.Sources.{control_source, header_source, protocol_source, before-body, in_body}

-- what is found inside a table stands in it
pub found_stands_in : (want : Want) (key s : List ℕ) (table p : ℕ) → seek_of want key s table ≡ Some p → stands_in s (Some table) p ≡ true
unfolding seek_of stands_in
found_stands_in want key s table p e = by (field_at s table) refl e
  where
    by : (f : Step) → field_at s table ≡ f
        → at_field (λ tag from to. first_wanted want key (take to s) (inner_from tag (take to s) from)) None f ≡ Some p
        → at_field (λ tag from to. leb from p && ltb p to) false f ≡ true
    by (T.Field tag from to) h w =
        let f = field_found s table h in
        let size : length (take to s) ≡ to = length-take-le to s f.within in
        let up = inner_up tag (take to s) from (omega (arith, size, f.to_is)) in
        let b = wanted_bounds want key (take to s) (inner_from tag (take to s) from) p w in
        rw (le-leb from p (omega (arith, up, b.0)), lt-ltb p to (omega (arith, size, b.1)))
    by T.Stray h w = absurd (let q : ◌≡◌ {A = ℕ} 0 1 = cc in omega arith)
    by T.Overrun h w = absurd (let q : ◌≡◌ {A = ℕ} 0 1 = cc in omega arith)
    by T.End h w = absurd (let q : ◌≡◌ {A = ℕ} 0 1 = cc in omega arith)

-- an entry that is found in the control table of the kind has the source control
pub control_entry_is_control : (kind : ℕ) (want : Want) (key s : List ℕ) (table p : ℕ) → control_table s kind ≡ Some table
    → seek_of want key s table ≡ Some p → (p ≡ 0 → ⊥) → source_of kind s p ≡ Control (record { at = p })
control_entry_is_control kind want key s table p t e some =
    sym (control_source kind s p some (ap (λ (f : Option ℕ). stands_in s f p) t ∙ found_stands_in want key s table p e))

-- ---- two tables

module _ (s : List ℕ) where
  -- what a search meets passes its test
  pub record Met (ok : Part → Bool) (at : ℕ) : Type 0 where
    pub part : Part
    pub stands : Stands s part
    pub here : part.at ≡ at
    pub passes : ok part ≡ true

  nothing_met : (q : ℕ) → None ≡ Some q → ⊥
  nothing_met q h = let z : ◌≡◌ {A = ℕ} 0 1 = cc in omega arith

  pub first_met : (ok : Part → Bool) (at q : ℕ) → first_part ok s at ≡ Some q → Met ok q
  first_met ok =
      by_fields s (λ at. (q : ℕ) → first_part ok s at ≡ Some q → Met ok q)
      (λ at e q h. absurd (nothing_met q (sym (first_none ok s at (inl e)) ∙ h)))
      (λ at e q h. absurd (nothing_met q (sym (first_none ok s at (inr e)) ∙ h)))
      (λ p e rest q h. by p e rest q (ok p) refl h)
    where
      by : (p : Part) → Stands s p → ((q : ℕ) → first_part ok s p.to ≡ Some q → Met ok q) → (q : ℕ) (b : Bool) → ok p ≡ b
          → first_part ok s p.at ≡ Some q → Met ok q
      by p e rest q true o h =
          let same : Some p.at ≡ Some q = sym (first_hit ok s p e o) ∙ h in
          let here : p.at ≡ q = cc in
          record { part = p; stands = e; here = here; passes = o }
      by p e rest q false o h = rest q (sym (first_miss ok s p e o) ∙ h)

  -- of two fields that searches from one place meet, the first ends before the second begins
  pub ends_before : (ok ok' : Part → Bool) (at p q : ℕ) → first_part ok s at ≡ Some p → first_part ok' s at ≡ Some q → p < q
      → (r : Part) → Stands s r → r.at ≡ p → r.to ≤ q
  ends_before ok ok' =
      by_fields s (λ at. (p q : ℕ) → first_part ok s at ≡ Some p → first_part ok' s at ≡ Some q → p < q → (r : Part) → Stands s r → r.at ≡ p → r.to ≤ q)
      (λ at e p q h k. absurd (nothing_met p (sym (first_none ok s at (inl e)) ∙ h)))
      (λ at e p q h k. absurd (nothing_met p (sym (first_none ok s at (inr e)) ∙ h)))
      (λ f e rest p q h k. by f e rest p q (ok f) refl (ok' f) refl h k)
    where
      one_end : (f r : Part) → Stands s f → Stands s r → r.at ≡ f.at → r.to ≡ f.to
      one_end f r e g same =
          let a = field_found s f.at e in
          let b = field_found s r.at g in
          let size : number 2 s (r.at + 1) ≡ number 2 s (f.at + 1) = ap (λ (i : ℕ). number 2 s (i + 1)) same in
          omega (arith, a.from_is, a.to_is, b.from_is, b.to_is, size, same)

      by : (f : Part) → Stands s f
          → ((p q : ℕ) → first_part ok s f.to ≡ Some p → first_part ok' s f.to ≡ Some q → p < q → (r : Part) → Stands s r → r.at ≡ p → r.to ≤ q)
          → (p q : ℕ) (b : Bool) → ok f ≡ b → (b' : Bool) → ok' f ≡ b' → first_part ok s f.at ≡ Some p → first_part ok' s f.at ≡ Some q → p < q
          → (r : Part) → Stands s r → r.at ≡ p → r.to ≤ q
      by f e rest p q true o true o' h k lt r g at_p =
          let first : Some f.at ≡ Some p = sym (first_hit ok s f e o) ∙ h in
          let second : Some f.at ≡ Some q = sym (first_hit ok' s f e o') ∙ k in
          let here : f.at ≡ p = cc in
          let there : f.at ≡ q = cc in
          absurd (omega (arith, here, there, lt))
      by f e rest p q true o false o' h k lt r g at_p =
          let first : Some f.at ≡ Some p = sym (first_hit ok s f e o) ∙ h in
          let here : f.at ≡ p = cc in
          let later = (first_bounds ok' s f.to q (sym (first_miss ok' s f e o') ∙ k)).0 in
          omega (arith, one_end f r e g (at_p ∙ sym here), later)
      by f e rest p q false o true o' h k lt r g at_p =
          let second : Some f.at ≡ Some q = sym (first_hit ok' s f e o') ∙ k in
          let there : f.at ≡ q = cc in
          let later = (first_bounds ok s f.to p (sym (first_miss ok s f e o) ∙ h)).0 in
          let found = field_found s f.at e in
          absurd (omega (arith, there, later, lt, found.to_is))
      by f e rest p q false o false o' h k lt r g at_p =
          rest p q (sym (first_miss ok s f e o) ∙ h) (sym (first_miss ok' s f e o') ∙ k) lt r g at_p

-- where an entry stands by the ends of a table's body
module _ (s : List ℕ) (table : ℕ) {tag from to : ℕ} (field : field_at s table ≡ T.Field tag from to) (p : ℕ) where
  inside_bounds : stands_in s (Some table) p ≡ true → (from ≤ p) × (p < to)
  unfolding stands_in
  inside_bounds h =
      let e : (leb from p && ltb p to) ≡ true = subst (λ (f : Step). at_field (λ tag from to. leb from p && ltb p to) false f ≡ true) field h in
      let w = both_true (leb from p) (ltb p to) e in
      (leb-true from p w.0, ltb-true p to w.1)

  outside : (p < from) ⊎ (to ≤ p) → stands_in s (Some table) p ≡ false
  outside (inl lt) = sym (before-body s p refl field lt)
  outside (inr le) =
      elim (dec_le from p) [
        | yes h ↦ sym (in_body s p refl field h) ∙ le-ltb p to le
        | no h ↦ sym (before-body s p refl field (omega (arith, h)))
      ]

-- an entry that is found in one of two tables does not stand in the other
module _ (s : List ℕ) (a b : Part → Bool) {table other : ℕ} (met : first_part a s 0 ≡ Some table) (too : first_part b s 0 ≡ Some other) where
  pub stands_in_one : (table ≡ other → ⊥) → (want : Want) (key : List ℕ) (p : ℕ) → seek_of want key s table ≡ Some p → stands_in s (Some other) p ≡ false
  stands_in_one apart want key p e =
      let m = first_met s a 0 table met in
      let n = first_met s b 0 other too in
      let here : field_at s table ≡ T.Field m.part.tag m.part.from m.part.to = ap (field_at s) (sym m.here) ∙ m.stands in
      let there : field_at s other ≡ T.Field n.part.tag n.part.from n.part.to = ap (field_at s) (sym n.here) ∙ n.stands in
      let in-it = inside_bounds s table here p (found_stands_in want key s table p e) in
      let f = field_found s table here in
      let g = field_found s other there in
      elim (dec_le table other) [
        | yes h ↦
            let ended = ends_before s a b 0 table other met too (omega (arith, h, apart)) m.part m.stands m.here in
            outside s other there p (inl (omega (arith, in-it.1, ended, g.from_is)))
        | no h ↦
            let ended = ends_before s b a 0 other table too met (omega (arith, h)) n.part n.stands n.here in
            outside s other there p (inr (omega (arith, in-it.0, ended, f.from_is)))
      ]

-- a table that is met has the tag of what is wanted
met_tag : (want : Want) (key s : List ℕ) (at : ℕ) → Met s (wanted want key s) at → get_or s at 0 ≡ tag_of want
unfolding wanted
met_tag want key s at m =
    let tag = (both_true _ _ m.passes).0 in
    ap (λ (i : ℕ). get_or s i 0) (sym m.here) ∙ sym (field_found s m.part.at m.stands).tag_is ∙ eqb-true m.part.tag (tag_of want) tag

module _ (kind : ℕ) (s : List ℕ) {control header : ℕ} (c : control_table s kind ≡ Some control) (h : uuid_table s zero_uuid ≡ Some header) where
  -- control tables and the others differ in their tags
  not_control : (u : Uuid) {table : ℕ} → uuid_table s u ≡ Some table → table ≡ control → ⊥
  unfolding first_wanted
  not_control u {table} t same =
      let one = met_tag (W.Kind kind) [] s control (first_met s (wanted (W.Kind kind) [] s) 0 control c) in
      let two = met_tag (W.Uuid u) [] s table (first_met s (wanted (W.Uuid u) [] s) 0 table t) in
      omega (arith, one, two, ap (λ (i : ℕ). get_or s i 0) same)

  -- an entry that is found in a table of a UUID does not stand in the control table
  off_control : (u : Uuid) {table : ℕ} → uuid_table s u ≡ Some table → (want : Want) (key : List ℕ) (p : ℕ) → seek_of want key s table ≡ Some p
      → stands_in s (control_table s kind) p ≡ false
  unfolding first_wanted
  off_control u t want key p e =
      ap (λ (f : Option ℕ). stands_in s f p) c
      ∙ stands_in_one s (wanted (W.Uuid u) [] s) (wanted (W.Kind kind) [] s) t c (not_control u t) want key p e

  module _ (want : Want) (key : List ℕ) (p : ℕ) (some : p ≡ 0 → ⊥) where
    -- an entry that is found in the header table has the source header
    pub header_entry_is_header : seek_of want key s header ≡ Some p → source_of kind s p ≡ Header (record { at = p })
    header_entry_is_header e =
        sym
        (header_source kind s p some (off_control zero_uuid h want key p e)
        (ap (λ (f : Option ℕ). stands_in s f p) h ∙ found_stands_in want key s header p e))

    -- one that is found in a UUID's table that is not the header table has the source protocol
    pub protocol_entry_is_protocol : (u : Uuid) {table : ℕ} → uuid_table s u ≡ Some table → (table ≡ header → ⊥) → seek_of want key s table ≡ Some p
        → source_of kind s p ≡ Protocol (record { at = p })
    unfolding first_wanted
    protocol_entry_is_protocol u t apart e =
        sym
        (protocol_source kind s p some (off_control u t want key p e)
        (ap (λ (f : Option ℕ). stands_in s f p) h
        ∙ stands_in_one s (wanted (W.Uuid u) [] s) (wanted (W.Uuid zero_uuid) [] s) t h apart want key p e))
