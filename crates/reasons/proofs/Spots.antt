-- Spots of a payload: a part of a part is a part, so a text that stands in the payload stands in the line; and the last pair of a key is at the
-- one spot that the answer gives. Assumes nothing.
use Rattle.std.specs.Prelude.{Result, None, Option, Some}
use Rattle.text.specs.declared.number.BadNumber.{BadNumber}
use Prim.Native.Nat.{ℕ, ◌+◌, ◌-◌, ◌≤◌, ◌<◌}
use mathlib.Core.Path.{◌≡◌, refl, sym, ap, ◌∙◌}
use mathlib.Core.List.{List}
use native.Mathlib.Omega.{arith}
use lib.ListN.{length, take, drop}
use lib.Seq.{drop-drop, take-take}
use Rattle.tlv.proofs.Places.{drop_take}
use Rattle.text.specs.Told.{Told, is, absent, refused}
use Rattle.text.specs.Number.{Means, hex_of}
use Rattle.text.proofs.Hexes.{hex_means, means_all}
use Rattle.pairs.specs.declared.pair.Span.{Span}
use Rattle.pairs.specs.Pair.{part, last_pair, span}
use Rattle.pairs.proofs.LastPairs.{last_pair_is, last_pair_all, last_within}
use Rattle.reasons.specs.declared.Key.{Key}
use Rattle.reasons.specs.declared.HexText.{HexText}
use Rattle.reasons.specs.Reasons.{name_of, limit_of, said_at, key_in}
use Rattle.reasons.specs.Meaning.{Spot, KeyAt}

-- ---- parts

-- a part of a part
pub part_in_part : (l : List ℕ) (s e a b : ℕ) → b ≤ e - s → part (part l s e) a b ≡ part l (s + a) (s + b)
part_in_part l s e a b h =
    let n : s + b - (s + a) ≡ b - a = omega arith in
    ap (take (b - a)) (drop_take a (e - s) (drop s l))
    ∙ ap (take (b - a)) (ap (take (e - s - a)) (drop-drop a s l))
    ∙ shorter (e - s - a) (drop (s + a) l) h
    ∙ ap (λ (k : ℕ). take k (drop (s + a) l)) (sym n)
  where
    shorter : (k : ℕ) (r : List ℕ) → b ≤ e - s → take (b - a) (take (e - s - a) r) ≡ take (b - a) r
    shorter k r h = take-take (b - a) (e - s - a) r (omega arith)

-- ---- what a reading of the payload must give

-- the text asked for stands in the payload, which starts at a place of the line
pub record Sits (At : Spot) (limit : ℕ) (p : List ℕ) (start : ℕ) (said : HexText) : Type 0 where
  pub text : List ℕ
  pub a : ℕ
  pub b : ℕ
  pub there : At p text a b
  pub from : said.from ≡ start + a
  pub to : said.to ≡ start + b
  pub reads : Means limit text said.reading

-- where such a text stands
pub record Stands (p text : List ℕ) (a b : ℕ) : Type 0 where
  pub some : 0 < length p
  pub within : b ≤ length p
  pub is : part p a b ≡ text

-- what is told of a payload is what is there
pub record Answers (At : Spot) (limit : ℕ) (tell : List ℕ → ℕ → Told HexText) : Type 0 where
  pub never : (p : List ℕ) (start k : ℕ) → tell p start ≡ refused k → ⊥
  pub sits : (p : List ℕ) (start : ℕ) (said : HexText) → tell p start ≡ is said → Sits At limit p start said
  pub lacks : (p : List ℕ) (start : ℕ) → tell p start ≡ absent → (text : List ℕ) (a b : ℕ) → At p text a b → ⊥
  pub all : (p : List ℕ) (start : ℕ) (said : HexText) → Sits At limit p start said → tell p start ≡ is said
  pub stands : (p text : List ℕ) (a b : ℕ) → At p text a b → Stands p text a b

-- two texts of one place and reading are one
pub one_text : {a b : ℕ} {r : Result ℕ BadNumber} (said : HexText) → a ≡ said.from → b ≡ said.to → r ≡ said.reading → record { from = a; to = b; reading = r } ≡ said
one_text said x y z = rw (x, y, z)

pub told_same : {x y : HexText} → is x ≡ is y → x ≡ y
told_same e = cc

-- ---- keys

module _ (key : Key) where
  key_some : (p : List ℕ) (start : ℕ) {a b : ℕ} → last_pair p (name_of key) ≡ span a b
      → key_in p start key ≡ is (record { from = start + a; to = start + b; reading = hex_of (limit_of key) (part p a b) })
  unfolding key_in said_at
  key_some p start q = rw q

  key_none : (p : List ℕ) (start : ℕ) → last_pair p (name_of key) ≡ None → key_in p start key ≡ absent
  unfolding key_in said_at
  key_none p start q = rw q

  pub key_answers : Answers (KeyAt key) (limit_of key) (λ p start. key_in p start key)
  key_answers =
      record {
        never = λ p start k q. never p start k q (last_pair p (name_of key)) refl;
        sits = λ p start said q. sits p start said q (last_pair p (name_of key)) refl;
        lacks = λ p start q text a b r. let e = key_some p start (last_pair_all p (name_of key) r.last) in absurd (let z : ◌≡◌ {A = ℕ} 0 1 = cc in omega arith);
        all = all;
        stands = λ p text a b r. let w = last_within p (name_of key) (last_pair_all p (name_of key) r.last) in record { some = omega (arith, w.0, w.1); within = w.1; is = sym r.is };
      }
    where
      never : (p : List ℕ) (start k : ℕ) → key_in p start key ≡ refused k → (s : Option Span) → last_pair p (name_of key) ≡ s → ⊥
      never p start k q (Some w) e = let r = key_some p start e in let z : ◌≡◌ {A = ℕ} 0 1 = cc in omega arith
      never p start k q None e = let r = key_none p start e in let z : ◌≡◌ {A = ℕ} 0 1 = cc in omega arith

      sits : (p : List ℕ) (start : ℕ) (said : HexText) → key_in p start key ≡ is said → (s : Option Span) → last_pair p (name_of key) ≡ s → Sits (KeyAt key) (limit_of key) p start said
      sits p start said q (Some w) e =
          let same : record { from = start + w.from; to = start + w.to; reading = hex_of (limit_of key) (part p w.from w.to) } ≡ said = told_same (sym (key_some p start e) ∙ q) in
          rw (← same)
          (record {
            text = part p w.from w.to;
            a = w.from;
            b = w.to;
            there = record { last = last_pair_is p (name_of key) e; is = refl };
            from = refl;
            to = refl;
            reads = hex_means (limit_of key) (part p w.from w.to);
          })
      sits p start said q None e = absurd (let r = key_none p start e in let z : ◌≡◌ {A = ℕ} 0 1 = cc in omega arith)

      all : (p : List ℕ) (start : ℕ) (said : HexText) → Sits (KeyAt key) (limit_of key) p start said → key_in p start key ≡ is said
      all p start said r =
          let m : Means (limit_of key) (part p r.a r.b) said.reading = rw r.there.is at r.reads in
          key_some p start (last_pair_all p (name_of key) r.there.last)
          ∙ ap is (one_text said (sym r.from) (sym r.to) (means_all (limit_of key) (part p r.a r.b) said.reading m))
