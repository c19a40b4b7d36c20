-- Keys: what the last pair of a key says is what the reading finds there, as text, decimal or hex of any width. Assumes nothing.
use Rattle.std.specs.Prelude.{None, Some, Option}
use Prim.Native.Nat.{ℕ}
use mathlib.Core.Path.{◌≡◌, refl, sym, ap, ◌∙◌}
use mathlib.Core.List.{List}
use native.Mathlib.Omega.{arith}
use Rattle.text.proofs.Numbers.{number_is, number_all}
use Rattle.text.proofs.Hexes.{hex_is, hex_all}
use Rattle.pairs.specs.declared.pair.Span.{Span}
use Rattle.pairs.specs.Pair.{part, last_pair, decimal_in, decimal_of, hex_at}
use Rattle.pairs.proofs.LastPairs.{last_pair_is, last_pair_all, decimal_some, hex_some, hex_none}
use Rattle.scan.specs.Body.{text_at}
use Rattle.scan.specs.Line.{KeyText, KeyDecimal, KeyHex}

module _ (p key : List ℕ) where
  pub key_text_is : {text : List ℕ} → text_at p (last_pair p key) ≡ Some text → KeyText p key text
  unfolding text_at
  key_text_is {text} e = go (last_pair p key) refl e
    where
      go : (s : Option Span) → last_pair p key ≡ s → text_at p s ≡ Some text → KeyText p key text
      go (Some w) q n = record { from = w.from; to = w.to; last = last_pair_is p key q; is = cc }
      go None q n = absurd (let z : ◌≡◌ {A = ℕ} 0 1 = cc in omega arith)

  pub key_text_all : {text : List ℕ} → KeyText p key text → text_at p (last_pair p key) ≡ Some text
  unfolding text_at
  key_text_all r = rw (last_pair_all p key r.last) (ap Some (sym r.is))

  module _ (limit : ℕ) where
    pub key_decimal_is : {v : ℕ} → decimal_of p key limit ≡ Some v → KeyDecimal p key limit v
    unfolding decimal_of decimal_in
    key_decimal_is {v} e = go (last_pair p key) refl e
      where
        go : (s : Option Span) → last_pair p key ≡ s → decimal_in p limit s ≡ Some v → KeyDecimal p key limit v
        go (Some w) q n =
            record {
              text = part p w.from w.to;
              found = record { from = w.from; to = w.to; last = last_pair_is p key q; is = refl };
              reads = number_is 10 limit _ n;
            }
        go None q n = absurd (let z : ◌≡◌ {A = ℕ} 0 1 = cc in omega arith)

    pub key_decimal_all : {v : ℕ} → KeyDecimal p key limit v → decimal_of p key limit ≡ Some v
    key_decimal_all {v} r =
        sym (decimal_some p key limit (last_pair_all p key r.found.last))
        ∙ number_all 10 limit _ (rw (← r.found.is) r.reads)

    pub key_hex_is : {v : ℕ} → hex_at p key limit ≡ Some v → KeyHex p key limit v
    key_hex_is {v} e = go (last_pair p key) refl
      where
        go : (s : Option Span) → last_pair p key ≡ s → KeyHex p key limit v
        go (Some w) q =
            record {
              text = part p w.from w.to;
              found = record { from = w.from; to = w.to; last = last_pair_is p key q; is = refl };
              reads = hex_is limit (hex_some p key limit q ∙ e);
            }
        go None q =
            let none : None ≡ Some v = hex_none p key limit q ∙ e in
            absurd (let z : ◌≡◌ {A = ℕ} 0 1 = cc in omega arith)

    pub key_hex_all : {v : ℕ} → KeyHex p key limit v → hex_at p key limit ≡ Some v
    key_hex_all {v} r =
        sym (hex_some p key limit (last_pair_all p key r.found.last))
        ∙ hex_all limit (rw (← r.found.is) r.reads)
