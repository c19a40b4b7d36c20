-- Spans and pairs that are the same have the same places. Assumes nothing.
use Rattle.std.proofs.lemmas.Option.{same_Some}
use Prim.Native.Nat.{ℕ}
use mathlib.Core.Path.{◌≡◌, ap}
use Rattle.pairs.specs.declared.pair.Hit.{Hit}
use Rattle.pairs.specs.declared.pair.Span.{Span}
use Rattle.pairs.specs.Pair.{span, hit}

pub same_span : {a b c d : ℕ} → span a b ≡ span c d → (a ≡ c) × (b ≡ d)
same_span e = let q = same_Some _ _ e in (ap (λ (w : Span). w.from) q, ap (λ (w : Span). w.to) q)

pub same_hit : {i m e j n f : ℕ} → hit i m e ≡ hit j n f → (i ≡ j) × (m ≡ n) × (e ≡ f)
same_hit e = let q = same_Some _ _ e in (ap (λ (p : Hit). p.key) q, ap (λ (p : Hit). p.equals) q, ap (λ (p : Hit). p.end) q)
