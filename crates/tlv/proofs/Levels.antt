-- The laws of a level inside a larger text: the fields from one place to another are walked in the text cut at the second place, and tests, parts
-- and pieces are those of the whole text, since a field that is whole in the cut text is the same field in the whole. Assumes nothing.
use Prim.Native.Nat.{ℕ, ◌+◌, ◌≤◌}
use mathlib.Core.Path.{◌≡◌, ◌∙◌, sym, ap, subst}
use mathlib.Core.Bool.{Bool, true}
use mathlib.Core.List.{List, ◌++◌}
use lib.ListN.{length, take}
use Rattle.tlv.specs.Number.{Bytes}
use Rattle.tlv.specs.Grammar.{Piece, field_bytes, Apart, FromValue, Made}
use Rattle.tlv.specs.Reading.{Part, part_at, Stands, between, piece_of, parts, filled, once}
use Rattle.tlv.proofs.Places.{bytes_take, between_take, stands_widens, piece_take}
use Rattle.tlv.proofs.Pieces.{made_field, made_back, made_body, part_made, filled_made, made-filled}
use Rattle.tlv.proofs.Twice.{PartOf, once-apart, apart-once}

module _ (s : List ℕ) (cut : ℕ) where
  -- sound: a body that starts with a field is made from that field and what comes behind it
  pub first_is : Bytes s → (p : Part) → Stands (take cut s) p
      → between s p.at cut ≡ field_bytes p.tag (between s p.from p.to) ++ between s p.to cut
  first_is bytes p e =
      part_made (take cut s) (bytes_take s cut bytes) p e
      ∙ ap (λ (b : List ℕ). field_bytes p.tag b ++ between s p.to cut)
      (between_take s p.from p.to cut (stands_widens s cut p e).1)

  -- complete: a body that was made from a field and something behind it starts with that field
  pub first_all : (at tag : ℕ) (body back : List ℕ) → between s at cut ≡ field_bytes tag body ++ back
      → Stands (take cut s) (part_at at tag (length body))
      × (between s (at + 3) (at + 3 + length body) ≡ body)
      × (between s (at + 3 + length body) cut ≡ back)
  first_all at tag body back made =
      let stands = made_field (take cut s) at tag body back made in
      let inside = (stands_widens s cut (part_at at tag (length body)) stands).1 in (
        stands,
        sym (between_take s (at + 3) (at + 3 + length body) cut inside) ∙ made_body (take cut s) at tag body back made,
        made_back (take cut s) at tag body back made,
      )

  module _ {X : Type 0} (piece : X → Piece) (Good : X → Type 0) where
    module _ (ok : Part → Bool) where
      -- sound: where a field that passes the test is made from a Good value, a body whose fields pass it is
      pub level-is : Bytes s → ((p : Part) → Stands s p → p.to ≤ cut → ok p ≡ true → FromValue piece Good (piece_of s p))
          → (from : ℕ) → filled ok (take cut s) from ≡ true → Made piece Good (between s from cut)
      level-is bytes good =
          filled_made piece Good (take cut s) ok (bytes_take s cut bytes)
          (λ p e h.
          let w = stands_widens s cut p e in
          subst (FromValue piece Good) (sym (piece_take s cut p w.1)) (good p w.0 w.1 h))

      -- complete: where a field made from a Good value passes the test, a body made from Good values passes it field by field
      pub level_all : ((p : Part) → Stands s p → p.to ≤ cut → (x : X) → Good x → piece x ≡ piece_of s p → ok p ≡ true)
          → (from : ℕ) → Made piece Good (between s from cut) → filled ok (take cut s) from ≡ true
      level_all passes =
          made-filled piece Good (take cut s) ok
          (λ p e x g h.
          let w = stands_widens s cut p e in
          passes p w.0 w.1 x g (h ∙ piece_take s cut p w.1))

    of_whole : (p : Part) (x : X) → PartOf piece Good (take cut s) p x → PartOf piece Good s p x
    of_whole p x o =
        let w = stands_widens s cut p o.stands in
        record { stands = w.0; good = o.good; is = o.is ∙ piece_take s cut p w.1 }

    module _ (same : Part → Part → Bool) (Clash : X → X → Type 0) where
      -- sound: nothing stands twice among the parts of a body, so no two of its values clash
      pub level-apart : ((p q : Part) (x y : X) → PartOf piece Good s p x → PartOf piece Good s q y → Clash x y → same p q ≡ true)
          → (from : ℕ) (m : Made piece Good (between s from cut)) → once same (parts (take cut s) from) ≡ true → Apart Clash m.values
      level-apart clashing =
          once-apart piece Good (take cut s) same Clash (λ p q x y o u. clashing p q x y (of_whole p x o) (of_whole q y u))

      -- complete: no two values of a body clash, so nothing stands twice among its parts
      pub level-once : ((p q : Part) (x y : X) → PartOf piece Good s p x → PartOf piece Good s q y → same p q ≡ true → Clash x y)
          → (from : ℕ) (m : Made piece Good (between s from cut)) → Apart Clash m.values → once same (parts (take cut s) from) ≡ true
      level-once telling =
          apart-once piece Good (take cut s) same Clash (λ p q x y o u. telling p q x y (of_whole p x o) (of_whole q y u))
