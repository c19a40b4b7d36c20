-- Bad pieces: each piece is a dword or bad, so whether one was met so far and whether the rest has one make up the whole; and what is found is what
-- the sentence says. Assumes nothing.
use Rattle.std.specs.Prelude.{None, Option, Some}
use Prim.Native.Nat.{ℕ, ◌+◌, ◌≤◌, ◌<◌, ◌^◌, ◌-◌}
use mathlib.Core.Path.{◌≡◌, refl, sym, ap, ◌∙◌}
use mathlib.Core.Bool.{Bool, true, false, ◌||◌}
use mathlib.Core.List.{List, [], ◌∷◌, ◌++◌}
use native.Mathlib.Omega.{arith}
use lib.ListN.{length, drop}
use Rattle.text.specs.Number.{hex_number_of}
use Rattle.text.proofs.Hexes.{hex_is, hex_all}
use Rattle.text.proofs.Places.{clash}
use Rattle.pairs.specs.Pair.{part}
use Rattle.pairs.specs.Data.{NoDword, BadAmong, Data, piece_of, is_bad, any_bad, bad_of, piece_end, bad_in, bad_data}
use Rattle.pairs.proofs.Cuts.{cut_all, cut_last, cut_next}
use Rattle.pairs.proofs.Slots.{piece_dword, piece_bad, data_stands, data_inner}

or_true : (b : Bool) → (b || true) ≡ true
or_true true = refl
or_true false = refl

or_false : (b : Bool) → (b || false) ≡ b
or_false true = refl
or_false false = refl

-- ---- along a walk of the pieces
module _ (l : List ℕ) where
  -- whether a piece before a place is bad, and what the rest says
  pub record BadBefore (bad : Bool) (at : ℕ) : Type 0 where
    pub same : bad_of l ≡ (bad || bad_of (drop at l))

  -- whether a piece up to the one that ends at e is bad
  pub record BadUpTo (bad : Bool) (e : ℕ) : Type 0 where
    pub next : e < length l → bad_of l ≡ (bad || bad_of (drop (e + 2) l))
    pub over : e ≡ length l → bad_of l ≡ bad

  pub bad_starts : BadBefore false 0
  bad_starts = record { same = refl }

  pub bad_goes_on : {bad : Bool} {e : ℕ} → BadUpTo bad e → e < length l → BadBefore bad (e + 2)
  bad_goes_on r h = record { same = r.next h }

  module _ {bad : Bool} {at e : ℕ} (r : BadBefore bad at) (low : at ≤ length l) (e-is : e ≡ piece_end l at) where
    piece_last : e ≡ length l → bad_of (drop at l) ≡ (is_bad (piece_of (part l at e)) || false)
    unfolding bad_of any_bad
    piece_last h = ap any_bad (cut_last l low e-is h)

    piece_next : e < length l → bad_of (drop at l) ≡ (is_bad (piece_of (part l at e)) || bad_of (drop (e + 2) l))
    unfolding bad_of any_bad
    piece_next h = ap any_bad (cut_next l low e-is h)

    -- a dword changes nothing
    pub bad_past_dword : {v : ℕ} → Some v ≡ piece_of (part l at e) → BadUpTo bad e
    unfolding is_bad
    bad_past_dword q =
        record {
          next = λ h. r.same ∙ ap (λ (x : Bool). bad || x) (piece_next h ∙ rw (← q));
          over = λ h. r.same ∙ ap (λ (x : Bool). bad || x) (piece_last h ∙ rw (← q)) ∙ or_false bad;
        }

    -- a bad piece tells
    pub bad_met : None ≡ piece_of (part l at e) → BadUpTo true e
    unfolding is_bad
    bad_met q =
        record {
          next = λ h. r.same ∙ ap (λ (x : Bool). bad || x) (piece_next h ∙ rw (← q)) ∙ or_true bad;
          over = λ h. r.same ∙ ap (λ (x : Bool). bad || x) (piece_last h ∙ rw (← q)) ∙ or_true bad;
        }

-- ---- as a sentence

bad_none : (p : List ℕ) → hex_number_of (2 ^ 32 - 1) p ≡ None → NoDword p
bad_none p e v n =
    let q : hex_number_of (2 ^ 32 - 1) p ≡ Some v = hex_all (2 ^ 32 - 1) n in
    let z : ◌≡◌ {A = ℕ} 0 1 = cc in
    omega arith

pub bad_piece_all : (p : List ℕ) → NoDword p → is_bad (piece_of p) ≡ true
unfolding is_bad
bad_piece_all p n = go (hex_number_of (2 ^ 32 - 1) p) refl
  where
    go : (h : Option ℕ) → hex_number_of (2 ^ 32 - 1) p ≡ h → is_bad (piece_of p) ≡ true
    go (Some v) e = absurd (n v (hex_is (2 ^ 32 - 1) e))
    go None e = ap is_bad (sym (piece_bad p e))

pub any_bad_is : (ps : List (List ℕ)) → any_bad ps ≡ true → BadAmong ps
unfolding any_bad is_bad
any_bad_is [] e = absurd (clash e refl)
any_bad_is (p ∷ ps) e = go (hex_number_of (2 ^ 32 - 1) p) refl (any_bad_is ps) e
  where
    go : (h : Option ℕ) → hex_number_of (2 ^ 32 - 1) p ≡ h → (any_bad ps ≡ true → BadAmong ps) → (is_bad (piece_of p) || any_bad ps) ≡ true → BadAmong (p ∷ ps)
    go (Some v) h later t =
        let r = later (rw (← piece_dword p h) at t) in
        record { before = p ∷ r.before; piece = r.piece; after = r.after; are = ap (λ (x : List (List ℕ)). p ∷ x) r.are; bad = r.bad }
    go None h later t = record { before = []; piece = p; after = ps; are = refl; bad = bad_none p h }

pub any_bad_all : {ps : List (List ℕ)} → BadAmong ps → any_bad ps ≡ true
unfolding any_bad
any_bad_all r = ap any_bad r.are ∙ met r.before
  where
    met : (before : List (List ℕ)) → any_bad (before ++ (r.piece ∷ r.after)) ≡ true
    met [] = rw (bad_piece_all r.piece r.bad)
    met (p ∷ before) = ap (λ (x : Bool). is_bad (piece_of p) || x) (met before) ∙ or_true (is_bad (piece_of p))

-- whether a value in brackets has a bad piece is asked of its pieces
pub bad_data_is : {value ds : List ℕ} (r : Data value ds) → bad_data value ≡ any_bad r.pieces
unfolding bad_data bad_in bad_of
bad_data_is r = rw (data_stands r) (ap bad_of (data_inner r) ∙ ap any_bad (cut_all r.cut_at))
