-- The i-th piece: each piece starts behind the comma-space that ends the one before, so walking i of them leads to the i-th of the pieces that
-- the text is cut into, and past the last to none. Assumes nothing.
use Rattle.pairs.proofs.Ends.{same_span}
use Rattle.std.specs.Prelude.{None}
use Prim.Native.Nat.{ℕ, zero, suc, ◌+◌, ◌-◌, ◌≤◌, ◌<◌}
use mathlib.Core.Path.{◌≡◌, refl, sym, ap, ◌∙◌}
use mathlib.Core.Bool.{Bool, true, false, cond}
use mathlib.Core.List.{List, [], ◌∷◌, ◌++◌}
use native.Mathlib.Omega.{arith}
use lib.Dec.{ltb}
use lib.ListN.{length, drop, length-append, length-drop}
use lib.Seq.{length-take-le}
use borrow.Author.Tests.{lt-ltb, le-ltb, ltb-true}
use Rattle.text.proofs.Places.{by_order}
use Rattle.pairs.specs.Pair.{part, span}
use Rattle.pairs.specs.Data.{cut, joined, PieceIn, piece_end, nth_piece, EndsPiece, NthPiece}
use Rattle.pairs.proofs.Cuts.{ends_piece, cut_last, cut_next}

module _ (l : List ℕ) (i : ℕ) where
  -- so many pieces are left to pass, and the next starts here
  pub record Passing (left at : ℕ) : Type 0 where
    pub within : at ≤ length l
    pub same : nth_piece i l 0 ≡ nth_piece left l at

  pub passing_starts : Passing i 0
  passing_starts = record { within = omega arith; same = refl }

  pub passing_ends : {left at to : ℕ} → Passing left at → left ≡ 0 → EndsPiece l at to → NthPiece l i (span at to)
  unfolding nth_piece
  passing_ends {left} {at} {to} p z e =
      record {
        is = sym (p.same ∙ rw z (ap (span at) (sym e.is)));
        within = (e.up, e.within);
      }

  step_of : (left at to : ℕ) → to ≡ piece_end l at → (left ≡ 0 → ⊥) → nth_piece left l at ≡ cond (ltb to (length l)) (nth_piece (left - 1) l (to + 2)) None
  unfolding nth_piece
  step_of zero at to e n = absurd (n refl)
  step_of (suc k) at to e n = let q : suc k - 1 ≡ k = omega arith in rw (q, e)

  pub passing_runs_out : {left at to : ℕ} → Passing left at → (left ≡ 0 → ⊥) → EndsPiece l at to → to ≡ length l → NthPiece l i None
  passing_runs_out {left} {at} {to} p n e end =
      record {
        is = sym (p.same ∙ step_of left at to e.is n ∙ rw (le-ltb to (length l) (omega arith)));
        within = tt;
      }

  pub passing_steps : {left at to : ℕ} → Passing left at → (left ≡ 0 → ⊥) → EndsPiece l at to → (to ≡ length l → ⊥) → Passing (left - 1) (to + 2)
  passing_steps {left} {at} {to} p n e open-still =
      let short : to < length l = omega (arith, e.within, open-still) in
      record { within = e.more short; same = p.same ∙ step_of left at to e.is n ∙ rw (lt-ltb to (length l) short) }

-- ---- the walk leads to the piece of the sentence

joined_length : (p : List ℕ) (ps : List (List ℕ)) → length (joined (p ∷ ps)) ≡ length p + 2 + length (joined ps)
unfolding joined
joined_length p ps = omega (arith, length-append p (44 ∷ 32 ∷ joined ps))

module _ (l : List ℕ) where
  -- the piece from a place on, and what is cut behind it
  first_piece : (from : ℕ) → from ≤ length l → (rest : List (List ℕ)) × (cut (drop from l) ≡ part l from (piece_end l from) ∷ rest)
  first_piece from h =
      let e = ends_piece l h refl in
      by_order (piece_end l from) (length l) (λ m. (cut (drop (piece_end l from + 2) l), cut_next l h refl m)) (λ q. ([], cut_last l h refl q)) (λ m. absurd (omega (arith, e.within)))

  piece_length : (from : ℕ) → from ≤ length l → length (part l from (piece_end l from)) ≡ piece_end l from - from
  piece_length from h =
      let e = ends_piece l h refl in
      length-take-le (piece_end l from - from) (drop from l) (omega (arith, e.within, length-drop from l))

  -- a piece that was walked to from a place
  record Walked (i from a b : ℕ) : Type 0 where
    before : List (List ℕ)
    after : List (List ℕ)
    are : cut (drop from l) ≡ before ++ (part l a b ∷ after)
    count : length before ≡ i
    starts : a ≡ from + length (joined before)
    ends : b ≡ a + length (part l a b)
    within : b ≤ length l

  walked : (i from : ℕ) → from ≤ length l → {a b : ℕ} → nth_piece i l from ≡ span a b → Walked i from a b
  unfolding nth_piece joined
  walked zero from h {a} {b} q =
      let w = first_piece from h in
      let e = ends_piece l h refl in
      let low : from ≡ a = (same_span q).0 in
      let high : piece_end l from ≡ b = (same_span q).1 in
      rw (← low, ← high)
      (record {
        before = [];
        after = w.0;
        are = w.1;
        count = refl;
        starts = omega arith;
        ends = omega (arith, piece_length from h, e.up);
        within = e.within;
      })
  walked (suc i) from h {a} {b} q =
      go (λ m r. walked i (piece_end l from + 2) ((ends_piece l h refl).more m) r) (ltb (piece_end l from) (length l)) refl q
    where
      further : piece_end l from < length l → Walked i (piece_end l from + 2) a b → Walked (suc i) from a b
      further m w =
          let e = ends_piece l h refl in
          record {
            before = part l from (piece_end l from) ∷ w.before;
            after = w.after;
            are = cut_next l h refl m ∙ ap (λ (x : List (List ℕ)). part l from (piece_end l from) ∷ x) w.are;
            count = ap suc w.count;
            starts = omega (arith, w.starts, joined_length (part l from (piece_end l from)) w.before, piece_length from h, e.up);
            ends = w.ends;
            within = w.within;
          }

      go : (piece_end l from < length l → nth_piece i l (piece_end l from + 2) ≡ span a b → Walked i (piece_end l from + 2) a b)
          → (t : Bool) → ltb (piece_end l from) (length l) ≡ t → cond t (nth_piece i l (piece_end l from + 2)) None ≡ span a b → Walked (suc i) from a b
      go next true t r = let m : piece_end l from < length l = ltb-true _ _ t in further m (next m r)
      go next false t r = absurd (let z : ◌≡◌ {A = ℕ} 0 1 = cc in omega arith)

  pub nth_is : (i : ℕ) {a b : ℕ} → nth_piece i l 0 ≡ span a b → PieceIn (cut l) i (part l a b) a b
  nth_is i q =
      let w = walked i 0 (omega arith) q in
      record { before = w.before; after = w.after; are = w.are; count = w.count; starts = omega (arith, w.starts); ends = w.ends }

  pub nth_within : (i : ℕ) {a b : ℕ} → nth_piece i l 0 ≡ span a b → (a ≤ b) × (b ≤ length l)
  nth_within i q = let w = walked i 0 (omega arith) q in (omega (arith, w.ends), w.within)

  -- and the piece of the sentence is what the walk comes to
  walks_to : (before after : List (List ℕ)) (piece : List ℕ) (from : ℕ) → from ≤ length l → cut (drop from l) ≡ before ++ (piece ∷ after)
      → nth_piece (length before) l from ≡ span (from + length (joined before)) (from + length (joined before) + length piece)
  unfolding nth_piece joined
  walks_to [] after piece from h q =
      let w = first_piece from h in
      let e = ends_piece l h refl in
      let both : part l from (piece_end l from) ∷ w.0 ≡ piece ∷ after = sym w.1 ∙ q in
      let same : part l from (piece_end l from) ≡ piece = cc in
      let low : from + 0 ≡ from = omega arith in
      let high : from + length piece ≡ piece_end l from = omega (arith, piece_length from h, ap length same, e.up) in
      rw (low, high)
  walks_to (p ∷ before) after piece from h q =
      let e = ends_piece l h refl in
      by_order (piece_end l from) (length l) (further (λ m rest. walks_to before after piece (piece_end l from + 2) (e.more m) rest))
      (λ m. absurd (let both : part l from (piece_end l from) ∷ [] ≡ p ∷ (before ++ (piece ∷ after)) = sym (cut_last l h refl m) ∙ q in let rest : [] ≡ before ++ (piece ∷ after) = cc in omega (arith, ap length rest, length-append before (piece ∷ after))))
      (λ m. absurd (omega (arith, e.within)))
    where
      further : (piece_end l from < length l → cut (drop (piece_end l from + 2) l) ≡ before ++ (piece ∷ after)
          → nth_piece (length before) l (piece_end l from + 2) ≡ span (piece_end l from + 2 + length (joined before)) (piece_end l from + 2 + length (joined before) + length piece))
          → piece_end l from < length l → nth_piece (suc (length before)) l from ≡ span (from + length (joined (p ∷ before))) (from + length (joined (p ∷ before)) + length piece)
      further next m =
          let e = ends_piece l h refl in
          let both : part l from (piece_end l from) ∷ cut (drop (piece_end l from + 2) l) ≡ p ∷ (before ++ (piece ∷ after)) = sym (cut_next l h refl m) ∙ q in
          let head : part l from (piece_end l from) ≡ p = cc in
          let rest : cut (drop (piece_end l from + 2) l) ≡ before ++ (piece ∷ after) = cc in
          let at : piece_end l from + 2 + length (joined before) ≡ from + length (joined (p ∷ before)) = omega (arith, joined_length p before, piece_length from h, ap length head, e.up) in
          rw (lt-ltb (piece_end l from) (length l) m, ← at) (next m rest)

  pub nth_all : {i : ℕ} {piece : List ℕ} {a b : ℕ} → PieceIn (cut l) i piece a b → nth_piece i l 0 ≡ span a b
  nth_all {i} {piece} {a} {b} r =
      let w = walks_to r.before r.after piece 0 (omega arith) r.are in
      let low : 0 + length (joined r.before) ≡ a = omega (arith, r.starts) in
      let high : 0 + length (joined r.before) + length piece ≡ b = omega (arith, r.starts, r.ends) in
      rw (← r.count, ← high, ← low) w
