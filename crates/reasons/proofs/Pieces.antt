-- Pieces: the brackets of the last `data` are found where they stand, and the walk through what is in them comes to the piece of that number.
-- Assumes nothing.
use Rattle.std.specs.Prelude.{Some, None, Option}
use Prim.Native.Nat.{ℕ, ◌+◌, ◌-◌, ◌^◌, ◌≤◌}
use mathlib.Core.Path.{◌≡◌, refl, sym, ap, ◌∙◌}
use mathlib.Core.List.{List, [], ◌∷◌, ◌++◌}
use native.Mathlib.Omega.{arith}
use lib.ListN.{length, drop, length-drop}
use lib.Seq.{length-take-le}
use Rattle.text.specs.Told.{is, absent, refused}
use Rattle.text.specs.Number.{hex_of}
use Rattle.text.specs.Quote.{bytes}
use Rattle.text.proofs.Hexes.{hex_means, means_all}
use Rattle.pairs.specs.declared.pair.Span.{Span}
use Rattle.pairs.specs.Pair.{part, last_pair, LastPair, span}
use Rattle.pairs.proofs.Ends.{same_span}
use Rattle.pairs.specs.Data.{Data, PieceIn, cut, dwords_of, inside_of, data_in, data_of, nth_piece}
use Rattle.pairs.proofs.LastPairs.{last_pair_is, last_pair_all, last_within}
use Rattle.pairs.proofs.Cuts.{cut_all}
use Rattle.pairs.proofs.Slots.{data_is, data_stands, data_inner, bracketed}
use Rattle.pairs.proofs.Pieces.{nth_is, nth_within, nth_all}
use Rattle.reasons.specs.declared.HexText.{HexText}
use Rattle.reasons.specs.Reasons.{said_at, moved, brackets_at, data_span, piece_at, piece_in}
use Rattle.reasons.specs.Meaning.{PieceAt}
use Rattle.reasons.proofs.Spots.{part_in_part, Sits, Stands, Answers, one_text, told_same}

-- ---- the brackets

-- what stands between the brackets of the last `data`, with what it is cut into
pub record Inner (p : List ℕ) (c d : ℕ) : Type 0 where
  pub from : ℕ
  pub to : ℕ
  pub last : LastPair p (bytes "data") from to
  pub dwords : List ℕ
  pub in_brackets : Data (part p from to) dwords
  pub starts : c ≡ from + 1
  pub ends : d ≡ from + 1 + length in_brackets.inner
  pub is : part p c d ≡ in_brackets.inner
  pub within : d ≤ length p

module _ (p : List ℕ) where
  -- the brackets of a value are found where they stand
  module _ {from to : ℕ} (last : LastPair p (bytes "data") from to) {ds : List ℕ} (r : Data (part p from to) ds) where
    value_size : length (part p from to) ≡ to - from
    value_size =
        let w = last_within p (bytes "data") (last_pair_all p (bytes "data") last) in
        length-take-le (to - from) (drop from p) (omega (arith, w.0, w.1, length-drop from p))

    brackets_fit : length r.inner + 1 ≤ to - from
    brackets_fit = let w = (bracketed (part p from to) (sym (data_stands r))).within in omega (arith, w.1, value_size)

    pub data_found : data_span p ≡ span (from + 1) (from + (length r.inner + 1))
    unfolding data_span brackets_at moved
    data_found = rw (last_pair_all p (bytes "data") last, data_stands r)

    pub inner_is : part p (from + 1) (from + (length r.inner + 1)) ≡ r.inner
    inner_is = sym (part_in_part p from to 1 (length r.inner + 1) brackets_fit) ∙ data_inner r

    pub inner_within : from + (length r.inner + 1) ≤ length p
    inner_within = let w = last_within p (bytes "data") (last_pair_all p (bytes "data") last) in omega (arith, w.0, w.1, brackets_fit)

  pub inner_of : {c d : ℕ} → data_span p ≡ span c d → Inner p c d
  unfolding data_span brackets_at moved data_of data_in
  inner_of {c} {d} q = by-pair (last_pair p (bytes "data")) refl q
    where
      by-brackets : {a b : ℕ} → last_pair p (bytes "data") ≡ span a b → (s : Option Span) → inside_of (part p a b) ≡ s → moved a s ≡ span c d → Inner p c d
      by-brackets {a} {b} e (Some w) i r =
          let last = last_pair_is p (bytes "data") e in
          let held : Data (part p a b) (dwords_of (part (part p a b) w.from w.to)) = data_is (data_there i) in
          let found : span (a + 1) (a + (length held.inner + 1)) ≡ span c d = sym (data_found last held) ∙ sym (data-found-by e i) ∙ r in
          let low : a + 1 ≡ c = (same_span found).0 in
          let high : a + (length held.inner + 1) ≡ d = (same_span found).1 in
          record {
            from = a;
            to = b;
            last = last;
            dwords = dwords_of (part (part p a b) w.from w.to);
            in_brackets = held;
            starts = sym low;
            ends = omega (arith, high);
            is = rw (← low, ← high) (inner_is last held);
            within = omega (arith, high, inner_within last held);
          }
        where
          data_there : inside_of (part p a b) ≡ span w.from w.to → data_of (part p a b) ≡ Some (dwords_of (part (part p a b) w.from w.to))
          data_there i = ap (data_in (part p a b)) i

          data-found-by : last_pair p (bytes "data") ≡ span a b → inside_of (part p a b) ≡ Some w → span (a + w.from) (a + w.to) ≡ data_span p
          data-found-by e i = rw (e, i)
      by-brackets e None i r = absurd (let z : ◌≡◌ {A = ℕ} 0 1 = cc in omega arith)

      by-pair : (s : Option Span) → last_pair p (bytes "data") ≡ s → brackets_at p s ≡ span c d → Inner p c d
      by-pair (Some w) e r = by-brackets e (inside_of (part p w.from w.to)) refl r
      by-pair None e r = absurd (let z : ◌≡◌ {A = ℕ} 0 1 = cc in omega arith)

-- ---- the pieces

-- one piece has a number
same_place : (xs ys zs ws : List (List ℕ)) {u v : List ℕ} → xs ++ (u ∷ zs) ≡ ys ++ (v ∷ ws) → length xs ≡ length ys → u ≡ v
same_place [] [] zs ws e h = cc
same_place [] (y ∷ ys) zs ws e h = absurd (omega arith)
same_place (x ∷ xs) [] zs ws e h = absurd (omega arith)
same_place (x ∷ xs) (y ∷ ys) zs ws {u} {v} e h = same_place xs ys zs ws (let tail : xs ++ (u ∷ zs) ≡ ys ++ (v ∷ ws) = cc in tail) (omega arith)

pub one_piece : {ps : List (List ℕ)} {i : ℕ} {u v : List ℕ} {a b c d : ℕ} → PieceIn ps i u a b → PieceIn ps i v c d → u ≡ v
one_piece x y = same_place x.before y.before x.after y.after (sym x.are ∙ y.are) (x.count ∙ sym y.count)

module _ (i : ℕ) where
  piece_some : (p : List ℕ) (start : ℕ) {c d x y : ℕ} → data_span p ≡ span c d → nth_piece i (part p c d) 0 ≡ span x y
      → piece_in p start i ≡ is (record { from = start + c + x; to = start + c + y; reading = hex_of (2 ^ 32 - 1) (part (part p c d) x y) })
  unfolding piece_in piece_at said_at
  piece_some p start q n = rw (q, n)

  piece_past : (p : List ℕ) (start : ℕ) {c d : ℕ} → data_span p ≡ span c d → nth_piece i (part p c d) 0 ≡ None → piece_in p start i ≡ absent
  unfolding piece_in piece_at said_at
  piece_past p start q n = rw (q, n)

  piece_none : (p : List ℕ) (start : ℕ) → data_span p ≡ None → piece_in p start i ≡ absent
  unfolding piece_in piece_at
  piece_none p start q = rw q

  -- a piece that is there is found
  piece_found : {p text : List ℕ} {a b : ℕ} (r : PieceAt i p text a b)
      → nth_piece i (part p (r.from + 1) (r.from + (length r.in_brackets.inner + 1))) 0 ≡ span r.first r.behind
  piece_found {p} {text} r =
      let same : cut r.in_brackets.inner ≡ r.in_brackets.pieces = cut_all r.in_brackets.cut_at in
      rw (inner_is p r.last r.in_brackets) (nth_all r.in_brackets.inner {piece = text} (rw same r.piece))

  piece_part : {p text : List ℕ} {a b : ℕ} (r : PieceAt i p text a b)
      → part (part p (r.from + 1) (r.from + (length r.in_brackets.inner + 1))) r.first r.behind ≡ text
  piece_part {p} {text} r =
      one_piece {c = r.first} {d = r.behind} (nth_is (part p (r.from + 1) (r.from + (length r.in_brackets.inner + 1))) i (piece_found r))
      (let same : cut (part p (r.from + 1) (r.from + (length r.in_brackets.inner + 1))) ≡ r.in_brackets.pieces = ap cut (inner_is p r.last r.in_brackets) ∙ cut_all r.in_brackets.cut_at in rw same r.piece)

  -- its text stands there
  piece_text : {p text : List ℕ} {a b : ℕ} (r : PieceAt i p text a b) → Stands p text a b
  piece_text {p} {text} {a} {b} r =
      let found = data_found p r.last r.in_brackets in
      let n = piece_found r in
      let w = nth_within (part p (r.from + 1) (r.from + (length r.in_brackets.inner + 1))) i n in
      let inside = inner_within p r.last r.in_brackets in
      let size : length (part p (r.from + 1) (r.from + (length r.in_brackets.inner + 1))) ≡ length r.in_brackets.inner = ap length (inner_is p r.last r.in_brackets) in
      let pair = last_within p (bytes "data") (last_pair_all p (bytes "data") r.last) in
      let low : r.from + 1 + r.first ≡ a = sym r.starts in
      let high : r.from + 1 + r.behind ≡ b = sym r.ends in
      record {
        some = omega (arith, pair.0, pair.1);
        within = omega (arith, w.1, size, inside, high);
        is = rw (← low, ← high) (sym (part_in_part p (r.from + 1) (r.from + (length r.in_brackets.inner + 1)) r.first r.behind (omega (arith, w.1, size))) ∙ piece_part r);
      }

  -- what is told of a piece, and what is there
  said_piece : (p : List ℕ) (start : ℕ) {c d x y : ℕ} → data_span p ≡ span c d → nth_piece i (part p c d) 0 ≡ span x y
      → Sits (PieceAt i) (2 ^ 32 - 1) p start (record { from = start + c + x; to = start + c + y; reading = hex_of (2 ^ 32 - 1) (part (part p c d) x y) })
  said_piece p start {c} {d} {x} {y} q n =
      let r = inner_of p q in
      let cut-so : cut (part p c d) ≡ r.in_brackets.pieces = ap cut r.is ∙ cut_all r.in_brackets.cut_at in
      record {
        text = part (part p c d) x y;
        a = c + x;
        b = c + y;
        there =
            record {
              from = r.from;
              to = r.to;
              last = r.last;
              dwords = r.dwords;
              in_brackets = r.in_brackets;
              first = x;
              behind = y;
              piece = rw cut-so at (nth_is (part p c d) i n);
              starts = omega (arith, r.starts);
              ends = omega (arith, r.starts);
            };
        from = omega arith;
        to = omega arith;
        reads = hex_means (2 ^ 32 - 1) (part (part p c d) x y);
      }

  pub piece_answers : Answers (PieceAt i) (2 ^ 32 - 1) (λ p start. piece_in p start i)
  piece_answers =
      record {
        never = λ p start k q. never p start k q (data_span p) refl;
        sits = λ p start said q. sits p start said q (data_span p) refl;
        lacks = λ p start q text a b r. let e = found_of p start r in absurd (let z : ◌≡◌ {A = ℕ} 0 1 = cc in omega arith);
        all = all;
        stands = λ p text a b r. piece_text r;
      }
    where
      found_of : (p : List ℕ) (start : ℕ) {text : List ℕ} {a b : ℕ} (r : PieceAt i p text a b)
          → piece_in p start i ≡ is (record {
            from = start + (r.from + 1) + r.first;
            to = start + (r.from + 1) + r.behind;
            reading = hex_of (2 ^ 32 - 1) (part (part p (r.from + 1) (r.from + (length r.in_brackets.inner + 1))) r.first r.behind);
          })
      found_of p start r = piece_some p start (data_found p r.last r.in_brackets) (piece_found r)

      never-in : (p : List ℕ) (start k : ℕ) {c d : ℕ} → piece_in p start i ≡ refused k → data_span p ≡ span c d → (s : Option Span) → nth_piece i (part p c d) 0 ≡ s → ⊥
      never-in p start k q e (Some w) n = let r = piece_some p start e n in let z : ◌≡◌ {A = ℕ} 0 1 = cc in omega arith
      never-in p start k q e None n = let r = piece_past p start e n in let z : ◌≡◌ {A = ℕ} 0 1 = cc in omega arith

      never : (p : List ℕ) (start k : ℕ) → piece_in p start i ≡ refused k → (s : Option Span) → data_span p ≡ s → ⊥
      never p start k q (Some w) e = never-in p start k q e (nth_piece i (part p w.from w.to) 0) refl
      never p start k q None e = let r = piece_none p start e in let z : ◌≡◌ {A = ℕ} 0 1 = cc in omega arith

      sits-in : (p : List ℕ) (start : ℕ) (said : HexText) {c d : ℕ} → piece_in p start i ≡ is said → data_span p ≡ span c d → (s : Option Span) → nth_piece i (part p c d) 0 ≡ s
          → Sits (PieceAt i) (2 ^ 32 - 1) p start said
      sits-in p start said {c} {d} q e (Some w) n = rw (← told_same (sym (piece_some p start e n) ∙ q)) (said_piece p start e n)
      sits-in p start said q e None n = absurd (let r = piece_past p start e n in let z : ◌≡◌ {A = ℕ} 0 1 = cc in omega arith)

      sits : (p : List ℕ) (start : ℕ) (said : HexText) → piece_in p start i ≡ is said → (s : Option Span) → data_span p ≡ s → Sits (PieceAt i) (2 ^ 32 - 1) p start said
      sits p start said q (Some w) e = sits-in p start said q e (nth_piece i (part p w.from w.to) 0) refl
      sits p start said q None e = absurd (let r = piece_none p start e in let z : ◌≡◌ {A = ℕ} 0 1 = cc in omega arith)

      all : (p : List ℕ) (start : ℕ) (said : HexText) → Sits (PieceAt i) (2 ^ 32 - 1) p start said → piece_in p start i ≡ is said
      all p start said s =
          let r = s.there in
          let text_is = piece_part r in
          found_of p start r
          ∙ ap is (one_text said (omega (arith, s.from, r.starts)) (omega (arith, s.to, r.ends)) (ap (hex_of (2 ^ 32 - 1)) text_is ∙ means_all (2 ^ 32 - 1) s.text said.reading s.reads))
