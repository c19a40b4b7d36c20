-- What is told of a line is what it means: the frame parts the line at one colon or gives one of 1 to 4, the payload behind the colon is a part of
-- the line, and what is told of the payload is what is there. One argument for keys and pieces. Assumes nothing.
use Rattle.std.specs.Prelude.{None, Some}
use Prim.Native.Nat.{ℕ, zero, suc, ◌+◌, ◌-◌, ◌≤◌, ◌<◌}
use mathlib.Core.Path.{◌≡◌, refl, sym, ap, ◌∙◌}
use mathlib.Core.Bool.{Bool, true, false, cond}
use mathlib.Core.List.{List, [], ◌∷◌}
use mathlib.Core.Logic.{◌↔◌}
use native.Mathlib.Omega.{arith}
use borrow.Author.Tests.{ne_eqb, lt-ltb}
use lib.Dec.{ltb, eqb}
use lib.ListN.{length, take, drop}
use lib.Seq.{drop-drop, drop-append-add}
use Rattle.text.specs.Told.{Told, is, absent, refused, and_then}
use Rattle.text.specs.Class.{is_blank}
use Rattle.text.specs.Run.{run_end, run_start, stripped}
use Rattle.text.specs.Place.{last_byte}
use Rattle.text.proofs.Stripping.{front_size}
use Rattle.pairs.specs.Pair.{part}
use Rattle.scan.specs.declared.Pieces.TheVariants.{Strict}
use Rattle.scan.specs.Frame.{Split, frame_of}
use Rattle.scan.specs.Line.{order_of}
use Rattle.scan.specs.Parse.{payload_of, header_of, parse_of}
use Rattle.scan.proofs.Frames.{frame_passed}
use Rattle.scan.proofs.Splits.{split_is, split_colon, one_payload}
use Rattle.scan.proofs.Framed.{Framed, framed, frame_clear, frame_applies}
use Rattle.scan.proofs.Theorems.{line_number_exactly}
use Rattle.reasons.specs.declared.HexText.{HexText}
use Rattle.reasons.specs.Reasons.{payload_from, payload_place}
use Rattle.reasons.specs.Meaning.{Spot, start_in, Says, NoText, Asked, Tells}
use Rattle.reasons.proofs.Spots.{part_in_part, Sits, Answers}

-- ---- the payload as a part of the line

take_front : (k : ℕ) (l : List ℕ) → take (length (take k l)) l ≡ take k l
take_front zero l = refl
take_front (suc k) [] = refl
take_front (suc k) (b ∷ l) = ap (λ (r : List ℕ). b ∷ r) (take_front k l)

-- the payload behind the colon starts here
abbrev pub start_at : List ℕ → ℕ → ℕ
start_at t colon = colon + 1 + run_end is_blank (drop (colon + 1) t) 0

pub payload_is_part : (t : List ℕ) (colon : ℕ) → part t (start_at t colon) (start_at t colon + length (payload_of t colon)) ≡ payload_of t colon
unfolding stripped
payload_is_part t colon =
    let n : start_at t colon + length (payload_of t colon) - start_at t colon ≡ length (payload_of t colon) = omega arith in
    rw n
    (ap (take (length (payload_of t colon))) (sym (drop-drop (run_end is_blank (drop (colon + 1) t) 0) (colon + 1) t))
    ∙ take_front (run_start is_blank (drop (run_end is_blank (drop (colon + 1) t) 0) (drop (colon + 1) t))) (drop (run_end is_blank (drop (colon + 1) t) 0) (drop (colon + 1) t)))

module _ (t : List ℕ) {colon : ℕ} (f : frame_of t ≡ is colon) where
  pub last_colon : last_byte 58 t ≡ Some colon
  last_colon = (frame_passed t f).3

  pub split_here : Split t (header_of t colon) (payload_of t colon)
  split_here = split_is t last_colon

  -- whichever split: its payload has a byte, so it starts at one place
  start_is : {header payload : List ℕ} (s : Split t header payload) → 0 < length payload → start_in s ≡ start_at t colon
  start_is {header} {payload} s some =
      let c = split_colon t header payload s in
      let same : length s.before ≡ colon = place_same (sym c ∙ last_colon) in
      let blanks = front_size s.after s.payload_stripped some in
      let rest : drop (colon + 1) t ≡ s.after = rw (← same, s.whole) (drop-append-add s.before (58 ∷ s.after) 1) in
      rw (same, blanks, rest)
    where
      place_same : {m n : ℕ} → Some m ≡ Some n → m ≡ n
      place_same e = cc

-- ---- the numbers in their order

-- up to 15 the checks run in number order
pub own_place : (k : ℕ) → k ≤ 15 → order_of k ≡ k
unfolding order_of
own_place k h = rw (ne_eqb k 18 (λ e. absurd (omega arith)), lt-ltb k 16 (omega arith))

-- and only those come before 18
pub few_before : (k : ℕ) → order_of k < 16 → k ≤ 15
unfolding order_of
few_before k = go (eqb k 18) (ltb k 16)
  where
    go : (a b : Bool) → cond a 16 (cond b k (k + 1)) < 16 → k ≤ 15
    go true b h = absurd (omega arith)
    go false true h = omega arith
    go false false h = omega arith

-- ---- what is told of a line

module _ (At : Spot) (limit : ℕ) (tell : List ℕ → ℕ → Told HexText) (answers : Answers At limit tell) (t : List ℕ) where
  abbrev pub told_of : Told HexText
  told_of = and_then (payload_place t) (λ p. tell (part t p.from p.to) p.from)

  -- of a line that is parted, its payload is asked
  pub asks : {colon : ℕ} → frame_of t ≡ is colon → told_of ≡ tell (payload_of t colon) (start_at t colon)
  unfolding payload_place payload_from
  asks {colon} f = rw f (ap (λ (p : List ℕ). tell p (start_at t colon)) (payload_is_part t colon))

  refuses : {k : ℕ} → frame_of t ≡ refused k → told_of ≡ refused k
  unfolding payload_place
  refuses f = rw f

  asked : {colon : ℕ} → frame_of t ≡ is colon → Asked t
  asked f k h c = frame_clear Strict t 0 f k (omega (arith, own_place k (omega arith))) c

  not_refused : {k : ℕ} → k ≤ 4 → frame_of t ≡ refused k → Asked t → ⊥
  not_refused h f a = a _ h (frame_applies Strict t 0 f).holds

  module _ {colon : ℕ} (f : frame_of t ≡ is colon) where
    -- what sits in the payload, the line says
    sits_says : {said : HexText} → Sits At limit (payload_of t colon) (start_at t colon) said → Says At limit t said
    sits_says {said} r =
        let w = answers.stands (payload_of t colon) r.text r.a r.b r.there in
        let start : start_in (split_here t f) ≡ start_at t colon = start_is t f (split_here t f) w.some in
        record {
          header = header_of t colon;
          payload = payload_of t colon;
          split = split_here t f;
          text = r.text;
          a = r.a;
          b = r.b;
          there = r.there;
          from = omega (arith, r.from, start);
          to = omega (arith, r.to, start);
          stands = rw (r.from, r.to) (sym (part_in_part t (start_at t colon) (start_at t colon + length (payload_of t colon)) r.a r.b (omega (arith, w.within))) ∙ ap (λ (p : List ℕ). part p r.a r.b) (payload_is_part t colon) ∙ w.is);
          reads = r.reads;
        }

    says_sits : {said : HexText} → Says At limit t said → Sits At limit (payload_of t colon) (start_at t colon) said
    says_sits {said} r =
        let w = answers.stands r.payload r.text r.a r.b r.there in
        let start : start_in r.split ≡ start_at t colon = start_is t f r.split w.some in
        let same : r.payload ≡ payload_of t colon = one_payload t (last_colon t f) r.split in
        record {
          text = r.text;
          a = r.a;
          b = r.b;
          there = rw (← same) r.there;
          from = omega (arith, r.from, start);
          to = omega (arith, r.to, start);
          reads = r.reads;
        }

    payload_tells : (told : Told HexText) → tell (payload_of t colon) (start_at t colon) ≡ told → Tells At limit t told
    payload_tells (is said) q = (asked f, sits_says (answers.sits (payload_of t colon) (start_at t colon) said q))
    payload_tells absent q =
        (asked f, λ header payload text a b s r. answers.lacks (payload_of t colon) (start_at t colon) q text a b (rw (← one_payload t (last_colon t f) s) r))
    payload_tells (refused k) q = absurd (answers.never (payload_of t colon) (start_at t colon) k q)

    told_absent : (told : Told HexText) → tell (payload_of t colon) (start_at t colon) ≡ told → NoText At t → told ≡ absent
    told_absent (is said) q lacks =
        let r = answers.sits (payload_of t colon) (start_at t colon) said q in
        absurd (lacks (header_of t colon) (payload_of t colon) r.text r.a r.b (split_here t f) r.there)
    told_absent absent q lacks = refl
    told_absent (refused k) q lacks = absurd (answers.never (payload_of t colon) (start_at t colon) k q)

  pub told_means : (told : Told HexText) → told_of ≡ told → Tells At limit t told
  told_means told q = go (frame_of t) refl (framed t)
    where
      go : (x : Told ℕ) → frame_of t ≡ x → Framed x → Tells At limit t told
      go x f (Framed.colon k) = payload_tells f told (sym (asks f) ∙ q)
      go x f (Framed.number k h) = rw (← q, refuses f) (h, frame_applies Strict t 0 f)

  pub means_told : (told : Told HexText) → Tells At limit t told → told_of ≡ told
  means_told told m = go told m (frame_of t) refl (framed t)
    where
      one_number : {j k : ℕ} → parse_of Strict t 0 ≡ refused j → parse_of Strict t 0 ≡ refused k → j ≡ k
      one_number a b = cc

      go : (told : Told HexText) → Tells At limit t told → (x : Told ℕ) → frame_of t ≡ x → Framed x → told_of ≡ told
      go (is said) m x f (Framed.colon k) = asks f ∙ answers.all (payload_of t k) (start_at t k) said (says_sits f m.1)
      go (is said) m x f (Framed.number k h) = absurd (not_refused h f m.0)
      go absent m x f (Framed.colon k) = asks f ∙ told_absent f (tell (payload_of t k) (start_at t k)) refl m.1
      go absent m x f (Framed.number k h) = absurd (not_refused h f m.0)
      go (refused j) m x f (Framed.colon k) = absurd (asked f j m.0 m.1.holds)
      go (refused j) m x f (Framed.number k h) =
          refuses f ∙ ap refused (one_number ((line_number_exactly Strict t 0 k).1 (frame_applies Strict t 0 f)) ((line_number_exactly Strict t 0 j).1 m.1))

  pub told_exactly : (told : Told HexText) → (told_of ≡ told) ↔ Tells At limit t told
  told_exactly told = (told_means told, means_told told)
