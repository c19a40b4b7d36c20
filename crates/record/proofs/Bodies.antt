-- A field's body and what is read of it: what a body of the right length reads is what it was made from, for every width, and for dwords by one
-- induction. Assumes nothing.
use Rattle.std.specs.Prelude.{None, Option, Some}
use Prim.Native.Nat.{ℕ, zero, suc, ◌+◌, ◌-◌, ◌*◌, ◌/◌, ◌%◌, ◌^◌, ◌≤◌, ◌<◌}
use mathlib.Core.Path.{◌≡◌, ◌∙◌, sym, ap, ap₂, refl}
use mathlib.Core.Bool.{Bool, true, false, cond}
use mathlib.Core.List.{List, [], ◌∷◌, ◌++◌, map, append-nil}
use Rattle.std.specs.Option.{option_map}
use native.Mathlib.Omega.{arith}
use borrow.Author.Tests.{eqb-true, leb-true, ltb-true, eq-eqb, le-leb, lt-ltb}
use lib.Dec.{ltb, eqb}
use lib.ListN.{length, take, drop, length-append}
use lib.Seq.{take_all, take-add, drop-drop, drop_at}
use Rattle.text.proofs.Texts.{both_left, both_right}
use Rattle.tlv.specs.Number.{Bytes, number, number_bytes}
use Rattle.tlv.specs.Grammar.{Piece, All}
use Rattle.std.specs.List.{list_all}
use Rattle.tlv.specs.Reading.{Part, between, piece_of, parts}
use Rattle.tlv.proofs.Numbers.{number_take, number_drop, number_made, number_bytes_is, number_bytes_length, number_below}
use Rattle.tlv.proofs.Places.{bytes_take, bytes_drop, between_is, between_length, number_between}
use Rattle.entry.specs.Entry.{part_of}
use Rattle.entry.proofs.Parts.{part_in}
use Rattle.record.specs.declared.find.Span.{Span}
use Rattle.record.specs.Grammar.{dwords_bytes, Below}
use Rattle.record.specs.Rule.{fits_text, fits_number, fits_dwords}
use Rattle.record.specs.Finding.{span_among, span_of, is_there, place_of, maybe_of, number_of}
use Rattle.record.specs.Reading.{dwords_at}
use Rattle.record.proofs.Finding.{lookup, span_moves}

-- ---- numbers

-- a number's bytes read as the number
pub number_back : (k n : ℕ) → n < 256 ^ k → number k (number_bytes k n) 0 ≡ n
number_back k n h = number_made k n (number_bytes k n) 0 [] h (sym (append-nil (number_bytes k n)))

-- k bytes are those of the number that they read as
pub bytes_number : (k : ℕ) (b : List ℕ) → Bytes b → length b ≡ k → b ≡ number_bytes k (number k b 0)
bytes_number k b bytes e = sym (take_all k b (omega arith)) ∙ number_bytes_is k b bytes 0 (omega arith)

-- what the test of a number says
pub fits_number_is : (k limit : ℕ) (b : List ℕ) → fits_number k limit b ≡ true → (length b ≡ k) × (number k b 0 ≤ limit)
unfolding fits_number
fits_number_is k limit b e =
    (eqb-true (length b) k (both_left _ _ e), leb-true (number k b 0) limit (both_right (eqb (length b) k) _ e))

pub fits_number_all : (k limit n : ℕ) → n < 256 ^ k → n ≤ limit → fits_number k limit (number_bytes k n) ≡ true
unfolding fits_number
fits_number_all k limit n h l =
    rw (eq-eqb (length (number_bytes k n)) k (number_bytes_length k n), number_back k n h, le-leb n limit l)

-- ---- texts

pub all_is : (ok : ℕ → Bool) (P : ℕ → Type 0) → ((b : ℕ) → ok b ≡ true → P b) → (s : List ℕ) → list_all ok s ≡ true → All P s
all_is ok P f [] e = tt
all_is ok P f (b ∷ s) e = (f b (both_left _ _ e), all_is ok P f s (both_right (ok b) _ e))

pub all_all : (ok : ℕ → Bool) (P : ℕ → Type 0) → ((b : ℕ) → P b → ok b ≡ true) → (s : List ℕ) → All P s → list_all ok s ≡ true
all_all ok P f [] a = refl
all_all ok P f (b ∷ s) a = rw (f b a.0) (all_all ok P f s a.1)

module _ (ok : ℕ → Bool) (P : ℕ → Type 0) where
  pub fits_text_is : ((b : ℕ) → ok b ≡ true → P b) → (s : List ℕ) → fits_text ok s ≡ true → (0 < length s) × All P s
  unfolding fits_text
  fits_text_is f s e = (ltb-true 0 (length s) (both_left _ _ e), all_is ok P f s (both_right (ltb 0 (length s)) _ e))

  pub fits_text_all : ((b : ℕ) → P b → ok b ≡ true) → (s : List ℕ) → 0 < length s → All P s → fits_text ok s ≡ true
  unfolding fits_text
  fits_text_all f s h a = rw (lt-ltb 0 (length s) h) (all_all ok P f s a)

-- ---- dwords

pub dwords_bytes_length : (ds : List ℕ) → length (dwords_bytes ds) ≡ 4 * length ds
unfolding dwords_bytes
dwords_bytes_length [] = refl
dwords_bytes_length (d ∷ ds) =
    length-append (number_bytes 4 d) (dwords_bytes ds) ∙ omega (arith, number_bytes_length 4 d, dwords_bytes_length ds)

pub fits_dwords_is : (n : ℕ) → fits_dwords n ≡ true → (n ≡ 4 * (n / 4)) × (n / 4 ≤ 256)
unfolding fits_dwords
fits_dwords_is n e =
    let a : n % 4 ≡ 0 = eqb-true (n % 4) 0 (both_left _ _ e) in
    let b : n ≤ 1024 = leb-true n 1024 (both_right (eqb (n % 4) 0) _ e) in
    (omega arith, omega arith)

pub fits_dwords_all : (n : ℕ) → n ≤ 256 → fits_dwords (4 * n) ≡ true
unfolding fits_dwords
fits_dwords_all n h =
    let e : 4 * n % 4 ≡ 0 = omega arith in
    rw (e, le-leb (4 * n) 1024 (omega arith))

-- dwords read back from their bytes
pub dwords_back : (s : List ℕ) (i : ℕ) (ds : List ℕ) → All (λ d. d < 2 ^ 32) ds → drop i s ≡ dwords_bytes ds
    → dwords_at s i (length ds) ≡ ds
unfolding dwords_at dwords_bytes
dwords_back s i [] a e = refl
dwords_back s i (d ∷ ds) a e =
    let rest : drop (i + 4) s ≡ dwords_bytes ds =
    sym (drop-drop 4 i s) ∙ ap (drop 4) e ∙ drop_at (number_bytes 4 d) (dwords_bytes ds) 4 (number_bytes_length 4 d) in
    ap₂ {A = ℕ} {B = List ℕ} ◌∷◌ (number_made 4 d s i (dwords_bytes ds) a.0 e) (dwords_back s (i + 4) ds a.1 rest)

-- bytes are those of the dwords that they read as
pub dwords_made : (s : List ℕ) → Bytes s → (n i : ℕ) → i + 4 * n ≤ length s → take (4 * n) (drop i s) ≡ dwords_bytes (dwords_at s i n)
unfolding dwords_at dwords_bytes
dwords_made s bytes zero i h = refl
dwords_made s bytes (suc n) i h =
    let size : 4 * suc n ≡ 4 + 4 * n = omega arith in
    ap (λ (m : ℕ). take m (drop i s)) size
    ∙ take-add 4 (4 * n) (drop i s)
    ∙ ap₂ {A = List ℕ} {B = List ℕ} ◌++◌ (number_bytes_is 4 s bytes i (omega arith))
    (ap (take (4 * n)) (drop-drop 4 i s) ∙ dwords_made s bytes n (i + 4) (omega arith))

pub dwords_below : (s : List ℕ) → Bytes s → (n i : ℕ) → All (λ d. d < 2 ^ 32) (dwords_at s i n)
unfolding dwords_at
dwords_below s bytes zero i = tt
dwords_below s bytes (suc n) i = (number_below 4 s bytes i, dwords_below s bytes n (i + 4))

-- dwords read the same in a body and in the text
pub dwords_between : (t : List ℕ) (from to n i : ℕ) → from + i + 4 * n ≤ to → dwords_at (between t from to) i n ≡ dwords_at t (from + i) n
unfolding dwords_at
dwords_between t from to zero i h = refl
dwords_between t from to (suc n) i h =
    let next : from + (i + 4) ≡ from + i + 4 = omega arith in
    ap₂ {A = ℕ} {B = List ℕ} ◌∷◌ (number_drop 4 (take to t) from i ∙ number_take 4 t (from + i) to (omega arith))
    (dwords_between t from to n (i + 4) (omega arith) ∙ ap (λ (m : ℕ). dwords_at t m n) next)

-- ---- a text's fields by their tags

module _ (t : List ℕ) where
  -- the pieces that the text's fields are made from
  abbrev pub pieces_in : List Piece
  pieces_in = map (piece_of t) (parts t 3)

  abbrev body_by : Option Span → Option (List ℕ)
  body_by (Some s) = Some (between t s.from s.to)
  body_by None = None

  lookup_among : (tag : ℕ) (ps : List Part) → lookup tag (map (piece_of t) ps) ≡ body_by (span_among tag ps)
  unfolding lookup span_among
  lookup_among tag [] = refl
  lookup_among tag (p ∷ ps) = go (eqb p.tag tag) (lookup_among tag ps)
    where
      go : (x : Bool) → lookup tag (map (piece_of t) ps) ≡ body_by (span_among tag ps)
          → cond x (Some (between t p.from p.to)) (lookup tag (map (piece_of t) ps)) ≡ body_by (cond x (Some (record { from = p.from; to = p.to })) (span_among tag ps))
      go true e = refl
      go false e = e

  -- what is found by its tag is the body of the field with the tag
  pub lookup_span : (tag : ℕ) → lookup tag pieces_in ≡ body_by (span_of t tag)
  unfolding span_of
  lookup_span tag = lookup_among tag (parts t 3)

  -- the field with a tag has this body
  pub record Body (tag : ℕ) (b : List ℕ) : Type 0 where
    pub from : ℕ
    pub to : ℕ
    pub span : span_of t tag ≡ Some (record { from = from; to = to })
    pub is : between t from to ≡ b
    pub up : from ≤ to
    pub within : to ≤ length t

  pub body_found : (tag : ℕ) (b : List ℕ) → lookup tag pieces_in ≡ Some b → Body tag b
  body_found tag b e = go (span_of t tag) refl
    where
      go : (o : Option Span) → span_of t tag ≡ o → Body tag b
      go (Some s) h =
          let m = span_moves t tag h in
          let same : Some (between t s.from s.to) ≡ Some b = sym (ap body_by h) ∙ sym (lookup_span tag) ∙ e in
          let is : between t s.from s.to ≡ b = cc in
          record { from = s.from; to = s.to; span = h; is = is; up = m.0; within = m.1 }
      go None h =
          let same : None ≡ Some b = sym (ap body_by h) ∙ sym (lookup_span tag) ∙ e in
          absurd (let z : ◌≡◌ {A = ℕ} 0 1 = cc in omega arith)

  pub body_absent : (tag : ℕ) → lookup tag pieces_in ≡ None → span_of t tag ≡ None
  body_absent tag e = go (span_of t tag) refl
    where
      go : (o : Option Span) → span_of t tag ≡ o → o ≡ None
      go (Some s) h =
          let same : Some (between t s.from s.to) ≡ None = sym (ap body_by h) ∙ sym (lookup_span tag) ∙ e in
          absurd (let z : ◌≡◌ {A = ℕ} 0 1 = cc in omega arith)
      go None h = refl

  pub body_there : (tag : ℕ) (b : List ℕ) → lookup tag pieces_in ≡ Some b → is_there (span_of t tag) ≡ true
  body_there tag b e = rw (body_found tag b e).span

  module _ {tag : ℕ} {b : List ℕ} (f : Body tag b) where
    body_length : length b ≡ f.to - f.from
    body_length = rw (← f.is) (between_length t f.from f.to f.within)

    pub body_bytes : Bytes t → Bytes b
    body_bytes bytes = rw (← f.is) (bytes_drop (take f.to t) f.from (bytes_take t f.to bytes))

    -- the number at its start
    pub number_read : (k : ℕ) → length b ≡ k → maybe_of k t tag ≡ Some (number k b 0)
    unfolding maybe_of
    number_read k e =
        let room : f.from + k ≤ f.to = omega (arith, body_length, f.up) in
        rw (f.span, ← f.is, number_between t k f.from f.to room)

    -- the part of the text that it is
    pub text_read : part_of t (place_of t tag).from (place_of t tag).len ≡ b
    unfolding place_of
    text_read =
        rw f.span
        (sym (part_in t f.from (f.to - f.from) (omega (arith, f.up, f.within))) ∙ sym (between_is t f.from f.to) ∙ f.is)

    pub place_within : (place_of t tag).from + (place_of t tag).len ≤ length t
    unfolding place_of
    place_within = rw f.span (omega (arith, f.up, f.within))

    pub place_length : (place_of t tag).len ≡ length b
    unfolding place_of
    place_length = rw f.span (sym body_length)

    -- its dwords
    pub dwords_read : (n : ℕ) → length b ≡ 4 * n → dwords_at t (place_of t tag).from n ≡ dwords_at b 0 n
    unfolding place_of
    dwords_read n e =
        let start : f.from + 0 ≡ f.from = omega arith in
        rw (f.span, ← f.is)
        (sym (dwords_between t f.from f.to n 0 (omega (arith, body_length, f.up, e)) ∙ ap (λ (m : ℕ). dwords_at t m n) start))

  -- a number that was made
  module _ (tag k n : ℕ) (found : lookup tag pieces_in ≡ Some (number_bytes k n)) (fits : n < 256 ^ k) where
    pub made_some : maybe_of k t tag ≡ Some n
    made_some = number_read (body_found tag (number_bytes k n) found) k (number_bytes_length k n) ∙ rw (number_back k n fits)

    pub made_number : number_of k t tag ≡ n
    unfolding number_of
    made_number = rw made_some

  pub made_maybe : (tag k : ℕ) (o : Option ℕ) → lookup tag pieces_in ≡ option_map (number_bytes k) o → Below (256 ^ k) o → maybe_of k t tag ≡ o
  unfolding maybe_of
  made_maybe tag k None e h = rw (body_absent tag e)
  made_maybe tag k (Some n) e h = made_some tag k n e h
