-- The start of a key: the first two bytes of a name choose its row, so the text at a place is some row's name and `=` exactly where it is the
-- chosen row's, and then the word run from there is that name. Assumes nothing.
use Prim.Native.Nat.{ℕ, zero, suc, ◌+◌, ◌-◌, ◌^◌, ◌*◌, ◌≤◌, ◌<◌}
use mathlib.Core.Path.{◌≡◌, refl, sym, ap, ◌∙◌}
use mathlib.Core.Bool.{Bool, true, false, cond, ◌&&◌}
use mathlib.Core.List.{List, [], ◌∷◌, ◌++◌}
use native.Mathlib.Omega.{arith}
use lib.Dec.{eqb, ltb}
use lib.ListN.{length, get_or, take, drop, length-append, length-take, length-drop}
use lib.Seq.{get_or-take, get_or-drop, get_or-append_seam, take-take, take-append_seam, take-suc, length-take-le}
use borrow.Author.Tests.{ne_eqb, eq-eqb, eqb-true, eqb-false, ltb-true}
use Rattle.text.specs.Class.{is_word, is_letter, is_digit, between}
use Rattle.text.specs.Run.{Run, EndsAt}
use Rattle.text.specs.Same.{same_text}
use Rattle.text.specs.Word.{Word, word_at, word_of}
use Rattle.text.proofs.Places.{by_order, clash, stands_within}
use Rattle.text.proofs.Runs.{run_all, ends_at}
use Rattle.text.proofs.Texts.{both_left, both_right, same_refl, same_true}
use Rattle.text.proofs.Words.{full_bytes, same_word}
use Rattle.pairs.specs.declared.keys.Form.TheVariants.{Text}
use Rattle.pairs.specs.Pair.{part}
use Rattle.pairs.specs.Table.{Key, Row, keys, row_in, row_at, key_named, unknown}
use Rattle.pairs.proofs.Rows.{key_same, key_within, key_none, key_parts, key_own}
use Rattle.walk.specs.declared.start.Candidate.{Candidate}
use Rattle.walk.specs.Start.{chosen_at, with_equals, candidate_for, candidate_after, candidate_of, other_start, Started}

-- a choice between equals is none
no_choice : (b : Bool) (c : Candidate) → cond b c c ≡ c
no_choice true c = refl
no_choice false c = refl

-- a number that no name behind the first row has chooses the first row
pub chosen_by_none : (n : ℕ) → (n ≡ 1 → ⊥) → (n ≡ 3 → ⊥) → (n ≡ 5 → ⊥) → (n ≡ 17 → ⊥) → (n ≡ 18 → ⊥) → (n ≡ 19 → ⊥) → (n ≡ 21 → ⊥) →
    (n ≡ 22 → ⊥) → (n ≡ 23 → ⊥) → (n ≡ 24 → ⊥) → (n ≡ 28 → ⊥) → (n ≡ 31 → ⊥) → candidate_of n ≡ candidate_for 0 (row_at 0)
unfolding candidate_of candidate_after chosen_at keys row_at
chosen_by_none n a b c d e f g h i j k l =
    rw (no 1 a, no 3 b, no 5 c, no 17 d, no 18 e, no 19 f, no 21 g, no 22 h, no 23 i, no 24 j, no 28 k, no 31 l)
    (no_choice (eqb 13 n) (candidate_for 0 (row_at 0)))
  where
    no : (m : ℕ) → (n ≡ m → ⊥) → eqb m n ≡ false
    no m x = ne_eqb m n (λ q. x (sym q))

-- a test of each row with its number
each : (ℕ → Row → Bool) → ℕ → List Row → Bool
each p k [] = true
each p k (q ∷ qs) = p k q && each p (suc k) qs

each_row : (p : ℕ → Row → Bool) (n : ℕ) (qs : List Row) → each p n qs ≡ true → (k : ℕ) → k < length qs →
    p (n + k) (row_in qs k) ≡ true
unfolding each
each_row p n [] e k h = absurd (omega arith)
each_row p n (q ∷ qs) e zero h = let z : n + 0 ≡ n = omega arith in rw z (both_left _ _ e)
each_row p n (q ∷ qs) e (suc k) h =
    let z : n + suc k ≡ suc n + k = omega arith in
    rw z (each_row p (suc n) qs (both_right (p n q) _ e) k (omega arith))

-- every byte is a word byte
all_word : List ℕ → Bool
all_word [] = true
all_word (b ∷ s) = is_word b && all_word s

all_word_lem : (s : List ℕ) → all_word s ≡ true → (k : ℕ) → k < length s → is_word (get_or s k 0) ≡ true
unfolding all_word
all_word_lem [] e k h = absurd (omega arith)
all_word_lem (b ∷ s) e zero h = both_left _ _ e
all_word_lem (b ∷ s) e (suc k) h = all_word_lem s (both_right (is_word b) _ e) k (omega arith)

-- a name that chooses its own row, by two bytes or more, and that a word of eight bytes holds with its `=`
fitting : ℕ → Row → Bool
fitting k q =
    eqb (candidate_of (chosen_at q.name 0)).row k
    && (ltb 1 (length q.name) && (ltb (length q.name) 8 && (all_word q.name && full_bytes (with_equals q.name))))

-- the one test that the table must pass
keys_fit : each fitting 0 keys ≡ true
unfolding each fitting all_word candidate_of candidate_after candidate_for chosen_at keys row_at is_word is_letter is_digit between
keys_fit = refl

equals_is_no_word : is_word 61 ≡ false
unfolding is_word is_letter is_digit between
equals_is_no_word = refl

-- what that test tells of a row
record Fits (k : ℕ) : Type 0 where
  own : (candidate_of (chosen_at (row_at k).name 0)).row ≡ k
  two : 1 < length (row_at k).name
  seven : length (row_at k).name < 8
  words : all_word (row_at k).name ≡ true
  bytes : full_bytes (with_equals (row_at k).name) ≡ true

row_fits : (k : ℕ) → k < length keys → Fits k
unfolding fitting row_at
row_fits k h =
    let z : 0 + k ≡ k = omega arith in
    let all : fitting k (row_in keys k) ≡ true = rw z at (each_row fitting 0 keys keys_fit k h) in
    let own = both_left _ _ all in
    let rest = both_right (eqb (candidate_of (chosen_at (row_in keys k).name 0)).row k) _ all in
    let two = both_left _ _ rest in
    let rest-2 = both_right (ltb 1 (length (row_in keys k).name)) _ rest in
    let seven = both_left _ _ rest-2 in
    let rest-3 = both_right (ltb (length (row_in keys k).name) 8) _ rest-2 in
    record {
      own = eqb-true _ _ own;
      two = ltb-true _ _ two;
      seven = ltb-true _ _ seven;
      words = both_left _ _ rest-3;
      bytes = both_right (all_word (row_in keys k).name) _ rest-3;
    }

-- a candidate is its row's
pub record OfRow (c : Candidate) : Type 0 where
  pub within : c.row < length keys
  pub is : c ≡ candidate_for c.row (row_at c.row)

-- whatever a number chooses, it is a row
after_is : (n k : ℕ) (qs : List Row) (c : Candidate) → ((i : ℕ) → i < length qs → OfRow (candidate_for (k + i) (row_in qs i))) → OfRow c →
    OfRow (candidate_after n k qs c)
unfolding candidate_after
after_is n k [] c f h = h
after_is n k (q ∷ qs) c f h =
    after_is n (suc k) qs (cond (eqb (chosen_at q.name 0) n) (candidate_for k q) c) later (go (eqb (chosen_at q.name 0) n))
  where
    later : (i : ℕ) → i < length qs → OfRow (candidate_for (suc k + i) (row_in qs i))
    later i l = let z : k + suc i ≡ suc k + i = omega arith in rw z at (f (suc i) (omega arith))

    go : (b : Bool) → OfRow (cond b (candidate_for k q) c)
    go true = let z : k + 0 ≡ k = omega arith in rw z at (f 0 (omega arith))
    go false = h

row_is : (k : ℕ) → k < length keys → OfRow (candidate_for k (row_at k))
unfolding candidate_for
row_is k h = record { within = h; is = refl }

pub row_count : length keys ≡ 13
unfolding keys
row_count = refl

pub chosen_is : (n : ℕ) → OfRow (candidate_of n)
unfolding candidate_of row_at
chosen_is n =
    after_is n 0 keys (candidate_for 0 (row_at 0)) (λ i h. let z : 0 + i ≡ i = omega arith in rw z (row_is i h))
    (row_is 0 (omega (arith, row_count)))

-- a name and a byte behind it stand at a place exactly where the name stands there and the byte behind it
module _ (name : List ℕ) (b : ℕ) (s : List ℕ) (i : ℕ) (room : i + length name < length s) where
  longer : take (suc (length name)) (drop i s) ≡ take (length name) (drop i s) ++ (get_or s (i + length name) 0 ∷ [])
  longer =
      take-suc (drop i s) (length name) 0 (omega (arith, length-drop i s))
      ∙ ap (λ (x : ℕ). take (length name) (drop i s) ++ (x ∷ [])) (get_or-drop i s (length name) 0)

  with_byte : take (length name) (drop i s) ≡ name → get_or s (i + length name) 0 ≡ b →
      take (suc (length name)) (drop i s) ≡ name ++ (b ∷ [])
  with_byte e f = longer ∙ rw (e, f)

  without_byte : take (suc (length name)) (drop i s) ≡ name ++ (b ∷ []) → take (length name) (drop i s) ≡ name
  without_byte e =
      sym (take-take (length name) (suc (length name)) (drop i s) (omega arith))
      ∙ ap (take (length name)) e ∙ take-append_seam name (b ∷ [])

  byte_behind : take (suc (length name)) (drop i s) ≡ name ++ (b ∷ []) → get_or s (i + length name) 0 ≡ b
  byte_behind e =
      sym (get_or-drop i s (length name) 0)
      ∙ sym (get_or-take (suc (length name)) (drop i s) (length name) 0 (omega arith))
      ∙ ap (λ (l : List ℕ). get_or l (length name) 0) e
      ∙ get_or-append_seam name b [] 0

-- a byte of a text that stands at a place
byte_of : (name s : List ℕ) (i k : ℕ) → take (length name) (drop i s) ≡ name → k < length name → get_or s (i + k) 0 ≡ get_or name k 0
byte_of name s i k e h =
    sym (get_or-drop i s k 0) ∙ sym (get_or-take (length name) (drop i s) k 0 h) ∙ ap (λ (l : List ℕ). get_or l k 0) e

-- what a comparison asks of a candidate
pub size_some : {c : Candidate} → OfRow c → 0 < c.size
unfolding candidate_for
size_some o = let e = ap (λ (x : Candidate). x.size) o.is in omega (arith, e)

pub size_fits : {c : Candidate} → OfRow c → c.size ≤ 8
unfolding candidate_for
size_fits o = let e = ap (λ (x : Candidate). x.size) o.is in omega (arith, e, (row_fits _ o.within).seven)

pub mask_is : {c : Candidate} → OfRow c → c.mask ≡ 2 ^ (8 * c.size) - 1
unfolding candidate_for
mask_is o = ap (λ (x : Candidate). x.mask) o.is ∙ sym (ap (λ (x : Candidate). 2 ^ (8 * x.size) - 1) o.is)

-- a word run that ends at m
module _ (s : List ℕ) (i m : ℕ) (ends : EndsAt is_word s i m) where
  -- no key, where no `=` follows
  bare_word : (get_or s m 0 ≡ 61 → ⊥) → Started s i (record { row = suc (length keys); form = Text; end = m })
  bare_word n =
      record {
        ends = ends;
        fits = omega arith;
        no_key = λ e. n;
        sign = λ h. absurd (omega arith);
        named = λ h. absurd (omega arith);
      }

  -- what its text is in the table, where one does
  key_word : {key : Key} → key ≡ key_named (part s i m) → get_or s m 0 ≡ 61 →
      Started s i (record { row = key.row; form = key.form; end = m })
  key_word {key} e sign =
      let within : key.row ≤ length keys = rw e (key_within (part s i m)) in
      record {
        ends = ends;
        fits = omega arith;
        no_key = λ q. absurd (omega arith);
        sign = λ h. sign;
        named = λ h. sym e ∙ key_parts key refl refl;
      }

module _ (s : List ℕ) (i : ℕ) (here : i < length s) {w : ℕ} (eight : Word 8 s i w) where
  -- the number of a row's text tells whether that text stands at i
  told : (j : ℕ) → j < length keys → eqb (word_at (suc (length (row_at j).name)) s i) (word_of (with_equals (row_at j).name))
      ≡ same_text (take (suc (length (row_at j).name)) (drop i s)) (with_equals (row_at j).name)
  told j inside =
      let q : length (with_equals (row_at j).name) ≡ suc (length (row_at j).name) = length-append (row_at j).name (61 ∷ []) ∙ omega arith in
      rw q at
      (same_word (with_equals (row_at j).name) s i (row_fits j inside).bytes (λ k h. eight.bytes k (omega (arith, h, q, (row_fits j inside).seven))))

  -- where it stands, the word run is the row's name
  hit : (j : ℕ) → j < length keys → eqb (word_at (suc (length (row_at j).name)) s i) (word_of (with_equals (row_at j).name)) ≡ true →
      Started s i (record { row = j; form = (row_at j).form; end = i + length (row_at j).name })
  hit j inside t =
      let fit = row_fits j inside in
      let text = same_true _ _ (sym (told j inside) ∙ t) in
      let size : length (with_equals (row_at j).name) ≡ suc (length (row_at j).name) = length-append (row_at j).name (61 ∷ []) ∙ omega arith in
      let long = sym (length-take (suc (length (row_at j).name)) (drop i s)) ∙ ap length text ∙ size in
      let within : i + length (row_at j).name < length s = omega (arith, long, length-drop i s) in
      let there = without_byte (row_at j).name 61 s i within text in
      let sign = byte_behind (row_at j).name 61 s i within text in
      let run : Run is_word s i (i + length (row_at j).name) =
      record {
        from = omega arith;
        within = omega arith;
        inside = λ k a b. word k a b there fit.words;
        stops = λ h. rw sign equals_is_no_word;
      } in
      let d : i + length (row_at j).name - i ≡ length (row_at j).name = omega arith in
      let named : key_named (part s i (i + length (row_at j).name)) ≡ record { row = j; form = (row_at j).form } =
      rw (d, there) (key_own j inside) in
      key_word s i _ (ends_at is_word s (sym (run_all is_word s run))) (sym named) sign
    where
      word : (k : ℕ) → i ≤ k → k < i + length (row_at j).name → take (length (row_at j).name) (drop i s) ≡ (row_at j).name →
          all_word (row_at j).name ≡ true → is_word (get_or s k 0) ≡ true
      word k a b there all =
          let z : i + (k - i) ≡ k = omega arith in
          let e : get_or s k 0 ≡ get_or (row_at j).name (k - i) 0 = rw z at (byte_of (row_at j).name s i (k - i) there (omega arith)) in
          rw e (all_word_lem (row_at j).name all (k - i) (omega arith))

  pub hit_is : {c : Candidate} → OfRow c → eqb (word_at c.size s i) c.want ≡ true →
      Started s i (record { row = c.row; form = c.form; end = i + c.size - 1 })
  unfolding candidate_for
  hit_is {c} o t = go c.row o.within o.is
    where
      go : (j : ℕ) → j < length keys → c ≡ candidate_for j (row_at j) →
          Started s i (record { row = c.row; form = c.form; end = i + c.size - 1 })
      go j inside e =
          let z : i + suc (length (row_at j).name) - 1 ≡ i + length (row_at j).name = omega arith in
          rw (e, z) (hit j inside (rw e at t))

  -- a row's name with `=` behind it is the chosen row's, and its text stands there
  stood : (k m : ℕ) → k < length keys → i ≤ m → m ≤ length s → part s i m ≡ (row_at k).name → get_or s m 0 ≡ 61 →
      eqb (word_at (candidate_of (chosen_at s i)).size s i) (candidate_of (chosen_at s i)).want ≡ true
  unfolding chosen_at candidate_for
  stood k m inside up within same sign =
      let fit = row_fits k inside in
      let len : m - i ≡ length (row_at k).name = sym (length-take-le (m - i) (drop i s) (omega (arith, length-drop i s))) ∙ ap length same in
      let there : take (length (row_at k).name) (drop i s) ≡ (row_at k).name = rw len at same in
      let place : i + length (row_at k).name ≡ m = omega (arith, len) in
      let z : i + 0 ≡ i = omega arith in
      let first : get_or s i 0 ≡ get_or (row_at k).name 0 0 = rw z at (byte_of (row_at k).name s i 0 there (omega (arith, fit.two))) in
      let second : get_or s (i + 1) 0 ≡ get_or (row_at k).name 1 0 = byte_of (row_at k).name s i 1 there fit.two in
      let chosen : chosen_at s i ≡ chosen_at (row_at k).name 0 = rw (first, second) in
      let row : (candidate_of (chosen_at s i)).row ≡ k = ap (λ (n : ℕ). (candidate_of n).row) chosen ∙ fit.own in
      let is : candidate_of (chosen_at s i) ≡ candidate_for k (row_at k) =
      (chosen_is (chosen_at s i)).is ∙ ap (λ (x : ℕ). candidate_for x (row_at x)) row in
      let text = with_byte (row_at k).name 61 s i (omega (arith, place, stands_within s m (λ z. absurd (omega (arith, sign, z))))) there (rw place sign) in
      rw is (told k inside ∙ rw text (same_refl (with_equals (row_at k).name)))

  -- where the chosen row's text does not stand, the word run is no row's name
  pub miss_is : {c : Candidate} {m : ℕ} → EndsAt is_word s i m → c ≡ candidate_of (chosen_at s i) →
      eqb (word_at c.size s i) c.want ≡ false → Started s i (other_start s m)
  unfolding other_start unknown
  miss_is {c} {m} ends e f = go (eqb (get_or s m 0) 61) refl
    where
      within : m ≤ length s
      within = omega (arith, ends.within)

      none : get_or s m 0 ≡ 61 → (key : Key) → key ≡ key_named (part s i m) → key.row < length keys → ⊥
      none sign key q h =
          let same : same_text (part s i m) (row_at key.row).name ≡ true =
          key_same (part s i m) key.row h ∙ eq-eqb _ _ (ap (λ (x : Key). x.row) (sym q)) in
          clash (stood key.row m h ends.up within (same_true _ _ same) sign) (rw e at f)

      named : get_or s m 0 ≡ 61 → key_named (part s i m) ≡ record { row = length keys; form = Text }
      named sign =
          key_none (part s i m)
          (by_order (key_named (part s i m)).row (length keys) (λ h. absurd (none sign (key_named (part s i m)) refl h)) (λ q. omega arith)
          (λ h. omega arith))

      go : (b : Bool) → eqb (get_or s m 0) 61 ≡ b →
          Started s i (record { row = cond b (length keys) (suc (length keys)); form = Text; end = m })
      go true t = key_word s i m ends (sym (named (eqb-true _ _ t))) (eqb-true _ _ t)
      go false t = bare_word s i m ends (eqb-false _ _ t)
