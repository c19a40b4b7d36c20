-- The dwords of a bracketed value: each piece adds its own to those behind it, so what is counted or written so far and what the rest adds
-- make up the whole; and the brackets that are found are the sentence's. Assumes nothing.
use Rattle.pairs.proofs.Ends.{same_span}
use Rattle.std.specs.Prelude.{None, Option, Some}
use Prim.Native.Nat.{ℕ, zero, suc, ◌+◌, ◌-◌, ◌≤◌, ◌<◌, ◌^◌}
use mathlib.Core.Path.{◌≡◌, refl, sym, ap, ◌∙◌}
use mathlib.Core.Bool.{Bool, true, false, ◌&&◌}
use mathlib.Core.List.{List, [], ◌∷◌, ◌++◌, append_assoc}
use native.Mathlib.Numerals.{add-one}
use native.Mathlib.Omega.{arith}
use lib.Dec.{ltb, eqb}
use lib.ListN.{length, get_or, take, drop, set, length-append, length-take, length-drop, drop_of_length-le, get_or-append}
use lib.Seq.{drop-cons, drop-drop, set_at, take_at, take-suc, take-length, take_all, take-append_seam, split_at, get_or-append-add, get_or-take, get_or-drop, length-take-le}
use borrow.Author.Tests.{lt-ltb, le-ltb, eq-eqb, ne_eqb, ltb-true, eqb-true}
use Rattle.text.specs.declared.class.Class.TheVariants.{NotClose}
use Rattle.text.specs.Class.{in_class}
use Rattle.text.specs.Number.{HexNumber, hex_number_of}
use Rattle.text.specs.Run.{Inside, Run, run_end}
use Rattle.text.proofs.Places.{by_order}
use Rattle.text.proofs.Runs.{run_is, run_all}
use Rattle.text.proofs.Texts.{both_left, both_right}
use Rattle.text.proofs.Hexes.{hex_is, hex_all}
use Rattle.pairs.specs.declared.pair.Span.{Span}
use Rattle.pairs.specs.declared.dwords.Tally.{Tally}
use Rattle.pairs.specs.Pair.{part, span}
use Rattle.pairs.specs.Data.{Dwords, Data, cut, piece_of, taken, dwords_in, dwords_of, piece_end, inside_of, data_in, data_of, filled, Bracketed, Taken}
use Rattle.pairs.proofs.Tries.{ends_close}
use Rattle.pairs.proofs.Cuts.{cut_all, cut_is, cut_last, cut_next}

-- a hex number is within its limit
pub hex_fits : (limit : ℕ) (s : List ℕ) {v : ℕ} → hex_number_of limit s ≡ Some v → v ≤ limit
hex_fits limit s {v} e = go (hex_is limit e)
  where
    go : HexNumber limit s v → v ≤ limit
    go (HexNumber.plain r) = r.within
    go (HexNumber.prefixed t q r) = r.within

-- what a piece is, as its number is read
module _ (p : List ℕ) where
  pub piece_dword : {v : ℕ} → hex_number_of (2 ^ 32 - 1) p ≡ Some v → Some v ≡ piece_of p
  unfolding piece_of
  piece_dword e = rw e

  pub piece_bad : hex_number_of (2 ^ 32 - 1) p ≡ None → None ≡ piece_of p
  unfolding piece_of
  piece_bad e = rw e

module _ (l : List ℕ) where
  module _ {from e : ℕ} (low : from ≤ length l) (e-is : e ≡ piece_end l from) where
    -- the dwords as a walk meets them
    pub dwords_last : e ≡ length l → dwords_of (drop from l) ≡ taken (piece_of (part l from e)) []
    unfolding dwords_of dwords_in
    dwords_last h = ap dwords_in (cut_last l low e-is h)

    pub dwords_next : e < length l → dwords_of (drop from l) ≡ taken (piece_of (part l from e)) (dwords_of (drop (e + 2) l))
    unfolding dwords_of dwords_in
    dwords_next h = ap dwords_in (cut_next l low e-is h)

module _ (l : List ℕ) where
  -- n dwords stand before a place where a piece starts
  pub record Before (n at : ℕ) : Type 0 where
    pub within : at ≤ length l
    pub few : n ≤ at
    pub some : n ≤ length (dwords_of l)
    pub rest : drop n (dwords_of l) ≡ dwords_of (drop at l)

  -- n dwords stand in the pieces up to the one that ends at e
  pub record UpTo (n e : ℕ) : Type 0 where
    pub few : n ≤ e + 1
    pub some : n ≤ length (dwords_of l)
    pub next : e < length l → drop n (dwords_of l) ≡ dwords_of (drop (e + 2) l)
    pub over : e ≡ length l → n ≡ length (dwords_of l)

  pub before_starts : Before 0 0
  before_starts = record { within = omega arith; few = omega arith; some = omega arith; rest = refl }

  pub before_next : {n e : ℕ} → UpTo n e → e < length l → e + 2 ≤ length l → Before n (e + 2)
  before_next {n} {e} r h more = record { within = more; few = omega (arith, r.few); some = r.some; rest = r.next h }

  all_dropped : (n : ℕ) (ds : List ℕ) → n ≤ length ds → drop n ds ≡ [] → n ≡ length ds
  all_dropped n ds h e = omega (arith, ap length e, length-drop n ds)

  module _ {n at e : ℕ} (r : Before n at) (e-is : e ≡ piece_end l at) (up : at ≤ e) (in-text : e ≤ length l) where
    -- a bad piece adds none
    pub up_to_bad : None ≡ piece_of (part l at e) → UpTo n e
    unfolding taken
    up_to_bad q =
        record {
          few = omega (arith, r.few);
          some = r.some;
          next = λ h. r.rest ∙ dwords_next l r.within e-is h ∙ rw (← q);
          over = λ h. all_dropped n (dwords_of l) r.some (r.rest ∙ dwords_last l r.within e-is h ∙ rw (← q));
        }

    -- a piece that is a dword
    module _ {v : ℕ} (q : Some v ≡ piece_of (part l at e)) where
      -- the dword stands behind the n before it
      Stands : List ℕ → Type 0
      Stands rest = drop n (dwords_of l) ≡ v ∷ rest

      stands-next : e < length l → Stands (dwords_of (drop (e + 2) l))
      unfolding taken Stands
      stands-next h = r.rest ∙ dwords_next l r.within e-is h ∙ rw (← q)

      stands-last : e ≡ length l → Stands []
      unfolding taken Stands
      stands-last h = r.rest ∙ dwords_last l r.within e-is h ∙ rw (← q)

      by-rest : {A : Type 0} → ((rest : List ℕ) → Stands rest → A) → A
      by-rest f = by_order e (length l) (λ h. f _ (stands-next h)) (λ h. f _ (stands-last h)) (λ h. absurd (omega arith))

      pub dword-slot : n < length (dwords_of l)
      unfolding Stands
      dword-slot = by-rest (λ rest h. omega (arith, ap length h, length-drop n (dwords_of l)))

      pub dword-value : get_or (dwords_of l) n 0 ≡ v
      unfolding Stands
      dword-value =
          by-rest
          (λ rest h. let z : n + 0 ≡ n = omega arith in ap (λ (k : ℕ). get_or (dwords_of l) k 0) (sym z) ∙ sym
          (get_or-drop n (dwords_of l) 0 0) ∙ ap (λ (x : List ℕ). get_or x 0 0) h)

      behind : (rest : List ℕ) → Stands rest → drop (n + 1) (dwords_of l) ≡ rest
      unfolding Stands
      behind rest h = sym (drop-drop 1 n (dwords_of l)) ∙ ap (drop 1) h

      pub up-to-dword : UpTo (n + 1) e
      up-to-dword =
          record {
            few = omega (arith, r.few);
            some = omega (arith, dword-slot);
            next = λ h. behind _ (stands-next h);
            over = λ h. all_dropped (n + 1) (dwords_of l) (omega (arith, dword-slot)) (behind _ (stands-last h));
          }

-- the first n dwords in the slots, and one more
filled_next : (ds out : List ℕ) (n v : ℕ) → n < length ds → n < length out → get_or ds n 0 ≡ v →
    set (filled (take n ds) out) n v ≡ filled (take (n + 1) ds) out
filled_next ds out n v h fits e =
    let size : length (take n ds) ≡ n = length-take-le n ds (omega arith) in
    let more : length (take (suc n) ds) ≡ suc n = length-take-le (suc n) ds (omega arith) in
    rw (
      add-one,
      size,
      more,
      take-suc ds n 0 h,
      e,
      drop-cons out n 0 fits,
      set_at (take n ds) (get_or out n 0)
          (drop (suc n) out) v n size,
      append_assoc,
    )

pub filled_more : (ds out : List ℕ) (n v : ℕ) → n < length ds → length ds ≤ length out → get_or ds n 0 ≡ v →
    set (filled (take n ds) out) n v ≡ filled (take (n + 1) ds) out
filled_more ds out n v h fits e = filled_next ds out n v h (omega arith) e

pub filled_length : (ds out : List ℕ) (n : ℕ) → n ≤ length ds → length ds ≤ length out →
    length (filled (take n ds) out) ≡ length out
filled_length ds out n h fits =
    let size : length (take n ds) ≡ n = length-take-le n ds (omega arith) in
    rw size (length-append (take n ds) (drop n out) ∙ omega (arith, length-drop n out))

pub filled_all : (ds out : List ℕ) (n : ℕ) → n ≡ length ds → filled (take n ds) out ≡ filled ds out
filled_all ds out n e = rw (e, take-length ds)

-- the first dwords are kept, as many as there are of them and of the 256 places
pub record Kept (ds out : List ℕ) (n : ℕ) (own : List ℕ) : Type 0 where
  pub few : n ≤ 256 → own ≡ filled (take n ds) out
  pub many : 256 ≤ n → own ≡ filled (take 256 ds) out

module _ (ds out : List ℕ) where
  pub kept_starts : Kept ds out 0 out
  kept_starts = record { few = λ h. refl; many = λ h. absurd (omega arith) }

  pub kept_stored : {n v : ℕ} {own : List ℕ} → Kept ds out n own → n < 256 → length out ≡ 256 → n < length ds → get_or ds n 0 ≡ v →
      Kept ds out (n + 1) (set own n v)
  kept_stored {n} {v} {own} r h size l e =
      let more : set own n v ≡ filled (take (n + 1) ds) out = rw (r.few (omega arith)) (filled_next ds out n v l (omega arith) e) in
      record { few = λ x. more; many = λ x. let last : n + 1 ≡ 256 = omega arith in rw last at more }

  pub kept_passed : {n : ℕ} {own : List ℕ} → Kept ds out n own → 256 ≤ n → Kept ds out (n + 1) own
  kept_passed r h = record { few = λ x. absurd (omega arith); many = λ x. r.many h }

  pub kept_all : {n : ℕ} {own : List ℕ} → Kept ds out n own → n ≡ length ds → own ≡ filled (take 256 ds) out
  kept_all {n} {own} r e = by_order n 256 (λ h. short (omega arith)) (λ h. short (omega arith)) (λ h. r.many (omega arith))
    where
      short : n ≤ 256 → own ≡ filled (take 256 ds) out
      short h = r.few h ∙ ap (λ (l : List ℕ). filled l out) (take_all n ds (omega arith) ∙ sym (take_all 256 ds (omega arith)))

-- where all that were taken are kept, they stand from the first place on
module _ {inner own exit : List ℕ} {r : Tally} (t : Taken inner own exit r) (all : r.dwords ≤ 256) where
  pub taken_front : take r.dwords exit ≡ dwords_of inner
  taken_front =
      let n = t.tally.dwords_are in
      let whole : take 256 (dwords_of inner) ≡ dwords_of inner = take_all 256 (dwords_of inner) (omega arith) in
      rw (t.kept, whole, n) (take-append_seam (dwords_of inner) (drop (length (dwords_of inner)) own))

  pub taken_count : r.dwords ≡ length (take r.dwords exit)
  taken_count = t.tally.dwords_are ∙ sym (ap length taken_front)

  pub taken_fits : r.dwords ≤ length exit
  taken_fits = omega (arith, taken_count, length-take r.dwords exit)

-- the dwords of the pieces are the sentence's
pub dwords_in_is : (ps : List (List ℕ)) → Dwords ps (dwords_in ps)
unfolding dwords_in taken
dwords_in_is [] = Dwords.empty
dwords_in_is (p ∷ ps) = go (hex_number_of (2 ^ 32 - 1) p) refl (dwords_in_is ps)
  where
    go : (h : Option ℕ) → hex_number_of (2 ^ 32 - 1) p ≡ h → Dwords ps (dwords_in ps) →
        Dwords (p ∷ ps) (taken (piece_of p) (dwords_in ps))
    go (Some v) e r = rw (← piece_dword p e) (Dwords.dword (hex_is (2 ^ 32 - 1) e) r)
    go None e r =
        rw (← piece_bad p e)
        (Dwords.left_out (λ v n. let q : hex_number_of (2 ^ 32 - 1) p ≡ Some v = hex_all
        (2 ^ 32 - 1) n in let z : ◌≡◌ {A = ℕ} 0 1 = cc in omega arith) r)

pub dwords_in_all : {ps : List (List ℕ)} {ds : List ℕ} → Dwords ps ds → dwords_in ps ≡ ds
unfolding dwords_in taken
dwords_in_all Dwords.empty = refl
dwords_in_all (Dwords.dword {p = p} {v = v} {ps = ps} n r) =
    ap (λ (x : Option ℕ). taken x (dwords_in ps)) (sym (piece_dword p (hex_all (2 ^ 32 - 1) n))) ∙ ap
    (λ (x : List ℕ). v ∷ x) (dwords_in_all r)
dwords_in_all (Dwords.left_out {p = p} {ps = ps} n r) =
    ap (λ (x : Option ℕ). taken x (dwords_in ps)) (sym (piece_bad p unreadable)) ∙ dwords_in_all r
  where
    go : (h : Option ℕ) → hex_number_of (2 ^ 32 - 1) p ≡ h → h ≡ None
    go (Some v) e = absurd (n v (hex_is (2 ^ 32 - 1) e))
    go None e = refl

    unreadable : hex_number_of (2 ^ 32 - 1) p ≡ None
    unreadable = go (hex_number_of (2 ^ 32 - 1) p) refl

-- the ways of brackets
module _ (value : List ℕ) where
  pub inside_unopened : (get_or value 0 0 ≡ 91 → ⊥) → inside_of value ≡ None
  unfolding inside_of
  inside_unopened n = rw (ne_eqb _ _ n)

  module _ (c : ℕ) (c-is : c ≡ run_end (in_class NotClose) value 1) (opens : get_or value 0 0 ≡ 91) where
    pub inside_empty : c ≤ 1 → inside_of value ≡ None
    unfolding inside_of
    inside_empty h = rw (← c-is, eq-eqb _ _ opens, le-ltb 1 c h)

    pub inside_other : 1 < c → (c + 1 ≡ length value → ⊥) → inside_of value ≡ None
    unfolding inside_of
    inside_other h n = rw (← c-is, eq-eqb _ _ opens, lt-ltb 1 c h, ne_eqb _ _ n)

    pub inside_some : 1 < c → c + 1 ≡ length value → inside_of value ≡ span 1 c
    unfolding inside_of
    inside_some h e = rw (← c-is, eq-eqb _ _ opens, lt-ltb 1 c h, eq-eqb _ _ e)

  -- what found brackets tell
  record Opened (a b : ℕ) : Type 0 where
    from : 1 ≡ a
    to : run_end (in_class NotClose) value 1 ≡ b
    opens : get_or value 0 0 ≡ 91
    some : 1 < b
    ends : b + 1 ≡ length value

  inside_tells : {a b : ℕ} → inside_of value ≡ span a b → Opened a b
  unfolding inside_of
  inside_tells {a} {b} q = go (eqb (get_or value 0 0) 91 && ltb 1 c && eqb (c + 1) (length value)) refl
    where
      c : ℕ
      c = run_end (in_class NotClose) value 1

      go : (t : Bool) → (eqb (get_or value 0 0) 91 && ltb 1 c && eqb (c + 1) (length value)) ≡ t → Opened a b
      go true t =
          let same = same_span (let e : span 1 c ≡ span a b = rw t at q in e) in
          let to : c ≡ b = same.1 in
          let front = both_left _ _ t in
          let more : 1 < c = ltb-true _ _ (both_right (eqb (get_or value 0 0) 91) _ front) in
          let ends : c + 1 ≡ length value = eqb-true _ _ (both_right (eqb (get_or value 0 0) 91 && ltb 1 c) _ t) in
          record { from = same.0; to = to; opens = eqb-true _ _ (both_left _ _ front); some = omega arith; ends = omega arith }
      go false t =
          let same : None ≡ span a b = rw t at q in
          absurd (let z : ◌≡◌ {A = ℕ} 0 1 = cc in omega arith)

  -- what a caller is told of an answer
  pub bracketed : {r : Option Span} → r ≡ inside_of value → Bracketed value r
  bracketed {r = Some w} q = let o = inside_tells (sym q) in record { is = q; within = (omega (arith, o.from, o.some), omega (arith, o.ends)) }
  bracketed {r = None} q = record { is = q; within = tt }

-- brackets around one or more bytes other than `]` are found
module _ (inner : List ℕ) (some : 0 < length inner) (no_close : Inside (in_class NotClose) inner 0 (length inner)) where
  closed : List ℕ
  closed = 91 ∷ inner ++ (93 ∷ [])

  closed_length : length closed ≡ length inner + 2
  unfolding closed
  closed_length = omega (arith, length-append inner (93 ∷ []))

  closed_run : Run (in_class NotClose) closed 1 (length inner + 1)
  unfolding closed in_class
  closed_run =
      record {
        from = omega arith;
        within = omega (arith, length-append inner (93 ∷ []));
        inside = λ k a b. within k a b;
        stops =
            λ h. let e : length inner + 1 ≡ suc (length inner + 0) = omega arith in rw
            (e, get_or-append-add inner (93 ∷ []) 0 0);
      }
    where
      within : (k : ℕ) → 1 ≤ k → k < length inner + 1 → in_class NotClose (get_or (91 ∷ inner ++ (93 ∷ [])) k 0) ≡ true
      within zero a b = absurd (omega arith)
      within (suc k) a b = rw (get_or-append inner (93 ∷ []) 0 k (omega arith)) (no_close k (omega arith) (omega arith))

  inside_closed : inside_of closed ≡ span 1 (length inner + 1)
  unfolding closed
  inside_closed =
      inside_some closed (length inner + 1) (sym (run_all (in_class NotClose) closed closed_run)) refl (omega arith)
      (omega (arith, closed_length))

  inner_part : part closed 1 (length inner + 1) ≡ inner
  unfolding closed
  inner_part = take_at inner (93 ∷ []) (length inner + 1 - 1) (omega arith)

-- where the brackets of a value stand
module _ {value ds : List ℕ} (r : Data value ds) where
  pub data_stands : inside_of value ≡ span 1 (length r.inner + 1)
  unfolding closed
  data_stands = rw r.brackets (inside_closed r.inner r.some r.no_close)

  pub data_inner : part value 1 (length r.inner + 1) ≡ r.inner
  unfolding closed
  data_inner = rw r.brackets (inner_part r.inner r.some r.no_close)

pub data_all : {value ds : List ℕ} → Data value ds → data_of value ≡ Some ds
unfolding data_of data_in dwords_of
data_all {value} {ds} r =
    let found : inside_of value ≡ span 1 (length r.inner + 1) = data_stands r in
    let inner : part value 1 (length r.inner + 1) ≡ r.inner = data_inner r in
    rw found (ap Some (ap dwords_of inner ∙ ap dwords_in (cut_all r.cut_at) ∙ dwords_in_all r.dwords))

-- a value between brackets is what stands there
closed_whole : (value : List ℕ) (b : ℕ) → get_or value 0 0 ≡ 91 → 1 < b → b + 1 ≡ length value → get_or value b 0 ≡ 93 →
    value ≡ 91 ∷ part value 1 b ++ (93 ∷ [])
closed_whole [] b opens h e close = absurd (omega arith)
closed_whole (x ∷ t) zero opens h e close = absurd (omega arith)
closed_whole (x ∷ t) (suc b) opens h e close =
    let n : suc b - 1 ≡ b = omega arith in
    let first : x ≡ 91 = opens in
    let last : get_or t b 0 ≡ 93 = close in
    let over : drop (suc b) t ≡ [] = drop_of_length-le t {i = suc b} (omega arith) in
    let split : t ≡ take b t ++ (93 ∷ []) = split_at t b 0 (omega arith) ∙ rw (last, over) refl in
    rw (n, first) (ap (λ (l : List ℕ). 91 ∷ l) split)

pub data_is : {value ds : List ℕ} → data_of value ≡ Some ds → Data value ds
unfolding data_of data_in dwords_of
data_is {value} {ds} q = go (inside_of value) refl q
  where
    inner_some : {x y : List ℕ} → Some x ≡ Some y → x ≡ y
    inner_some e = cc

    found : (a b : ℕ) → inside_of value ≡ span a b → Some (dwords_of (part value a b)) ≡ Some ds → Data value ds
    found a b e t =
        let o = inside_tells value e in
        let r : Run (in_class NotClose) value 1 b =
        rw (← o.to) (run_is (in_class NotClose) value (omega (arith, o.ends, o.some))) in
        let near : b < length value = omega (arith, o.ends) in
        let is : dwords_of (part value 1 b) ≡ ds = rw o.from (inner_some t) in
        let size : length (part value 1 b) ≡ b - 1 =
        length-take-le (b - 1) (drop 1 value) (omega (arith, length-drop 1 value)) in
        record {
          inner = part value 1 b;
          brackets = closed_whole value b o.opens o.some o.ends (ends_close (r.stops near));
          some = omega (arith, o.some);
          no_close =
              λ k x y. rw (get_or-take (b - 1) (drop 1 value) k 0 (omega arith), get_or-drop 1 value k 0)
              (r.inside (1 + k) (omega arith) (omega arith));
          pieces = cut (part value 1 b);
          cut_at = cut_is (part value 1 b);
          dwords = rw (← is) (dwords_in_is (cut (part value 1 b)));
        }

    go : (r : Option Span) → inside_of value ≡ r → data_in value r ≡ Some ds → Data value ds
    go (Some w) e t = found w.from w.to e t
    go None e t = absurd (let z : ◌≡◌ {A = ℕ} 0 1 = cc in omega arith)

pub one_data : {value ds es : List ℕ} → Data value ds → Data value es → ds ≡ es
one_data a b = let x = data_all a in let y = data_all b in cc
