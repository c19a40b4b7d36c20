-- Step 3 goes from offset to offset: behind each, what is latched and the places so far say the same about the rest as step 3 does about all.
-- The entries of the latched type are laid out when it is known, so the fitting entry is read off two lists. Assumes nothing.
use Rattle.std.specs.Prelude.{IfSome, None, Option, Some}
use Rattle.std.specs.Option.{is_some}
use Prim.Native.Nat.{ℕ, zero, suc, ◌+◌, ◌≤◌, ◌<◌}
use mathlib.Core.Path.{◌≡◌, refl, sym, ap, ap₂, ◌∙◌}
use mathlib.Core.Bool.{Bool, true, false, false≢true}
use mathlib.Core.Logic.{◌⊎◌, inl, inr}
use mathlib.Core.List.{List, [], ◌∷◌, ◌++◌, append-nil}
use native.Mathlib.Omega.{arith}
use borrow.Author.Tests.{eq-eqb, ne_eqb}
use lib.ListN.{length, get_or, take, drop, set, replicate, length-append, length-set, length-replicate, get_or-replicate, drop_of_length-le}
use lib.Seq.{drop-cons, take-suc-set, drop-set-lt, append_snoc, take_all, take_at, length-take-le}
use Rattle.book.specs.Finders.{place_of}
use Rattle.packet.specs.declared.fill.Pick.TheVariants.{Typed}
use Rattle.packet.specs.Field.{or_else, name_in}
use Rattle.packet.specs.Steps.{map_from, entry_of, filled, fitting, type_in, latch_behind, protocol_from, protocol_places}
use Rattle.packet.specs.Inner.{laid_out, Spread, Latched}
use Rattle.packet.proofs.Fields.{none_else, else_same}
use Rattle.packet.proofs.Filling.{length_filled}

-- ---- one dword

module _ (s : List ℕ) (table found entry dword : ℕ) (typed : List ℕ) where
  -- what is latched stays
  pub latched_stays : (latched : ℕ) → (latched ≡ 0 → ⊥) → Latched s table latched found entry dword typed typed latched
  unfolding latch_behind laid_out
  latched_stays zero n = absurd (n refl)
  latched_stays (suc l) n = record { latch = refl; entries = refl }

  -- nothing fits, nothing latches
  pub none_found : (latched : ℕ) → latched ≡ 0 → found ≡ 0 → Latched s table latched found entry dword typed typed 0
  unfolding latch_behind laid_out
  none_found zero e f = record { latch = rw (eq-eqb found 0 f); entries = refl }
  none_found (suc l) e f = absurd (omega arith)

  -- a value without a name does not latch
  -- what is latched stays, and where no entry was found nothing is latched
  pub latch_kept : (o : Option ℕ) → IfSome o (λ p. 0 < p) → {b : Bool} → b ≡ is_some o → (b ≡ true) ⊎ ((b ≡ false) × (found ≡ 0))
      → Latched s table (place_of o) found entry dword typed typed (place_of o) × IfSome o (λ p. 0 < p)
  latch_kept (Some p) h e w = (latched_stays p (λ z. omega (arith, h, z)), h)
  latch_kept None h e (inl t) = absurd (false≢true (sym e ∙ t))
  latch_kept None h e (inr w) = (none_found 0 refl w.1, tt)

  -- nothing was latched
  pub not_latched : (o : Option ℕ) → {b : Bool} → b ≡ is_some o → b ≡ false → place_of o ≡ 0
  not_latched (Some p) e h = absurd (false≢true (sym h ∙ e))
  not_latched None e h = refl

  pub none_named : (latched r : ℕ) → latched ≡ 0 → (found ≡ 0 → ⊥) → r ≡ type_in s entry dword → r ≡ 0
      → Latched s table latched found entry dword typed typed 0
  unfolding latch_behind laid_out
  none_named zero r e n t z = record { latch = rw (ne_eqb found 0 n) (sym z ∙ t); entries = refl }
  none_named (suc l) r e n t z = absurd (omega arith)

  -- a name latches, and the entries of that type are laid out
  pub newly_latched : (latched r : ℕ) → latched ≡ 0 → (found ≡ 0 → ⊥) → r ≡ type_in s entry dword → (r ≡ 0 → ⊥)
      → {exit : List ℕ} → exit ≡ filled (entry_of Typed (name_in s r) s table) typed → Latched s table latched found entry dword typed exit r
  unfolding latch_behind laid_out
  newly_latched zero zero e n t m f = absurd (m refl)
  newly_latched zero (suc r) e n t m f = record { latch = rw (ne_eqb found 0 n) t; entries = f }
  newly_latched (suc l) r e n t m f = absurd (omega arith)

-- ---- what was laid out

get_d_map_from : (f : ℕ → ℕ → ℕ) (k : ℕ) (m : List ℕ) (j : ℕ) → j < length m → get_or (map_from f k m) j 0 ≡ f (k + j) (get_or m j 0)
unfolding map_from
get_d_map_from f k [] j lt = absurd (omega arith)
get_d_map_from f k (p ∷ m) zero lt = let e : k ≡ k + 0 = omega arith in ap (λ (n : ℕ). f n p) e
get_d_map_from f k (p ∷ m) (suc j) lt =
    let e : suc k + j ≡ k + suc j = omega arith in
    get_d_map_from f (suc k) m j (omega arith) ∙ ap (λ (n : ℕ). f n (get_or m j 0)) e

-- zeros that were filled hold the entry of each offset
laid : (e : ℕ → ℕ) (n j : ℕ) → j < n → get_or (filled e (replicate n 0)) j 0 ≡ e j
unfolding filled
laid e n j lt =
    let size : length {A = ℕ} (replicate n 0) ≡ n = length-replicate n 0 in
    let here : 0 + j ≡ j = omega arith in
    get_d_map_from (λ i p. or_else p (e i)) 0 (replicate n 0) j (omega arith)
    ∙ none_else (e (0 + j)) (get_or (replicate n 0) j 0) (get_or-replicate n j 0 0 lt)
    ∙ ap e here

-- ---- the two lists, of which as many places are lent as there are dwords

take_zeros : (n k : ℕ) → n ≤ k → take n (replicate k 0) ≡ replicate {A = ℕ} n 0
take_zeros zero k le = refl
take_zeros (suc n) zero le = absurd (omega arith)
take_zeros (suc n) (suc k) le = ap (◌∷◌ 0) (take_zeros n k (omega arith))

module _ (s : List ℕ) (table : ℕ) (ds : List ℕ) (few : length ds ≤ 256) {exit : List ℕ}
    (fills : exit ≡ filled (entry_of Typed [] s table) (take (length ds) (replicate 256 0))) where
  pub length_laid : length exit ≡ length ds
  length_laid =
      ap length fills ∙ length_filled (entry_of Typed [] s table) (take (length ds) (replicate 256 0))
      ∙ length-take-le (length ds) (replicate 256 0) (omega (arith, few, length-replicate {A = ℕ} 256 0))

  laid_front : take (length ds) (exit ++ drop (length ds) (replicate 256 0)) ≡ exit
  laid_front = take_at exit (drop (length ds) (replicate 256 0)) (length ds) length_laid

  -- room for the dwords
  pub laid_room : length ds ≤ length (exit ++ drop (length ds) (replicate 256 0))
  laid_room = omega (arith, length-append exit (drop (length ds) (replicate 256 0)), length_laid)

  pub laid_lent : length ds ≡ length (take (length ds) (exit ++ drop (length ds) (replicate 256 0)))
  laid_lent = sym (ap length laid_front ∙ length_laid)

  -- what is lent to the walk
  pub spread : length s ≤ 65535 → (ps : List ℕ) → length ps ≡ length ds
      → Spread s table ds ps (take (length ds) (exit ++ drop (length ds) (replicate 256 0))) (take (length ds) (replicate 256 0))
  spread fits ps n =
      record {
        book_fits = fits;
        places_fit = n;
        untyped = laid_front ∙ fills ∙ ap (filled (entry_of Typed [] s table)) (take_zeros (length ds) 256 few);
        none_typed = take_zeros (length ds) 256 few;
      }

-- ---- offset by offset

module _ (s : List ℕ) (table : ℕ) (ds m₀ plain : List ℕ) where
  pub record Through (typed : List ℕ) (latched i : ℕ) (m : List ℕ) : Type 0 where
    pub within : i ≤ length ds
    pub size : length m ≡ length ds
    pub room : length typed ≡ length ds
    pub same : take i m ++ protocol_from s table latched i (drop i ds) (drop i m) ≡ protocol_from s table 0 0 ds m₀
    pub fits : (j : ℕ) → j < length ds → or_else (get_or typed j 0) (get_or plain j 0) ≡ fitting s table j latched
    pub empty : latched ≡ 0 → typed ≡ replicate (length ds) 0

  plain_at : plain ≡ filled (entry_of Typed [] s table) (replicate (length ds) 0) → (j : ℕ) → j < length ds → get_or plain j 0 ≡ entry_of Typed [] s table j
  plain_at is j lt = ap (λ (l : List ℕ). get_or l j 0) is ∙ laid (entry_of Typed [] s table) (length ds) j lt

  -- before the first offset nothing is latched
  pub through_start : {typed : List ℕ} → Spread s table ds m₀ plain typed → Through typed 0 0 m₀
  unfolding fitting
  through_start {typed} p =
      record {
        within = omega arith;
        size = p.places_fit;
        room = ap length p.none_typed ∙ length-replicate (length ds) 0;
        same = refl;
        fits =
            λ j lt.
            none_else (get_or plain j 0) (get_or typed j 0) (ap (λ (l : List ℕ). get_or l j 0) p.none_typed ∙ get_or-replicate (length ds) j 0 0 lt)
            ∙ plain_at p.untyped j lt ∙ sym (else_same (entry_of Typed [] s table j));
        empty = λ e. p.none_typed;
      }

  module _ (plain-is : plain ≡ filled (entry_of Typed [] s table) (replicate (length ds) 0)) {typed : List ℕ} {latched i : ℕ} {m : List ℕ} (t : Through typed latched i m) (lt : i < length ds) (found entry r : ℕ)
      (f : found ≡ or_else (get_or typed i 0) (get_or plain i 0)) (e : entry ≡ or_else (get_or m i 0) found) (exit : List ℕ)
      (l : Latched s table latched found entry (get_or ds i 0) typed exit r) where
    next_same : take (i + 1) (set m i entry) ++ protocol_from s table r (i + 1) (drop (i + 1) ds) (drop (i + 1) (set m i entry)) ≡ protocol_from s table 0 0 ds m₀
    unfolding protocol_from
    next_same =
        let up : suc i ≡ i + 1 = omega arith in
        let inside : i < length m = omega (arith, t.size) in
        let fit : found ≡ fitting s table i latched = f ∙ t.fits i lt in
        let rest : protocol_from s table latched i (drop i ds) (drop i m) ≡ entry ∷ protocol_from s table r (suc i) (drop (suc i) ds) (drop (suc i) m) =
        ap₂ (protocol_from s table latched i) (drop-cons ds i 0 lt) (drop-cons m i 0 inside)
        ∙ rw (← fit, ← e, ← l.latch)
        in
        ap (λ (k : ℕ). take k (set m i entry) ++ protocol_from s table r k (drop k ds) (drop k (set m i entry))) (sym up)
        ∙ ap₂ ◌++◌ (take-suc-set m i entry inside) (ap (protocol_from s table r (suc i) (drop (suc i) ds)) (drop-set-lt (suc i) m i entry (omega arith)))
        ∙ append_snoc (take i m) entry (protocol_from s table r (suc i) (drop (suc i) ds) (drop (suc i) m))
        ∙ sym (ap (◌++◌ (take i m)) rest) ∙ t.same

    record Laid : Type 0 where
      pub room : length exit ≡ length ds
      pub fits : (j : ℕ) → j < length ds → or_else (get_or exit j 0) (get_or plain j 0) ≡ fitting s table j r
      pub empty : r ≡ 0 → exit ≡ replicate (length ds) 0

    -- what was laid out stays
    kept : exit ≡ typed → r ≡ latched → Laid
    kept x q =
        record {
          room = ap length x ∙ t.room;
          fits =
              λ j lt. ap (λ (l : List ℕ). or_else (get_or l j 0) (get_or plain j 0)) x ∙ t.fits j lt ∙ ap (fitting s table j) (sym q);
          empty = λ z. x ∙ t.empty (sym q ∙ z);
        }

    by_latch : (latched' r' : ℕ) → latched ≡ latched' → r ≡ r' → exit ≡ laid_out s table latched' r' typed
        → latch_behind s found entry (get_or ds i 0) latched' ≡ r' → Laid
    unfolding laid_out latch_behind fitting
    by_latch (suc k) r' a b x q = kept x (b ∙ sym q ∙ sym a)
    by_latch zero zero a b x q = kept x (b ∙ sym a)
    by_latch zero (suc k) a b x q =
        let out : exit ≡ filled (entry_of Typed (name_in s (suc k)) s table) (replicate (length ds) 0) =
        x ∙ ap (filled (entry_of Typed (name_in s (suc k)) s table)) (t.empty a)
        in
        record {
          room = ap length x ∙ length_filled (entry_of Typed (name_in s (suc k)) s table) typed ∙ t.room;
          fits =
              λ j lt.
              ap₂ or_else
              (ap (λ (l : List ℕ). get_or l j 0) out ∙ laid (entry_of Typed (name_in s (suc k)) s table) (length ds) j lt)
              (plain_at plain-is j lt)
              ∙ ap (fitting s table j) (sym b);
          empty = λ z. absurd (omega (arith, z, b));
        }

    laid_behind : Laid
    laid_behind = by_latch latched r refl refl l.entries (sym l.latch)

    -- behind a dword
    pub through_next : Through exit r (i + 1) (set m i entry)
    through_next =
        record {
          within = omega arith;
          size = length-set m i entry ∙ t.size;
          room = laid_behind.room;
          same = next_same;
          fits = laid_behind.fits;
          empty = laid_behind.empty;
        }

  -- behind the last
  pub through_end : {typed : List ℕ} {latched i : ℕ} {m : List ℕ} → Through typed latched i m → length ds ≤ i → m ≡ protocol_places s table ds m₀
  unfolding protocol_places protocol_from
  through_end {typed} {latched} {i} {m} t h =
      let over : drop i m ≡ [] = drop_of_length-le m {i = i} (omega (arith, t.size)) in
      let done : drop i ds ≡ [] = drop_of_length-le ds {i = i} h in
      sym (append-nil m)
      ∙ ap₂ ◌++◌ (sym (take_all i m (omega (arith, t.size)))) (sym (ap₂ (protocol_from s table latched i) done over))
      ∙ t.same
