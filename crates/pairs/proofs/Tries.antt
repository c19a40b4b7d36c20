-- A try at a pair: each repeated class is followed by a byte outside it, so a try has one word run, one `=` and one value, and the tests of
-- a try hold exactly where the sentence's record stands. Assumes nothing.
use Rattle.pairs.proofs.Ends.{same_hit}
use Rattle.std.specs.Prelude.{None, Option, Some}
use Prim.Native.Nat.{ℕ, ◌+◌, ◌≤◌, ◌<◌}
use mathlib.Core.Path.{◌≡◌, refl, sym, ap, ◌∙◌}
use mathlib.Core.Bool.{Bool, true, false, ◌&&◌}
use mathlib.Core.List.{List}
use native.Mathlib.Omega.{arith}
use lib.Dec.{ltb, eqb}
use lib.ListN.{length, get_or}
use borrow.Author.Tests.{lt-ltb, le-ltb, eq-eqb, ne_eqb, ltb-true, eqb-true, eqb-false, not-false}
use Rattle.text.specs.declared.class.Class.TheVariants.{NotClose}
use Rattle.text.specs.Class.{between, is_letter, is_digit, is_word, in_class}
use Rattle.text.specs.Run.{Run, run_end, run_start}
use Rattle.text.proofs.Places.{by_order, stands_within}
use Rattle.text.proofs.Runs.{run_is, run_all, run_over, run_stop, back_is}
use Rattle.text.proofs.Texts.{both_left, both_right}
use Rattle.pairs.specs.Pair.{Value, PairAt, bracket_end, value_end, with_value, pair_with, pair_at, hit}

-- brackets are no word
pub bracket_is_no_word : is_word 91 ≡ false
unfolding is_word is_letter is_digit between
bracket_is_no_word = refl

-- the one byte that is not other than `]`
pub close_ends : {b : ℕ} → b ≡ 93 → in_class NotClose b ≡ false
unfolding in_class
close_ends e = rw e

pub ends_close : {b : ℕ} → in_class NotClose b ≡ false → b ≡ 93
unfolding in_class
ends_close {b} e = eqb-true b 93 (not-false _ e)

module _ (s : List ℕ) where
  -- a run that is not empty starts within the text
  run_within_text : (i : ℕ) → i < run_end is_word s i → i < length s
  run_within_text i h =
      by_order i (length s) (λ l. l) (λ e. absurd (past (omega arith))) (λ l. absurd (past (omega arith)))
    where
      past : length s ≤ i → ⊥
      past l = omega (arith, run_over is_word s l)

  module _ (v : ℕ) where
    -- the ways of brackets
    pub no_bracket : (get_or s v 0 ≡ 91 → ⊥) → bracket_end s v ≡ None
    unfolding bracket_end
    no_bracket n = rw (ne_eqb _ _ n)

    module _ (c : ℕ) (c-is : c ≡ run_end (in_class NotClose) s (v + 1)) (opens : get_or s v 0 ≡ 91) where
      pub bracket-empty : c ≤ v + 1 → bracket_end s v ≡ None
      unfolding bracket_end
      bracket-empty l = rw (← c-is, eq-eqb _ _ opens, le-ltb (v + 1) c l)

      pub bracket-unclosed : v + 1 < c → length s ≤ c → bracket_end s v ≡ None
      unfolding bracket_end
      bracket-unclosed h l = rw (← c-is, eq-eqb _ _ opens, lt-ltb (v + 1) c h, le-ltb c (length s) l)

      pub bracket-closed : v + 1 < c → c < length s → bracket_end s v ≡ Some (c + 1)
      unfolding bracket_end
      bracket-closed h l = rw (← c-is, eq-eqb _ _ opens, lt-ltb (v + 1) c h, lt-ltb c (length s) l)

    -- from the start of the run that ends the text without `]`, no brackets are closed
    pub bracket_behind : {tail : ℕ} → tail ≡ run_start (in_class NotClose) s → tail ≤ v → bracket_end s v ≡ None
    bracket_behind {tail} t-is l = go (eqb (get_or s v 0) 91) refl
      where
        go : (b : Bool) → eqb (get_or s v 0) 91 ≡ b → bracket_end s v ≡ None
        go false t = no_bracket (eqb-false _ _ t)
        go true t =
            let opens : get_or s v 0 ≡ 91 = eqb-true _ _ t in
            let in-text : v < length s = stands_within s v (λ e. absurd (omega arith)) in
            let whole : run_end (in_class NotClose) s (v + 1) ≡ length s =
            run_all (in_class NotClose) s
            (record {
              from = omega arith;
              within = omega arith;
              inside = λ k a b. (back_is (in_class NotClose) s).inside k (omega arith) b;
              stops = λ h. absurd (omega arith);
            }) in
            by_order (v + 1) (length s) (λ h. bracket-unclosed (length s) (sym whole) opens h (omega arith))
            (λ h. bracket-empty (length s) (sym whole) opens (omega arith))
            (λ h. bracket-empty (length s) (sym whole) opens (omega arith))

    -- the ways of a value
    pub value_word : {e : ℕ} → e ≡ run_end is_word s v → v < e → value_end s v ≡ Some e
    unfolding value_end
    value_word {e} e-is h = rw (← e-is, lt-ltb v e h)

    pub value_bracket : {e : ℕ} → e ≡ run_end is_word s v → e ≤ v → value_end s v ≡ bracket_end s v
    unfolding value_end
    value_bracket {e} e-is h = rw (← e-is, le-ltb v e h)

    -- the end that is found is a value's, and a value's end is found
    bracket_is : {e : ℕ} → bracket_end s v ≡ Some e → Value s v e
    unfolding bracket_end
    bracket_is {e} q = go (eqb (get_or s v 0) 91 && ltb (v + 1) c && ltb c (length s)) refl
      where
        c : ℕ
        c = run_end (in_class NotClose) s (v + 1)

        go : (b : Bool) → (eqb (get_or s v 0) 91 && ltb (v + 1) c && ltb c (length s)) ≡ b → Value s v e
        go true t =
            let same : Some (c + 1) ≡ Some e = rw t at q in
            let e-is : c + 1 ≡ e = cc in
            let front = both_left _ _ t in
            let below : c < length s = ltb-true _ _ (both_right (eqb (get_or s v 0) 91 && ltb (v + 1) c) _ t) in
            let more : v + 1 < c = ltb-true _ _ (both_right (eqb (get_or s v 0) 91) _ front) in
            let r : Run (in_class NotClose) s (v + 1) c = run_is (in_class NotClose) s (omega arith) in
            Value.bracket c (eqb-true _ _ (both_left _ _ front)) more r.inside (ends_close (r.stops below)) (sym e-is)
        go false t =
            let same : None ≡ Some e = rw t at q in
            absurd (let z : ◌≡◌ {A = ℕ} 0 1 = cc in omega arith)

    pub value_is : {e : ℕ} → value_end s v ≡ Some e → Value s v e
    unfolding value_end
    value_is {e} q = go (ltb v (run_end is_word s v)) refl
      where
        go : (b : Bool) → ltb v (run_end is_word s v) ≡ b → Value s v e
        go true t =
            let same : Some (run_end is_word s v) ≡ Some e = rw t at q in
            let e-is : run_end is_word s v ≡ e = cc in
            let some : v < run_end is_word s v = ltb-true _ _ t in
            let in-text : v < length s = run_within_text v some in
            rw (← e-is) (Value.word some (run_is is_word s (omega arith)))
        go false t = bracket_is (rw t at q)

    pub value_all : {e : ℕ} → Value s v e → value_end s v ≡ Some e
    value_all (Value.word h r) = value_word (sym (run_all is_word s r)) h
    value_all {e} (Value.bracket c opens more ins closes e-is) =
        let in-text : v < length s = stands_within s v (λ z. absurd (omega arith)) in
        let close-in : c < length s = stands_within s c (λ z. absurd (omega arith)) in
        let no_word_lem : is_word (get_or s v 0) ≡ false = rw opens bracket_is_no_word in
        let c-is : run_end (in_class NotClose) s (v + 1) ≡ c =
        run_all (in_class NotClose) s
        (record { from = omega arith; within = omega arith; inside = ins; stops = λ h. close_ends closes }) in
        value_bracket (sym (run_stop is_word s in-text no_word_lem)) (omega arith)
        ∙ bracket-closed c (sym c-is) opens more close-in
        ∙ ap Some (sym e-is)

    -- a value is not empty and ends within the text
    pub value_up : {e : ℕ} → Value s v e → v < e
    value_up (Value.word h r) = h
    value_up (Value.bracket c opens more ins closes e-is) = omega arith

    pub value_within : {e : ℕ} → Value s v e → e ≤ length s
    value_within (Value.word h r) = r.within
    value_within (Value.bracket c opens more ins closes e-is) =
        let close-in : c < length s = stands_within s c (λ z. absurd (omega arith)) in
        omega arith

  -- the ways of a try
  module _ (i m : ℕ) where
    pub try_empty : m ≤ i → pair_with s i m ≡ None
    unfolding pair_with
    try_empty h = rw (le-ltb i m h)

    module _ (some : i < m) where
      pub try-unequal : (get_or s m 0 ≡ 61 → ⊥) → pair_with s i m ≡ None
      unfolding pair_with
      try-unequal n = rw (lt-ltb i m some, ne_eqb _ _ n)

      pub try-value : get_or s m 0 ≡ 61 → pair_with s i m ≡ with_value i m (value_end s (m + 1))
      unfolding pair_with
      try-value e = rw (lt-ltb i m some, eq-eqb _ _ e)

      pub try-hits : {e : ℕ} → get_or s m 0 ≡ 61 → value_end s (m + 1) ≡ Some e → pair_with s i m ≡ hit i m e
      unfolding with_value
      try-hits q v = try-value q ∙ rw v

      pub try-misses : get_or s m 0 ≡ 61 → value_end s (m + 1) ≡ None → pair_with s i m ≡ None
      unfolding with_value
      try-misses q v = try-value q ∙ rw v

  -- what a hit tells of its try
  pub record Tried (i m a b e : ℕ) : Type 0 where
    pub key : i ≡ a
    pub equals : m ≡ b
    pub some : i < m
    pub sign : get_or s m 0 ≡ 61
    pub value : value_end s (m + 1) ≡ Some e

  pub try_tells : {i m a b e : ℕ} → pair_with s i m ≡ hit a b e → Tried i m a b e
  try_tells {i} {m} {a} {b} {e} q =
      by_order i m (λ h. go (eqb (get_or s m 0) 61) refl h) (λ h. no (try_empty i m (omega arith)))
      (λ h. no (try_empty i m (omega arith)))
    where
      no : {A : Type 0} → pair_with s i m ≡ None → A
      no n = absurd (let z : ◌≡◌ {A = ℕ} 0 1 = cc in omega arith)

      found : i < m → get_or s m 0 ≡ 61 → (f : Option ℕ) → value_end s (m + 1) ≡ f → Tried i m a b e
      found h t (Some x) v =
          let same = same_hit (sym (try-hits i m h t v) ∙ q) in
          record { key = same.0; equals = same.1; some = h; sign = t; value = v ∙ ap Some same.2 }
      found h t None v = no (try-misses i m h t v)

      go : (x : Bool) → eqb (get_or s m 0) 61 ≡ x → i < m → Tried i m a b e
      go true t h = found h (eqb-true _ _ t) (value_end s (m + 1)) refl
      go false t h = no (try-unequal i m h (eqb-false _ _ t))

  -- a match starts at a place exactly where the sentence's record stands
  pub pair_at_is : {i a m e : ℕ} → pair_at s i ≡ hit a m e → (i ≡ a) × PairAt s i m e
  unfolding pair_at
  pair_at_is {i} {a} {m} {e} q =
      let t = try_tells q in
      let in-text : i < length s = run_within_text i t.some in
      let m-is : run_end is_word s i ≡ m = t.equals in
      (t.key, rw (← m-is) (record { some = t.some; key = run_is is_word s (omega arith); equals = t.sign; value = value_is _ t.value }))

  pub pair_at_all : {i m e : ℕ} → PairAt s i m e → pair_at s i ≡ hit i m e
  unfolding pair_at
  pair_at_all {i} {m} {e} r =
      rw (run_all is_word s r.key) (try-hits i m r.some r.equals (value_all (m + 1) r.value))

  -- where the run from i gives a miss, so does every try from within it, and from the byte behind it
  pub miss_within : (i m : ℕ) → i ≤ length s → m ≡ run_end is_word s i → pair_with s i m ≡ None → (k : ℕ) → i ≤ k →
      k ≤ m → pair_at s k ≡ None
  unfolding pair_at
  miss_within i m in-text m-is miss k low high =
      by_order k m (λ h. inside h) (λ h. rw (h, run-at-end) (try_empty m m (omega arith))) (λ h. absurd (omega arith))
    where
      r : Run is_word s i m
      r = rw m-is (run_is is_word s in-text)

      run-at-end : run_end is_word s m ≡ m
      run-at-end =
          by_order m (length s) (λ h. run_stop is_word s h (r.stops h)) (λ h. run_over is_word s (omega arith))
          (λ h. run_over is_word s (omega arith))

      inside : k < m → pair_with s k (run_end is_word s k) ≡ None
      inside h =
          let k-run : run_end is_word s k ≡ m =
          run_all is_word s
          (record { from = omega arith; within = r.within; inside = λ j a b. r.inside j (omega arith) b; stops = r.stops }) in
          rw k-run (go (eqb (get_or s m 0) 61) refl)
        where
          found : get_or s m 0 ≡ 61 → (f : Option ℕ) → value_end s (m + 1) ≡ f → pair_with s k m ≡ None
          found t (Some x) v =
              let found : pair_with s i m ≡ hit i m x = try-hits i m (omega arith) t v in
              absurd (let z : ◌≡◌ {A = ℕ} 0 1 = cc in omega arith)
          found t None v = try-misses k m h t v

          go : (x : Bool) → eqb (get_or s m 0) 61 ≡ x → pair_with s k m ≡ None
          go true t = found (eqb-true _ _ t) (value_end s (m + 1)) refl
          go false t = try-unequal k m h (eqb-false _ _ t)
