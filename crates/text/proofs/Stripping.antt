-- Stripping: the front is the run of blanks from the start, the back is the run of blanks that ends what is left, and both are longest
-- runs, so there is one text to be left. Assumes nothing.
use Prim.Native.Nat.{ℕ, suc, ◌+◌, ◌-◌, ◌≤◌, ◌<◌}
use mathlib.Core.Path.{◌≡◌, refl, sym, ap, ◌∙◌}
use mathlib.Core.Bool.{true, false}
use mathlib.Core.List.{List, [], ◌∷◌, ◌++◌}
use native.Mathlib.Omega.{arith}
use lib.ListN.{length, get_or, take, drop, length-append, length-drop, length-take, take-append-drop, get_or-append}
use lib.Seq.{take_all, take_at, drop_at, get_or-append-add, get_or-drop, get_or-take, length-take-le, drop-length, take-nil}
use Rattle.text.specs.Class.{is_blank}
use Rattle.text.specs.Run.{Run, RunBack, Stripped, run_end, run_start, stripped}
use Rattle.text.proofs.Places.{by_order}
use Rattle.text.proofs.Runs.{run_is, run_within, run_all, back_is, back_all}

-- the part of a slice from a place to its end
pub rest_is : (a : ℕ) (l : List ℕ) → take (length l - a) (drop a l) ≡ drop a l
rest_is a l = take_all (length l - a) (drop a l) (rw length-drop (omega arith))

-- the part up to a place within the text is as long as that place
pub part_length : (e : ℕ) (l : List ℕ) → e ≤ length l → e ≡ length (take e l)
part_length e l h = sym (length-take-le e l h)

module _ (s : List ℕ) where
  -- what code with two runs hands back
  pub stripped_by : {from to : ℕ} {r : List ℕ} → from ≡ run_end is_blank s 0 → r ≡ drop from s → to ≡ run_start is_blank r → take to r ≡ stripped s
  unfolding stripped
  stripped_by {from} {to} {r} a b c = rw (c, b, a)

  -- what is left lies behind the front within the text
  pub strip_size : run_end is_blank s 0 + length (stripped s) ≤ length s
  unfolding stripped
  strip_size =
      omega (arith, run_within is_blank s 0 (omega arith), length-drop (run_end is_blank s 0) s, length-take (run_start is_blank (drop (run_end is_blank s 0) s)) (drop (run_end is_blank s 0) s))

  pub strip_is : Stripped s (stripped s)
  unfolding stripped
  strip_is =
      let a : ℕ = run_end is_blank s 0 in
      let t : List ℕ = drop a s in
      let e : ℕ = run_start is_blank t in
      let r : Run is_blank s 0 a = run_is is_blank s (omega arith) in
      let q : RunBack is_blank t e = back_is is_blank t in
      let at : a ≤ length s = r.within in
      record {
        front = take a s;
        back = drop e t;
        whole = sym (take-append-drop a s) ∙ ap (λ (l : List ℕ). take a s ++ l) (sym (take-append-drop e t));
        front_blank = λ k h l. let m : k < a = omega (arith, length-take-le a s at) in rw (get_or-take a s k 0 m) (r.inside k h m);
        back_blank = λ k h l. rw (get_or-drop e t k 0) (q.inside (e + k) (omega arith) (omega (arith, length-drop e t, q.within)));
        starts = λ h. first_byte a t e refl r q h;
        ends = λ k h. let f : e ≡ suc k = sym (length-take-le e t q.within) ∙ h in rw (get_or-take e t k 0 (omega arith)) (q.stops k f);
      }
    where
      first_byte : (a : ℕ) (t : List ℕ) (e : ℕ) → t ≡ drop a s → Run is_blank s 0 a → RunBack is_blank t e → 0 < length (take e t) → is_blank (get_or (take e t) 0 0) ≡ false
      first_byte a t e d r q h =
          let m : 0 < e = omega (arith, length-take-le e t q.within) in
          let l : length t ≡ length s - a = rw d (length-drop a s) in
          let z : a + 0 ≡ a = omega arith in
          rw (get_or-take e t 0 0 m, d, get_or-drop a s 0 0, z) (r.stops (omega (arith, q.within)))

  -- the blanks in front of a text that has a byte are as many as the run of blanks is long
  pub front_size : {t : List ℕ} (r : Stripped s t) → 0 < length t → length r.front ≡ run_end is_blank s 0
  front_size {t} r some =
      sym (run_all is_blank s
      (record {
        from = omega arith;
        within = omega (arith, size);
        inside = λ k a b. rw (r.whole, get_or-append r.front (t ++ r.back) 0 k b) (r.front_blank k a b);
        stops = λ h. rw (r.whole, ← zero, get_or-append-add r.front (t ++ r.back) 0 0, get_or-append t r.back 0 0 some) (r.starts some);
      }))
    where
      size : length s ≡ length r.front + length (t ++ r.back)
      size = ap length r.whole ∙ length-append r.front (t ++ r.back)

      zero : length r.front + 0 ≡ length r.front
      zero = omega arith

  -- what is stripped is one text
  pub strip_all : {t : List ℕ} → Stripped s t → stripped s ≡ t
  unfolding stripped
  strip_all {t} w = by_order 0 (length t) (λ h. some h) (λ h. none (sym h)) (λ h. absurd (omega arith))
    where
      whole_length : length s ≡ length w.front + (length t + length w.back)
      whole_length = ap length w.whole ∙ length-append w.front (t ++ w.back) ∙ ap (λ (n : ℕ). length w.front + n) (length-append t w.back)

      in-front : (k : ℕ) → k < length w.front → get_or s k 0 ≡ get_or w.front k 0
      in-front k h = rw w.whole (get_or-append w.front (t ++ w.back) 0 k h)

      behind_front : (k : ℕ) → get_or s (length w.front + k) 0 ≡ get_or (t ++ w.back) k 0
      behind_front k = rw w.whole (get_or-append-add w.front (t ++ w.back) k 0)

      some : 0 < length t → take (run_start is_blank (drop (run_end is_blank s 0) s)) (drop (run_end is_blank s 0) s) ≡ t
      some h =
          let e : run_end is_blank s 0 ≡ length w.front = sym (front_size w h) in
          let d : drop (run_end is_blank s 0) s ≡ t ++ w.back = rw (e, w.whole) (drop_at w.front (t ++ w.back) (length w.front) refl) in
          let b : run_start is_blank (t ++ w.back) ≡ length t = back_all is_blank (t ++ w.back) (length t) back-run in
          rw (d, b) (take_at t w.back (length t) refl)
        where
          back-run : RunBack is_blank (t ++ w.back) (length t)
          back-run =
              record {
                within = omega (arith, length-append t w.back);
                inside = λ k a b. let n : length t + (k - length t) ≡ k = omega arith in rw (← n, get_or-append-add t w.back (k - length t) 0) (w.back_blank (k - length t) (omega arith) (omega (arith, length-append t w.back)));
                stops = λ k q. rw (get_or-append t w.back 0 k (omega arith)) (w.ends k q);
              }

      none : length t ≡ 0 → take (run_start is_blank (drop (run_end is_blank s 0) s)) (drop (run_end is_blank s 0) s) ≡ t
      none h =
          let e : run_end is_blank s 0 ≡ length s = run_all is_blank s blank-run in
          let d : drop (run_end is_blank s 0) s ≡ [] = rw e (drop-length s) in
          rw (d, take-nil (run_start is_blank [])) (sym (empty t h))
        where
          empty : (l : List ℕ) → length l ≡ 0 → l ≡ []
          empty [] q = refl
          empty (x ∷ l) q = absurd (omega arith)

          blank-at : (k : ℕ) → k < length s → is_blank (get_or s k 0) ≡ true
          blank-at k b =
              by_order k (length w.front) (λ l. rw (in-front k l) (w.front_blank k (omega arith) l))
              (λ q. in-back k (omega arith) b)
              (λ l. in-back k (omega arith) b)
            where
              in-back : (k : ℕ) → length w.front ≤ k → k < length s → is_blank (get_or s k 0) ≡ true
              in-back k a b =
                  let n : length w.front + (k - length w.front) ≡ k = omega arith in
                  let m : length t + (k - length w.front) ≡ k - length w.front = omega arith in
                  rw (← n, behind_front (k - length w.front), ← m, get_or-append-add t w.back (k - length w.front) 0)
                  (w.back_blank (k - length w.front) (omega arith) (omega (arith, whole_length)))

          blank-run : Run is_blank s 0 (length s)
          blank-run =
              record {
                from = omega arith;
                within = omega arith;
                inside = λ k a b. blank-at k b;
                stops = λ l. absurd (omega arith);
              }

  pub one_strip : {t u : List ℕ} → Stripped s t → Stripped s u → t ≡ u
  one_strip a b = sym (strip_all a) ∙ strip_all b
