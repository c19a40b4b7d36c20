-- What parts of a stream end and leave open, one part after the other, is what the whole stream ends and leaves open; and over a whole
-- stream that is its units, each cut to what is kept. Assumes nothing.
use Prim.Native.Nat.{ℕ, zero, suc, min, ◌+◌, ◌*◌, ◌-◌, ◌≤◌, ◌<◌}
use mathlib.Core.Path.{◌≡◌, refl, sym, ap, ◌∙◌}
use mathlib.Core.Bool.{Bool, true, false, cond, ◌&&◌}
use mathlib.Core.List.{List, [], ◌∷◌, ◌++◌, map, append_assoc, append-nil}
use native.Mathlib.Omega.{arith}
use lib.Dec.{eqb, leb}
use lib.ListN.{length, get_or, take, length-append, length-take}
use lib.Seq.{take_all, take-nil, get_or-append_seam}
use borrow.Author.Tests.{ne_eqb}
use Rattle.text.proofs.Places.{by_order}
use Rattle.framing.specs.declared.Framing.{Framing}
use Rattle.framing.specs.declared.Framing.TheVariants as F
use Rattle.framing.specs.Units.{stated_size, is_whole, closed, units_from, units_of}
use Rattle.framing.specs.Feeding.{ended, left}

-- cutting before more comes changes nothing that is kept
pub take_keep : (cap : ℕ) (x y : List ℕ) → take cap (take cap x ++ y) ≡ take cap (x ++ y)
take_keep zero x y = refl
take_keep (suc cap) [] y = refl
take_keep (suc cap) (a ∷ x) y = ap (λ (l : List ℕ). a ∷ l) (take_keep cap x y)

pub and_false : (b : Bool) → b && false ≡ false
and_false true = refl
and_false false = refl

-- a record has at most 65,538 bytes
pub stated_short : (s : List ℕ) → stated_size s ≤ 65538
unfolding stated_size
stated_short s = go (leb 3 (length s) && eqb (get_or s 0 0) 0xA1)
  where
    go : (b : Bool) → cond b (3 + min (get_or s 1 0 + 256 * get_or s 2 0) 65535) 0 ≤ 65538
    go true = omega arith
    go false = omega arith

long_open : (u : List ℕ) → 65538 < length u → is_whole F.Records u ≡ false
unfolding is_whole
long_open u h = rw (ne_eqb (length u) (stated_size u) (λ e. omega (arith, stated_short u))) (and_false (leb 3 (length u)))

-- a line is whole by its last byte alone
pub line_whole : (u : List ℕ) (b : ℕ) → is_whole F.Lines (u ++ (b ∷ [])) ≡ eqb b 10
unfolding is_whole
line_whole u b =
    let n : length (u ++ (b ∷ [])) - 1 ≡ length u = omega (arith, length-append u (b ∷ [])) in
    rw (n, get_or-append_seam u b [] 0)

-- what is kept of a unit tells where it ends
keeps_end : (f : Framing) (cap : ℕ) → 65539 ≤ cap → (u : List ℕ) (b : ℕ) → is_whole f (take cap u ++ (b ∷ [])) ≡ is_whole f (u ++ (b ∷ []))
keeps_end F.Lines cap p u b = line_whole (take cap u) b ∙ sym (line_whole u b)
keeps_end F.Records cap p u b =
    by_order cap (length u) long (λ e. short (omega arith)) (λ h. short (omega arith))
  where
    short : length u ≤ cap → is_whole F.Records (take cap u ++ (b ∷ [])) ≡ is_whole F.Records (u ++ (b ∷ []))
    short h = rw (take_all cap u h)

    long : cap < length u → is_whole F.Records (take cap u ++ (b ∷ [])) ≡ is_whole F.Records (u ++ (b ∷ []))
    long h =
        long_open (take cap u ++ (b ∷ [])) (omega (arith, length-append (take cap u) (b ∷ []), length-take cap u))
        ∙ sym (long_open (u ++ (b ∷ [])) (omega (arith, length-append u (b ∷ []))))

module _ (f : Framing) (cap : ℕ) where
  -- two parts, one after the other
  pub ended_append : (held a b : List ℕ) → ended f cap held (a ++ b) ≡ ended f cap held a ++ ended f cap (left f cap held a) b
  unfolding ended left
  ended_append held [] b = refl
  ended_append held (x ∷ a) b = go (is_whole f (held ++ (x ∷ []))) (ended_append [] a b) (ended_append (take cap (held ++ (x ∷ []))) a b)
    where
      go : (t : Bool) → ended f cap [] (a ++ b) ≡ ended f cap [] a ++ ended f cap (left f cap [] a) b → ended f cap (take cap (held ++ (x ∷ []))) (a ++ b) ≡ ended f cap (take cap (held ++ (x ∷ []))) a ++ ended f cap (left f cap (take cap (held ++ (x ∷ []))) a) b → cond t (take cap (held ++ (x ∷ [])) ∷ ended f cap [] (a ++ b)) (ended f cap (take cap (held ++ (x ∷ []))) (a ++ b)) ≡ cond t (take cap (held ++ (x ∷ [])) ∷ ended f cap [] a) (ended f cap (take cap (held ++ (x ∷ []))) a) ++ ended f cap (cond t (left f cap [] a) (left f cap (take cap (held ++ (x ∷ []))) a)) b
      go true p q = ap (λ (l : List (List ℕ)). take cap (held ++ (x ∷ [])) ∷ l) p
      go false p q = q

  pub left_append : (held a b : List ℕ) → left f cap held (a ++ b) ≡ left f cap (left f cap held a) b
  unfolding left
  left_append held [] b = refl
  left_append held (x ∷ a) b = go (is_whole f (held ++ (x ∷ []))) (left_append [] a b) (left_append (take cap (held ++ (x ∷ []))) a b)
    where
      go : (t : Bool) → left f cap [] (a ++ b) ≡ left f cap (left f cap [] a) b → left f cap (take cap (held ++ (x ∷ []))) (a ++ b) ≡ left f cap (left f cap (take cap (held ++ (x ∷ []))) a) b → cond t (left f cap [] (a ++ b)) (left f cap (take cap (held ++ (x ∷ []))) (a ++ b)) ≡ left f cap (cond t (left f cap [] a) (left f cap (take cap (held ++ (x ∷ []))) a)) b
      go true p q = p
      go false p q = q

  module _ (enough : 65539 ≤ cap) where
    -- what stays open only grows
    pub open_part : (u d : List ℕ) → ((k : ℕ) → 0 < k → k ≤ length d → is_whole f (u ++ take k d) ≡ false) → (ended f cap (take cap u) d ≡ []) × (left f cap (take cap u) d ≡ take cap (u ++ d))
    unfolding ended left
    open_part u [] o = (refl, rw (append-nil u))
    open_part u (b ∷ d) o =
        let w : is_whole f (take cap u ++ (b ∷ [])) ≡ false = keeps_end f cap enough u b ∙ o 1 (omega arith) (omega arith) in
        let x = open_part (u ++ (b ∷ [])) d (λ k h l. rw (append_assoc u (b ∷ []) (take k d)) (o (suc k) (omega arith) (omega arith))) in
        (rw (w, take_keep cap u (b ∷ [])) x.0, rw (w, take_keep cap u (b ∷ [])) (x.1 ∙ rw (append_assoc u (b ∷ []) d)))

    -- what is whole with its last byte is ended by it
    pub whole_part : (u d : List ℕ) (b : ℕ) → ((k : ℕ) → 0 < k → k ≤ length d → is_whole f (u ++ take k d) ≡ false) → is_whole f (u ++ (d ++ (b ∷ []))) ≡ true → (ended f cap (take cap u) (d ++ (b ∷ [])) ≡ take cap (u ++ (d ++ (b ∷ []))) ∷ []) × (left f cap (take cap u) (d ++ (b ∷ [])) ≡ [])
    unfolding ended left
    whole_part u d b o w =
        let x = open_part u d o in
        let joined : (u ++ d) ++ (b ∷ []) ≡ u ++ (d ++ (b ∷ [])) = append_assoc u d (b ∷ []) in
        let t : is_whole f (take cap (u ++ d) ++ (b ∷ [])) ≡ true = keeps_end f cap enough (u ++ d) b ∙ rw joined w in (
          ended_append (take cap u) d (b ∷ []) ∙ rw (x.0, x.1, t, take_keep cap (u ++ d) (b ∷ []), joined),
          left_append (take cap u) d (b ∷ []) ∙ rw (x.1, t),
        )

    closed_kept : (u : List ℕ) → closed (take cap u) ≡ map (take cap) (closed u)
    unfolding closed
    closed_kept u = some cap (omega arith) u
      where
        some : (n : ℕ) → 0 < n → (u : List ℕ) → closed (take n u) ≡ map (take n) (closed u)
        some zero h u = absurd (omega arith)
        some (suc n) h [] = refl
        some (suc n) h (b ∷ u) = refl

    kept_from : (u s : List ℕ) → ended f cap (take cap u) s ++ closed (left f cap (take cap u) s) ≡ map (take cap) (units_from f u s)
    unfolding ended left units_from
    kept_from u [] = closed_kept u
    kept_from u (b ∷ s) =
        rw (keeps_end f cap enough u b, take_keep cap u (b ∷ []))
        (go (is_whole f (u ++ (b ∷ []))) (rw take-nil at (kept_from [] s)) (kept_from (u ++ (b ∷ [])) s))
      where
        go : (t : Bool) → ended f cap [] s ++ closed (left f cap [] s) ≡ map (take cap) (units_from f [] s) → ended f cap (take cap (u ++ (b ∷ []))) s ++ closed (left f cap (take cap (u ++ (b ∷ []))) s) ≡ map (take cap) (units_from f (u ++ (b ∷ [])) s) → cond t (take cap (u ++ (b ∷ [])) ∷ ended f cap [] s) (ended f cap (take cap (u ++ (b ∷ []))) s) ++ closed (cond t (left f cap [] s) (left f cap (take cap (u ++ (b ∷ []))) s)) ≡ map (take cap) (cond t ((u ++ (b ∷ [])) ∷ units_from f [] s) (units_from f (u ++ (b ∷ [])) s))
        go true p q = ap (λ (l : List (List ℕ)). take cap (u ++ (b ∷ [])) ∷ l) p
        go false p q = q

    -- over a whole stream: its units, each cut to what is kept
    pub stream_units : (s : List ℕ) → ended f cap [] s ++ closed (left f cap [] s) ≡ map (take cap) (units_of f s)
    stream_units s = rw take-nil at (kept_from [] s)
