-- Numbers 1 to 4: each test of the reading is its sentence, and the place of the last colon gives the one split. Assumes nothing.
use Rattle.std.specs.Prelude.{None, Option, Some}
use Prim.Native.Nat.{ℕ, ◌≤◌, ◌<◌}
use mathlib.Core.Path.{◌≡◌, refl, sym}
use mathlib.Core.Bool.{Bool, true, false, cond}
use mathlib.Core.List.{List}
use native.Mathlib.Omega.{arith}
use lib.Dec.{ltb, eqb}
use lib.ListN.{length, get_or}
use borrow.Author.Tests.{lt-ltb, le-ltb, eq-eqb, ne_eqb, ltb-false}
use Rattle.text.specs.Place.{last_byte, is_at}
use Rattle.text.proofs.Places.{last_is}
use Rattle.std.specs.Option.{ok_or}
use Rattle.refusal.specs.Told.{told}
use Rattle.refusal.specs.declared.Refusal.TheVariants as Refusal
use Rattle.text.specs.Told.{is, refused}
use Rattle.scan.specs.Frame.{idle, first_high, frame_colon, frame_ascii, frame_of}

module _ (t : List ℕ) where
  pub idle_empty : length t ≡ 0 → idle t ≡ true
  unfolding idle
  idle_empty e = rw (eq-eqb _ _ e)

  module _ (some : length t ≡ 0 → ⊥) where
    pub idle_comment : get_or t 0 0 ≡ 35 → idle t ≡ true
    unfolding idle
    idle_comment e = rw (ne_eqb _ _ some, eq-eqb _ _ e)

    pub idle_one : (get_or t 0 0 ≡ 35 → ⊥) → length t ≡ 1 → idle t ≡ eqb (get_or t 0 0) 10
    unfolding idle
    idle_one n e = rw (ne_eqb _ _ some, ne_eqb _ _ n, eq-eqb _ _ e)

    pub idle_not : (get_or t 0 0 ≡ 35 → ⊥) → (length t ≡ 1 → ⊥) → idle t ≡ false
    unfolding idle
    idle_not n e = rw (ne_eqb _ _ some, ne_eqb _ _ n, ne_eqb _ _ e)

  -- the ways of the frame
  pub frame_idle : idle t ≡ true → frame_of t ≡ refused 1
  unfolding frame_of
  frame_idle e = rw e

  module _ (busy : idle t ≡ false) where
    pub frame_long : 4096 < length t → frame_of t ≡ refused 2
    unfolding frame_of
    frame_long l = rw (busy, lt-ltb 4096 (length t) l)

    module _ (short : length t ≤ 4096) where
      pub frame-high : {k : ℕ} → first_high t ≡ Some k → frame_of t ≡ refused 3
      unfolding frame_of frame_ascii
      frame-high e = rw (busy, le-ltb 4096 (length t) short, e)

      pub frame-colon : {k : ℕ} → first_high t ≡ None → last_byte 58 t ≡ Some k → frame_of t ≡ is k
      unfolding frame_of frame_ascii frame_colon
      frame-colon e f = rw (busy, le-ltb 4096 (length t) short, e, f)

      pub frame-none : first_high t ≡ None → last_byte 58 t ≡ None → frame_of t ≡ refused 4
      unfolding frame_of frame_ascii frame_colon
      frame-none e f = rw (busy, le-ltb 4096 (length t) short, e, f)

      -- as code ends it
      pub frame_ends : {f : Option ℕ} → first_high t ≡ None → f ≡ last_byte 58 t → told (ok_or f Refusal.NoColon) ≡ frame_of t
      frame_ends {f = Some k} e q = sym (frame-colon e (sym q))
      frame_ends {f = None} e q = sym (frame-none e (sym q))

  -- the colon lies within the line
  colon_of : (f : Option ℕ) {k : ℕ} → frame_colon f ≡ is k → f ≡ Some k
  unfolding frame_colon
  colon_of (Some j) e = cc
  colon_of None e = absurd (let z : ◌≡◌ {A = ℕ} 0 1 = cc in omega arith)

  ascii_of : (f : Option ℕ) {k : ℕ} → frame_ascii t f ≡ is k → (f ≡ None) × (last_byte 58 t ≡ Some k)
  unfolding frame_ascii
  ascii_of (Some j) e = absurd (let z : ◌≡◌ {A = ℕ} 0 1 = cc in omega arith)
  ascii_of None e = (refl, colon_of (last_byte 58 t) e)

  -- a frame that gives a colon has passed every check
  pub frame_passed : {k : ℕ} → frame_of t ≡ is k → (idle t ≡ false) × (length t ≤ 4096) × (first_high t ≡ None) × (last_byte 58 t ≡ Some k)
  unfolding frame_of
  frame_passed {k} e = go (idle t) refl (ltb 4096 (length t)) refl e
    where
      go : (a : Bool) → idle t ≡ a → (b : Bool) → ltb 4096 (length t) ≡ b → cond a (refused 1) (cond b (refused 2) (frame_ascii t (first_high t))) ≡ is k → (idle t ≡ false) × (length t ≤ 4096) × (first_high t ≡ None) × (last_byte 58 t ≡ Some k)
      go true p b q n = absurd (let z : ◌≡◌ {A = ℕ} 0 1 = cc in omega arith)
      go false p true q n = absurd (let z : ◌≡◌ {A = ℕ} 0 1 = cc in omega arith)
      go false p false q n = let w = ascii_of (first_high t) n in (p, ltb-false 4096 (length t) q, w.0, w.1)

  pub frame_colon_within : {k : ℕ} → frame_of t ≡ is k → k < length t
  unfolding last_byte
  frame_colon_within e = (last_is (is_at 58 t) (frame_passed e).3).within
