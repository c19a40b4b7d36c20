-- The CPU stands at a first place, whose brackets and digits all lie within the header. Assumes nothing.
use Rattle.std.specs.Prelude.{None, Option, Some}
use Prim.Native.Nat.{ℕ, ◌+◌, ◌-◌, ◌<◌, ◌≤◌}
use mathlib.Core.Path.{◌≡◌, refl, sym, ◌∙◌}
use mathlib.Core.Bool.{true, false, ◌&&◌}
use mathlib.Core.List.{List}
use native.Mathlib.Omega.{arith}
use lib.Dec.{eqb}
use lib.ListN.{length, get_or, take, drop}
use borrow.Author.Tests.{eqb-true}
use Rattle.text.specs.Class.{is_digit}
use Rattle.text.specs.Number.{number_of}
use Rattle.text.specs.Place.{First, first_place, is_at, first_byte}
use Rattle.text.proofs.Places.{place_hit, place_miss, place_skip_to, first_is, first_all, first_none, first_free, stands_within}
use Rattle.text.proofs.Texts.{both_right}
use Rattle.text.proofs.Numbers.{number_is, number_all}
use Rattle.header.specs.Cpu.{cpu_at, Cpu, digits_within, cpu_of}

module _ (h : List ℕ) (k : ℕ) where
  -- the closing bracket is a byte of the header
  pub cpu_within : cpu_at h k ≡ true → k + 4 < length h
  unfolding cpu_at
  cpu_within t =
      let close : get_or h (k + 4) 0 ≡ 93 = eqb-true _ _ (both_right (eqb (get_or h k 0) 91 && is_digit (get_or h (k + 1) 0) && is_digit (get_or h (k + 2) 0) && is_digit (get_or h (k + 3) 0)) _ t) in
      stands_within h (k + 4) (λ e. absurd (omega arith))

-- the walk from bracket to bracket: the first CPU is the first from here
module _ (h : List ℕ) where
  pub record Seeking (n : ℕ) : Type 0 where
    pub within : n ≤ length h
    pub same : first_place (cpu_at h) (length h) 0 ≡ first_place (cpu_at h) (length h) n

  pub seeking_starts : Seeking 0
  seeking_starts = record { within = omega arith; same = refl }

  -- where no bracket opens, no CPU stands
  no_bracket : (k : ℕ) → is_at 91 h k ≡ false → cpu_at h k ≡ false
  unfolding cpu_at
  no_bracket k e = rw e

  pub next_bracket : {n k : ℕ} → first_byte 91 h n ≡ Some k → First (is_at 91 h) n (length h) k
  unfolding first_byte
  next_bracket e = first_is (is_at 91 h) e

  module _ {n : ℕ} (s : Seeking n) where
    module _ {k : ℕ} (e : first_byte 91 h n ≡ Some k) where
      at_bracket : first_place (cpu_at h) (length h) 0 ≡ first_place (cpu_at h) (length h) k
      at_bracket =
          let r = next_bracket e in
          s.same ∙ place_skip_to (cpu_at h) n k (length h) r.from (λ m a b. no_bracket m (r.before m a b))

      pub seeking_hits : cpu_at h k ≡ true → first_place (cpu_at h) (length h) 0 ≡ Some k
      seeking_hits t = at_bracket ∙ place_hit (cpu_at h) (next_bracket e).within t

      pub seeking_steps : cpu_at h k ≡ false → Seeking (k + 1)
      seeking_steps t =
          record {
            within = omega (arith, (next_bracket e).within);
            same = at_bracket ∙ place_miss (cpu_at h) (next_bracket e).within t;
          }

    pub seeking_ends : first_byte 91 h n ≡ None → first_place (cpu_at h) (length h) 0 ≡ None
    unfolding first_byte
    seeking_ends e = s.same ∙ first_none (cpu_at h) (λ m a b. no_bracket m (first_free (is_at 91 h) e s.within m a b))

-- the three digits, as code cuts them
pub cpu_some : (h : List ℕ) {k : ℕ} → first_place (cpu_at h) (length h) 0 ≡ Some k → number_of 10 999 (take 3 (drop (k + 1) h)) ≡ cpu_of h
unfolding cpu_of digits_within
cpu_some h e = rw e

pub cpu_none : (h : List ℕ) → first_place (cpu_at h) (length h) 0 ≡ None → None ≡ cpu_of h
unfolding cpu_of digits_within
cpu_none h e = rw e

pub cpu_is : (h : List ℕ) {v : ℕ} → cpu_of h ≡ Some v → Cpu h v
unfolding cpu_of digits_within
cpu_is h {v} e = go (first_place (cpu_at h) (length h) 0) refl e
  where
    go : (f : Option ℕ) → first_place (cpu_at h) (length h) 0 ≡ f → digits_within h f ≡ Some v → Cpu h v
    go (Some k) q n = record { place = k; first = first_is (cpu_at h) q; value = number_is 10 999 _ n }
    go None q n = absurd (let z : ◌≡◌ {A = ℕ} 0 1 = cc in omega arith)

pub cpu_all : (h : List ℕ) {v : ℕ} → Cpu h v → cpu_of h ≡ Some v
cpu_all h r = sym (cpu_some h (first_all (cpu_at h) r.first)) ∙ number_all 10 999 _ r.value

pub one_cpu : (h : List ℕ) {v w : ℕ} → Cpu h v → Cpu h w → v ≡ w
one_cpu h a b = let x = cpu_all h a in let y = cpu_all h b in cc

-- the part between the brackets has three bytes
pub three_long : (limit : ℕ) (h : List ℕ) (k : ℕ) → number_of 10 limit (take (k + 4 - (k + 1)) (drop (k + 1) h)) ≡ number_of 10 limit (take 3 (drop (k + 1) h))
three_long limit h k = let e : k + 4 - (k + 1) ≡ 3 = omega arith in rw e
