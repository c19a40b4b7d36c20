-- What an entry says: its task and function are parts of the stripped header wherever that lies in the line, and its optional fields are
-- what the keys' last pairs read as. Assumes nothing.
use Rattle.std.specs.Prelude.{None, Option, Some}
use Prim.Native.Nat.{ℕ, ◌+◌, ◌-◌, ◌^◌, ◌≤◌}
use mathlib.Core.Path.{◌≡◌, refl, sym, ap, ◌∙◌}
use mathlib.Core.Bool.{Bool, true, false}
use mathlib.Core.List.{List, ◌++◌, append_assoc}
use native.Mathlib.Omega.{arith}
use lib.Dec.{eqb}
use lib.ListN.{length, take, drop, length-append, length-take, length-drop, take-append-drop}
use lib.Seq.{drop-drop, drop-append-le, take-append-le, take_all, take_at}
use borrow.Author.Tests.{eqb-true, eqb-false}
use Rattle.text.specs.Class.{is_blank}
use Rattle.text.specs.Run.{run_end, run_start, stripped}
use Rattle.text.proofs.Runs.{run_within}
use Rattle.text.proofs.Stripping.{rest_is, strip_size}
use Rattle.entry.specs.Entry.{part_of}
use Rattle.entry.proofs.Parts.{part_in}
use Rattle.pairs.specs.Pair.{decimal_of, hex_at}
use Rattle.pairs.specs.Data.{filled}
use Rattle.scan.specs.Body.{is_one}
use Rattle.scan.specs.Line.{KeyDecimal, KeyHex, Optional, Dropped}
use Rattle.scan.proofs.Keys.{key_decimal_is, key_decimal_all, key_hex_is, key_hex_all}
use Rattle.text.specs.Quote.{bytes}

-- the stripped front stands in the text where its blanks end
front_in : (s : List ℕ) (k : ℕ) → (rest : List ℕ) × (drop (run_end is_blank (take k s) 0) s ≡ stripped (take k s) ++ rest)
unfolding stripped
front_in s k =
    let a : ℕ = run_end is_blank (take k s) 0 in
    let d : List ℕ = drop a (take k s) in
    let e : ℕ = run_start is_blank d in
    let within : a ≤ length (take k s) = run_within is_blank (take k s) 0 (omega arith) in (
      drop e d ++ drop k s,
      ap (drop a) (sym (take-append-drop k s))
          ∙ drop-append-le a (take k s) (drop k s) within
          ∙ ap (λ (l : List ℕ). l ++ drop k s) (sym (take-append-drop e d))
          ∙ append_assoc (take e d) (drop e d) (drop k s),
    )

-- a part of the header is that part of the line
pub header_part : (t : List ℕ) (k a n : ℕ) → a + n ≤ length (stripped (take k t)) → part_of t (run_end is_blank (take k t) 0 + a) n ≡ take n (drop a (stripped (take k t)))
header_part t k a n h =
    let start : ℕ = run_end is_blank (take k t) 0 in
    let f = front_in t k in
    let size = strip_size (take k t) in
    sym (part_in t (run_end is_blank (take k t) 0 + a) n (omega (arith, length-take k t)))
    ∙ ap (take n) (sym (drop-drop a (run_end is_blank (take k t) 0) t) ∙ ap (drop a) f.1 ∙ drop-append-le a (stripped (take k t)) f.0 (omega arith))
    ∙ take-append-le n (drop a (stripped (take k t))) f.0 (omega (arith, length-drop a (stripped (take k t))))

-- its start and its end
pub task_part : (t : List ℕ) (k m : ℕ) → m ≤ length (stripped (take k t)) → part_of t (run_end is_blank (take k t) 0) m ≡ take m (stripped (take k t))
task_part t k m h =
    let z : run_end is_blank (take k t) 0 + 0 ≡ run_end is_blank (take k t) 0 = omega arith in
    rw (← z) (header_part t k 0 m (omega arith))

pub function_part : (t : List ℕ) (k f : ℕ) → f ≤ length (stripped (take k t)) → part_of t (run_end is_blank (take k t) 0 + f) (length (stripped (take k t)) - f) ≡ drop f (stripped (take k t))
function_part t k f h =
    header_part t k f (length (stripped (take k t)) - f) (omega arith) ∙ rest_is f (stripped (take k t))

-- the dwords in the first slots
pub dwords_part : (ds out : List ℕ) → part_of (filled ds out) 0 (length ds) ≡ ds
dwords_part ds out =
    sym (part_in (filled ds out) 0 (length ds) (omega (arith, length-append ds (drop (length ds) out))))
    ∙ take_at ds (drop (length ds) out) (length ds) refl

pub dwords_whole : (ds : List ℕ) → part_of ds 0 (length ds) ≡ ds
dwords_whole ds = sym (part_in ds 0 (length ds) (omega arith)) ∙ take_all (length ds) ds (omega arith)

-- a byte or word that was read, as a value
-- an optional field is what its key reads as, or the key reads as nothing
module _ (p key : List ℕ) (limit : ℕ) where
  pub optional_decimal : Optional (KeyDecimal p key limit) (decimal_of p key limit)
  optional_decimal = go (decimal_of p key limit) refl
    where
      go : (n : Option ℕ) → decimal_of p key limit ≡ n → Optional (KeyDecimal p key limit) (n)
      go (Some v) e = key_decimal_is p key limit e
      go None e = λ v r. let q = key_decimal_all p key limit r in absurd (let z : ◌≡◌ {A = ℕ} 0 1 = cc in omega arith)

  pub optional_hex : Optional (KeyHex p key limit) (hex_at p key limit)
  optional_hex = go (hex_at p key limit) refl
    where
      go : (n : Option ℕ) → hex_at p key limit ≡ n → Optional (KeyHex p key limit) (n)
      go (Some v) e = key_hex_is p key limit e
      go None e = λ v r. let q = key_hex_all p key limit r in absurd (let z : ◌≡◌ {A = ℕ} 0 1 = cc in omega arith)

-- dropped, as it is read
pub dropped_is : (p : List ℕ) → Dropped p (is_one (decimal_of p (bytes "dropped") (2 ^ 8 - 1)))
unfolding is_one
dropped_is p = go (decimal_of p (bytes "dropped") (2 ^ 8 - 1)) refl
  where
    by_value : (v : ℕ) → decimal_of p (bytes "dropped") (2 ^ 8 - 1) ≡ Some v → (b : Bool) → eqb v 1 ≡ b → Dropped p b
    by_value v e true q = let w : v ≡ 1 = eqb-true v 1 q in key_decimal_is p (bytes "dropped") (2 ^ 8 - 1) (e ∙ ap Some w)
    by_value v e false q = λ r. let w = key_decimal_all p (bytes "dropped") (2 ^ 8 - 1) r in eqb-false v 1 q (let z : v ≡ 1 = cc in z)

    go : (n : Option ℕ) → decimal_of p (bytes "dropped") (2 ^ 8 - 1) ≡ n → Dropped p (is_one n)
    go (Some v) e = by_value v e (eqb v 1) refl
    go None e = λ r. let w = key_decimal_all p (bytes "dropped") (2 ^ 8 - 1) r in absurd (let z : ◌≡◌ {A = ℕ} 0 1 = cc in omega arith)
