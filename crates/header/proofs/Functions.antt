-- The function is a run that ends the header, before it a run that ends what is left: one of each. Assumes nothing.
use Rattle.std.specs.Prelude.{None, Some}
use Prim.Native.Nat.{ℕ, ◌<◌}
use mathlib.Core.Path.{◌≡◌, refl, sym, ap, ◌∙◌}
use mathlib.Core.Bool.{Bool, true, false, ◌&&◌}
use mathlib.Core.List.{List}
use native.Mathlib.Omega.{arith}
use lib.Dec.{ltb, eqb}
use lib.ListN.{length, take, drop}
use borrow.Author.Tests.{lt-ltb, eq-eqb, ltb-true, eqb-true}
use Rattle.text.specs.Class.{is_word, is_blank}
use Rattle.text.specs.Place.{byte_before}
use Rattle.text.specs.Run.{run_start}
use Rattle.text.proofs.Texts.{both_left, both_right}
use Rattle.text.proofs.Runs.{back_is, back_all}
use Rattle.header.specs.Function.{Function, function_of}

-- all that is asked is there
all_there : (h : List ℕ) (word blank : ℕ) → word ≡ run_start is_word h → word < length h → blank ≡ run_start is_blank (take word h) → blank < word → byte_before h blank ≡ 58 → function_of h ≡ Some word
unfolding function_of
all_there h word blank word-is some_word blank-is l e = rw (← word-is, ← blank-is, lt-ltb word (length h) some_word, lt-ltb blank word l, eq-eqb _ _ e)

pub function_all : (h : List ℕ) {f : List ℕ} (r : Function h f) → function_of h ≡ Some r.word
function_all h r =
    all_there h r.word r.blank (sym (back_all is_word h r.word r.last_run)) r.some_word
    (sym (back_all is_blank (take r.word h) r.blank r.blanks)) r.some_blank r.colon

pub function_is : (h : List ℕ) {k : ℕ} → function_of h ≡ Some k → Function h (drop k h)
unfolding function_of
function_is h {k} e = go (ltb (run_start is_word h) (length h) && ltb (run_start is_blank (take (run_start is_word h) h)) (run_start is_word h) && eqb (byte_before h (run_start is_blank (take (run_start is_word h) h))) 58) refl
  where
    go : (b : Bool) → (ltb (run_start is_word h) (length h) && ltb (run_start is_blank (take (run_start is_word h) h)) (run_start is_word h) && eqb (byte_before h (run_start is_blank (take (run_start is_word h) h))) 58) ≡ b → Function h (drop k h)
    go true t =
        let same : Some (run_start is_word h) ≡ Some k = rw t at e in
        let k-is : run_start is_word h ≡ k = cc in
        let front = both_left _ _ t in
        record {
          word = run_start is_word h;
          last_run = back_is is_word h;
          some_word = ltb-true _ _ (both_left _ _ front);
          blank = run_start is_blank (take (run_start is_word h) h);
          blanks = back_is is_blank (take (run_start is_word h) h);
          some_blank = ltb-true _ _ (both_right (ltb (run_start is_word h) (length h)) _ front);
          colon = eqb-true _ _ (both_right (ltb (run_start is_word h) (length h) && ltb (run_start is_blank (take (run_start is_word h) h)) (run_start is_word h)) _ t);
          is = ap (λ (m : ℕ). drop m h) (sym k-is);
        }
    go false t =
        let same : None ≡ Some k = rw t at e in
        absurd (let z : ◌≡◌ {A = ℕ} 0 1 = cc in omega arith)

pub one_function : (h : List ℕ) {f g : List ℕ} → Function h f → Function h g → f ≡ g
one_function h a b =
    let x = function_all h a in
    let y = function_all h b in
    let e : a.word ≡ b.word = cc in
    a.is ∙ ap (λ (m : ℕ). drop m h) e ∙ sym b.is

-- the function starts within the header
pub function_within : (h : List ℕ) {k : ℕ} → function_of h ≡ Some k → k < length h
function_within h {k} e =
    let r = function_is h e in
    let x = function_all h r in
    let q : r.word ≡ k = cc in
    omega (arith, r.some_word)
