-- The data view is the dwords from its start onward: a start lies within the dwords, so what is dropped is what stands before it.
-- Assumes nothing.
use Rattle.std.specs.Prelude.{None, Option, Some}
use Prim.Native.Nat.{ℕ, zero, suc, ◌%◌, ◌≤◌}
use mathlib.Core.Path.{◌≡◌, refl, sym, ap, ◌∙◌}
use mathlib.Core.List.{List, [], ◌∷◌, ◌++◌}
use mathlib.Core.Logic.{◌↔◌}
use native.Mathlib.Omega.{arith}
use lib.ListN.{length, take, drop, length-take, take-append-drop, length-append}
use Rattle.tlv.specs.Number.{Bytes}
use Rattle.packet.specs.Packet.{number_of, places_of, view_from, word}
use Rattle.text.specs.Told.{Told, is, absent, refused, unless, maybe}
use Rattle.questions.specs.Questions.{refusal, answer, start_of, view_at, view_of}
use Rattle.questions.proofs.Views.{start_within}
use Rattle.meaning.specs.Questions.{FromOnward, ViewTold, handed_out, Question}
use Rattle.meaning.proofs.Asking.{Sole, asks_exactly, one_question}

-- the view of a start
abbrev view_in : List ℕ → Option ℕ → Told (List ℕ)
view_in ds (Some n) = is (drop n ds)
view_in ds None = absent

view_says : (ds : List ℕ) (w : Option ℕ) → ((n : ℕ) → w ≡ Some n → n ≤ length ds) → ViewTold ds (w) (view_in ds w)
view_says ds (Some n) within =
    record { front = take n ds; dwords = sym (take-append-drop n ds); so_many = (let h : n ≤ length ds = within n refl in omega (arith, length-take n ds, h)) }
view_says ds None within = refl

one_onward : (a c v w : List ℕ) → a ++ v ≡ c ++ w → length a ≡ length c → v ≡ w
one_onward [] [] v w e n = e
one_onward [] (y ∷ c) v w e n = absurd (omega arith)
one_onward (x ∷ a) [] v w e n = absurd (omega arith)
one_onward (x ∷ a) (y ∷ c) v w e n = let tails : a ++ v ≡ c ++ w = cc in one_onward a c v w tails (omega arith)

one_view_told : (ds : List ℕ) (start : Option ℕ) → Sole (ViewTold ds start)
one_view_told ds (Some n) (is v) (is w) f g =
    ap is (one_onward f.front g.front v w (sym f.dwords ∙ g.dwords) (f.so_many ∙ sym g.so_many))
one_view_told ds (Some n) (is v) absent f g = absurd g
one_view_told ds (Some n) (is v) (refused k) f g = absurd g
one_view_told ds (Some n) absent c f g = absurd f
one_view_told ds (Some n) (refused k) c f g = absurd f
one_view_told ds None a c f g = f ∙ sym g

module _ (k : ℕ) (s : List ℕ) (s-bytes : Bytes s) (ds : List ℕ) where
  view_answer : Told (List ℕ)
  view_answer = answer k s ds (view_in ds (word (view_from k s (places_of k s ds))))

  view_asked : Question k s ds (λ ts os u n. ViewTold ds n) view_answer
  unfolding view_answer refusal
  view_asked =
      asks_exactly k s s-bytes ds (λ ts os u n. ViewTold ds n) _
      (λ b os a p few clear. view_says ds (word (view_from k s (places_of k s ds))) (within clear))
    where
      within : number_of k s (length ds) (length ds) ≡ 0 → (n : ℕ) → word (view_from k s (places_of k s ds)) ≡ Some n → n ≤ length ds
      within clear n e = by (view_from k s (places_of k s ds)) refl e
        where
          by : (f : Option ℕ) → view_from k s (places_of k s ds) ≡ f → word f ≡ Some n → n ≤ length ds
          by (Some i) h q = let same : i % 65536 ≡ n = cc in omega (arith, same, start_within k s ds clear i h)
          by None h q = absurd (let z : ◌≡◌ {A = ℕ} 0 1 = cc in omega arith)

  view_handed : view_of k s ds ≡ handed_out view_answer
  unfolding view_answer view_of start_of answer
  view_handed = by (refusal k s ds) (word (view_from k s (places_of k s ds)))
    where
      by : (r : ℕ) (w : Option ℕ) → view_at k s ds (unless r (maybe w)) ≡ handed_out (unless r (view_in ds w))
      by zero (Some n) = refl
      by zero None = refl
      by (suc r) w = refl

  -- what is handed out is the view, and nothing else is
  pub view_is : (told : Told (List ℕ)) × Question k s ds (λ ts os u n. ViewTold ds n) told × (view_of k s ds ≡ handed_out told)
  view_is = (view_answer, view_asked, view_handed)

  pub view_only : (r : Told (List ℕ)) → Question k s ds (λ ts os u n. ViewTold ds n) r → handed_out r ≡ view_of k s ds
  view_only r q =
      ap handed_out (one_question k s ds (λ ts os u n. ViewTold ds n) (λ b os u n. one_view_told ds n) r view_answer q view_asked)
      ∙ sym view_handed

-- it is empty exactly when there are as many dwords as it starts behind
pub empty_at_start : (ds : List ℕ) (n : ℕ) (view : List ℕ) → FromOnward ds n view → (view ≡ []) ↔ (length ds ≡ n)
empty_at_start ds n view f = (
  λ e. omega (arith, ap length f.dwords, length-append f.front view, f.so_many, ap length e),
  λ e. none_left view (omega (arith, ap length f.dwords, length-append f.front view, f.so_many, e)),
)
  where
    none_left : (l : List ℕ) → length l ≡ 0 → l ≡ []
    none_left [] h = refl
    none_left (x ∷ l) h = absurd (omega arith)
