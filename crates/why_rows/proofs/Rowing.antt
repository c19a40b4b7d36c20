-- Parts of a row by the case that they are of, blanks one behind the other, and the text as it is shown. Assumes nothing.
use Prim.Native.Nat.{ℕ, zero, suc, ◌+◌, ◌*◌, ◌≤◌, ◌<◌}
use mathlib.Core.Path.{◌≡◌, refl, ap, ◌∙◌}
use mathlib.Core.List.{List, [], ◌∷◌, ◌++◌}
use native.Mathlib.Numerals.{add-one}
use native.Mathlib.Omega.{arith}
use lib.ListN.{length, replicate, length-replicate}
use Rattle.text.specs.Quote.{bytes}
use Rattle.print.specs.Page.{Puts}
use Rattle.print.specs.declared.page.Page.{Page}
use Rattle.listing_rows.specs.Rows.{Put, Room, PutOn}
use Rattle.listing_rows.proofs.Putting.{put_whole, put_then, put_size}
use Rattle.escape.specs.Escape.{escaped}
use Rattle.escape.proofs.Escaping.{escaped_length}
use Rattle.unanswered_rows.specs.Parts.{PartOn}
use Rattle.why_rows.specs.Rows.{shown_text, mark_text}

-- nothing on a page
pub nothing_on : {p : Page} → p.at ≤ length p.out.now → PutOn p [] p
nothing_on h = record { put = record { fits = omega arith; buffer = refl; place = omega arith }; same = refl }

-- a text on a page behind a part
pub on_behind : {p m q : Page} {a b : List ℕ} {k : ℕ} → PartOn p a m k → PutOn m b q → PutOn p (a ++ b) q
on_behind x y = record { put = put_then x.part.put y.put; same = y.same ∙ x.same }

-- ---- blanks

blanks_more : (i : ℕ) → replicate {A = ℕ} i 32 ++ (32 ∷ []) ≡ replicate (suc i) 32
blanks_more zero = refl
blanks_more (suc i) = ap (λ (l : List ℕ). 32 ∷ l) (blanks_more i)

-- so many blanks are in place
pub record Blanks (p : Page) (n : ℕ) (now : Page) (i : ℕ) : Type 0 where
  pub within : i ≤ n
  pub is : PutOn p (replicate i 32) now

pub blanks_start : (p : Page) (n : ℕ) → Room p n → Blanks p n p 0
blanks_start p n room = record { within = omega arith; is = nothing_on (omega (arith, room)) }

pub blanks_step : (p : Page) (n : ℕ) → Room p n → {now q : Page} {i : ℕ} → Blanks p n now i → i < n → Puts now (32 ∷ []) q → Blanks p n q (i + 1)
blanks_step p n room {now} {q} {i} b h x =
    let fits : now.at + 1 ≤ length now.out.now = omega (arith, room, b.is.put.place, put_size b.is.put, length-replicate {A = ℕ} i 32) in
    let both : Put p.out.now p.at (replicate i 32 ++ (32 ∷ [])) q.out.now q.at = put_then b.is.put (put_whole fits x.placed) in
    let more : replicate {A = ℕ} i 32 ++ (32 ∷ []) ≡ replicate (i + 1) 32 = rw add-one (blanks_more i) in
    record { within = omega arith; is = record { put = rw more at both; same = x.same ∙ b.is.same } }

pub blanks_end : (p : Page) (n : ℕ) {now : Page} {i : ℕ} → Blanks p n now i → n ≤ i → PutOn p (replicate n 32) now
blanks_end p n {now} {i} b h = let e : i ≡ n = omega (arith, b.within) in rw e at b.is

-- where blanks end
pub blanks_place : (k : ℕ) {p q : Page} → PutOn p (replicate k 32) q → q.at ≡ p.at + k
blanks_place k x = omega (arith, x.put.place, length-replicate {A = ℕ} k 32)

-- the mark below a bad digit
pub mark_on : (k : ℕ) {p a b q : Page} {m n : ℕ} → PartOn p (bytes "    ") a m → PutOn a (replicate k 32) b → PartOn b (bytes "^" ++ (10 ∷ [])) q n → PutOn p (mark_text k) q
unfolding mark_text
mark_on k x y z = record { put = put_then x.part.put (put_then y.put z.part.put); same = z.same ∙ y.same ∙ x.same }

-- ---- the text

pub not_shown : (s : List ℕ) {p : Page} {most : ℕ} → length s ≡ 0 → p.at ≤ length p.out.now → PartOn p (shown_text s) p most
unfolding shown_text
not_shown [] {p} e h = record { part = record { put = (nothing_on {p = p} h).put; short = omega arith; size = refl }; same = refl }
not_shown (b ∷ s) e h = absurd (omega arith)

some_shown : (s : List ℕ) → (length s ≡ 0 → ⊥) → bytes "    " ++ (escaped s ++ (10 ∷ [])) ≡ shown_text s
unfolding shown_text
some_shown [] n = absurd (n refl)
some_shown (b ∷ s) n = refl

-- how far the escaped text reaches
pub escaped_end : (s : List ℕ) {p q : Page} → PutOn p (escaped s) q → q.at ≤ p.at + 4 * length s
escaped_end s x = omega (arith, x.put.place, escaped_length s)

pub text_shown : (s : List ℕ) {p a b q : Page} → (length s ≡ 0 → ⊥) → PartOn p (bytes "    ") a 4 → PutOn a (escaped s) b → PartOn b (10 ∷ []) q 1 → PartOn p (shown_text s) q (4 * length s + 5)
text_shown s {p} {a} {b} {q} n x y z =
    let all = put_then x.part.put (put_then y.put z.part.put) in
    rw (← some_shown s n)
    (record { part = record { put = all; short = omega (arith, x.part.short, escaped_end s y, z.part.short); size = put_size all }; same = z.same ∙ y.same ∙ x.same })
