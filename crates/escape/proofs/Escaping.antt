-- A name is shown byte after byte, so what is shown of its first bytes and of the next one is what is shown of them all. Assumes nothing.
use Prim.Native.Nat.{ℕ, ◌+◌, ◌*◌, ◌≤◌, ◌<◌}
use mathlib.Core.Path.{◌≡◌, refl, sym, ap, ◌∙◌}
use mathlib.Core.Bool.{Bool, true, false, not, cond}
use mathlib.Core.List.{List, [], ◌∷◌, ◌++◌, append-nil, append_assoc}
use native.Mathlib.Numerals.{add-one}
use native.Mathlib.Omega.{arith}
use lib.Dec.{eqb}
use lib.ListN.{length, get_or, take, length-append}
use lib.Seq.{take-suc, take-length, length-take-le}
use borrow.Author.Tests.{le-leb, lt-leb}
use Rattle.print.specs.Hex.{byte_text}
use Rattle.print.specs.declared.page.Page.{Page}
use Rattle.print.specs.Page.{Puts}
use Rattle.listing_rows.specs.Rows.{Put, Room, PutOn}
use Rattle.listing_rows.proofs.Putting.{put_whole, put_then, put_size}
use Rattle.escape.specs.Escape.{is_plain, shown_byte, escaped}

pub low_not_plain : (b : ℕ) → b < 32 → false ≡ is_plain b
unfolding is_plain
low_not_plain b h = rw (lt-leb 32 b h)

pub high_not_plain : (b : ℕ) → 32 ≤ b → 126 < b → false ≡ is_plain b
unfolding is_plain
high_not_plain b l h = rw (le-leb 32 b l, lt-leb b 126 h)

pub plain_by_backslash : (b : ℕ) → 32 ≤ b → b ≤ 126 → not (eqb b 92) ≡ is_plain b
unfolding is_plain
plain_by_backslash b l h = rw (le-leb 32 b l, le-leb b 126 h)

pub plain_shown : (b : ℕ) → is_plain b ≡ true → b ∷ [] ≡ shown_byte b
unfolding shown_byte
plain_shown b e = rw e

pub other_shown : (b : ℕ) {h l : ℕ} → is_plain b ≡ false → h ∷ l ∷ [] ≡ byte_text b → 92 ∷ 120 ∷ h ∷ l ∷ [] ≡ shown_byte b
unfolding shown_byte
other_shown b e d = rw (e, d)

pub shown_length : (b : ℕ) → length (shown_byte b) ≤ 4
unfolding shown_byte
shown_length b = go (is_plain b)
  where
    go : (t : Bool) → length (cond t (b ∷ []) (92 ∷ 120 ∷ byte_text b)) ≤ 4
    go true = omega arith
    go false = omega arith

pub escaped_length : (s : List ℕ) → length (escaped s) ≤ 4 * length s
unfolding escaped
escaped_length [] = omega arith
escaped_length (b ∷ s) = omega (arith, length-append (shown_byte b) (escaped s), shown_length b, escaped_length s)

pub escaped_append : (a b : List ℕ) → escaped (a ++ b) ≡ escaped a ++ escaped b
unfolding escaped
escaped_append [] b = refl
escaped_append (x ∷ a) b = rw (escaped_append a b) (sym (append_assoc (shown_byte x) (escaped a) (escaped b)))

escaped_one : (b : ℕ) → escaped (b ∷ []) ≡ shown_byte b
unfolding escaped
escaped_one b = append-nil (shown_byte b)

escaped_more : (s : List ℕ) (i : ℕ) → i < length s → escaped (take i s) ++ shown_byte (get_or s i 0) ≡ escaped (take (i + 1) s)
escaped_more s i h =
    ap (λ (l : List ℕ). escaped (take i s) ++ l) (sym (escaped_one (get_or s i 0)))
    ∙ sym (escaped_append (take i s) (get_or s i 0 ∷ []))
    ∙ ap escaped (sym (rw add-one (take-suc s i 0 h)))

-- the place behind a text that was put is in the buffer
pub put_within : {out s exit : List ℕ} {at r : ℕ} → Put out at s exit r → r ≤ length exit
put_within p = omega (arith, p.fits, p.place, put_size p)

module _ (p : Page) (s : List ℕ) where
  -- the first i bytes are shown in place
  pub record Shown (q : Page) (i : ℕ) : Type 0 where
    pub within : i ≤ length s
    pub is : PutOn p (escaped (take i s)) q

  module _ (room : Room p (4 * length s)) where
    pub shown_starts : Shown p 0
    unfolding escaped
    shown_starts =
        record {
          within = omega arith;
          is = record { put = record { fits = omega arith; buffer = refl; place = omega arith }; same = refl };
        }

    pub shown_steps : {q r : Page} {i : ℕ} → Shown q i → i < length s → Puts q (shown_byte (get_or s i 0)) r → Shown r (i + 1)
    shown_steps {q} {r} {i} h l now =
        let n : length (take i s) ≡ i = length-take-le i s h.within in
        let fits : q.at + length (shown_byte (get_or s i 0)) ≤ length q.out.now = omega (arith, h.is.put.place, put_size h.is.put, escaped_length (take i s), shown_length (get_or s i 0)) in
        let both : PutOn p (escaped (take i s) ++ shown_byte (get_or s i 0)) r = record { put = put_then h.is.put (put_whole fits now.placed); same = now.same ∙ h.is.same } in
        record { within = omega arith; is = rw (escaped_more s i l) at both }

    pub shown_ends : {q : Page} {i : ℕ} → Shown q i → length s ≤ i → PutOn p (escaped s) q
    shown_ends {q} {i} h l =
        let e : i ≡ length s = omega (arith, h.within) in
        let whole : take i s ≡ s = rw e (take-length s) in
        rw whole at h.is
