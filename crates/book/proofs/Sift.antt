-- Entries are sifted from the front: those passed are apart and their offsets are marked, so an entry whose offset is not marked is new, and any
-- other is new unless a search among those passed finds it. Assumes nothing.
use Prim.Native.Nat.{ℕ, ◌+◌, ◌/◌, ◌≤◌, ◌<◌}
use mathlib.Core.Path.{◌≡◌, ◌∙◌, sym, ap, ap₂, subst, refl}
use mathlib.Core.Bool.{Bool, true, false, not, ◌&&◌, ◌||◌, and-false, false≢true}
use mathlib.Core.List.{List, [], ◌∷◌, ◌++◌, append_assoc, append-nil}
use mathlib.Core.Logic.{◌⊎◌, inl, inr, ⊎_elim}
use native.Mathlib.Omega.{arith}
use borrow.Author.Tests.{eqb-true, eq-eqb, not-true}
use lib.Dec.{eqb}
use lib.ListN.{length, take, length-take}
use lib.Seq.{take_all, take-take}
use Rattle.text.specs.Same.{same_text}
use Rattle.text.proofs.Texts.{same_refl, same_true}
use Rattle.tlv.specs.declared.Step.TheVariants.{End}
use Rattle.tlv.specs.Number.{number}
use Rattle.tlv.specs.Grammar.{All}
use Rattle.tlv.specs.Reading.{Part, Stands, field_at, parts, filled, has, once}
use Rattle.tlv.proofs.Fields.{Found, field_found, end_all}
use Rattle.tlv.proofs.Places.{stands_widens, stands_narrows}
use Rattle.tlv.proofs.Walks.{parts_end, parts_field, parts_stand, filled_end}
use Rattle.tlv.proofs.Pieces.{both_true}
use Rattle.book.specs.declared.seek.Want.TheVariants as W
use Rattle.book.specs.Search.{type_at, fits, wanted, has_wanted}
use Rattle.book.specs.Seen.{is_marked, marked}
use Rattle.book.specs.Reading.{field_ok, entry_body, same_entry, entries_fill}
use Rattle.book.proofs.Marks.{marks_own, marks_keep}
use Rattle.book.proofs.Rows.{fill_next}

-- ---- lists

pub alike : (a b : Bool) → (a ≡ true → b ≡ true) → (b ≡ true → a ≡ true) → a ≡ b
alike true true f g = refl
alike true false f g = sym (f refl)
alike false true f g = g refl
alike false false f g = refl

either_false : (a b : Bool) → (a || b) ≡ false → (a ≡ false) × (b ≡ false)
either_false true b h = absurd (false≢true (sym h))
either_false false b h = (refl, h)

either_true : (a b : Bool) → (a || b) ≡ true → (a ≡ true) ⊎ (b ≡ true)
either_true true b h = inl refl
either_true false b h = inr h

true_behind : (a b : Bool) → b ≡ true → (a || b) ≡ true
true_behind true b h = refl
true_behind false b h = h

unless : (a : Bool) → (a ≡ true → ⊥) → a ≡ false
unless true h = absurd (h refl)
unless false h = refl

module _ {A : Type 0} where
  all_each : {P R : A → Type 0} → ((x : A) → P x → R x) → (l : List A) → All P l → All R l
  all_each f [] a = tt
  all_each f (x ∷ l) a = (f x a.0, all_each f l a.1)

  all_both : {P Q R : A → Type 0} → ((x : A) → P x → Q x → R x) → (l : List A) → All P l → All Q l → All R l
  all_both f [] a b = tt
  all_both f (x ∷ l) a b = (f x a.0 b.0, all_both f l a.1 b.1)

  all_snoc : (P : A → Type 0) (l : List A) (x : A) → All P l → P x → All P (l ++ (x ∷ []))
  all_snoc P [] x a h = (h, tt)
  all_snoc P (y ∷ l) x a h = (a.0, all_snoc P l x a.1 h)

  has_alike : (f g : A → Bool) (l : List A) → All (λ x. f x ≡ g x) l → has f l ≡ has g l
  has_alike f g [] a = refl
  has_alike f g (x ∷ l) a = ap₂ ◌||◌ a.0 (has_alike f g l a.1)

  has_none : (f : A → Bool) (l : List A) → All (λ x. f x ≡ false) l → has f l ≡ false
  has_none f [] a = refl
  has_none f (x ∷ l) a = rw a.0 (has_none f l a.1)

  has_behind : (f : A → Bool) (l : List A) (x : A) (r : List A) → has f l ≡ false → has f (l ++ (x ∷ r)) ≡ (f x || has f r)
  has_behind f [] x r h = refl
  has_behind f (y ∷ l) x r h =
      let w = either_false (f y) (has f l) h in
      rw w.0 (has_behind f l x r w.1)

  has_there : (f : A → Bool) (l : List A) (x : A) (r : List A) → f x ≡ true → has f (l ++ (x ∷ r)) ≡ true
  has_there f [] x r h = rw h
  has_there f (y ∷ l) x r h = true_behind (f y) (has f (l ++ (x ∷ r))) (has_there f l x r h)

  module _ (same : A → A → Bool) where
    -- one more that is the same as none before it
    once_snoc : (l : List A) (x : A) → once same l ≡ true → has (λ d. same d x) l ≡ false → once same (l ++ (x ∷ [])) ≡ true
    once_snoc [] x o h = refl
    once_snoc (y ∷ l) x o h =
        let k = either_false (same y x) (has (λ d. same d x) l) h in
        let w = both_true (not (has (same y) l)) (once same l) o in
        let none : has (same y) (l ++ (x ∷ [])) ≡ false = has_behind (same y) l x [] (not-true (has (same y) l) w.0) ∙ rw k.0 in
        rw none (once_snoc l x w.1 k.1)

    -- one that is the same as one before it
    once_twice : (l : List A) (x : A) (r : List A) → has (λ d. same d x) l ≡ true → once same (l ++ (x ∷ r)) ≡ false
    once_twice [] x r h = absurd (false≢true h)
    once_twice (y ∷ l) x r h =
        ⊎_elim
        (λ (e : same y x ≡ true). rw (has_there (same y) l x r e))
        (λ (k : has (λ d. same d x) l ≡ true). rw (once_twice l x r k) (and-false (not (has (same y) (l ++ (x ∷ r))))))
        (either_true (same y x) (has (λ d. same d x) l) h)

-- ---- entries

module _ (s : List ℕ) where
  -- the offset and the type of a part
  abbrev pub offset_of : Part → ℕ
  offset_of p = number 2 (take p.to s) p.from

  abbrev pub type_of : Part → List ℕ
  type_of p = type_at (take p.to s) p.from

  -- an entry that was passed: its tag is 3 and its offset is marked
  abbrev Passed : List ℕ → Part → Type 0
  Passed seen d = (d.tag ≡ 3) × (is_marked seen (offset_of d) ≡ true)

  -- the entries from `start` up to a place were passed
  pub record Sifted (start at : ℕ) (seen : List ℕ) : Type 0 where
    pub done : List Part
    pub reached : (cut : ℕ) → at ≤ cut → parts (take cut s) start ≡ done ++ parts (take cut s) at
    pub apart : once (same_entry s) done ≡ true
    pub passed : All (Passed seen) done
    pub rest : filled (field_ok 3 entry_body s) s start ≡ filled (field_ok 3 entry_body s) s at

  -- at the start none was
  pub sift_start : (start : ℕ) (seen : List ℕ) → Sifted start start seen
  sift_start start seen = record { done = []; reached = λ cut h. refl; apart = refl; passed = tt; rest = refl }

  module _ {start at : ℕ} {seen : List ℕ} (f : Sifted start at seen) where
    -- all the parts, and those passed
    all_parts : parts s start ≡ f.done ++ parts s at
    all_parts =
        let whole : take (at + length s) s ≡ s = take_all (at + length s) s (omega arith) in
        ap (λ (l : List ℕ). parts l start) (sym whole)
        ∙ f.reached (at + length s) (omega arith)
        ∙ ap (λ (l : List ℕ). f.done ++ parts l at) whole

    parts_before : parts (take at s) start ≡ f.done
    parts_before =
        f.reached at (omega arith)
        ∙ ap (λ (l : List Part). f.done ++ l) (parts_end (take at s) at (end_all (take at s) at (omega (arith, length-take at s))))
        ∙ append-nil f.done

    -- the rest fails
    pub sift_fails : filled (field_ok 3 entry_body s) s at ≡ false → entries_fill s start ≡ false
    unfolding entries_fill
    sift_fails h = rw (f.rest, h)

    -- the end
    pub sift_end : field_at s at ≡ End → entries_fill s start ≡ true
    unfolding entries_fill
    sift_end e =
        let all : parts s start ≡ f.done = all_parts ∙ rw (parts_end s at e) (append-nil f.done) in
        rw (f.rest, filled_end s (field_ok 3 entry_body s) at e, all) f.apart

  module _ {start : ℕ} {seen : List ℕ} (p : Part) (stands : Stands s p) (tag_is : p.tag ≡ 3) (f : Sifted start p.at seen) where
    -- the same as a part that was passed
    repeated : Bool
    repeated = has (λ d. same_entry s d p) f.done

    -- it stands twice
    twice_false : repeated ≡ true → entries_fill s start ≡ false
    unfolding entries_fill repeated
    twice_false h =
        rw (all_parts f, parts_field s p stands, once_twice (same_entry s) f.done p (parts s p.to) h)
        (and-false (filled (field_ok 3 entry_body s) s start))

    same_offset : (d : Part) → same_entry s d p ≡ true → (offset_of p ≡ offset_of d) × (type_of p ≡ type_of d)
    unfolding same_entry wanted fits
    same_offset d h =
        let w = both_true (eqb p.tag 3) (eqb (offset_of p) (offset_of d) && same_text (type_of p) (type_of d)) h in
        let v = both_true (eqb (offset_of p) (offset_of d)) (same_text (type_of p) (type_of d)) w.1 in
        (eqb-true (offset_of p) (offset_of d) v.0, same_true (type_of p) (type_of d) v.1)

    -- a search among the entries passed tells the same ones
    search_tells : (d : Part) → d.tag ≡ 3 → Stands (take p.at s) d
        → wanted (W.Typed (offset_of p)) (type_of p) (take p.at s) d ≡ same_entry s d p
    unfolding same_entry wanted fits
    search_tells d tag e =
        let cut : take d.to (take p.at s) ≡ take d.to s = take-take d.to p.at s (stands_widens s p.at d e).1 in
        rw (cut, eq-eqb d.tag 3 tag, eq-eqb p.tag 3 tag_is)
        (alike (eqb (offset_of d) (offset_of p) && same_text (type_of d) (type_of p)) (eqb (offset_of p) (offset_of d) && same_text (type_of p) (type_of d))
        (turned d p) (turned p d))
      where
        turned : (a b : Part) → (eqb (offset_of a) (offset_of b) && same_text (type_of a) (type_of b)) ≡ true
            → (eqb (offset_of b) (offset_of a) && same_text (type_of b) (type_of a)) ≡ true
        turned a b h =
            let w = both_true (eqb (offset_of a) (offset_of b)) (same_text (type_of a) (type_of b)) h in
            let type : type_of b ≡ type_of a = sym (same_true (type_of a) (type_of b) w.1) in
            rw (eq-eqb (offset_of b) (offset_of a) (sym (eqb-true (offset_of a) (offset_of b) w.0)), type) (same_refl (type_of a))

    -- what the code asks: nothing if the offset is not marked, else a search among the entries passed
    asked : (is_marked seen (offset_of p) && has_wanted (W.Typed (offset_of p)) (type_of p) (take p.at s) start) ≡ repeated
    unfolding has_wanted repeated
    asked = by (is_marked seen (offset_of p)) refl
      where
        by : (b : Bool) → is_marked seen (offset_of p) ≡ b
            → (b && has (wanted (W.Typed (offset_of p)) (type_of p) (take p.at s)) (parts (take p.at s) start)) ≡ repeated
        by true e =
            rw (parts_before f)
            (has_alike (wanted (W.Typed (offset_of p)) (type_of p) (take p.at s)) (λ d. same_entry s d p) f.done
            (all_both (λ d a b. search_tells d a.0 b) f.done f.passed
            (subst (All (Stands (take p.at s))) (parts_before f) (parts_stand (take p.at s) start))))
        by false e =
            sym
            (has_none (λ d. same_entry s d p) f.done
            (all_each
            (λ d a. unless (same_entry s d p) (λ h. false≢true (sym e ∙ ap (is_marked seen) (same_offset d h).0 ∙ a.1)))
            f.done f.passed))

    module _ {offset : ℕ} {type : List ℕ} {met r : Bool} (offset_is : offset ≡ offset_of p) (type_is : type ≡ type_of p)
        (met-is : met ≡ is_marked seen offset) (r-is : r ≡ (met && has_wanted (W.Typed offset) type (take p.at s) start)) where
      told : r ≡ repeated
      told = r-is ∙ rw (met-is, offset_is, type_is) asked

      -- the code found it among those passed
      pub sift-twice : r ≡ true → entries_fill s start ≡ false
      sift-twice h = twice_false (sym told ∙ h)

      -- the code did not, so it is passed too
      pub sift-next : r ≡ false → field_ok 3 entry_body s p ≡ true → offset / 64 < length seen → Sifted start p.to (marked seen offset)
      unfolding repeated
      sift-next h ok fits =
          let found : Found s p.at p.tag p.from p.to = field_found s p.at stands in
          record {
            done = f.done ++ (p ∷ []);
            reached =
                λ cut k.
                f.reached cut (omega arith)
                ∙ ap (λ (l : List Part). f.done ++ l) (parts_field (take cut s) p (stands_narrows s cut p k stands))
                ∙ sym (append_assoc f.done (p ∷ []) (parts (take cut s) p.to));
            apart = once_snoc (same_entry s) f.done p f.apart (sym told ∙ h);
            passed =
                all_snoc (Passed (marked seen offset)) f.done p
                (all_each (λ d a. (a.0, marks_keep seen offset fits (offset_of d) a.1)) f.done f.passed)
                (tag_is, ap (is_marked (marked seen offset)) (sym offset_is) ∙ marks_own seen offset fits);
            rest = f.rest ∙ fill_next (field_ok 3 entry_body s) s p stands ok;
          }
