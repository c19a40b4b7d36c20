-- What a body starts with: a number, or a field of a given tag that must or may be there. What was read was made so, and what was made so is
-- read. Assumes nothing.
use Rattle.std.specs.Prelude.{None, Option, Some}
use Prim.Native.Nat.{ℕ, ◌+◌, ◌≤◌, ◌<◌}
use mathlib.Core.Path.{◌≡◌, ◌∙◌, sym, ap, ap₂, refl}
use mathlib.Core.Bool.{Bool, true, false}
use mathlib.Core.List.{List, [], ◌++◌}
use mathlib.Core.Logic.{◌⊎◌, inl, inr, ⊎_elim}
use native.Mathlib.Nat.{add-zero}
use native.Mathlib.Omega.{arith}
use borrow.Author.Tests.{eqb-true, eqb-false}
use lib.Dec.{eqb}
use lib.ListN.{length, get_or, take, drop, take-append-drop, length-append, length-drop}
use lib.Seq.{drop-drop, drop_at, get_or-drop}
use Rattle.tlv.specs.declared.Step.{Step}
use Rattle.tlv.specs.declared.Step.TheVariants.{Field, Stray, Overrun, End}
use Rattle.tlv.specs.Number.{Bytes, number, number_bytes}
use Rattle.tlv.specs.Grammar.{Piece, field_bytes, FromValue, Made}
use Rattle.tlv.specs.Reading.{between, field_at, filled}
use Rattle.tlv.proofs.Numbers.{number_bytes_is, number_bytes_length}
use Rattle.tlv.proofs.Fields.{Found, field_found}
use Rattle.tlv.proofs.Places.{bytes_take}
use Rattle.tlv.proofs.Pieces.{made_field, made_body, made_back, part_made, filled_made, made-filled}
use Rattle.book.specs.Grammar.{Name, Optional, text_of, optional_bytes}
use Rattle.book.specs.Search.{body_at, after}
use Rattle.book.specs.Reading.{is_name, optional_name}
use Rattle.book.proofs.Names.{name_is, name_all}
use Rattle.book.proofs.Steps.{tag_told, tag_other}

-- ---- a level: a test of a body by its tag, against the values that bodies are made from

module _ {X : Type 0} (piece : X → Piece) (Good : X → Type 0) (test : ℕ → List ℕ → ℕ → Bool) (s : List ℕ) where
  -- sound: if a body that passes is made from a Good value, fields that fill a text and pass are
  pub row_is : ((tag : ℕ) (u : List ℕ) (from : ℕ) → Bytes u → test tag u from ≡ true → FromValue piece Good (record { tag = tag; body = drop from u }))
      → Bytes s → (at : ℕ) → filled (λ p. test p.tag (take p.to s) p.from) s at ≡ true → Made piece Good (drop at s)
  row_is sound bytes =
      filled_made piece Good s (λ p. test p.tag (take p.to s) p.from) bytes
      (λ p e h. sound p.tag (take p.to s) p.from (bytes_take s p.to bytes) h)

  -- complete: if a body made from a Good value passes, fields made from Good values do
  pub row_all : ((x : X) (u : List ℕ) (from : ℕ) → Good x → drop from u ≡ (piece x).body → test (piece x).tag u from ≡ true)
      → (at : ℕ) → Made piece Good (drop at s) → filled (λ p. test p.tag (take p.to s) p.from) s at ≡ true
  row_all complete =
      made-filled piece Good s (λ p. test p.tag (take p.to s) p.from)
      (λ p e x g h.
      ap (λ (q : Piece). test q.tag (take p.to s) p.from) (sym h)
      ∙ complete x (take p.to s) p.from g (sym (ap (λ (q : Piece). q.body) h)))

-- ---- a number at the start

module _ (u : List ℕ) (k from : ℕ) where
  -- sound: a body with k bytes starts with the number that they make
  pub number_first : Bytes u → from + k ≤ length u → drop from u ≡ number_bytes k (number k u from) ++ drop (from + k) u
  number_first bytes h =
      sym (take-append-drop k (drop from u)) ∙ ap₂ ◌++◌ (number_bytes_is k u bytes from h) (drop-drop k from u)

  module _ (n : ℕ) (back : List ℕ) (made : drop from u ≡ number_bytes k n ++ back) where
    -- complete: a body made from a number and something behind it has that behind it
    pub number_back : drop (from + k) u ≡ back
    number_back = sym (drop-drop k from u) ∙ ap (drop k) made ∙ drop_at (number_bytes k n) back k (number_bytes_length k n)

    -- it has room for the number
    pub number_room : 0 < k → from + k ≤ length u
    number_room h = omega (arith, ap length made, length-drop from u, length-append (number_bytes k n) back, number_bytes_length k n)

-- ---- a field of a given tag at the start

module _ (tag : ℕ) (u : List ℕ) (at : ℕ) where
  -- it is there
  pub record Present : Type 0 where
    pub made : drop at u ≡ field_bytes tag (body_at tag u at) ++ drop (after tag u at) u
    pub judged : optional_name tag u at ≡ is_name (body_at tag u at)

  -- it is not
  pub record Absent : Type 0 where
    pub empty : body_at tag u at ≡ []
    pub stays : after tag u at ≡ at
    pub passes : optional_name tag u at ≡ true

  absent_bare : (r : Step) → field_at u at ≡ r → ((t from to : ℕ) → r ≡ Field t from to → t ≡ tag → ⊥) → Absent
  unfolding body_at after optional_name
  absent_bare (Field t from to) e h =
      record {
        empty = tag_other tag _ _ e (h t from to refl);
        stays = tag_other tag _ _ e (h t from to refl);
        passes = tag_other tag _ _ e (h t from to refl);
      }
  absent_bare Stray e h = record { empty = rw e; stays = rw e; passes = rw e }
  absent_bare Overrun e h = record { empty = rw e; stays = rw e; passes = rw e }
  absent_bare End e h = record { empty = rw e; stays = rw e; passes = rw e }

  present_field : Bytes u → (from to : ℕ) → field_at u at ≡ Field tag from to → Present
  unfolding body_at after optional_name
  present_field bytes from to e =
      let body : body_at tag u at ≡ between u from to = tag_told tag _ _ e refl in
      let place : after tag u at ≡ to = tag_told tag _ _ e refl in
      let name : optional_name tag u at ≡ is_name (between u from to) = tag_told tag _ _ e refl in
      record {
        made = rw (body, place) (part_made u bytes (record { at = at; tag = tag; from = from; to = to }) e);
        judged = name ∙ ap is_name (sym body);
      }

  -- sound: one of the two is so
  pub present_or_absent : Bytes u → Present ⊎ Absent
  present_or_absent bytes = by (field_at u at) refl
    where
      field : (t from to : ℕ) → field_at u at ≡ Field t from to → (b : Bool) → eqb t tag ≡ b → Present ⊎ Absent
      field t from to e true h = inl (present_field bytes from to (e ∙ ap (λ (n : ℕ). Field n from to) (eqb-true t tag h)))
      field t from to e false h =
          inr (absent_bare (Field t from to) e (λ t' from' to' k l. eqb-false t tag h (let z : t ≡ t' = cc in z ∙ l)))

      by : (r : Step) → field_at u at ≡ r → Present ⊎ Absent
      by (Field t from to) e = field t from to e (eqb t tag) refl
      by Stray e = inr (absent_bare Stray e (λ t from to k l. let z : ◌≡◌ {A = ℕ} 0 1 = cc in omega arith))
      by Overrun e = inr (absent_bare Overrun e (λ t from to k l. let z : ◌≡◌ {A = ℕ} 0 1 = cc in omega arith))
      by End e = inr (absent_bare End e (λ t from to k l. let z : ◌≡◌ {A = ℕ} 0 1 = cc in omega arith))

  -- complete: what was made with such a field at the start is read so
  pub record Read (body back : List ℕ) : Type 0 where
    pub text : body_at tag u at ≡ body
    pub rest : drop (after tag u at) u ≡ back
    pub judged : optional_name tag u at ≡ is_name body

  pub made_present : (body back : List ℕ) → drop at u ≡ field_bytes tag body ++ back → Read body back
  unfolding body_at after optional_name
  made_present body back made =
      let e : field_at u at ≡ Field tag (at + 3) (at + 3 + length body) = made_field u at tag body back made in
      let is : between u (at + 3) (at + 3 + length body) ≡ body = made_body u at tag body back made in
      record {
        text = tag_told tag _ _ e refl ∙ is;
        rest = ap (λ (n : ℕ). drop n u) (tag_told tag _ _ e refl) ∙ made_back u at tag body back made;
        judged = tag_told tag _ _ e refl ∙ ap is_name is;
      }

  -- what starts with another byte has no such field there
  pub made_absent : (get_or (drop at u) 0 0 ≡ tag → ⊥) → Absent
  made_absent h =
      absent_bare (field_at u at) refl
      (λ t from to e k.
      let f : Found u at t from to = field_found u at e in
      h (get_or-drop at u 0 0 ∙ ap (λ (n : ℕ). get_or u n 0) (add-zero at) ∙ sym f.tag_is ∙ k))

-- ---- a name that may be there

module _ (tag : ℕ) (u : List ℕ) (at : ℕ) where
  -- sound: what passes is made from a name, or from none
  pub record FromOptional : Type 0 where
    pub value : Option (List ℕ)
    pub good : Optional Name value
    pub made : drop at u ≡ optional_bytes tag value ++ drop (after tag u at) u

  pub optional_is : Bytes u → optional_name tag u at ≡ true → FromOptional
  optional_is bytes h =
      ⊎_elim
      (λ (w : Present tag u at).
      record {
        value = Some (body_at tag u at);
        good = name_is (body_at tag u at) (sym w.judged ∙ h);
        made = w.made;
      })
      (λ (w : Absent tag u at). record { value = None; good = tt; made = ap (λ (n : ℕ). drop n u) (sym w.stays) })
      (present_or_absent tag u at bytes)

  -- complete: what was made from a name or from none, with something behind it that does not start alike, is read so
  pub record ReadOptional (o : Option (List ℕ)) (back : List ℕ) : Type 0 where
    pub passes : optional_name tag u at ≡ true
    pub rest : drop (after tag u at) u ≡ back
    pub text : body_at tag u at ≡ text_of o

  pub optional_all : (o : Option (List ℕ)) (back : List ℕ) → Optional Name o → drop at u ≡ optional_bytes tag o ++ back
      → (get_or back 0 0 ≡ tag → ⊥) → ReadOptional o back
  optional_all (Some n) back good made other =
      let r : Read tag u at n back = made_present tag u at n back made in
      record { passes = r.judged ∙ name_all n good; rest = r.rest; text = r.text }
  optional_all None back good made other =
      let a : Absent tag u at = made_absent tag u at (λ h. other (ap (λ (l : List ℕ). get_or l 0 0) (sym made) ∙ h)) in
      record { passes = a.passes; rest = ap (λ (n : ℕ). drop n u) a.stays ∙ made; text = a.empty }
