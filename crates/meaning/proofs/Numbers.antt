-- The numbers of the relation are those of the packet call: on a book each condition of the one is that of the other, and both run in number order.
-- Assumes nothing.
use Rattle.std.specs.Prelude.{None, Some}
use Prim.Native.Nat.{ℕ, ◌<◌}
use mathlib.Core.Path.{◌≡◌, refl, sym, ap, subst, ◌∙◌}
use mathlib.Core.Bool.{Bool, true, false, cond, ◌&&◌}
use mathlib.Core.List.{List, [], ◌∷◌, ◌++◌}
use mathlib.Core.Logic.{◌↔◌, ◌⊎◌, inl, inr}
use native.Mathlib.Omega.{arith}
use borrow.Author.Tests.{eqb-true, ne_eqb}
use lib.Dec.{eqb, leb}
use lib.ListN.{length}
use Rattle.text.proofs.Places.{by_order}
use Rattle.tlv.specs.Number.{Bytes}
use Rattle.tlv.specs.Grammar.{Apart}
use Rattle.book.specs.Reading.{tables_fill, check_of}
use Rattle.book.specs.Grammar.{Owner, kind, uuid, Table, IsBook}
use Rattle.book.proofs.Book.{book_is, book_refused_exactly}
use Rattle.book.proofs.Unique.{one_book}
use Rattle.packet.specs.Conditions.{Has, HasNot, NoHeader, TooFew as FewDwords, Condition, Applies as PacketApplies}
use Rattle.packet.specs.Packet.{is_xdomain, zero_uuid}
use Rattle.meaning.specs.First.{NoneOf}
use Rattle.meaning.specs.Packet.{TableOf, TooFew, Refuses}
use Rattle.meaning.specs.Call.{Applies, IsNumber, NoNumber}
use Rattle.meaning.proofs.One.{among_all}

-- a text is a book or it is none
pub book_or_not : (s : List ℕ) → Bytes s → (IsBook s) ⊎ (IsBook s → ⊥)
unfolding check_of
book_or_not s s-bytes = by (leb (length s) 65535 && tables_fill s 0) refl
  where
    by : (b : Bool) → (leb (length s) 65535 && tables_fill s 0) ≡ b → (IsBook s) ⊎ (IsBook s → ⊥)
    by true e = inl (book_is s s-bytes (rw e))
    by false e = inr ((book_refused_exactly s s-bytes).0 (rw e))

-- none is so, if of each that stands among them it is not
all_from : {X : Type 0} {So : X → Type 0} (xs : List X) → ((before : List X) (x : X) (behind : List X) → xs ≡ before ++ (x ∷ behind) → So x → ⊥) → NoneOf So xs
all_from [] f = tt
all_from {X} (x ∷ xs) f = (f [] x xs refl, all_from xs (λ before y behind e. f (x ∷ before) y behind (ap (λ (l : List X). x ∷ l) e)))

-- what stands before one of an owner is of another
before_none : (owner : Owner) (xs : List Table) (t : Table) (ys : List Table) → Apart (λ u v. u.owner ≡ v.owner) (xs ++ (t ∷ ys)) → t.owner ≡ owner
    → NoneOf (λ u. u.owner ≡ owner) xs
before_none owner [] t ys a e = tt
before_none owner (x ∷ xs) t ys a e =
    (λ h. among_all (λ y. x.owner ≡ y.owner → ⊥) xs t ys a.0 (h ∙ sym e), before_none owner xs t ys a.1 e)

module _ (s : List ℕ) (b : IsBook s) where
  has_not : (owner : Owner) → HasNot s owner ↔ TableOf b.tables owner None
  has_not owner = (
    λ n. all_from b.tables (λ before t behind e o. n t (record { book = b; before = before; behind = behind; among = e; owner_is = o })),
    λ n t h. among_all (λ t. t.owner ≡ owner → ⊥) h.before t h.behind (subst (NoneOf (λ t. t.owner ≡ owner)) (one_book b h.book ∙ h.among) n) h.owner_is,
  )

  has : (owner : Owner) (t : Table) → Has s owner t ↔ TableOf b.tables owner (Some t)
  has owner t = (
    λ h.
        let among : b.tables ≡ h.before ++ (t ∷ h.behind) = one_book b h.book ∙ h.among in
        record {
          before = h.before;
          behind = h.behind;
          among = among;
          so = h.owner_is;
          none_before = before_none owner h.before t h.behind (subst (Apart (λ u v. u.owner ≡ v.owner)) among b.tables_apart) h.owner_is;
        },
    λ f. record { book = b; before = f.before; behind = f.behind; among = f.among; owner_is = f.so },
  )

  too_few : (k count : ℕ) → FewDwords k s count ↔ TooFew k b.tables count
  too_few k count = (
    λ x. record { viewing = x.viewing; control = x.table; control_is = (has (kind k) x.table).0 x.has; fewer = x.fewer },
    λ x. record { viewing = x.viewing; table = x.control; has = (has (kind k) x.control).1 x.control_is; fewer = x.fewer },
  )

  -- of a book each condition is the relation's
  pub condition_is : (k count room n : ℕ) → Condition k s count room n ↔ Refuses k b.tables count room n
  unfolding Condition
  condition_is k count room n = at (eqb n 20) refl
    where
      by : (c d e f g h : Bool)
          → cond c (k ≡ 0) (cond d (HasNot s (kind k)) (cond e (NoHeader k s) (cond f (256 < count) (cond g (FewDwords k s count) (cond h (room < count) ⊥)))))
          ↔ cond c (k ≡ 0) (cond d (TableOf b.tables (kind k) None) (cond e ((is_xdomain k ≡ true) × TableOf b.tables (uuid zero_uuid) None) (cond f (256 < count)
          (cond g (TooFew k b.tables count) (cond h (room < count) ⊥)))))
      by true d e f g h = (λ x. x, λ x. x)
      by false true e f g h = has_not (kind k)
      by false false true f g h = (
        λ x. (x.crossing, (has_not (uuid zero_uuid)).0 x.none),
        λ x. record { crossing = x.0; none = (has_not (uuid zero_uuid)).1 x.1 },
      )
      by false false false true g h = (λ x. x, λ x. x)
      by false false false false true h = too_few k count
      by false false false false false true = (λ x. x, λ x. x)
      by false false false false false false = (λ x. x, λ x. x)

      at : (a : Bool) → eqb n 20 ≡ a → Condition k s count room n ↔ Refuses k b.tables count room n
      at true q = subst (λ m. Condition k s count room m ↔ Refuses k b.tables count room m) (sym (eqb-true n 20 q)) (λ f. absurd (f b), λ x. absurd x)
      at false q = rw q (by (eqb n 21) (eqb n 22) (eqb n 23) (eqb n 24) (eqb n 25) (eqb n 26))

  -- none of the one applies where none of the other does
  pub none_applies : (k count room : ℕ) → ((n : ℕ) → Condition k s count room n → ⊥) ↔ NoNumber k s count room b
  none_applies k count room = (
    λ f. record { none = λ j r. f j ((condition_is k count room j).1 r) },
    λ f n c. f.none n ((condition_is k count room n).0 c),
  )

module _ (k : ℕ) (s : List ℕ) (count room : ℕ) where
  -- no number is below 20
  below_20 : (j : ℕ) → j < 20 → Condition k s count room j → ⊥
  unfolding Condition
  below_20 j l c =
      rw (
        ne_eqb j 20 (λ e. absurd (omega (arith, l, e))),
        ne_eqb j 21 (λ e. absurd (omega (arith, l, e))),
        ne_eqb j 22 (λ e. absurd (omega (arith, l, e))),
        ne_eqb j 23 (λ e. absurd (omega (arith, l, e))),
        ne_eqb j 24 (λ e. absurd (omega (arith, l, e))),
        ne_eqb j 25 (λ e. absurd (omega (arith, l, e))),
        ne_eqb j 26 (λ e. absurd (omega (arith, l, e))),
      ) at c

  condition_20 : (IsBook s → ⊥) → Condition k s count room 20
  unfolding Condition
  condition_20 h = h

  number_packet : (n : ℕ) → IsNumber k s count room n → PacketApplies k s count room n
  number_packet n f = by f.applies
    where
      by : Applies k s count room n → PacketApplies k s count room n
      by (Applies.no_book unlike e) =
          record {
            holds = subst (Condition k s count room) (sym e) (condition_20 unlike);
            first = λ j l c. below_20 j (omega (arith, l, e)) c;
          }
      by (Applies.of_tables b r) =
          record {
            holds = (condition_is s b k count room n).1 r;
            first = λ j l c. f.first j l (Applies.of_tables b ((condition_is s b k count room j).0 c));
          }

  packet_number : Bytes s → (n : ℕ) → PacketApplies k s count room n → IsNumber k s count room n
  packet_number s-bytes n f = by (book_or_not s s-bytes)
    where
      with-book : IsBook s → IsNumber k s count room n
      with-book b =
          record {
            applies = Applies.of_tables b ((condition_is s b k count room n).0 f.holds);
            first = earlier;
          }
        where
          earlier : (j : ℕ) → j < n → Applies k s count room j → ⊥
          earlier j l (Applies.no_book unlike e) = unlike b
          earlier j l (Applies.of_tables c r) = f.first j l ((condition_is s c k count room j).1 r)

      without : (IsBook s → ⊥) → n ≡ 20 → IsNumber k s count room n
      without unlike e = record { applies = Applies.no_book unlike e; first = earlier }
        where
          earlier : (j : ℕ) → j < n → Applies k s count room j → ⊥
          earlier j l (Applies.no_book h q) = absurd (omega (arith, l, e, q))
          earlier j l (Applies.of_tables c r) = unlike c

      by : (IsBook s) ⊎ (IsBook s → ⊥) → IsNumber k s count room n
      by (inl b) = with-book b
      by (inr unlike) =
          without unlike
          (by_order n 20 (λ l. absurd (below_20 n l f.holds)) (λ e. e) (λ l. absurd (f.first 20 l (condition_20 unlike))))

  pub number_is : Bytes s → (n : ℕ) → PacketApplies k s count room n ↔ IsNumber k s count room n
  number_is s-bytes n = (λ f. packet_number s-bytes n f, λ f. number_packet n f)
