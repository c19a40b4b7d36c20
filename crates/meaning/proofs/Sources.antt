-- Which table a description comes from: the test by places tells the owner of its table. Assumes nothing.
use Rattle.std.specs.Prelude.{None, Option, Some}
use Prim.Native.Nat.{ℕ, zero, suc, ◌+◌, ◌≤◌, ◌<◌}
use mathlib.Core.Path.{◌≡◌, refl, sym, ap, subst, ◌∙◌}
use mathlib.Core.Bool.{Bool, true, false, cond, false≢true}
use mathlib.Core.List.{List, [], ◌∷◌, ◌++◌, map}
use mathlib.Core.Logic.{◌⊎◌, inl, inr}
use Rattle.std.proofs.lemmas.Option.{none-some}
use native.Mathlib.Omega.{arith}
use borrow.Author.Tests.{leb-true, le-leb, ltb-true, lt-ltb}
use lib.Dec.{leb, ltb}
use lib.ListN.{length, length-append}
use Rattle.tlv.specs.Grammar.{All, Apart, field_bytes, fields_bytes}
use Rattle.tlv.proofs.Pieces.{both_true}
use Rattle.book.specs.declared.Uuid.{Uuid}
use Rattle.book.specs.Grammar.{Entry, entry_piece, Owner, kind, uuid, owner_bytes, Table, table_piece, IsBook}
use Rattle.book.specs.Finders.{control_table, uuid_table}
use Rattle.packet.specs.Packet.{is_xdomain, zero_uuid}
use Rattle.field.specs.declared.Source.TheVariants as S
use Rattle.field.specs.Source.{stands_in, source_of}
use Rattle.meaning.specs.First.{NoneOf, Else}
use Rattle.meaning.specs.Packet.{Description, Taken, TableOf, Each, Behind, StepOne, GoesOn, Stays, ProtocolTable, IsPacket}
use Rattle.meaning.specs.Places.{Stands}
use Rattle.meaning.specs.Questions.{IsSource}
use Rattle.meaning.proofs.One.{among_all, one_split}
use Rattle.meaning.proofs.Bridge.{At, TableAt, some_bytes, fields_both, owner_both}
use Rattle.meaning.proofs.Meaning.{Sits, control_table_got, uuid_table_got}
use Rattle.meaning.proofs.Exactly.{apart_before, all_map, tables_before}

-- ---- two tables of one book

-- the same, or the one stands before the other
data Order (B C : List Table) (T t : Table) : Type 0 where
  same : T ≡ t → Order B C T t
  before : (m : List Table) → C ≡ B ++ (T ∷ m) → Order B C T t
  behind : (m : List Table) → B ≡ C ++ (t ∷ m) → Order B C T t

order : (B C : List Table) (T t : Table) (p q : List Table) → B ++ (T ∷ p) ≡ C ++ (t ∷ q) → Order B C T t
order [] [] T t p q e = Order.same cc
order [] (y ∷ C) T t p q e = Order.before C (let z : T ≡ y = cc in ap (λ (x : Table). x ∷ C) (sym z))
order (x ∷ B) [] T t p q e = Order.behind B (let z : x ≡ t = cc in ap (λ (y : Table). y ∷ B) z)
order (x ∷ B) (y ∷ C) T t p q e =
    let tails : B ++ (T ∷ p) ≡ C ++ (t ∷ q) = cc in
    let head : x ≡ y = cc in
    on head (order B C T t p q tails)
  where
    on : x ≡ y → Order B C T t → Order (x ∷ B) (y ∷ C) T t
    on h (Order.same z) = Order.same z
    on h (Order.before m z) = Order.before m cc
    on h (Order.behind m z) = Order.behind m cc

start : List Table → ℕ
start B = length (fields_bytes (map table_piece B))

start_past : (B : List Table) (T : Table) (m : List Table) → start B + 3 + length (table_piece T).body ≤ start (B ++ (T ∷ m))
unfolding start fields_bytes field_bytes
start_past B T m =
    omega (
      arith,
      ap length (fields_both table_piece B (T ∷ m)),
      length-append (fields_bytes (map table_piece B)) (fields_bytes (map table_piece (T ∷ m))),
      length-append (table_piece T).body (fields_bytes (map table_piece m)),
    )

module _ (s : List ℕ) (b : IsBook s) (d : Description) (q : ℕ) (f : Stands b.tables d q) where
  from : start f.before + 3 ≤ q
  unfolding start
  from = omega (arith, f.place_is)

  upto : q < start f.before + 3 + length (table_piece f.table).body
  unfolding start
  upto =
      let front : List ℕ = fields_bytes (map entry_piece f.entries_before) in
      let back : List ℕ = fields_bytes (map entry_piece (d.entry ∷ f.entries_behind)) in
      let all : fields_bytes (map entry_piece f.table.entries) ≡ front ++ back =
      ap (λ (l : List Entry). fields_bytes (map entry_piece l)) f.entry_among ∙ fields_both entry_piece f.entries_before (d.entry ∷ f.entries_behind) in
      let size : length (table_piece f.table).body ≡ length (owner_bytes f.table.owner front) + length back =
      ap (λ (l : List ℕ). length (owner_bytes f.table.owner l)) all ∙ owner_both f.table.owner front back in
      omega (arith, f.place_is, size, some_bytes entry_piece d.entry f.entries_behind)

  module _ (t : Table) (p : ℕ) (a : TableAt b.tables s t p) where
    in_true : stands_in s (Some p) q ≡ true → d.owner ≡ t.owner
    unfolding stands_in start
    in_true e =
        let w = both_true (leb (p + 3) q) (ltb q (p + 3 + length (table_piece t).body)) (rw a.reads at e) in
        let low : p + 3 ≤ q = leb-true (p + 3) q w.0 in
        let high : q < p + 3 + length (table_piece t).body = ltb-true q (p + 3 + length (table_piece t).body) w.1 in
        by low high (order f.before a.before f.table t f.behind a.behind (sym f.among ∙ a.among))
      where
        by : p + 3 ≤ q → q < p + 3 + length (table_piece t).body → Order f.before a.before f.table t → d.owner ≡ t.owner
        by low high (Order.same z) = f.owner_is ∙ ap (λ (x : Table). x.owner) z
        by low high (Order.before m z) = absurd (omega (arith, low, upto, a.here, ap start z, start_past f.before f.table m))
        by low high (Order.behind m z) = absurd (omega (arith, high, from, a.here, ap start z, start_past a.before t m))

    in_own : d.owner ≡ t.owner → stands_in s (Some p) q ≡ true
    unfolding stands_in start
    in_own e =
        let ours : NoneOf (λ u. u.owner ≡ d.owner) a.before =
        all_map (λ u h z. h (z ∙ e)) a.before
        (apart_before (λ u v. u.owner ≡ v.owner) a.before t a.behind (subst (Apart (λ u v. u.owner ≡ v.owner)) a.among b.tables_apart)) in
        let w = one_split (λ (u : Table). u.owner ≡ d.owner) f.before a.before f.table t f.behind a.behind (sym f.among ∙ a.among)
        (sym f.owner_is) (sym e) (tables_before s b d q f) ours in
        let here : p ≡ start f.before = a.here ∙ ap start (sym w.1) in
        let size : length (table_piece f.table).body ≡ length (table_piece t).body = ap (λ (x : Table). length (table_piece x).body) w.0 in
        rw (a.reads, le-leb (p + 3) q (omega (arith, here, from)), lt-ltb q (p + 3 + length (table_piece t).body) (omega (arith, here, upto, size)))

  -- by a table that may be there
  pub told_in : (w : Owner) (g : Option ℕ) (t : Option Table) → TableOf b.tables w t → Sits s b t g → (c : Bool) → stands_in s g q ≡ c → cond c (d.owner ≡ w) (d.owner ≡ w → ⊥)
  unfolding stands_in
  told_in w (Some p) (Some t) is a true e = in_true t p a e ∙ is.so
  told_in w (Some p) (Some t) is a false e = λ h. false≢true (sym e ∙ in_own t p a (h ∙ sym is.so))
  told_in w (Some p) None is a c e = absurd a
  told_in w None (Some t) is a c e = absurd a
  told_in w None None is a true e = absurd (false≢true e)
  told_in w None None is a false e =
      λ h. among_all (λ u. u.owner ≡ w → ⊥) f.before f.table f.behind (subst (NoneOf (λ u. u.owner ≡ w)) f.among is) (sym f.owner_is ∙ h)

-- ---- whose table a packet's description comes from

-- the kind's own, or a UUID's
abbrev pub Owned : ℕ → Option Description → Type 0
Owned k (Some d) = (d.owner ≡ kind k) ⊎ ((u : Uuid) × (d.owner ≡ uuid u))
Owned k None = Unit {0}

taken_owned : (k : ℕ) (So : Entry → Type 0) (t : Table) → (t.owner ≡ kind k) ⊎ ((u : Uuid) × (t.owner ≡ uuid u)) → (o : Option Description) → Taken So t o → Owned k o
taken_owned k So t (inl e) (Some d) h = inl (h.0 ∙ e)
taken_owned k So t (inr e) (Some d) h = inr (e.0, h.0 ∙ e.1)
taken_owned k So t w None h = tt

else_owned : (k : ℕ) {P Q : Option Description → Type 0} → ((o : Option Description) → P o → Owned k o) → ((o : Option Description) → Q o → Owned k o)
    → (o : Option Description) → Else P Q o → Owned k o
else_owned k p q (Some d) (inl h) = p (Some d) h
else_owned k p q (Some d) (inr h) = q (Some d) h.1
else_owned k p q None h = tt

each_all : {P : ℕ → ℕ → Option Description → Type 0} {Q : Option Description → Type 0} → ((i d : ℕ) (o : Option Description) → P i d o → Q o)
    → (i : ℕ) (ds : List ℕ) (os : List (Option Description)) → Each P i ds os → All Q os
each_all f i [] [] e = tt
each_all f i [] (o ∷ os) e = absurd e
each_all f i (d ∷ ds) [] e = absurd e
each_all f i (d ∷ ds) (o ∷ os) e = (f i d o e.0, each_all f (suc i) ds os e.1)

step_owned : (k : ℕ) (control header : Table) → control.owner ≡ kind k → header.owner ≡ uuid zero_uuid → (i : ℕ) (o : Option Description) → StepOne control header i o → Owned k o
step_owned k control header c h i = else_owned k (taken_owned k _ control (inl c)) (taken_owned k _ header (inr (zero_uuid, h)))

behind_owned : (k : ℕ) (tables : List Table) (ds : List ℕ) (before : ℕ → Option Description → Type 0) → ((i : ℕ) (o : Option Description) → before i o → Owned k o)
    → (u : Option Uuid) (t : Option Table) → ProtocolTable tables u t → (i : ℕ) (o : Option Description) → Behind ds before t i o → Owned k o
behind_owned k tables ds known f (Some u) (Some t) is i o h =
    else_owned k (f i) (else_owned k (taken_owned k _ t (inr (u, is.so))) (taken_owned k _ t (inr (u, is.so)))) o h.takes
behind_owned k tables ds known f None (Some t) is i o h = absurd (none-some t (sym is))
behind_owned k tables ds known f u None is i o h = f i o h

pub packet_owned : (k : ℕ) (tables : List Table) (ds : List ℕ) (os : List (Option Description)) (u : Option Uuid) (n : Option ℕ) → IsPacket k tables ds os u n → All (Owned k) os
packet_owned k tables ds os u n p = by (is_xdomain k) p.described
  where
    by : (c : Bool) → cond c (GoesOn tables p.control ds os u) (Stays p.control ds os u) → All (Owned k) os
    by true g =
        each_all (λ i d o h. behind_owned k tables ds (StepOne p.control g.header) (step_owned k p.control g.header p.control_is.so g.header_is.so) u g.protocol g.protocol_is i o h) 0 ds os g.each
    by false g = each_all (λ i d o h. taken_owned k _ p.control (inl p.control_is.so) o h) 0 ds os g.each

-- ---- the source

pub kind_uuid : (k : ℕ) (u : Uuid) → kind k ≡ uuid u → ⊥
kind_uuid k u e = let z : ◌≡◌ {A = ℕ} 0 1 = cc in omega arith

module _ (s : List ℕ) (b : IsBook s) (k : ℕ) where
  pub source_told : (o : Option Description) (q : ℕ) → At b.tables s o q → Owned k o → IsSource b.tables o (source_of k s q)
  unfolding source_of
  source_told None zero a w = tt
  source_told None (suc q) a w = absurd (omega (arith, a))
  source_told (Some d) zero a w = absurd (omega (arith, a.stood.some_place))
  source_told (Some d) (suc q) a w =
      let c = control_table_got s b k in
      let h = uuid_table_got s b zero_uuid in
      by (stands_in s (control_table s k) (suc q)) (told_in s b d (suc q) a.stands (kind k) (control_table s k) c.value c.is c.there (stands_in s (control_table s k) (suc q)) refl)
      (stands_in s (uuid_table s zero_uuid) (suc q)) (told_in s b d (suc q) a.stands (uuid zero_uuid) (uuid_table s zero_uuid) h.value h.is h.there (stands_in s (uuid_table s zero_uuid) (suc q)) refl)
      w
    where
      by : (x : Bool) → cond x (d.owner ≡ kind k) (d.owner ≡ kind k → ⊥) → (y : Bool) → cond y (d.owner ≡ uuid zero_uuid) (d.owner ≡ uuid zero_uuid → ⊥)
          → Owned k (Some d)
          → IsSource b.tables (Some d) (cond x (S.Control (record { at = suc q })) (cond y (S.Header (record { at = suc q })) (S.Protocol (record { at = suc q }))))
      by true x y h w = (k, x, a.stands)
      by false x true h w = (h, a.stands)
      by false x false h (inl e) = absurd (x e)
      by false x false h (inr e) = (e.0, e.1, λ z. h (e.1 ∙ ap uuid z), a.stands)
