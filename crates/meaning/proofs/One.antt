-- The relation has one answer. Nothing here knows of bytes. Assumes nothing.
use Rattle.std.specs.Prelude.{None, Option, Some}
use Prim.Native.Nat.{ℕ, suc}
use mathlib.Core.Path.{◌≡◌, refl, sym, ap, subst, ◌∙◌}
use mathlib.Core.Bool.{Bool, true, false, cond}
use mathlib.Core.List.{List, [], ◌∷◌, ◌++◌}
use mathlib.Core.Logic.{inl, inr}
use Rattle.std.proofs.lemmas.Option.{none-some, same_Some}
use lib.ListN.{length, get_or}
use Rattle.text.specs.Quote.{bytes}
use Rattle.text.proofs.Places.{by_order}
use Rattle.tlv.specs.Grammar.{All}
use Rattle.book.specs.declared.Uuid.{Uuid}
use Rattle.book.specs.Grammar.{Value, Range, Entry, Owner, kind, uuid, Table}
use Rattle.packet.specs.Packet.{is_read_response_or_write_request, is_xdomain, zero_uuid}
use Rattle.meaning.specs.First.{First, FirstOf, NoneOf, Else}
use Rattle.meaning.specs.Packet.{Description, OfOffset, OfType, Taken, ranges_of, RangeNamed, value_of, ValueNumbered, TypeNamed, Each, Gathers, four, IsUuid, Control, StepOne, Fits, Takes, Latches, Governs, StepThree, TableOf, ProtocolTable, Behind, GoesOn, Stays, Holds, JustAfter, View, IsPacket}

-- at most one answer
abbrev pub Single : {X : Type 0} → (Option X → Type 0) → Type 0
Single {X} P = (a b : Option X) → P a → P b → a ≡ b

-- what is so is not among those of which none is
pub among_all : {X : Type 0} (P : X → Type 0) (before : List X) (x : X) (behind : List X) → All P (before ++ (x ∷ behind)) → P x
among_all P [] x behind a = a.0
among_all P (y ∷ before) x behind a = among_all P before x behind a.1

module _ {X : Type 0} (So : X → Type 0) where
  pub one_split : (b c : List X) (x y : X) (p q : List X) → b ++ (x ∷ p) ≡ c ++ (y ∷ q) → So x → So y → NoneOf So b → NoneOf So c
      → (x ≡ y) × (b ≡ c)
  one_split [] [] x y p q e sx sy nb nc = (cc, refl)
  one_split [] (z ∷ c) x y p q e sx sy nb nc = let same : x ≡ z = cc in absurd (nc.0 (rw same at sx))
  one_split (z ∷ b) [] x y p q e sx sy nb nc = let same : z ≡ y = cc in absurd (nb.0 (rw (← same) at sy))
  one_split (z ∷ b) (w ∷ c) x y p q e sx sy nb nc =
      let tails : b ++ (x ∷ p) ≡ c ++ (y ∷ q) = cc in
      let r = one_split b c x y p q tails sx sy nb.1 nc.1 in
      let head : z ≡ w = cc in
      let tail : b ≡ c = r.1 in
      (r.0, cc)

  pub one_first : {xs : List X} {x y : X} (f : First So xs x) (g : First So xs y) → (x ≡ y) × (f.before ≡ g.before)
  one_first {xs} {x} {y} f g =
      one_split f.before g.before x y f.behind g.behind (sym f.among ∙ g.among) f.so g.so f.none_before g.none_before

  pub first_some : {xs : List X} {x : X} → First So xs x → NoneOf So xs → ⊥
  first_some {xs} {x} f n = among_all (λ y. So y → ⊥) f.before x f.behind (subst (NoneOf So) f.among n) f.so

  pub one_of : (xs : List X) → Single (FirstOf So xs)
  one_of xs (Some x) (Some y) f g = ap Some (one_first f g).0
  one_of xs (Some x) None f g = absurd (first_some f g)
  one_of xs None (Some y) f g = absurd (first_some g f)
  one_of xs None None f g = refl

pub one_else : {X : Type 0} {P Q : Option X → Type 0} → Single P → Single Q → Single (Else P Q)
one_else p q (Some x) (Some y) (inl f) (inl g) = p (Some x) (Some y) f g
one_else p q (Some x) (Some y) (inl f) (inr g) = absurd (none-some x (sym (p (Some x) None f g.0)))
one_else p q (Some x) (Some y) (inr f) (inl g) = absurd (none-some y (sym (p (Some y) None g f.0)))
one_else p q (Some x) (Some y) (inr f) (inr g) = q (Some x) (Some y) f.1 g.1
one_else p q (Some x) None (inl f) g = absurd (none-some x (sym (p (Some x) None f g.0)))
one_else p q (Some x) None (inr f) g = q (Some x) None f.1 g.1
one_else p q None (Some y) f (inl g) = absurd (none-some y (sym (p (Some y) None g f.0)))
one_else p q None (Some y) f (inr g) = q None (Some y) f.1 g.1
one_else p q None None f g = refl

pub one_taken : (So : Entry → Type 0) (t : Table) → Single (Taken So t)
one_taken So t (Some d) (Some e) f g =
    let owner : d.owner ≡ e.owner = f.0 ∙ sym g.0 in
    let entry : d.entry ≡ e.entry = (one_first So f.1 g.1).0 in
    ap Some (λ i. record { owner = owner i; entry = entry i })
one_taken So t (Some d) None f g = absurd (first_some So f.1 g)
one_taken So t None (Some e) f g = absurd (first_some So g.1 f)
one_taken So t None None f g = refl

pub one_range : (name : List ℕ) (o : Option Description) → Single (RangeNamed name o)
one_range name o = one_of (λ q. q.name ≡ name) (ranges_of o)

-- the book's row for the value of a range that may be there
abbrev pub ValueNamed : Option Range → ℕ → Option Value → Type 0
ValueNamed (Some r) dword v = ValueNumbered r (value_of r dword) v
ValueNamed None dword v = v ≡ None

pub one_value : (r : Option Range) (dword : ℕ) → Single (ValueNamed r dword)
one_value (Some r) dword = one_of (λ w. w.number ≡ value_of r dword) r.values
one_value None dword = λ a b f g. f ∙ sym g

pub one_type : (o : Option Description) (dword : ℕ) (n m : List ℕ) → TypeNamed o dword n → TypeNamed o dword m → n ≡ m
one_type o dword n m a b =
    let range : a.range ≡ b.range = same_Some a.range b.range (one_range (bytes "Packet Type") o (Some a.range) (Some b.range) a.range_is b.range_is) in
    let there : ValueNamed (Some b.range) dword (Some a.value) = subst (λ r. ValueNamed (Some r) dword (Some a.value)) range a.value_is in
    let value : a.value ≡ b.value = same_Some a.value b.value (one_value (Some b.range) dword (Some a.value) (Some b.value) there b.value_is) in
    sym a.name_is ∙ ap (λ (v : Value). v.name) value ∙ b.name_is

-- ---- each dword

pub one_each : (P : ℕ → ℕ → Option Description → Type 0) → ((i d : ℕ) → Single (P i d)) → (i : ℕ) (ds : List ℕ) (os qs : List (Option Description))
    → Each P i ds os → Each P i ds qs → os ≡ qs
one_each P one i [] [] [] f g = refl
one_each P one i [] [] (q ∷ qs) f g = absurd g
one_each P one i [] (o ∷ os) qs f g = absurd f
one_each P one i (d ∷ ds) [] qs f g = absurd f
one_each P one i (d ∷ ds) (o ∷ os) [] f g = absurd g
one_each P one i (d ∷ ds) (o ∷ os) (q ∷ qs) f g =
    let head : o ≡ q = one i d o q f.0 g.0 in
    let tail : os ≡ qs = one_each P one (suc i) ds os qs f.1 g.1 in
    cc

pub one_gather : (name ds : List ℕ) (os : List (Option Description)) (l m : List ℕ) → Gathers name ds os l → Gathers name ds os m → l ≡ m
one_gather name ds os l m Gathers.end Gathers.end = refl
one_gather name ds os l m (Gathers.one {d} n f) (Gathers.one n' g) = ap (λ (k : List ℕ). d ∷ k) (one_gather name _ _ _ _ f g)
one_gather name ds os l m (Gathers.one n f) (Gathers.other n' g) = absurd (n' n)
one_gather name ds os l m (Gathers.other n f) (Gathers.one n' g) = absurd (n n')
one_gather name ds os l m (Gathers.other n f) (Gathers.other n' g) = one_gather name _ _ _ _ f g

pub one_uuid : (name ds : List ℕ) (os : List (Option Description)) → Single (IsUuid name ds os)
one_uuid name ds os (Some u) (Some v) f g =
    let l : four u ≡ four v = one_gather name ds os (four u) (four v) f g in
    let a : u.first ≡ v.first = cc in
    let b : u.second ≡ v.second = cc in
    let c : u.third ≡ v.third = cc in
    let d : u.fourth ≡ v.fourth = cc in
    ap Some (λ i. record { first = a i; second = b i; third = c i; fourth = d i })
one_uuid name ds os (Some u) None f g = absurd (g u f)
one_uuid name ds os None (Some v) f g = absurd (f v g)
one_uuid name ds os None None f g = refl

-- ---- the latch

module _ (ds : List ℕ) (before : ℕ → Option Description → Type 0) (one-before : (i : ℕ) → Single (before i)) (protocol : Table) where
  pub one_fits : (l : Option (List ℕ)) (i : ℕ) → Single (Fits ds before protocol l i)
  one_fits l i = one_else (one_taken (OfType i l) protocol) (one_taken (OfType i None) protocol)

  pub one_takes : (l : Option (List ℕ)) (i : ℕ) → Single (Takes ds before protocol l i)
  one_takes l i = one_else (one-before i) (one_fits l i)

  pub one_latch : (j : ℕ) (n m : List ℕ) → Latches ds before protocol j n → Latches ds before protocol j m → n ≡ m
  one_latch j n m a b =
      let same : a.described ≡ b.described = one_takes None j a.described b.described a.describes b.describes in
      one_type b.described (get_or ds j 0) n m (subst (λ o. TypeNamed o (get_or ds j 0) n) same a.named) b.named

  pub one_governs : (i : ℕ) → Single (Governs ds before protocol i)
  one_governs i (Some n) (Some m) f g =
      by_order f.0 g.0
      (λ h. absurd (g.3 f.0 h n f.2))
      (λ e. ap Some (one_latch g.0 n m (subst (λ j. Latches ds before protocol j n) e f.2) g.2))
      (λ h. absurd (f.3 g.0 h m g.2))
  one_governs i (Some n) None f g = absurd (g f.0 f.1 n f.2)
  one_governs i None (Some m) f g = absurd (f g.0 g.1 m g.2)
  one_governs i None None f g = refl

  pub one_three : (i : ℕ) → Single (StepThree ds before protocol i)
  one_three i a b f g =
      let same : f.latched ≡ g.latched = one_governs i f.latched g.latched f.governs g.governs in
      one_takes g.latched i a b (subst (λ l. Takes ds before protocol l i a) same f.takes) g.takes

pub one_control : (control : Table) (i : ℕ) → Single (Control control i)
one_control control i = one_taken (OfOffset i) control

pub one_step : (control header : Table) (i : ℕ) → Single (StepOne control header i)
one_step control header i = one_else (one_control control i) (one_taken (OfType i None) header)

pub one_behind : (ds : List ℕ) (before : ℕ → Option Description → Type 0) → ((i : ℕ) → Single (before i)) → (t : Option Table) (i : ℕ) → Single (Behind ds before t i)
one_behind ds before one (Some t) = one_three ds before one t
one_behind ds before one None = one

pub one_table : (tables : List Table) (owner : Owner) → Single (TableOf tables owner)
one_table tables owner = one_of (λ t. t.owner ≡ owner) tables

pub one_protocol : (tables : List Table) (u : Option Uuid) → Single (ProtocolTable tables u)
one_protocol tables (Some u) = one_table tables (uuid u)
one_protocol tables None = λ a b f g. f ∙ sym g

-- ---- the view

pub one_after : (So : Option Description → Type 0) (os : List (Option Description)) → Single (JustAfter So os)
one_after So os (Some n) (Some m) f g =
    ap Some (f.2 ∙ ap suc (sym f.1.so_many ∙ ap length (one_first So f.1.first g.1.first).1 ∙ g.1.so_many) ∙ sym g.2)
one_after So os (Some n) None f g = absurd (first_some So f.1.first g)
one_after So os None (Some m) f g = absurd (first_some So g.1.first f)
one_after So os None None f g = refl

pub one_view : (k : ℕ) (control : Table) (os : List (Option Description)) → Single (View k control os)
one_view k control os a b = by (is_read_response_or_write_request k) (is_xdomain k)
  where
    by : (v c : Bool)
        → cond v (a ≡ Some (length control.entries)) (cond c (JustAfter (Holds (bytes "Properties Block Generation")) os a) (a ≡ None))
        → cond v (b ≡ Some (length control.entries)) (cond c (JustAfter (Holds (bytes "Properties Block Generation")) os b) (b ≡ None))
        → a ≡ b
    by true c f g = f ∙ sym g
    by false true f g = one_after (Holds (bytes "Properties Block Generation")) os a b f g
    by false false f g = f ∙ sym g

-- ---- the packet

-- what a packet is told of: its descriptions, its UUID and the start of its view
pub record Alike (os qs : List (Option Description)) (u v : Option Uuid) : Type 0 where
  pub described : os ≡ qs
  pub uuid : u ≡ v

one_goes : (tables : List Table) (control : Table) (ds : List ℕ) {os qs : List (Option Description)} {u v : Option Uuid}
    → GoesOn tables control ds os u → GoesOn tables control ds qs v → Alike os qs u v
one_goes tables control ds {os} {qs} {u} {v} f g =
    let header : f.header ≡ g.header = same_Some f.header g.header (one_table tables (uuid zero_uuid) (Some f.header) (Some g.header) f.header_is g.header_is) in
    let first : f.first ≡ g.first = one_each (λ i d. StepOne control g.header i) (λ i d. one_step control g.header i) 0 ds f.first g.first
    (subst (λ h. Each (λ i d. StepOne control h i) 0 ds f.first) header f.first_are) g.first_are in
    let same : u ≡ v = one_uuid (bytes "UUID") ds g.first u v (subst (λ l. IsUuid (bytes "UUID") ds l u) first f.uuid_is) g.uuid_is in
    let protocol : f.protocol ≡ g.protocol = one_protocol tables v f.protocol g.protocol (subst (λ w. ProtocolTable tables w f.protocol) same f.protocol_is) g.protocol_is in
    record {
      described = one_each (λ i d. Behind ds (StepOne control g.header) g.protocol i) (λ i d. one_behind ds (StepOne control g.header) (one_step control g.header) g.protocol i) 0 ds os qs
          (subst (λ h. Each (λ i d. Behind ds (StepOne control h) g.protocol i) 0 ds os) header (subst (λ t. Each (λ i d. Behind ds (StepOne control f.header) t i) 0 ds os) protocol f.each))
          g.each;
      uuid = same;
    }

one_stays : (control : Table) (ds : List ℕ) {os qs : List (Option Description)} {u v : Option Uuid} → Stays control ds os u → Stays control ds qs v → Alike os qs u v
one_stays control ds {os} {qs} f g =
    record {
      described = one_each (λ i d. Control control i) (λ i d. one_control control i) 0 ds os qs f.each g.each;
      uuid = f.no_uuid ∙ sym g.no_uuid;
    }

-- a kind, tables and dwords make one packet
pub one_packet : (k : ℕ) (tables : List Table) (ds : List ℕ) {os qs : List (Option Description)} {u v : Option Uuid} {n m : Option ℕ}
    → IsPacket k tables ds os u n → IsPacket k tables ds qs v m → (os ≡ qs) × (u ≡ v) × (n ≡ m)
one_packet k tables ds {os} {qs} {u} {v} {n} {m} f g =
    let control : f.control ≡ g.control = same_Some f.control g.control (one_table tables (kind k) (Some f.control) (Some g.control) f.control_is g.control_is) in
    let same : Alike os qs u v = by (is_xdomain k) (subst (λ t. cond (is_xdomain k) (GoesOn tables t ds os u) (Stays t ds os u)) control f.described) g.described in
    (same.described, same.uuid, one_view k g.control qs n m (subst (λ l. View k g.control l n) same.described (subst (λ t. View k t os n) control f.view)) g.view)
  where
    by : (b : Bool) → cond b (GoesOn tables g.control ds os u) (Stays g.control ds os u) → cond b (GoesOn tables g.control ds qs v) (Stays g.control ds qs v) → Alike os qs u v
    by true a b = one_goes tables g.control ds a b
    by false a b = one_stays g.control ds a b
