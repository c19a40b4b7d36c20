-- The packet of a kind, a book and dwords is the relation's, and its places are where its descriptions stand. Assumes nothing.
use Rattle.std.specs.Prelude.{None, Option, Some}
use Prim.Native.Nat.{ℕ, suc, ◌+◌, ◌%◌, ◌≤◌, ◌<◌}
use mathlib.Core.Path.{◌≡◌, refl, sym, ap, subst, ◌∙◌}
use mathlib.Core.Bool.{Bool, true, false, cond, not, ◌&&◌, false≢true}
use mathlib.Core.List.{List, [], ◌∷◌, map}
use Rattle.std.proofs.lemmas.Option.{none-some}
use native.Mathlib.Omega.{arith}
use borrow.Author.Tests.{eq-eqb, ne_eqb, ltb-false}
use lib.Dec.{eqb, ltb}
use lib.ListN.{length, get_or, length-append}
use Rattle.text.specs.Quote.{bytes}
use Rattle.tlv.specs.Grammar.{fields_bytes}
use Rattle.tlv.proofs.Pieces.{made_field}
use Rattle.book.specs.declared.Uuid.{Uuid}
use Rattle.book.specs.Grammar.{Range, GoodRange, range_piece, Owner, kind, uuid, Table, GoodTable, table_piece, IsBook}
use Rattle.book.specs.Finders.{FirstSo, place_of, control_table, uuid_table, entry_count}
use Rattle.book.proofs.Finding.{first_stands}
use Rattle.book.proofs.Answers.{first_good, control_table_is, control_table_none, uuid_table_is, uuid_table_none, count_entries_is}
use Rattle.packet.specs.declared.field.Ask.TheVariants as Ask
use Rattle.packet.specs.Field.{range_in, asks}
use Rattle.packet.specs.Steps.{control_places, header_places, values_named, exactly_four, gathered, protocol_places, places_in, places_by, uuid_places}
use Rattle.packet.proofs.Packets.{Passed, passed, length_places}
use Rattle.packet.specs.Packet.{is_nothing, number_checked, is_read_response_or_write_request, is_xdomain, zero_uuid, control_at, header_at, entries_of, step_one, places_of, uuid_of, first_from, behind, view_from, word}
use Rattle.meaning.specs.First.{NoneOf}
use Rattle.meaning.specs.Packet.{Description, RangeNamed, Each, Gathers, four, IsUuid, StepOne, TableOf, ProtocolTable, Behind, GoesOn, Stays, Holds, FoundAt, JustAfter, View, IsPacket}
use Rattle.meaning.proofs.One.{one_gather, one_range, one_step}
use Rattle.meaning.proofs.Bridge.{Place, At, TableAt, table_place, range_got}
use Rattle.meaning.proofs.Describing.{AllAt, GotEach, control_got, header_got, gathers, protocol_got}

-- ---- the UUID

pub four_or_none : (name ds : List ℕ) (os : List (Option Description)) (l : List ℕ) → Gathers name ds os l → IsUuid name ds os (exactly_four l)
four_or_none name ds os [] g = λ u h. absurd (omega (arith, ap length (one_gather name ds os [] (four u) g h)))
four_or_none name ds os (a ∷ []) g = λ u h. absurd (omega (arith, ap length (one_gather name ds os (a ∷ []) (four u) g h)))
four_or_none name ds os (a ∷ b ∷ []) g = λ u h. absurd (omega (arith, ap length (one_gather name ds os (a ∷ b ∷ []) (four u) g h)))
four_or_none name ds os (a ∷ b ∷ c ∷ []) g = λ u h. absurd (omega (arith, ap length (one_gather name ds os (a ∷ b ∷ c ∷ []) (four u) g h)))
four_or_none name ds os (a ∷ b ∷ c ∷ d ∷ []) g = g
four_or_none name ds os (a ∷ b ∷ c ∷ d ∷ e ∷ l) g = λ u h. absurd (omega (arith, ap length (one_gather name ds os (a ∷ b ∷ c ∷ d ∷ e ∷ l) (four u) g h)))

-- ---- tables

module _ (s : List ℕ) (b : IsBook s) where
  table_at : {So : Table → Type 0} {p : ℕ} (f : FirstSo s table_piece So b.tables p) → TableAt b.tables s f.value p
  unfolding fields_bytes
  table_at {So} {p} f =
      record {
        good = first_good GoodTable f b.tables_good;
        stands = first_stands f;
        before = f.before;
        behind = f.behind;
        among = f.among;
        here = table_place s f.before f.value f.behind (b.bytes ∙ ap (λ (l : List Table). fields_bytes (map table_piece l)) f.among) p f.rest;
        reads = made_field s p (table_piece f.value).tag (table_piece f.value).body (fields_bytes (map table_piece f.behind)) f.rest;
      }

  -- a table of the relation, and where it stands
  abbrev pub Sits : Option Table → Option ℕ → Type 0
  Sits (Some t) (Some p) = TableAt b.tables s t p
  Sits (Some t) None = ⊥
  Sits None (Some p) = ⊥
  Sits None None = Unit {0}

  pub record TableGot (owner : Owner) (f : Option ℕ) : Type 0 where
    pub value : Option Table
    pub is : TableOf b.tables owner value
    pub there : Sits value f

  table_got : (owner : Owner) (f : Option ℕ) → ((p : ℕ) → f ≡ Some p → FirstSo s table_piece (λ t. t.owner ≡ owner) b.tables p)
      → (f ≡ None → NoneOf (λ t. t.owner ≡ owner) b.tables) → TableGot owner f
  table_got owner (Some p) at nothing =
      let w = at p refl in
      record {
        value = Some w.value;
        is = record { before = w.before; behind = w.behind; among = w.among; so = w.so; none_before = w.none_before };
        there = table_at w;
      }
  table_got owner None at nothing = record { value = None; is = nothing refl; there = tt }

  pub control_table_got : (k : ℕ) → TableGot (kind k) (control_table s k)
  control_table_got k = table_got (kind k) (control_table s k) (control_table_is s b k) (control_table_none s b k)

  pub uuid_table_got : (u : Uuid) → TableGot (uuid u) (uuid_table s u)
  uuid_table_got u = table_got (uuid u) (uuid_table s u) (uuid_table_is s b u) (uuid_table_none s b u)

  -- ---- steps 2 and 3

  module _ (control header : Table) (ds ps : List ℕ) (g : GotEach b.tables s (λ i d. StepOne control header i) 0 ds ps) where
    pub record Third (u : Option Uuid) (qs : List ℕ) : Type 0 where
      pub values : List (Option Description)
      pub protocol : Option Table
      pub protocol_is : ProtocolTable b.tables (u) protocol
      pub each : Each (λ i d. Behind ds (StepOne control header) protocol i) 0 ds values
      pub there : AllAt b.tables s values qs

    in_table : (u : Uuid) (f : Option ℕ) (t : Option Table) → TableOf b.tables (uuid u) t → Sits t f → Third (Some u) (places_in s f ds ps)
    unfolding protocol_places
    in_table u (Some p) (Some t) is a =
        let r = protocol_got b.tables s ds (StepOne control header) (one_step control header) t p a 0 ds ps g.values (λ j. ap (λ (n : ℕ). get_or ds n 0) (omega arith)) 0
        (record { latched = None; governs = λ h l n w. absurd (omega arith); there = refl }) g.are g.there in
        record { values = r.values; protocol = Some t; protocol_is = is; each = r.are; there = r.there }
    in_table u (Some p) None is a = absurd a
    in_table u None (Some t) is a = absurd a
    in_table u None None is a = record { values = g.values; protocol = None; protocol_is = is; each = g.are; there = g.there }

    pub third : (u : Option Uuid) → Third u (places_by s u ds ps)
    third (Some u) = let w = uuid_table_got u in in_table u (uuid_table s u) w.value w.is w.there
    third None = record { values = g.values; protocol = None; protocol_is = refl; each = g.are; there = g.there }

  -- ---- the descriptions and the UUID, by whether the kind goes on

  pub record Body (c : Bool) (control : Table) (ds ps : List ℕ) (u : Option Uuid) : Type 0 where
    pub values : List (Option Description)
    pub described : cond c (GoesOn b.tables control ds values (u)) (Stays control ds values (u))
    pub there : AllAt b.tables s values ps

  pub body_stays : (control : Table) (p : ℕ) → TableAt b.tables s control p → (ds : List ℕ) → Body false control ds (control_places s p ds) None
  body_stays control p a ds =
      let g = control_got b.tables s control p a ds in
      record { values = g.values; described = record { each = g.are; no_uuid = refl }; there = g.there }

  pub body_goes_on : (control header : Table) (p h : ℕ) → TableAt b.tables s control p → TableOf b.tables (uuid zero_uuid) (Some header) → TableAt b.tables s header h → (ds : List ℕ)
      → Body true control ds (uuid_places s ds (header_places s h (control_places s p ds))) (gathered s (bytes "UUID") ds (header_places s h (control_places s p ds)))
  unfolding uuid_places gathered
  body_goes_on control header p h a is w ds =
      let ps : List ℕ = header_places s h (control_places s p ds) in
      let g = header_got b.tables s header h w control ds (control_places s p ds) (control_got b.tables s control p a ds) in
      let u : Option Uuid = exactly_four (values_named s (bytes "UUID") ds ps) in
      let r = third control header ds ps g u in
      record {
        values = r.values;
        described =
            record {
              header = header;
              header_is = is;
              first = g.values;
              first_are = g.are;
              uuid_is = four_or_none (bytes "UUID") ds g.values (values_named s (bytes "UUID") ds ps)
                  (gathers b.tables s (bytes "UUID") (λ i d. StepOne control header i) 0 ds ps g.values g.are g.there);
              protocol = r.protocol;
              protocol_is = r.protocol_is;
              each = r.each;
            };
        there = r.there;
      }

  -- ---- the view

  pub asks_holds : (name : List ℕ) (o : Option Description) (q : ℕ) → At b.tables s o q → asks Ask.Holds s name q ≡ true → Holds name o
  unfolding asks
  asks_holds name o q a e = let g = range_got b.tables s name o q a in by g.value g.is g.there
    where
      by : (r : Option Range) → RangeNamed name o r → Place range_piece GoodRange s r (range_in s name q) → Holds name o
      by (Some r) h l = (r, h)
      by None h l = absurd (false≢true (sym (ap not (eq-eqb (range_in s name q) 0 l)) ∙ e))

  pub holds_asks : (name : List ℕ) (o : Option Description) (q : ℕ) → At b.tables s o q → Holds name o → asks Ask.Holds s name q ≡ true
  unfolding asks
  holds_asks name o q a h = let g = range_got b.tables s name o q a in by g.value g.is g.there
    where
      by : (r : Option Range) → RangeNamed name o r → Place range_piece GoodRange s r (range_in s name q) → not (eqb (range_in s name q) 0) ≡ true
      by (Some r) w l = rw (ne_eqb (range_in s name q) 0 (λ z. absurd (omega (arith, z, l.some_place))))
      by None w l = absurd (none-some h.0 (sym (one_range name o (Some h.0) None h.1 w)))

  module _ (ok : ℕ → Bool) (So : Option Description → Type 0)
      (told : (o : Option Description) (q : ℕ) → At b.tables s o q → ok q ≡ true → So o)
      (wants : (o : Option Description) (q : ℕ) → At b.tables s o q → So o → ok q ≡ true) where
    -- the first index, counted from i
    abbrev pub Told : List (Option Description) → ℕ → Option ℕ → Type 0
    Told os i (Some j) = (n : ℕ) × (j ≡ i + n) × FoundAt So os n
    Told os i None = NoneOf So os

    later : (o : Option Description) (os : List (Option Description)) → (So o → ⊥) → (i : ℕ) (f : Option ℕ) → Told os (suc i) f → Told (o ∷ os) i f
    later o os isnt i (Some j) t = (
      suc t.0,
      omega (arith, t.1),
      record {
        value = t.2.value;
        first =
            record {
              before = o ∷ t.2.first.before;
              behind = t.2.first.behind;
              among = ap (λ (l : List (Option Description)). o ∷ l) t.2.first.among;
              so = t.2.first.so;
              none_before = (isnt, t.2.first.none_before);
            };
        so_many = ap suc t.2.so_many;
      },
    )
    later o os isnt i None t = (isnt, t)

    pub first_told : (i : ℕ) (os : List (Option Description)) (ps : List ℕ) → AllAt b.tables s os ps → Told os i (first_from ok i ps)
    unfolding first_from
    first_told i [] [] a = tt
    first_told i [] (p ∷ ps) a = absurd a
    first_told i (o ∷ os) [] a = absurd a
    first_told i (o ∷ os) (p ∷ ps) a = by (first_told (suc i) os ps a.1) (ok p) refl
      where
        by : Told os (suc i) (first_from ok (suc i) ps) → (c : Bool) → ok p ≡ c → Told (o ∷ os) i (cond c (Some i) (first_from ok (suc i) ps))
        by rest true e = (
          0,
          omega arith,
          record {
            value = o;
            first = record { before = []; behind = os; among = refl; so = told o p a.0 e; none_before = tt };
            so_many = refl;
          },
        )
        by rest false e = later o os (λ h. false≢true (sym e ∙ wants o p a.0 h)) i (first_from ok (suc i) ps) rest

  -- a start that fits 16 bits is not cut
  cut_none : {n : ℕ} → n < 65536 → n % 65536 ≡ n
  cut_none h = omega arith

  pub first_near : (So : Option Description → Type 0) (os : List (Option Description)) (n : ℕ) → FoundAt So os n → n < length os
  first_near So os n f =
      omega (arith, f.so_many, ap length f.first.among, length-append f.first.before (f.value ∷ f.first.behind))

  pub all_long : (os : List (Option Description)) (ps : List ℕ) → AllAt b.tables s os ps → length os ≡ length ps
  all_long [] [] a = refl
  all_long [] (p ∷ ps) a = absurd a
  all_long (o ∷ os) [] a = absurd a
  all_long (o ∷ os) (p ∷ ps) a = ap suc (all_long os ps a.1)

  -- just after the first that holds a range
  behind_first : (os : List (Option Description)) (ps : List ℕ) → AllAt b.tables s os ps → length ps ≤ 256 → (name : List ℕ)
      → JustAfter (Holds name) os ((word (behind (first_from (asks Ask.Holds s name) 0 ps))))
  behind_first os ps a few name =
      by (first_from (asks Ask.Holds s name) 0 ps)
      (first_told (asks Ask.Holds s name) (Holds name) (asks_holds name) (holds_asks name) 0 os ps a)
    where
      by : (f : Option ℕ) → Told (asks Ask.Holds s name) (Holds name) (asks_holds name) (holds_asks name) os 0 f → JustAfter (Holds name) os (word (behind f))
      by (Some j) t =
          let near : t.0 < length os = first_near (Holds name) os t.0 t.2 in
          let small : j + 1 < 65536 = omega (arith, near, few, all_long os ps a, t.1) in
          let is : suc t.0 ≡ (j + 1) % 65536 = omega (arith, t.1, cut_none small) in
          (t.0, t.2, sym is)
      by None t = t

  pub view_got : (k : ℕ) (control : Table) (p : ℕ) → TableAt b.tables s control p → control_at s k ≡ p → (os : List (Option Description)) (ps : List ℕ) → AllAt b.tables s os ps
      → length ps ≤ 256 → (is_read_response_or_write_request k && ltb (length ps) (entries_of s k)) ≡ false → View k control os (word (view_from k s ps))
  unfolding view_from entries_of
  view_got k control p a here os ps l few enough = by (is_read_response_or_write_request k) (is_xdomain k) enough
    where
      count : entry_count s (control_at s k) ≡ length control.entries
      count = ap (λ (n : ℕ). entry_count s n) here ∙ count_entries_is s control p a.good a.stands

      by : (v c : Bool) → (v && ltb (length ps) (entry_count s (control_at s k))) ≡ false
          → cond v ((word (cond v (Some (entry_count s (control_at s k))) (cond c (behind (first_from (asks Ask.Holds s (bytes "Properties Block Generation")) 0 ps)) None))) ≡ Some (length control.entries))
          (cond c (JustAfter (Holds (bytes "Properties Block Generation")) os ((word (cond v (Some (entry_count s (control_at s k))) (cond c (behind (first_from (asks Ask.Holds s (bytes "Properties Block Generation")) 0 ps)) None)))))
          ((word (cond v (Some (entry_count s (control_at s k))) (cond c (behind (first_from (asks Ask.Holds s (bytes "Properties Block Generation")) 0 ps)) None))) ≡ None))
      by true c e =
          let le = ltb-false (length ps) (entry_count s (control_at s k)) e in
          ap Some (cut_none (omega (arith, le, few)) ∙ count)
      by false true e = behind_first os ps l few (bytes "Properties Block Generation")
      by false false e = refl

  -- ---- the packet

  pub record PacketGot (k : ℕ) (ds : List ℕ) : Type 0 where
    pub values : List (Option Description)
    pub is : IsPacket k b.tables ds values (uuid_of k s ds) ((word (view_from k s (places_of k s ds))))
    pub there : AllAt b.tables s values (places_of k s ds)

  module _ (k : ℕ) (ds : List ℕ) (room : ℕ) (zero_number : number_checked k s (length ds) room ≡ 0) where
    tests : Passed k s (length ds) room
    tests = passed k s (length ds) room zero_number

    -- 22 does not apply: there is a control table
    control_there : control_table s k ≡ None → ⊥
    unfolding number_checked
    control_there e = by (eqb k 0) (control_table s k) e _ zero_number
      where
        by : (c : Bool) (f : Option ℕ) → f ≡ None → (rest : ℕ) → ◌≡◌ {A = ℕ} (cond c 21 (cond (is_nothing f) 22 rest)) 0 → ⊥
        by true f h rest z = absurd (omega arith)
        by false (Some p) h rest z = absurd (let y : ◌≡◌ {A = ℕ} 0 1 = cc in omega arith)
        by false None h rest z = absurd (omega arith)

    -- 23 does not: kinds 8 and 9 have a header table
    header_there : is_xdomain k ≡ true → uuid_table s zero_uuid ≡ None → ⊥
    header_there c e =
        let z : (true && is_nothing None) ≡ false = subst (λ f. (true && is_nothing f) ≡ false) e (subst (λ x. (x && is_nothing (uuid_table s zero_uuid)) ≡ false) c tests.there) in
        false≢true (sym z)

    finish : (c : Bool) → is_xdomain k ≡ c → (t : Table) → TableOf b.tables (kind k) (Some t) → (p : ℕ) → control_at s k ≡ p → TableAt b.tables s t p
        → (ps : List ℕ) (u : Option Uuid) → places_of k s ds ≡ ps → uuid_of k s ds ≡ u → Body c t ds ps u → PacketGot k ds
    finish c cross t is p here a ps u places uuids w =
        let there : AllAt b.tables s w.values (places_of k s ds) = subst (λ l. AllAt b.tables s w.values l) (sym places) w.there in
        let size : length (places_of k s ds) ≡ length ds = length_places k s ds in
        record {
          values = w.values;
          is =
              record {
                control = t;
                control_is = is;
                described =
                    subst (λ x. cond x (GoesOn b.tables t ds w.values (uuid_of k s ds)) (Stays t ds w.values (uuid_of k s ds))) (sym cross)
                    (subst (λ v. cond c (GoesOn b.tables t ds w.values (v)) (Stays t ds w.values (v))) (sym uuids) w.described);
                view =
                    view_got k t p a here w.values (places_of k s ds) there (omega (arith, size, tests.few))
                    (subst (λ n. (is_read_response_or_write_request k && ltb n (entries_of s k)) ≡ false) (sym size) tests.enough);
              };
          there = there;
        }

    places_stay : is_xdomain k ≡ false → (p : ℕ) → control_at s k ≡ p → places_of k s ds ≡ control_places s p ds
    unfolding places_of
    places_stay c p e = rw (c, e)

    uuid_stay : is_xdomain k ≡ false → uuid_of k s ds ≡ None
    unfolding uuid_of
    uuid_stay c = rw c

    places_go : is_xdomain k ≡ true → (p h : ℕ) → control_at s k ≡ p → header_at s ≡ h → places_of k s ds ≡ uuid_places s ds (header_places s h (control_places s p ds))
    unfolding places_of step_one
    places_go c p h e f = rw (c, e, f)

    uuid_go : is_xdomain k ≡ true → (p h : ℕ) → control_at s k ≡ p → header_at s ≡ h → uuid_of k s ds ≡ gathered s (bytes "UUID") ds (header_places s h (control_places s p ds))
    unfolding uuid_of step_one
    uuid_go c p h e f = rw (c, e, f)

    control_here : (p : ℕ) → control_table s k ≡ Some p → control_at s k ≡ p
    unfolding control_at
    control_here p e = ap place_of e

    header_here : (p : ℕ) → uuid_table s zero_uuid ≡ Some p → header_at s ≡ p
    unfolding header_at
    header_here p e = ap place_of e

    -- a packet is the relation's
    pub packet_got : PacketGot k ds
    packet_got = let c = control_table_got k in by (control_table s k) refl c.value c.is c.there
      where
        on : (t : Table) → TableOf b.tables (kind k) (Some t) → (p : ℕ) → control_at s k ≡ p → TableAt b.tables s t p → is_xdomain k ≡ true
            → (f : Option ℕ) → uuid_table s zero_uuid ≡ f → (h : Option Table) → TableOf b.tables (uuid zero_uuid) h → Sits h f → PacketGot k ds
        on t is p here a c (Some q) e (Some h) hi ha =
            let at : header_at s ≡ q = header_here q e in
            finish true c t is p here a (uuid_places s ds (header_places s q (control_places s p ds))) (gathered s (bytes "UUID") ds (header_places s q (control_places s p ds)))
            (places_go c p q here at) (uuid_go c p q here at) (body_goes_on t h p q a hi ha ds)
        on t is p here a c (Some q) e None hi ha = absurd ha
        on t is p here a c None e h hi ha = absurd (header_there c e)

        goes : (t : Table) → TableOf b.tables (kind k) (Some t) → (p : ℕ) → control_at s k ≡ p → TableAt b.tables s t p → (c : Bool) → is_xdomain k ≡ c → PacketGot k ds
        goes t is p here a true c = let h = uuid_table_got zero_uuid in on t is p here a c (uuid_table s zero_uuid) refl h.value h.is h.there
        goes t is p here a false c =
            finish false c t is p here a (control_places s p ds) None (places_stay c p here) (uuid_stay c) (body_stays t p a ds)

        by : (f : Option ℕ) → control_table s k ≡ f → (t : Option Table) → TableOf b.tables (kind k) t → Sits t f → PacketGot k ds
        by (Some p) e (Some t) is a = goes t is p (control_here p e) a (is_xdomain k) refl
        by (Some p) e None is a = absurd a
        by None e t is a = absurd (control_there e)
