-- The questions answer what the relation says, and nothing else is what it says. Assumes nothing.
use Rattle.std.specs.Prelude.{None, Option, Some}
use Prim.Native.Nat.{ℕ, zero, suc, ◌%◌, ◌^◌, ◌≤◌}
use mathlib.Core.Path.{◌≡◌, refl, sym, ap, subst, ◌∙◌}
use mathlib.Core.Bool.{Bool, true, false, cond}
use mathlib.Core.List.{List, [], ◌∷◌, ◌++◌}
use Rattle.std.proofs.lemmas.Option.{none-some, same_Some}
use native.Mathlib.Omega.{arith}
use lib.ListN.{length, get_or}
use Rattle.text.specs.Quote.{bytes}
use Rattle.text.proofs.Places.{by_order}
use Rattle.tlv.specs.Number.{Bytes}
use Rattle.book.specs.declared.Uuid.{Uuid}
use Rattle.book.specs.Grammar.{Range, GoodRange, range_piece, IsBook}
use Rattle.book.proofs.Unique.{one_book}
use Rattle.packet.specs.declared.field.Ask.TheVariants as Ask
use Rattle.packet.specs.Field.{range_in, value_in, asks}
use Rattle.packet.specs.Steps.{values_named, exactly_four, gathered}
use Rattle.packet.specs.Packet.{is_xdomain, first_from, number_of, places_of, uuid_of, view_from, word}
use Rattle.packet.proofs.Packets.{length_places, passed}
use Rattle.packet.proofs.Theorems.{packet_number_exactly, packet_answered_exactly}
use Rattle.text.specs.Told.{Told, is, absent, refused, unless, maybe}
use Rattle.text.specs.Told.{maybe}
use Rattle.questions.specs.Described.{is_read, is_write, cut, asked_at, asked, adapter_in, address_in, size_in, uuid_in}
use Rattle.questions.specs.Questions.{refusal, answer, adapter_of, address_of, size_of, uuid_by_name, uuid_answer, start_of}
use Rattle.meaning.specs.Packet.{Description, RangeNamed, value_of, Each, IsUuid, Holds, FoundAt, IsPacket, Refuses}
use Rattle.meaning.specs.Call.{Applies, NoNumber}
use Rattle.meaning.specs.Questions.{Asked, Tells, Adapter, Address, Size, UuidNamed, Kept, Sentence, Question}
use Rattle.meaning.proofs.One.{first_some, one_first, one_range, one_uuid, one_packet}
use Rattle.meaning.proofs.Bridge.{Place, At, range_got, value_at}
use Rattle.meaning.proofs.Describing.{AllAt, gathers}
use Rattle.meaning.proofs.Meaning.{packet_got, four_or_none, asks_holds, holds_asks, Told as FirstTold, first_told, all_long}
use Rattle.meaning.proofs.Numbers.{none_applies, number_is}
use Rattle.meaning.proofs.Exactly.{no_number}

-- ---- one answer

abbrev pub Sole : {A : Type 0} → (Told A → Type 0) → Type 0
Sole {A} P = (a c : Told A) → P a → P c → a ≡ c

pub one_found : (So : Option Description → Type 0) (os : List (Option Description)) {n m : ℕ} (f : FoundAt So os n) (g : FoundAt So os m) → (n ≡ m) × (f.value ≡ g.value)
one_found So os f g =
    let w = one_first So f.first g.first in
    (sym f.so_many ∙ ap length w.1 ∙ g.so_many, w.0)

module _ (ds : List ℕ) (os : List (Option Description)) where
  one_asked : (name : List ℕ) (v w : ℕ) → Asked ds os name v → Asked ds os name w → v ≡ w
  one_asked name v w a c =
      let f = one_found (Holds name) os a.field c.field in
      let range : a.range ≡ c.range = same_Some a.range c.range
      (one_range name c.field.value (Some a.range) (Some c.range) (subst (λ o. RangeNamed name o (Some a.range)) f.1 a.range_is) c.range_is) in
      a.value_is ∙ ap (λ (r : Range). value_of r (get_or ds a.at 0)) range ∙ ap (λ (n : ℕ). value_of c.range (get_or ds n 0)) f.0 ∙ sym c.value_is

  pub one_tells : (bits : ℕ) (name : List ℕ) → Sole (Tells ds os bits name)
  one_tells bits name (is v) (is w) a c = ap is (a.2 ∙ ap (λ (n : ℕ). n % 2 ^ bits) (one_asked name a.0 c.0 a.1 c.1) ∙ sym c.2)
  one_tells bits name (is v) absent a c = absurd (first_some (Holds name) a.1.field.first c)
  one_tells bits name absent (is w) a c = absurd (first_some (Holds name) c.1.field.first a)
  one_tells bits name absent absent a c = refl
  one_tells bits name (refused n) c f g = absurd f
  one_tells bits name (is v) (refused n) f g = absurd g
  one_tells bits name absent (refused n) f g = absurd g

  pub one_uuid_named : (name : List ℕ) → Sole (UuidNamed ds os name)
  one_uuid_named name (is u) (is v) a c = ap is (same_Some u v (one_uuid name ds os (Some u) (Some v) a c))
  one_uuid_named name (is u) absent a c = absurd (c u a)
  one_uuid_named name absent (is v) a c = absurd (a v c)
  one_uuid_named name absent absent a c = refl
  one_uuid_named name (refused n) c f g = absurd f
  one_uuid_named name (is v) (refused n) f g = absurd g
  one_uuid_named name absent (refused n) f g = absurd g

-- no number applies where none of the tables' does
no_number_applies : (k : ℕ) (s ds : List ℕ) (b : IsBook s) → NoNumber k s (length ds) (length ds) b → (n : ℕ) → Applies k s (length ds) (length ds) n → ⊥
no_number_applies k s ds b f n (Applies.no_book unlike e) = unlike b
no_number_applies k s ds b f n (Applies.of_tables c r) =
    f.none n (subst (λ t. Refuses k t (length ds) (length ds) n) (one_book c b) r)

-- a question has one answer if its sentence has
pub one_question : (k : ℕ) (s ds : List ℕ) {A : Type 0} (Say : Sentence A) → ((b : IsBook s) (os : List (Option Description)) (u : Option Uuid) (n : Option ℕ) → Sole (Say b.tables os u n))
    → Sole (Question k s ds Say)
one_question k s ds Say one a c (Question.number n f) (Question.number m g) =
    by_order n m (λ l. absurd (g.first n l f.applies)) (λ e. ap refused e) (λ l. absurd (f.first m l g.applies))
one_question k s ds Say one a c (Question.number n f) (Question.answer r g) = absurd (no_number_applies k s ds g.book g.no_number n f.applies)
one_question k s ds Say one a c (Question.answer r f) (Question.number m g) = absurd (no_number_applies k s ds f.book f.no_number m g.applies)
one_question k s ds Say one a c (Question.answer r f) (Question.answer q g) =
    let same = one_packet k g.book.tables ds (subst (λ l. IsPacket k l ds f.descriptions f.uuid f.start) (one_book f.book g.book) f.is) g.is in
    one g.book g.descriptions g.uuid g.start r q
    (subst (λ n. Say g.book.tables g.descriptions g.uuid n r) same.2
    (subst (λ u. Say g.book.tables g.descriptions u f.start r) same.1
    (subst (λ l. Say g.book.tables l f.uuid f.start r) same.0
    (subst (λ t. Say t f.descriptions f.uuid f.start r) (one_book f.book g.book) f.says))))
    g.says

-- ---- what is told

module _ (s : List ℕ) (b : IsBook s) where
  -- the place of what was found
  pub at_index : (So : Option Description → Type 0) (os : List (Option Description)) (ps : List ℕ) (before : List (Option Description)) (o : Option Description) (behind : List (Option Description))
      → os ≡ before ++ (o ∷ behind) → AllAt b.tables s os ps → At b.tables s o (get_or ps (length before) 0)
  at_index So os ps before o behind e a = by before ps (subst (λ l. AllAt b.tables s l ps) e a)
    where
      by : (l : List (Option Description)) (ps : List ℕ) → AllAt b.tables s (l ++ (o ∷ behind)) ps → At b.tables s o (get_or ps (length l) 0)
      by [] [] h = absurd h
      by [] (p ∷ ps) h = h.0
      by (x ∷ l) [] h = absurd h
      by (x ∷ l) (p ∷ ps) h = by l ps h.1

  module _ (ds : List ℕ) (os : List (Option Description)) (ps : List ℕ) (a : AllAt b.tables s os ps) where
    pub tells : (bits : ℕ) (name : List ℕ) → Tells ds os bits name (cut bits (asked s ds ps name))
    unfolding asked
    tells bits name =
        by (first_from (asks Ask.Holds s name) 0 ps)
        (first_told s b (asks Ask.Holds s name) (Holds name) (asks_holds s b name) (holds_asks s b name) 0 os ps a)
      where
        found : (n : ℕ) (f : FoundAt (Holds name) os n) → (r : Option Range) → RangeNamed name f.value r → Place range_piece GoodRange s r (range_in s name (get_or ps n 0))
            → Tells ds os bits name (is (value_in s (range_in s name (get_or ps n 0)) (get_or ds n 0) % 2 ^ bits))
        found n f (Some r) h l = (
          value_in s (range_in s name (get_or ps n 0)) (get_or ds n 0),
          record { at = n; field = f; range = r; range_is = h; value_is = value_at b.tables s r (range_in s name (get_or ps n 0)) (get_or ds n 0) l },
          refl,
        )
        found n f None h l =
            let w = f.first.so in
            absurd (none-some w.0 (sym (one_range name f.value (Some w.0) None w.1 h)))

        by : (f : Option ℕ) → FirstTold s b (asks Ask.Holds s name) (Holds name) (asks_holds s b name) (holds_asks s b name) os 0 f
            → Tells ds os bits name (cut bits (asked_at s ds ps name f))
        by (Some j) t =
            let here : j ≡ t.0 = omega (arith, t.1) in
            let there : At b.tables s t.2.value (get_or ps t.0 0) =
            subst (λ n. At b.tables s t.2.value (get_or ps n 0)) t.2.so_many
            (at_index (Holds name) os ps t.2.first.before t.2.value t.2.first.behind t.2.first.among a) in
            let g = range_got b.tables s name t.2.value (get_or ps t.0 0) there in
            subst (λ n. Tells ds os bits name (is (value_in s (range_in s name (get_or ps n 0)) (get_or ds n 0) % 2 ^ bits))) (sym here)
            (found t.0 t.2 g.value g.is g.there)
        by None t = t

-- as many descriptions as dwords
lined : (i : ℕ) (ds : List ℕ) (os : List (Option Description)) → length ds ≡ length os → Each (λ i d o. Unit {0}) i ds os
lined i [] [] e = tt
lined i [] (o ∷ os) e = absurd (omega arith)
lined i (d ∷ ds) [] e = absurd (omega arith)
lined i (d ∷ ds) (o ∷ os) e = (tt, lined (suc i) ds os (omega arith))

-- ---- questions

module _ (k : ℕ) (s : List ℕ) (s-bytes : Bytes s) (ds : List ℕ) {A : Type 0} (Say : Sentence A) where
  pub asks_exactly : (told : Told A) → ((b : IsBook s) (os : List (Option Description)) → AllAt b.tables s os (places_of k s ds) → IsPacket k b.tables ds os (uuid_of k s ds) ((word (view_from k s (places_of k s ds)))) → length (places_of k s ds) ≤ 256
      → number_of k s (length ds) (length ds) ≡ 0
      → Say b.tables os (uuid_of k s ds) ((word (view_from k s (places_of k s ds)))) told)
      → Question k s ds Say (answer k s ds told)
  unfolding answer refusal
  asks_exactly told say = by (number_of k s (length ds) (length ds)) refl
    where
      by : (n : ℕ) → number_of k s (length ds) (length ds) ≡ n → Question k s ds Say (unless n told)
      by zero e =
          let w = no_number k s s-bytes ds ds e in
          let g = packet_got s w.book k ds (length ds) w.checked in
          Question.answer told
          (record {
            book = w.book;
            no_number = (none_applies s w.book k (length ds) (length ds)).0 ((packet_answered_exactly k s s-bytes (length ds) (length ds)).0 e);
            descriptions = g.values;
            uuid = _;
            start = _;
            is = g.is;
            says = say w.book g.values g.there g.is (omega (arith, length_places k s ds, (passed k s (length ds) (length ds) w.checked).few)) e;
          })
      by (suc n) e =
          Question.number (suc n)
          ((number_is k s (length ds) (length ds) s-bytes (suc n)).0 ((packet_number_exactly k s s-bytes (length ds) (length ds) (suc n) (omega arith)).0 e))

module _ (k : ℕ) (s : List ℕ) (s-bytes : Bytes s) (ds : List ℕ) where
  pub adapter_is : Question k s ds (λ ts os u n. Adapter ds os) (adapter_of k s ds)
  unfolding adapter_of adapter_in
  adapter_is = asks_exactly k s s-bytes ds (λ ts os u n. Adapter ds os) _ (λ b os a p few clear. tells s b ds os (places_of k s ds) a 8 (bytes "Adapter Num"))

  pub adapter_only : (r : Told ℕ) → Question k s ds (λ ts os u n. Adapter ds os) r → r ≡ adapter_of k s ds
  adapter_only r q = one_question k s ds (λ ts os u n. Adapter ds os) (λ b os u n. one_tells ds os 8 (bytes "Adapter Num")) r (adapter_of k s ds) q adapter_is

  pub address_is : Question k s ds (λ ts os u n. Address ds os k) (address_of k s ds)
  unfolding address_of address_in
  address_is = asks_exactly k s s-bytes ds (λ ts os u n. Address ds os k) _ (λ b os a p few clear. tells s b ds os (places_of k s ds) a 16 (cond (is_xdomain k) (bytes "Offset") (bytes "Address")))

  pub address_only : (r : Told ℕ) → Question k s ds (λ ts os u n. Address ds os k) r → r ≡ address_of k s ds
  address_only r q = one_question k s ds (λ ts os u n. Address ds os k) (λ b os u n. one_tells ds os 16 (cond (is_xdomain k) (bytes "Offset") (bytes "Address"))) r (address_of k s ds) q address_is

  -- sizes, by the kind
  one_size : (os : List (Option Description)) → Sole (Size ds os k)
  one_size os a c = by (is_read k) (is_write k) (is_xdomain k)
    where
      by : (r w x : Bool)
          → cond r (Tells ds os 16 (bytes "Read Size") a) (cond w (Tells ds os 16 (bytes "Write Size") a) (cond x (Tells ds os 16 (bytes "Properties Block Size") a) (a ≡ absent)))
          → cond r (Tells ds os 16 (bytes "Read Size") c) (cond w (Tells ds os 16 (bytes "Write Size") c) (cond x (Tells ds os 16 (bytes "Properties Block Size") c) (c ≡ absent)))
          → a ≡ c
      by true w x f g = one_tells ds os 16 (bytes "Read Size") a c f g
      by false true x f g = one_tells ds os 16 (bytes "Write Size") a c f g
      by false false true f g = one_tells ds os 16 (bytes "Properties Block Size") a c f g
      by false false false f g = f ∙ sym g

  size_says : (b : IsBook s) (os : List (Option Description)) → AllAt b.tables s os (places_of k s ds) → Size ds os k (size_in s ds (places_of k s ds) k)
  unfolding size_in
  size_says b os a = by (is_read k) (is_write k) (is_xdomain k)
    where
      by : (r w x : Bool)
          → cond r (Tells ds os 16 (bytes "Read Size") (cond r (cut 16 (asked s ds (places_of k s ds) (bytes "Read Size"))) (cond w (cut 16 (asked s ds (places_of k s ds) (bytes "Write Size"))) (cond x (cut 16 (asked s ds (places_of k s ds) (bytes "Properties Block Size"))) absent))))
          (cond w (Tells ds os 16 (bytes "Write Size") (cond r (cut 16 (asked s ds (places_of k s ds) (bytes "Read Size"))) (cond w (cut 16 (asked s ds (places_of k s ds) (bytes "Write Size"))) (cond x (cut 16 (asked s ds (places_of k s ds) (bytes "Properties Block Size"))) absent))))
          (cond x (Tells ds os 16 (bytes "Properties Block Size") (cond r (cut 16 (asked s ds (places_of k s ds) (bytes "Read Size"))) (cond w (cut 16 (asked s ds (places_of k s ds) (bytes "Write Size"))) (cond x (cut 16 (asked s ds (places_of k s ds) (bytes "Properties Block Size"))) absent))))
          (cond r (cut 16 (asked s ds (places_of k s ds) (bytes "Read Size"))) (cond w (cut 16 (asked s ds (places_of k s ds) (bytes "Write Size"))) (cond x (cut 16 (asked s ds (places_of k s ds) (bytes "Properties Block Size"))) absent)) ≡ absent)))
      by true w x = tells s b ds os (places_of k s ds) a 16 (bytes "Read Size")
      by false true x = tells s b ds os (places_of k s ds) a 16 (bytes "Write Size")
      by false false true = tells s b ds os (places_of k s ds) a 16 (bytes "Properties Block Size")
      by false false false = refl

  pub size_is : Question k s ds (λ ts os u n. Size ds os k) (size_of k s ds)
  unfolding size_of
  size_is = asks_exactly k s s-bytes ds (λ ts os u n. Size ds os k) _ (λ b os a p few clear. size_says b os a)

  pub size_only : (r : Told ℕ) → Question k s ds (λ ts os u n. Size ds os k) r → r ≡ size_of k s ds
  size_only r q = one_question k s ds (λ ts os u n. Size ds os k) (λ b os u n. one_size os) r (size_of k s ds) q size_is

  -- a UUID by name
  uuid_says : (name : List ℕ) (b : IsBook s) (os : List (Option Description)) → AllAt b.tables s os (places_of k s ds) → UuidNamed ds os name (uuid_in s ds (places_of k s ds) name)
  unfolding uuid_in gathered
  uuid_says name b os a =
      by (exactly_four (values_named s name ds (places_of k s ds)))
      (four_or_none name ds os (values_named s name ds (places_of k s ds))
      (gathers b.tables s name (λ i d o. Unit {0}) 0 ds (places_of k s ds) os (lined 0 ds os (sym (all_long s b os (places_of k s ds) a ∙ length_places k s ds))) a))
    where
      by : (u : Option Uuid) → IsUuid name ds os (u) → UuidNamed ds os name (maybe u)
      by (Some u) h = h
      by None h = h

  pub uuid_by_name_is : (name : List ℕ) → Question k s ds (λ ts os u n. UuidNamed ds os name) (uuid_by_name k s ds name)
  unfolding uuid_by_name
  uuid_by_name_is name = asks_exactly k s s-bytes ds (λ ts os u n. UuidNamed ds os name) _ (λ b os a p few clear. uuid_says name b os a)

  pub uuid_by_name_only : (name : List ℕ) (r : Told Uuid) → Question k s ds (λ ts os u n. UuidNamed ds os name) r → r ≡ uuid_by_name k s ds name
  uuid_by_name_only name r q = one_question k s ds (λ ts os u n. UuidNamed ds os name) (λ b os u n. one_uuid_named ds os name) r (uuid_by_name k s ds name) q (uuid_by_name_is name)

  -- the UUID that step 2 gathered, and where the view starts
  pub uuid_is : Question k s ds (λ ts os u n. Kept u) (uuid_answer k s ds)
  unfolding uuid_answer
  uuid_is = asks_exactly k s s-bytes ds (λ ts os u n. Kept u) _ (λ b os a p few clear. by (uuid_of k s ds))
    where
      by : (u : Option Uuid) → Kept (u) (maybe u)
      by (Some u) = refl
      by None = refl

  pub start_is : Question k s ds (λ ts os u n. Kept n) (start_of k s ds)
  unfolding start_of
  start_is = asks_exactly k s s-bytes ds (λ ts os u n. Kept n) _ (λ b os a p few clear. by (word (view_from k s (places_of k s ds))))
    where
      by : (u : Option ℕ) → Kept (u) (maybe u)
      by (Some u) = refl
      by None = refl

  one_kept : {A : Type 0} (u : Option A) → Sole (Kept u)
  one_kept (Some a) = λ x y f g. f ∙ sym g
  one_kept None = λ x y f g. f ∙ sym g

  pub uuid_only : (r : Told Uuid) → Question k s ds (λ ts os u n. Kept u) r → r ≡ uuid_answer k s ds
  uuid_only r q = one_question k s ds (λ ts os u n. Kept u) (λ b os u n. one_kept u) r (uuid_answer k s ds) q uuid_is

  pub start_only : (r : Told ℕ) → Question k s ds (λ ts os u n. Kept n) r → r ≡ start_of k s ds
  start_only r q = one_question k s ds (λ ts os u n. Kept n) (λ b os u n. one_kept n) r (start_of k s ds) q start_is
