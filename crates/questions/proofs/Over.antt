-- What a parse into 256 places tells a question: 26 does not come, a number stands before every answer, and the first places are the packet's,
-- whatever was there before. Assumes nothing.
use Rattle.refusal.specs.Told as answers
use Rattle.refusal.specs.Number as number
use Rattle.refusal.proofs.Told.{number_some}
use Rattle.std.specs.Prelude.{Err, None, Ok, Option, Result, Some}
use Rattle.refusal.specs.declared.Refusal.{Refusal}
use Prim.Native.Nat.{ℕ, zero, suc, ◌≤◌}
use mathlib.Core.Path.{◌≡◌, refl, sym, ap, subst, ◌∙◌}
use mathlib.Core.Bool.{Bool, true, false}
use mathlib.Core.List.{List, ◌++◌}
use native.Mathlib.Omega.{arith}
use borrow.Author.Tests.{ltb-false, le-ltb}
use lib.Dec.{ltb}
use lib.ListN.{length, take, drop, length-append}
use lib.Seq.{take_at}
use Rattle.text.specs.Told as T
use Rattle.book.specs.Reading.{accepted as checked, check_of}
use Rattle.packet.specs.declared.Packet.{Packet}
use Rattle.packet.specs.Packet.{Parsed, after, number_checked, number_of, places_of, packet_of, parse_of, list_by}
use Rattle.packet.specs.declared.Tables.{Tables}
use Rattle.packet.specs.Inner.{open_of}
use Rattle.packet.proofs.Packets.{Passed, passed_whole, length_places, parsed_20, opened_tables, opened_refused}
use Rattle.text.specs.Told.{Told, is, refused, unless}
use Rattle.questions.specs.Questions.{refusal, answer, passed_of, Asked}

-- ---- the number

-- room for 256 dwords is room enough
never_26 : (kind : ℕ) (s : List ℕ) (count room : ℕ) → 256 ≤ room → number_of kind s count room ≡ number_of kind s count count
unfolding number_of number_checked
never_26 kind s count room le = ap (after (T.number_in (check_of s))) (by (ltb 256 count) refl)
  where
    by : (b : Bool) → ltb 256 count ≡ b → number_checked kind s count room ≡ number_checked kind s count count
    by true e = rw e
    by false e =
        let few : count ≤ 256 = ltb-false 256 count e in
        rw (le-ltb room count (omega (arith, few, le)), le-ltb count count (omega arith))

-- no number: what each test says
pub passed : (kind : ℕ) (s ds : List ℕ) → refusal kind s ds ≡ 0 → Passed kind s (length ds) (length ds)
unfolding refusal
passed kind s ds e = passed_whole kind s (length ds) (length ds) e

-- ---- an answer by the number

module _ (kind : ℕ) (s ds : List ℕ) {B : Type 0} (told : Told B) where
  pub number_first : {n : ℕ} → n ≡ refusal kind s ds → (n ≡ 0 → ⊥) → refused n ≡ answer kind s ds told
  unfolding answer
  number_first {n} number some = by n some ∙ ap (λ (k : ℕ). unless k told) number
    where
      by : (k : ℕ) → (k ≡ 0 → ⊥) → refused k ≡ unless k told
      by zero z = absurd (z refl)
      by (suc k) z = refl

  pub no_number : refusal kind s ds ≡ 0 → told ≡ answer kind s ds told
  unfolding answer
  no_number none = ap (λ (k : ℕ). unless k told) (sym none)

-- a packet's answer that refuses has the number
refused_by : (p : Packet) (n : ℕ) {k : ℕ} → unless n (is p) ≡ refused k → (k ≡ n) × (k ≡ 0 → ⊥)
refused_by p zero h = absurd (let q : ◌≡◌ {A = ℕ} 0 1 = cc in omega arith)
refused_by p (suc n) {k} h = let same : suc n ≡ k = cc in (sym same, λ z. omega (arith, same, z))

accepted_by : (p : Packet) (n : ℕ) {q : Packet} → unless n (is p) ≡ is q → (n ≡ 0) × (q ≡ p)
accepted_by p zero {q} h = let same : p ≡ q = cc in (refl, sym same)
accepted_by p (suc n) h = absurd (let q : ◌≡◌ {A = ℕ} 0 1 = cc in omega arith)

-- number 20
refusal_20 : (kind : ℕ) (s ds : List ℕ) (e : Refusal) → check_of s ≡ T.refused (number.number_of e) → number.number_of e ≡ refusal kind s ds
unfolding refusal parse_of
refusal_20 kind s ds e h =
    (refused_by (packet_of kind s ds) (number_of kind s (length ds) (length ds)) (sym (parsed_20 kind s ds ds {e = e} h).answer)).0

-- a checked book
refusal_checked : (kind : ℕ) (s ds : List ℕ) → check_of s ≡ checked → number_checked kind s (length ds) (length ds) ≡ refusal kind s ds
unfolding refusal number_of
refusal_checked kind s ds e = rw e

-- ---- what refuses a packet before any question

module _ (kind : ℕ) (s ds : List ℕ) where
  -- by the check of the book
  pub not_passed_20 : (r : Result (Unit {0}) Refusal) {e : Refusal} → check_of s ≡ T.refused (number.number_of e) → r ≡ Err e
      → answers.told r ≡ passed_of kind s ds
  unfolding passed_of
  not_passed_20 r {e} h x = rw x (number_first kind s ds _ (refusal_20 kind s ds e h) (number_some e))

  module _ (good : check_of s ≡ checked) where
    -- by its tables and its dwords
    pub not_passed : (r : Result (Unit {0}) Refusal) {e : Refusal} → open_of kind s (length ds) (length ds) ≡ T.refused (number.number_of e) → r ≡ Err e
        → answers.told r ≡ passed_of kind s ds
    unfolding passed_of
    not_passed r {e} h x =
        rw x (number_first kind s ds _ (sym (opened_refused kind s (length ds) (length ds) h).0 ∙ refusal_checked kind s ds good) (number_some e))

    pub is_passed : {t : Tables} → open_of kind s (length ds) (length ds) ≡ T.is t → is tt ≡ passed_of kind s ds
    unfolding passed_of
    is_passed h = no_number kind s ds _ (sym (refusal_checked kind s ds good) ∙ (opened_tables kind s (length ds) (length ds) h).none)

  passed_none : {k : ℕ} → refusal kind s ds ≡ k → is tt ≡ passed_of kind s ds → k ≡ 0
  unfolding passed_of answer
  passed_none {k = zero} e h = refl
  passed_none {k = suc k} e h = absurd (let w : ◌≡◌ {A = Told (Unit {0})} (is tt) (refused (suc k)) = h ∙ rw e in let q : ◌≡◌ {A = ℕ} 0 1 = cc in omega arith)

  passed_number : (e : Refusal) {k : ℕ} → refusal kind s ds ≡ k → refused (number.number_of e) ≡ passed_of kind s ds → number.number_of e ≡ k
  unfolding passed_of answer
  passed_number e {k = zero} z h = absurd (let w : ◌≡◌ {A = Told (Unit {0})} (refused (number.number_of e)) (is tt) = h ∙ rw z in let q : ◌≡◌ {A = ℕ} 0 1 = cc in omega arith)
  passed_number e {k = suc k} z h = let w : ◌≡◌ {A = Told (Unit {0})} (refused (number.number_of e)) (refused (suc k)) = h ∙ rw z in cc

  -- the refusal that was met comes before what is told
  pub told_refused : {B C : Type 0} (told : Told B) (r : Result C Refusal) {e : Refusal} → refused (number.number_of e) ≡ passed_of kind s ds → r ≡ Err e
      → refused (number.number_of e) ≡ answer kind s ds told
  told_refused told r {e} h x = number_first kind s ds told (passed_number e refl h) (number_some e)

  -- none was met
  pub told_passed : {B : Type 0} (told : Told B) → is tt ≡ passed_of kind s ds → told ≡ answer kind s ds told
  told_passed told h = no_number kind s ds told (passed_none refl h)

-- what is kept, as an answer
pub kept : {A : Type 0} (o : Option A) → answers.told_maybe (Ok o) ≡ T.maybe o
kept (Some a) = refl
kept None = refl

-- ---- an answer by a parse

module _ {kind : ℕ} {s ds out exit : List ℕ} {r : Result Packet Refusal} (parsed : Parsed kind s ds out exit r) (room : length out ≡ 256) where
  number_is : number_of kind s (length ds) (length out) ≡ refusal kind s ds
  unfolding refusal
  number_is = never_26 kind s (length ds) (length out) (omega (arith, room))

  met : (x : Refusal) → r ≡ Err x → number.number_of x ≡ refusal kind s ds
  unfolding parse_of
  met x e = (refused_by (packet_of kind s ds) (number_of kind s (length ds) (length out)) (sym parsed.answer ∙ ap answers.told e)).0 ∙ number_is

  pub refused_first : {x : Refusal} → r ≡ Err x → {B : Type 0} (told : Told B) → refused (number.number_of x) ≡ answer kind s ds told
  refused_first {x} e told = number_first kind s ds told (met x e) (number_some x)

  -- a question of the places is not asked
  pub not_asked : {x : Refusal} → r ≡ Err x → {A : Type 0} {Says : List ℕ → Result (Option A) Refusal → Type 0} {q : Result (Option A) Refusal} → q ≡ Err x
      → Asked kind s ds Says q
  not_asked {x} e y =
      record { first = λ some. rw y (ap refused (met x e)); then = λ none. absurd (number_some x (met x e ∙ none)) }

  -- a packet: its places come first
  pub record Accepted (p : Packet) : Type 0 where
    pub none : refusal kind s ds ≡ 0
    pub is_packet : p ≡ packet_of kind s ds
    pub fit : length ds ≤ length exit
    pub first : take (length ds) exit ≡ places_of kind s ds

  pub accepted : {p : Packet} → r ≡ Ok p → Accepted p
  unfolding parse_of list_by
  accepted {p} e =
      let w = accepted_by (packet_of kind s ds) (number_of kind s (length ds) (length out)) (sym parsed.answer ∙ ap answers.told e) in
      let ps : List ℕ = places_of kind s ds in
      let size : length ps ≡ length ds = length_places kind s ds in
      let exit-is : exit ≡ ps ++ drop (length ps) out = parsed.places ∙ ap (λ (a : Result Packet Refusal). list_by (answers.told a) ps out) e in
      record {
        none = sym number_is ∙ w.0;
        is_packet = w.1;
        fit = omega (arith, size, ap length exit-is, length-append ps (drop (length ps) out));
        first = ap (take (length ds)) exit-is ∙ take_at ps (drop (length ps) out) (length ds) size;
      }

  -- a question of the places is asked
  pub asked : {p : Packet} → r ≡ Ok p → {A : Type 0} {Says : List ℕ → Result (Option A) Refusal → Type 0} {q : Result (Option A) Refusal}
      → Says (take (length ds) exit) q → Asked kind s ds Says q
  asked e {Says = Says} {q = q} h =
      let a = accepted e in
      record { first = λ some. absurd (some a.none); then = λ none. subst (λ l. Says l q) a.first h }

  -- what is told of the packet is the answer
  pub answers_of : {p : Packet} → r ≡ Ok p → {B : Type 0} (question : Packet → Told B)
      → question p ≡ answer kind s ds (question (packet_of kind s ds))
  answers_of e question =
      let a = accepted e in
      ap question a.is_packet ∙ no_number kind s ds (question (packet_of kind s ds)) a.none

-- a question whose answer tells what is said of the places
pub asked_is : (kind : ℕ) (s ds : List ℕ) {A : Type 0} {Says : List ℕ → Result (Option A) Refusal → Type 0} {r : Result (Option A) Refusal}
    (question : List ℕ → Told A) → ((ps : List ℕ) → Says ps r → answers.told_maybe r ≡ question ps) → Asked kind s ds Says r
    → answers.told_maybe r ≡ answer kind s ds (question (places_of kind s ds))
unfolding answer
asked_is kind s ds {r = r} question says a = by (refusal kind s ds) refl
  where
    by : (k : ℕ) → refusal kind s ds ≡ k → answers.told_maybe r ≡ unless (refusal kind s ds) (question (places_of kind s ds))
    by zero z = says (places_of kind s ds) (a.then z) ∙ rw z
    by (suc k) z = a.first (λ e. omega (arith, e, z)) ∙ rw z
