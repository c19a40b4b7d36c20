-- The numbers in their order: each test that fails leaves the rest of the table, and the last leaves the tables. Assumes nothing.
use Rattle.std.specs.Prelude.{None, Ok, Option, Result, Some}
use Rattle.std.specs.Option.{ok_or}
use Prim.Native.Nat.{ℕ, suc, ◌+◌, ◌%◌, ◌≤◌, ◌<◌}
use mathlib.Core.Path.{◌≡◌, refl, sym, ap}
use mathlib.Core.Bool.{Bool, true, false, cond, ◌&&◌}
use mathlib.Core.List.{List}
use borrow.Author.Tests.{eq-eqb, ne_eqb, lt-ltb, le-ltb}
use lib.Dec.{ltb}
use native.Mathlib.Omega.{arith}
use Rattle.refusal.specs.declared.Refusal.{Refusal}
use Rattle.refusal.specs.Number.{number_of}
use Rattle.text.specs.Told as T
use Rattle.text.specs.Quote.{bytes}
use Rattle.book.specs.Finders.{place_of, control_table, uuid_table, entry_count}
use Rattle.packet.specs.declared.field.Ask.TheVariants.{Holds}
use Rattle.packet.specs.Field.{asks}
use Rattle.packet.specs.Packet.{is_read_response_or_write_request, is_xdomain, zero_uuid, is_nothing, control_at, entries_of, number_checked, first_from, view_from, word}
use Rattle.packet.specs.Inner.{header_of, header_for, open_of}

-- what `ok_or` went on with
pub was_there : {A E : Type 0} (o : Option A) (e : E) {r : Result A E} {a : A} → r ≡ ok_or o e → r ≡ Ok a → o ≡ Some a
was_there (Some b) e p q = cc
was_there None e p q = absurd (let z : ◌≡◌ {A = ℕ} 0 1 = cc in omega arith)

-- the header table is asked for and not there
abbrev pub is_missing : ℕ → List ℕ → Bool
is_missing kind s = is_xdomain kind && is_nothing (uuid_table s zero_uuid)

-- what was told of it
module _ (kind : ℕ) (s : List ℕ) where
  pub header_refused : (e : Refusal) → T.refused (number_of e) ≡ header_of kind s → (is_missing kind s ≡ true) × (number_of e ≡ 23)
  unfolding header_of
  header_refused e h = by (is_missing kind s) refl h
    where
      by : (b : Bool) → is_missing kind s ≡ b → T.refused (number_of e) ≡ cond b (T.refused 23) (T.is (header_for kind s))
          → (b ≡ true) × (number_of e ≡ 23)
      by true q k = (refl, cc)
      by false q k = absurd (let z : ◌≡◌ {A = ℕ} 0 1 = cc in omega arith)

  pub header_there : {f : Option ℕ} → T.is f ≡ header_of kind s → (is_missing kind s ≡ false) × (f ≡ header_for kind s)
  unfolding header_of
  header_there {f} h = by (is_missing kind s) h
    where
      by : (b : Bool) → T.is f ≡ cond b (T.refused 23) (T.is (header_for kind s)) → (b ≡ false) × (f ≡ header_for kind s)
      by true k = absurd (let z : ◌≡◌ {A = ℕ} 0 1 = cc in omega arith)
      by false k = (refl, cc)

module _ (kind : ℕ) (s : List ℕ) (count room : ℕ) where
  refused : (k : ℕ) → number_checked kind s count room ≡ suc k → T.refused (suc k) ≡ open_of kind s count room
  unfolding open_of
  refused k e = rw e

  pub open_21 : kind ≡ 0 → T.refused 21 ≡ open_of kind s count room
  unfolding number_checked
  open_21 e = let test : number_checked kind s count room ≡ 21 = rw (eq-eqb kind 0 e) in refused 20 test

  module _ (some : kind ≡ 0 → ⊥) where
    pub open_22 : control_table s kind ≡ None → T.refused 22 ≡ open_of kind s count room
    unfolding number_checked
    open_22 e = let test : number_checked kind s count room ≡ 22 = rw (ne_eqb kind 0 some, e) in refused 21 test

    module _ {control : ℕ} (table : control_table s kind ≡ Some control) where
      pub open-23 : is_missing kind s ≡ true → T.refused 23 ≡ open_of kind s count room
      unfolding number_checked
      open-23 e =
          let test : number_checked kind s count room ≡ 23 = rw (ne_eqb kind 0 some, table, e) in
          refused 22 test

      module _ (there : is_missing kind s ≡ false) where
        pub open-24 : 256 < count → T.refused 24 ≡ open_of kind s count room
        unfolding number_checked
        open-24 lt =
            let test : number_checked kind s count room ≡ 24 = rw (ne_eqb kind 0 some, table, there, lt-ltb 256 count lt) in
            refused 23 test

        entries_is : entries_of s kind ≡ entry_count s control
        unfolding entries_of control_at
        entries_is = ap (λ (f : Option ℕ). entry_count s (place_of f)) table

        module _ (few : count ≤ 256) where
          pub open-25 : (is_read_response_or_write_request kind && ltb count (entry_count s control)) ≡ true → T.refused 25 ≡ open_of kind s count room
          unfolding number_checked
          open-25 e =
              let short : (is_read_response_or_write_request kind && ltb count (entries_of s kind)) ≡ true = rw entries_is e in
              let test : number_checked kind s count room ≡ 25 =
              rw (ne_eqb kind 0 some, table, there, le-ltb 256 count few, short)
              in
              refused 24 test

          module _ (enough : (is_read_response_or_write_request kind && ltb count (entry_count s control)) ≡ false) where
            whole : (is_read_response_or_write_request kind && ltb count (entries_of s kind)) ≡ false
            whole = rw entries_is enough

            pub open-26 : room < count → T.refused 26 ≡ open_of kind s count room
            unfolding number_checked
            open-26 lt =
                let test : number_checked kind s count room ≡ 26 =
                rw (ne_eqb kind 0 some, table, there, le-ltb 256 count few, whole, lt-ltb room count lt)
                in
                refused 25 test

            -- no number: the tables
            pub open-tables : count ≤ room → {header : Option ℕ} → header ≡ header_for kind s
                → T.is (record { control = control; header = header }) ≡ open_of kind s count room
            unfolding number_checked open_of control_at
            open-tables le {header} h =
                let test : number_checked kind s count room ≡ 0 =
                rw (ne_eqb kind 0 some, table, there, le-ltb 256 count few, whole, le-ltb room count le)
                in
                rw test (λ i. T.is (record { control = place_of (sym table i); header = h i }))

-- ---- where the data view starts

module _ (kind : ℕ) (s : List ℕ) (ps : List ℕ) where
  pub start_viewed : is_read_response_or_write_request kind ≡ true → {n : ℕ} → n ≡ entry_count s (control_at s kind) → Some (n % 65536) ≡ word (view_from kind s ps)
  unfolding view_from entries_of
  start_viewed v e = rw v (ap (λ (k : ℕ). Some (k % 65536)) e)

  module _ (v : is_read_response_or_write_request kind ≡ false) where
    pub start_other : is_xdomain kind ≡ false → None ≡ word (view_from kind s ps)
    unfolding view_from
    start_other x = rw (v, x)

    module _ (x : is_xdomain kind ≡ true) where
      pub start-behind : {i : ℕ} → first_from (asks Holds s (bytes "Properties Block Generation")) 0 ps ≡ Some i
          → Some ((i + 1) % 65536) ≡ word (view_from kind s ps)
      unfolding view_from
      start-behind e = rw (v, x, e)

      pub start_none : first_from (asks Holds s (bytes "Properties Block Generation")) 0 ps ≡ None → None ≡ word (view_from kind s ps)
      unfolding view_from
      start_none e = rw (v, x, e)
