-- A book is accepted exactly when it belongs to the grammar: level by level the tests are sound and complete. Assumes nothing.
use Prim.Native.Nat.{ℕ, ◌≤◌}
use mathlib.Core.Path.{◌≡◌, refl}
use mathlib.Core.Bool.{Bool, true, false, cond, ◌&&◌}
use mathlib.Core.List.{List, []}
use mathlib.Core.Logic.{◌↔◌, ◌⊎◌, inl, inr}
use native.Mathlib.Omega.{arith}
use borrow.Author.Tests.{leb-true, le-leb}
use lib.Dec.{leb}
use lib.ListN.{length}
use Rattle.tlv.specs.Number.{Bytes}
use Rattle.tlv.specs.Grammar.{fields_bytes}
use Rattle.tlv.proofs.Pieces.{both_true}
use Rattle.text.specs.Told.{refused}
use Rattle.std.specs.Prelude.{Result}
use Rattle.refusal.specs.declared.Refusal.{Refusal}
use Rattle.refusal.specs.Told.{told}
use Rattle.refusal.proofs.Told.{one_told}
use Rattle.book.specs.Grammar.{IsBook}
use Rattle.book.specs.Reading.{tables_fill, accepted, check_of}
use Rattle.book.proofs.Tables.{FromTables, tables_is, tables_all}

accepted_passes : (b : Bool) → cond b accepted (refused 20) ≡ accepted → b ≡ true
accepted_passes true h = refl
accepted_passes false h = let z : ◌≡◌ {A = ℕ} 0 1 = cc in absurd (omega arith)

-- sound: an accepted book belongs to the grammar
pub book_is : (s : List ℕ) → Bytes s → check_of s ≡ accepted → IsBook s
unfolding check_of
book_is s bytes h =
    let w = both_true (leb (length s) 65535) (tables_fill s 0) (accepted_passes (leb (length s) 65535 && tables_fill s 0) h) in
    let f : FromTables s 0 = tables_is s bytes 0 w.1 in
    record {
      at_most = leb-true (length s) 65535 w.0;
      tables = f.made.values;
      tables_good = f.made.good;
      tables_apart = f.apart;
      bytes = f.made.bytes;
    }

-- complete: a book of the grammar is accepted
pub book_all : (s : List ℕ) → IsBook s → check_of s ≡ accepted
unfolding check_of
book_all s b =
    let most : length s ≤ 65535 = b.at_most in
    let filled : tables_fill s 0 ≡ true =
    tables_all s 0
    (record {
      made = record { values = b.tables; good = b.tables_good; bytes = b.bytes };
      apart = b.tables_apart;
    }) in
    rw (le-leb (length s) 65535 most, filled)

-- a book is accepted exactly when it belongs to the grammar
pub book_accepted_exactly : (s : List ℕ) → Bytes s → (check_of s ≡ accepted) ↔ IsBook s
book_accepted_exactly s bytes = (book_is s bytes, book_all s)

-- every other book is refused with 20
pub book_refused_exactly : (s : List ℕ) → Bytes s → (check_of s ≡ refused 20) ↔ (IsBook s → ⊥)
unfolding check_of
book_refused_exactly s bytes = (
  (λ h b. let a : check_of s ≡ accepted = book_all s b in let z : ◌≡◌ {A = ℕ} 0 1 = cc in omega arith),
  (λ no_book. by (leb (length s) 65535 && tables_fill s 0) refl no_book),
)
  where
    by : (b : Bool) → (leb (length s) 65535 && tables_fill s 0) ≡ b → (IsBook s → ⊥) → cond b accepted (refused 20) ≡ refused 20
    by true e no_book = absurd (no_book (book_is s bytes (rw e)))
    by false e no_book = refl

-- the empty book is allowed
pub empty_book : check_of [] ≡ accepted
unfolding fields_bytes
empty_book = book_all [] (record { at_most = omega arith; tables = []; tables_good = tt; tables_apart = tt; bytes = refl })

-- the check answers one or the other, never none
pub check_decides : (s : List ℕ) → (check_of s ≡ accepted) ⊎ (check_of s ≡ refused 20)
unfolding check_of
check_decides s = by (leb (length s) 65535 && tables_fill s 0)
  where
    by : (b : Bool) → (cond b accepted (refused 20) ≡ accepted) ⊎ (cond b accepted (refused 20) ≡ refused 20)
    by true = inl refl
    by false = inr refl

-- no second answer to `check`: two answers that tell the same are the same
pub one_check : (a b : Result (Unit {0}) Refusal) → told a ≡ told b → a ≡ b
one_check = one_told
