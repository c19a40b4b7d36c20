-- What is laid out as a record is bytes: each tag, length, letter and number is, and no body is longer than its two-byte length can say. So the record of a
-- line can be lent to the intake as a text. Assumes nothing.
use Rattle.std.specs.Prelude.{None, Option, Some}
use Prim.Native.Nat.{ℕ, zero, suc, ◌/◌, ◌%◌, ◌≤◌, ◌<◌}
use mathlib.Core.Path.{◌≡◌, refl}
use mathlib.Core.Bool.{Bool, true, false, ◌||◌}
use mathlib.Core.List.{List, [], ◌∷◌, ◌++◌}
use Rattle.std.specs.Option.{option_map}
use native.Mathlib.Omega.{arith}
use lib.Dec.{leb, eqb}
use lib.ListN.{length}
use borrow.Author.Tests.{leb-true, eqb-true}
use Rattle.text.specs.Class.{between, is_digit, is_letter, is_word}
use Rattle.text.proofs.Texts.{both_right}
use Rattle.tlv.specs.Number.{Bytes, number_bytes}
use Rattle.tlv.specs.Grammar.{field_bytes, fields_bytes, All}
use Rattle.tlv.proofs.Numbers.{number_bytes_length, number_bytes_bytes}
use Rattle.tlv.proofs.Pieces.{field_bytes_length}
use Rattle.entry.specs.Entry.{EntryValue}
use Rattle.record.specs.Grammar.{Row, flag, dwords_bytes, rows_of, placed, present, record_bytes, Ranged}
use Rattle.record.proofs.Bodies.{dwords_bytes_length}
use Rattle.record.proofs.Records.{record_at_most_5227}

-- ---- lists of bytes

bytes_none : Bytes []
bytes_none i = omega arith

bytes_more : (x : ℕ) (l : List ℕ) → x < 256 → Bytes l → Bytes (x ∷ l)
bytes_more x l h b zero = h
bytes_more x l h b (suc i) = b i

pub bytes_join : (a b : List ℕ) → Bytes a → Bytes b → Bytes (a ++ b)
bytes_join [] b h k = k
bytes_join (x ∷ a) b h k = bytes_more x (a ++ b) (h 0) (bytes_join a b (λ i. h (suc i)) k)

letters_bytes : (P : ℕ → Type 0) → ((b : ℕ) → P b → b < 256) → (l : List ℕ) → All P l → Bytes l
letters_bytes P low [] h = bytes_none
letters_bytes P low (x ∷ l) h = bytes_more x l (low x h.0) (letters_bytes P low l h.1)

-- a word byte is at most `z`
word_low : (b : ℕ) → is_word b ≡ true → b < 256
unfolding is_word is_letter is_digit between
word_low b e =
    one_of (is_letter b || is_digit b) (eqb b 95)
    (one_of (is_letter b) (is_digit b) (one_of (between 65 90 b) (between 97 122 b) (upper 65 90 (omega arith)) (upper 97 122 (omega arith))) (upper 48 57 (omega arith)))
    (λ h. omega (arith, eqb-true b 95 h))
    e
  where
    one_of : (x y : Bool) → (x ≡ true → b < 256) → (y ≡ true → b < 256) → (x || y) ≡ true → b < 256
    one_of true y f g h = f refl
    one_of false y f g h = g h

    upper : (low high : ℕ) → high < 256 → between low high b ≡ true → b < 256
    upper low high k h = omega (arith, k, leb-true b high (both_right (leb low b) (leb b high) h))

dwords_bytes_lem : (ds : List ℕ) → Bytes (dwords_bytes ds)
unfolding dwords_bytes
dwords_bytes_lem [] = bytes_none
dwords_bytes_lem (d ∷ ds) = bytes_join (number_bytes 4 d) (dwords_bytes ds) (number_bytes_bytes 4 d) (dwords_bytes_lem ds)

-- ---- fields

field_bytes_lem : (tag : ℕ) (body : List ℕ) → tag < 256 → length body < 65536 → Bytes body → Bytes (field_bytes tag body)
unfolding field_bytes
field_bytes_lem tag body h k b =
    bytes_more tag (length body % 256 ∷ length body / 256 ∷ body) h
    (bytes_more (length body % 256) (length body / 256 ∷ body) (omega arith) (bytes_more (length body / 256) body (omega (arith, k)) b))

-- a body, where it is there, is bytes and not too long
abbrev Body : Option (List ℕ) → Type 0
Body None = Unit {0}
Body (Some b) = (length b < 65536) × Bytes b

abbrev Rows : List Row → Type 0
Rows rs = All (λ r. (r.tag < 256) × Body r.body) rs

rows_bytes : (rs : List Row) → Rows rs → Bytes (fields_bytes (present rs))
unfolding fields_bytes present
rows_bytes [] h = bytes_none
rows_bytes (r ∷ rs) h = go r.body h.0.1 (rows_bytes rs h.1)
  where
    go : (o : Option (List ℕ)) → Body o → Bytes (fields_bytes (present rs)) → Bytes (fields_bytes (placed r.tag o (present rs)))
    go None b rest = rest
    go (Some body) b rest = bytes_join (field_bytes r.tag body) (fields_bytes (present rs)) (field_bytes_lem r.tag body h.0.0 b.0 b.1) rest

number_body : (k n : ℕ) → k < 65536 → Body (Some (number_bytes k n))
number_body k n h = (omega (arith, h, number_bytes_length k n), number_bytes_bytes k n)

optional_body : (k : ℕ) (o : Option ℕ) → k < 65536 → Body (option_map (number_bytes k) o)
optional_body k None h = tt
optional_body k (Some n) h = number_body k n h

-- what is laid out for a value that keeps the ranges is bytes
pub record_bytes_lem : (v : EntryValue) → Ranged v → Bytes (record_bytes v)
unfolding record_bytes rows_of
record_bytes_lem v r =
    let whole : length (field_bytes 0xA1 (fields_bytes (present (rows_of v)))) ≤ 5227 = record_at_most_5227 (record_bytes v) v (record { ranged = r; bytes = refl }) in
    let task : Body (Some v.task) = (omega (arith, r.together), letters_bytes _ (λ b p. omega (arith, p.0)) v.task r.task.letters) in
    let function : Body (Some v.function) = (omega (arith, r.together), letters_bytes _ word_low v.function r.function.letters) in
    let words : Body (Some (dwords_bytes v.dwords)) = (omega (arith, r.few, dwords_bytes_length v.dwords), dwords_bytes_lem v.dwords) in
    let rows : Rows (rows_of v) =
    ((omega arith, task), ((omega arith, number_body 4 v.pid (omega arith)), ((omega arith, number_body 2 v.cpu (omega arith)), ((omega arith, number_body 8 v.seconds (omega arith)), ((omega arith, number_body 8 v.microseconds (omega arith)), ((omega arith, function), ((omega arith, number_body 1 v.kind (omega arith)), ((omega arith, number_body 2 v.size (omega arith)), ((omega arith, number_body 1 (flag v.dropped) (omega arith)), ((omega arith, number_body 4 v.domain (omega arith)), ((omega arith, number_body 8 v.route (omega arith)), ((omega arith, optional_body 2 v.offset (omega arith)), ((omega arith, optional_body 1 v.code (omega arith)), ((omega arith, optional_body 2 v.len (omega arith)), ((omega arith, optional_body 1 v.port (omega arith)), ((omega arith, optional_body 1 v.config (omega arith)), ((omega arith, optional_body 1 v.seq (omega arith)), ((omega arith, optional_body 1 v.unplug (omega arith)), ((omega arith, words), tt))))))))))))))))))) in
    field_bytes_lem 0xA1 (fields_bytes (present (rows_of v))) (omega arith) (omega (arith, whole, field_bytes_length 0xA1 (fields_bytes (present (rows_of v))))) (rows_bytes (rows_of v) rows)
