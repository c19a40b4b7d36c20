-- A run of bytes written piece by piece: what is still to be written from a place on shortens as the place moves, and all else stays. One law serves
-- every loop and every call behind a call. Assumes nothing.
use Rattle.std.specs.Prelude.{None, Option, Some}
use Prim.Native.Nat.{ℕ, zero, suc, ◌+◌, ◌*◌, ◌/◌, ◌%◌, ◌^◌, ◌≤◌, ◌<◌}
use mathlib.Core.Path.{◌≡◌, ◌∙◌, sym, ap, refl}
use mathlib.Core.List.{List, [], ◌∷◌, ◌++◌, map}
use native.Mathlib.Numerals.{add-one}
use native.Mathlib.Omega.{arith}
use Rattle.std.proofs.Math.Nat.{div-div-eq-div-mul}
use lib.ListN.{length, get_or, take, drop, set, length-append}
use lib.Seq.{sets, length-sets, drop-cons, length-take-le, sets-eq, take-length}
use lib.ListN.{length-drop, drop_of_length-le}
use borrow.Rule.Slice.PartMut.{put_mid}
use Rattle.std.proofs.lemmas.Slice.{put_mid-paste}
use Rattle.std.specs.Int.{byte_at, bytes_low_first}
use lib.Dec.{leb}
use borrow.Author.Tests.{leb-true}
use mathlib.Core.Bool.{Bool, true, false, cond}
use Rattle.tlv.specs.Number.{number_bytes}
use Rattle.tlv.specs.Grammar.{field_bytes, All}
use Rattle.tlv.proofs.Numbers.{number_bytes_length}
use Rattle.tlv.proofs.Pieces.{field_bytes_length}
use Rattle.entry.specs.declared.Entry.{Entry}
use Rattle.entry.specs.Entry.{part_of, value_of}
use Rattle.entry.proofs.Parts.{part_in}
use Rattle.record.specs.Grammar.{dwords_bytes, rows_of, optional, flag}
use Rattle.record.proofs.Bodies.{dwords_bytes_length}
use Rattle.record.specs.declared.rule.Width.{Width}
use Rattle.record.specs.declared.rule.Width.TheVariants.{One, Two, Four, Eight}
use Rattle.record.specs.Rule.{bytes_of}
use Rattle.writer.specs.declared.item.Item.{Item}
use Rattle.writer.specs.declared.item.Row.{Row}
use denote.Ref.{MutBor}
use Rattle.writer.specs.declared.small.Writer.{Writer}
use Rattle.writer.specs.Put.{Put}
use Rattle.writer.specs.Small.{Appended}
use Rattle.writer.specs.Item.{body_of, row_of, Short, head_bytes, row_bytes, rows_bytes}

-- a text copied to a place is put there
pub put_copied : (out : List ℕ) (at : ℕ) (bytes : List ℕ) (k : ℕ) (now : List ℕ) → at + length bytes ≤ length out → now ≡ bytes → length bytes ≡ k
    → Put out at bytes (at + length bytes) (put_mid at k out now)
put_copied out at bytes k now fits e n =
    record {
      next = refl;
      is = put_mid-paste at k out now bytes (length bytes) e n refl ∙ rw (take-length bytes) (sym (sets-eq bytes out at fits));
    }

pub put_none : (out : List ℕ) (at : ℕ) → Put out at [] at out
put_none out at = record { next = omega arith; is = refl }

-- stores behind stores are one run of stores
pub sets_append : (a b l : List ℕ) (i : ℕ) → sets l i (a ++ b) ≡ sets (sets l i a) (i + length a) b
sets_append [] b l i = let e : i + 0 ≡ i = omega arith in rw e
sets_append (x ∷ a) b l i =
    let e : i + suc (length a) ≡ suc i + length a = omega arith in
    rw e (sets_append a b (set l i x) (suc i))

-- `whole` is to be written at a place; so far the buffer is `out`, and `rest` is still to come
pub record Filling (found : List ℕ) (at : ℕ) (whole out : List ℕ) (place : ℕ) (rest : List ℕ) : Type 0 where
  pub size : length out ≡ length found
  pub sum : place + length rest ≡ at + length whole
  pub same : sets found at whole ≡ sets out place rest

module _ {found : List ℕ} {at : ℕ} {whole : List ℕ} where
  pub filling_starts : {rest : List ℕ} → whole ≡ rest → Filling found at whole found at rest
  filling_starts e = rw (← e) (record { size = refl; sum = refl; same = refl })

  pub filling_steps : {out rest : List ℕ} {place : ℕ} → Filling found at whole out place rest → (a more : List ℕ) → rest ≡ a ++ more
      → {r : ℕ} {left : List ℕ} → Put out place a r left → Filling found at whole left r more
  filling_steps {out} {rest} {place} f a more e {r} {left} p =
      record {
        size = ap length p.is ∙ length-sets out place a ∙ f.size;
        sum = omega (arith, p.next, f.sum, ap length e, length-append a more);
        same = f.same ∙ rw (e, sets_append a more out place, ← p.is, ← p.next);
      }

  pub filling_ends : {out rest : List ℕ} {place : ℕ} → Filling found at whole out place rest → rest ≡ [] → Put found at whole place out
  filling_ends {out} {rest} {place} f e =
      record { next = omega (arith, f.sum, ap length e); is = sym (f.same ∙ rw e) }

-- one run behind another
pub put_then : {out mid left : List ℕ} {at r s : ℕ} (a b whole : List ℕ) → Put out at a r mid → Put mid r b s left → whole ≡ a ++ b → Put out at whole s left
put_then {out} {mid} {left} {at} {r} {s} a b whole p q e =
    filling_ends (filling_steps (filling_steps (filling_starts e) a b refl p) b [] (rw (append_none b)) q) refl
  where
    append_none : (l : List ℕ) → l ++ [] ≡ l
    append_none [] = refl
    append_none (x ∷ l) = ap (λ (m : List ℕ). x ∷ m) (append_none l)

-- ---- what comes next

pub part_length : (l : List ℕ) (at n : ℕ) → at + n ≤ length l → length (part_of l at n) ≡ n
part_length l at n h = rw (← part_in l at n h) (length-take-le n (drop at l) (rw (length-drop at l) (omega arith)))

-- the lowest bytes of a number, the lowest first
pub number_low : (k i n : ℕ) → number_bytes k (n / 256 ^ i) ≡ bytes_low_first i k n
unfolding number_bytes
number_low zero i n = refl
number_low (suc k) zero n = let one : n / 256 ^ 0 ≡ n = omega arith in rw one (ap (λ (l : List ℕ). n % 256 ∷ l) (number_low k 1 n))
number_low (suc k) (suc i) n =
    let next : n / 256 ^ suc i / 256 ≡ n / 256 ^ suc (suc i) = div-div-eq-div-mul n (256 ^ suc i) 256 ∙ ap (λ (m : ℕ). n / m) (omega arith) in
    ap (λ (l : List ℕ). n / 256 ^ suc i % 256 ∷ l) (ap (number_bytes k) next ∙ number_low k (suc (suc i)) n)

low_cut : (i k m n : ℕ) → m ≤ k → take m (bytes_low_first i k n) ≡ bytes_low_first i m n
low_cut i k zero n h = refl
low_cut i zero (suc m) n h = absurd (omega arith)
low_cut i (suc k) (suc m) n h = ap (λ (l : List ℕ). byte_at i n ∷ l) (low_cut (suc i) k m n (omega arith))

pub number_whole : (k n : ℕ) → bytes_low_first 0 k n ≡ number_bytes k n
number_whole k n = let one : n / 256 ^ 0 ≡ n = omega arith in sym (number_low k 0 n) ∙ ap (number_bytes k) one

-- a number as wide as its width, from its eight bytes
pub number_cut : (k n : ℕ) → k ≤ 8 → take k (bytes_low_first 0 8 n) ≡ number_bytes k n
number_cut k n h = low_cut 0 8 k n h ∙ number_whole k n

pub dwords_size : (l : List ℕ) (n : ℕ) → n ≤ length l → length (dwords_bytes (part_of l 0 n)) ≡ 4 * n
dwords_size l n h = dwords_bytes_length (part_of l 0 n) ∙ ap (λ (m : ℕ). 4 * m) (part_length l 0 n (omega arith))

pub dword_first : (ds : List ℕ) (i : ℕ) → i < length ds
    → dwords_bytes (drop i ds) ≡ number_bytes 4 (get_or ds i 0) ++ dwords_bytes (drop (i + 1) ds)
unfolding dwords_bytes
dword_first ds i h = rw (drop-cons ds i 0 h, add-one i)

pub row_first : (rs : List Row) (d : Row) (i : ℕ) → i < length rs
    → rows_bytes (map row_of (drop i rs)) ≡ row_bytes (row_of (get_or rs i d)) ++ rows_bytes (map row_of (drop (i + 1) rs))
unfolding rows_bytes
row_first rs d i h = rw (drop-cons rs i d h, add-one i)

-- ---- a field is its head and its body

pub head_length : (tag size : ℕ) → length (head_bytes tag size) ≡ 3
unfolding head_bytes
head_length tag size = refl

pub field_head : (tag size : ℕ) (body : List ℕ) → length body ≡ size → field_bytes tag body ≡ head_bytes tag size ++ body
unfolding field_bytes head_bytes
field_head tag size body e = rw e

pub put_length : {out left : List ℕ} {at r : ℕ} {a : List ℕ} → Put out at a r left → length left ≡ length out
put_length {out} {left} {at} {r} {a} p = ap length p.is ∙ length-sets out at a

-- ---- dwords, one by one

pub dword_none : (ds : List ℕ) (i : ℕ) → length ds ≤ i → dwords_bytes (drop i ds) ≡ []
unfolding dwords_bytes
dword_none ds i h = rw (drop_of_length-le ds {i = i} h)

-- there is room for the next one
pub dword_room : (ds : List ℕ) (i at : ℕ) {found out : List ℕ} {place : ℕ} → Filling found at (dwords_bytes ds) out place (dwords_bytes (drop i ds))
    → i < length ds → at + 4 * length ds ≤ length found → place + 4 ≤ length out
dword_room ds i at {found} {out} {place} f h room =
    omega (arith, f.size, f.sum, dwords_bytes_length ds, dwords_bytes_length (drop i ds), length-drop i ds)

-- ---- rows, one by one

module _ (r : Row) where
  pub row_some : {item : Item} → r.item ≡ Some item → row_bytes (row_of r) ≡ field_bytes r.tag (body_of item)
  unfolding row_bytes
  row_some e = rw e

  pub row_none : r.item ≡ None → row_bytes (row_of r) ≡ []
  unfolding row_bytes
  row_none e = rw e

  pub row_size : {item : Item} → r.item ≡ Some item → length (row_bytes (row_of r)) ≡ length (body_of item) + 3
  row_size {item} e = ap length (row_some e) ∙ field_bytes_length r.tag (body_of item)

  pub row_short : {item : Item} → r.item ≡ Some item → Short (row_of r) → length (body_of item) < 65536
  row_short e h = rw e at h

pub row_over : (rs : List Row) (i : ℕ) → length rs ≤ i → rows_bytes (map row_of (drop i rs)) ≡ []
unfolding rows_bytes
row_over rs i h = rw (drop_of_length-le rs {i = i} h)

short_at : (rs : List Row) (d : Row) (i : ℕ) → i < length rs → All Short (map row_of rs) → Short (row_of (get_or rs i d))
short_at [] d i h short = absurd (omega arith)
short_at (r ∷ rs) d zero h short = short.0
short_at (r ∷ rs) d (suc i) h short = short_at rs d i (omega arith) short.1

-- the next one is as short as all are, and there is room for it
pub row_room : (rs : List Row) (d : Row) (i at : ℕ) {found out : List ℕ} {place : ℕ}
    → Filling found at (rows_bytes (map row_of rs)) out place (rows_bytes (map row_of (drop i rs)))
    → i < length rs → All Short (map row_of rs) → at + length (rows_bytes (map row_of rs)) ≤ length found
    → Short (row_of (get_or rs i d)) × (place + length (row_bytes (row_of (get_or rs i d))) ≤ length out)
row_room rs d i at {found} {out} {place} f h short room =
    let next = ap length (row_first rs d i h) ∙ length-append (row_bytes (row_of (get_or rs i d))) (rows_bytes (map row_of (drop (i + 1) rs))) in
    (short_at rs d i h short, omega (arith, f.size, f.sum, next))

-- ---- a number by its width

width_small : (w : Width) → bytes_of w ≤ 8
width_small One = omega arith
width_small Two = omega arith
width_small Four = omega arith
width_small Eight = omega arith

pub width_bytes : (w : Width) (n : ℕ) {k : ℕ} {s : List ℕ} → k ≡ bytes_of w → s ≡ bytes_low_first 0 8 n → take k s ≡ number_bytes (bytes_of w) n
width_bytes w n a b = rw (a, b) (number_cut (bytes_of w) n (width_small w))

-- ---- no row of a record is long

part_short : (l : List ℕ) (at n : ℕ) → length (part_of l at n) ≤ n
unfolding part_of
part_short l at n = go (leb (at + n) (length l)) refl
  where
    go : (x : Bool) → leb (at + n) (length l) ≡ x → length (cond x (take n (drop at l)) []) ≤ n
    go true e = let h : at + n ≤ length l = leb-true _ _ e in omega (arith, length-take-le n (drop at l) (rw (length-drop at l) (omega arith)))
    go false e = omega arith

optional_short : (tag k : ℕ) (n : Option ℕ) → k < 65536 → Short (optional tag k n)
optional_short tag k None h = tt
optional_short tag k (Some n) h = omega (arith, number_bytes_length k n)

-- what holds of a row, and of all behind it
infixr 5 ◌&◌
◌&◌ : {A B : Type 0} → A → B → A × B
a & b = (a, b)

pub rows_short : (text : List ℕ) (e : Entry) (dwords : List ℕ) → (e.task_len < 65536) × (e.function_len < 65536) × (4 * e.dwords < 65536)
    → All Short (rows_of (value_of e text dwords))
unfolding rows_of value_of
rows_short text e dwords h =
    let o = optional_short in
    let task : length (part_of text e.task_at e.task_len) < 65536 = omega (arith, part_short text e.task_at e.task_len, h.0) in
    let function : length (part_of text e.function_at e.function_len) < 65536 = omega (arith, part_short text e.function_at e.function_len, h.1) in
    let words : length (dwords_bytes (part_of dwords 0 e.dwords)) < 65536 = omega (arith, part_short dwords 0 e.dwords, dwords_bytes_length (part_of dwords 0 e.dwords), h.2) in
    task
    & o 0x02 4 (Some e.pid) (omega arith)
    & o 0x03 2 (Some e.cpu) (omega arith)
    & o 0x04 8 (Some e.seconds) (omega arith)
    & o 0x05 8 (Some e.microseconds) (omega arith)
    & function
    & o 0x07 1 (Some e.kind) (omega arith)
    & o 0x08 2 (Some e.size) (omega arith)
    & o 0x09 1 (Some (flag e.dropped)) (omega arith)
    & o 0x0A 4 (Some e.domain) (omega arith)
    & o 0x0B 8 (Some e.route) (omega arith)
    & o 0x0C 2 e.offset (omega arith)
    & o 0x0D 1 e.code (omega arith)
    & o 0x0E 2 e.len (omega arith)
    & o 0x0F 1 e.port (omega arith)
    & o 0x10 1 e.config (omega arith)
    & o 0x11 1 e.seq (omega arith)
    & o 0x12 1 e.unplug (omega arith)
    & words
    & tt

-- ---- the head and the rows of a record, in a writer that was new

new_now : {x : MutBor (List ℕ)} {w : Writer} → (w.out ≡ x) × (w.at ≡ 0) → w.out.now ≡ x.now
new_now new = ap (λ (r : MutBor (List ℕ)). r.now) new.0

pub record_room : {x : MutBor (List ℕ)} {w v : Writer} (size : ℕ) → (w.out ≡ x) × (w.at ≡ 0) → Appended w (head_bytes 0xA1 size) v
    → (rows : List ℕ) → 3 + length rows ≤ length x.now → v.at + length rows ≤ length v.out.now
record_room size new head rows h =
    omega (arith, new.1, ap length (new_now new), head.put.next, head_length 0xA1 size, put_length head.put)

-- whatever name the last bytes have
pub record_put : {x : MutBor (List ℕ)} {w v u : Writer} (size : ℕ) → (w.out ≡ x) × (w.at ≡ 0) → Appended w (head_bytes 0xA1 size) v
    → (rows : List ℕ) → Appended v rows u → {zs : List ℕ} → zs ≡ u.out.now → Put x.now 0 (head_bytes 0xA1 size ++ rows) u.at zs
record_put size new head rows p e = rw e (put_then _ _ _ (rw (new_now new, new.1) at head.put) p.put refl)
