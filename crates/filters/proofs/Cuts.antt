-- What stands in the buffer of a unit that was cut off tells what the whole unit does; and what is kept stays what a stream keeps. Assumes nothing.
use Prim.Native.Nat.{ℕ, ◌≤◌, ◌<◌}
use mathlib.Core.Path.{◌≡◌, refl, sym, ap, subst, ◌∙◌}
use mathlib.Core.Bool.{Bool, true, false, cond}
use mathlib.Core.List.{List, []}
use native.Mathlib.Omega.{arith}
use lib.Dec.{eqb, ltb}
use lib.ListN.{length, get_or, take}
use lib.Seq.{take_all, get_or-take, length-take-le}
use Rattle.text.proofs.Places.{by_order}
use Rattle.text.specs.Told as T
use Rattle.tlv.specs.Number.{Bytes}
use Rattle.tlv.proofs.Places.{bytes_take}
use Rattle.scan.specs.declared.Pieces.{Pieces}
use Rattle.scan.specs.declared.Pieces.TheVariants.{Lenient}
use Rattle.scan.specs.Parse.{parse_of}
use Rattle.intake.specs.Intake.{starts_a1, taken_of}
use Rattle.intake.proofs.FirstBytes.{overlong_line}
use Rattle.units.specs.declared.Framing.{Framing}
use Rattle.units.specs.declared.Framing.TheVariants.{Lines, Both}
use Rattle.units.specs.declared.Unit.TheVariants as U
use Rattle.units.specs.Units.{marked, is_record, stated, Rest}
use Rattle.units.specs.Kept.{is_long, kept_text, Keeps, is_kept}
use Rattle.units.specs.Feeding.{unit_of, text_length}
use Rattle.units.proofs.States.{keeps_kept}
use Rattle.stream.specs.Answers.{answer_of, said_by, records_of}
use Rattle.stream.specs.Feeding.{unit_told}
use Rattle.stream.proofs.Reading.{first_bytes_tell}
use Rattle.filters.specs.declared.Filter.{Filter}
use Rattle.filters.specs.declared.Filter.TheVariants as F
use Rattle.filters.specs.declared.Counts.{Counts}
use Rattle.filters.specs.Texts.{framing_of, answer_by, seen_by, row_of, record_by, told_by, line_told, cut_told}
use Rattle.filters.specs.Filter.{out_by, tell_by, out_text}

-- ---- the answer

line_told_lem : (w rest : List ℕ) → take (length (kept_text Lines w)) rest ≡ kept_text Lines w → line_told (unit_of Lines w) rest ≡ parse_of Lenient w 256
unfolding line_told unit_of kept_text marked
line_told_lem w rest front = rw front (first_bytes_tell Lenient w 256)

module _ (pieces : Pieces) (w rest : List ℕ) (front : take (length (kept_text Both w)) rest ≡ kept_text Both w) where
  unit_told_lem : unit_told pieces (unit_of Both w) rest 256 ≡ answer_of pieces w 256
  unfolding unit_told unit_of answer_of kept_text taken_of is_long starts_a1 marked
  unit_told_lem = go (starts_a1 w) refl (is_long w) refl (ltb (length w) (stated w)) refl
    where
      go : (a : Bool) → starts_a1 w ≡ a → (b : Bool) → is_long w ≡ b → (d : Bool) → ltb (length w) (stated w) ≡ d → unit_told pieces (unit_of Both w) rest 256 ≡ answer_of pieces w 256
      go true x true y d z = rw (x, y)
      go true x false y true z = rw (x, y, z)
      go true x false y false z = let e : take (length w) rest ≡ w = rw (x, y) at front in rw (x, y, z, e, x)
      go false x b y d z =
          let e : take (length (take 4097 w)) rest ≡ take 4097 w = rw x at front in
          let s : starts_a1 (take 4097 w) ≡ false = ap (λ (n : ℕ). eqb n 0xA1) (get_or-take 4097 w 0 0 (omega arith)) ∙ x in
          rw (x, e, s) (first_bytes_tell pieces w 256)

  first_bytes_say : said_by (take 4097 w) (parse_of pieces w 256) ≡ said_by w (parse_of pieces w 256)
  unfolding said_by
  first_bytes_say =
      by_order (length w) 4097 (λ h. ap (λ (l : List ℕ). said_by l (parse_of pieces w 256)) (take_all 4097 w (omega (arith, h)))) (λ h. ap (λ (l : List ℕ). said_by l (parse_of pieces w 256)) (take_all 4097 w (omega (arith, h)))) (λ h. rw (overlong_line pieces w 256 (omega (arith, h))))

  unit_says : said_by (take (text_length (unit_of Both w)) rest) (answer_of pieces w 256) ≡ said_by w (answer_of pieces w 256)
  unfolding unit_of answer_of kept_text is_long starts_a1 marked text_length said_by
  unit_says = go (starts_a1 w) refl (is_long w) refl (ltb (length w) (stated w)) refl
    where
      go : (a : Bool) → starts_a1 w ≡ a → (b : Bool) → is_long w ≡ b → (d : Bool) → ltb (length w) (stated w) ≡ d → said_by (take (text_length (unit_of Both w)) rest) (answer_of pieces w 256) ≡ said_by w (answer_of pieces w 256)
      go true x true y d z = rw (x, y)
      go true x false y true z = rw (x, y, z)
      go true x false y false z = let e : take (length w) rest ≡ w = rw (x, y) at front in rw (x, y, z, e)
      go false x b y d z = let e : take (length (take 4097 w)) rest ≡ take 4097 w = rw x at front in rw (x, e) first_bytes_say

-- a filter tells of what was cut off what it does of the unit
pub cut_told_lem : (f : Filter) (w rest : List ℕ) → take (length (kept_text (framing_of f) w)) rest ≡ kept_text (framing_of f) w → cut_told f (unit_of (framing_of f) w) rest ≡ answer_by f w
unfolding cut_told answer_by
cut_told_lem F.Listing w rest front = line_told_lem w rest front
cut_told_lem (F.Pack pieces) w rest front = unit_told_lem pieces w rest front
cut_told_lem (F.Unpack pieces) w rest front = unit_told_lem pieces w rest front

pub cut_out : (f : Filter) (c : Counts) (w rest : List ℕ) → take (length (kept_text (framing_of f) w)) rest ≡ kept_text (framing_of f) w → out_by f c (take (text_length (unit_of (framing_of f) w)) rest) (answer_by f w) ≡ out_text f c w
unfolding out_text out_by answer_by record_by
cut_out F.Listing c w rest front = refl
cut_out (F.Pack pieces) c w rest front = ap records_of (unit_says pieces w rest front)
cut_out (F.Unpack pieces) c w rest front = refl

-- where no unit ended it puts out and tells nothing
pub open_told : (f : Filter) (rest : List ℕ) → cut_told f U.Open rest ≡ T.absent
unfolding cut_told line_told unit_told
open_told F.Listing rest = refl
open_told (F.Pack pieces) rest = refl
open_told (F.Unpack pieces) rest = refl

pub open_out : (f : Filter) (c : Counts) (u : List ℕ) → out_by f c u T.absent ≡ []
unfolding out_by seen_by row_of record_by records_of said_by
open_out F.Listing c u = refl
open_out (F.Pack pieces) c u = refl
open_out (F.Unpack pieces) c u = refl

pub open_tells : (f : Filter) (c : Counts) → tell_by f c T.absent ≡ []
unfolding tell_by seen_by told_by
open_tells F.Listing c = refl
open_tells (F.Pack pieces) c = refl
open_tells (F.Unpack pieces) c = refl

-- ---- what is kept

module _ (f : Framing) where
  pub text_kept : (w : List ℕ) → text_length (unit_of f w) ≤ length (kept_text f w)
  unfolding text_length unit_of kept_text
  text_kept w = go (is_record f w) (is_long w) (ltb (length w) (stated w))
    where
      go : (a b d : Bool) → text_length (cond a (cond b U.Long (cond d U.Cut (U.Text (length w)))) (U.Text (length (take 4097 w)))) ≤ length (cond a (cond b (take 3 w) w) (take 4097 w))
      go true true d = omega arith
      go true false true = omega arith
      go true false false = omega arith
      go false b d = omega arith

  -- the second byte is kept
  kept_second : (w : List ℕ) → get_or (kept_text f w) 1 0 ≡ get_or w 1 0
  unfolding kept_text
  kept_second w = go (is_record f w) (is_long w)
    where
      go : (a b : Bool) → get_or (cond a (cond b (take 3 w) w) (take 4097 w)) 1 0 ≡ get_or w 1 0
      go true true = get_or-take 3 w 1 0 (omega arith)
      go true false = refl
      go false b = get_or-take 4097 w 1 0 (omega arith)

  -- what keeps an open unit is what a stream leaves, since its bytes are bytes
  pub still_kept : (u rest : List ℕ) (held passed : ℕ) → Bytes rest → Rest f u → Keeps f u rest held passed → is_kept f rest held passed ≡ true
  still_kept u rest held passed bytes r k =
      let same : get_or (take held rest) 1 0 ≡ get_or u 1 0 = ap (λ (l : List ℕ). get_or l 1 0) k.text_is ∙ kept_second u in
      keeps_kept f u rest held passed r (subst (λ (n : ℕ). n < 256) same (bytes_take rest held bytes 1)) k

  -- the bytes that are held are those that are kept
  pub keeps_front : {u rest : List ℕ} {held passed : ℕ} → Keeps f u rest held passed → take (length (kept_text f u)) rest ≡ kept_text f u
  keeps_front {u} {rest} {held} {passed} k =
      let n : length (kept_text f u) ≡ held = ap length (sym k.text_is) ∙ length-take-le held rest (omega (arith, k.within, k.size)) in
      ap (λ (m : ℕ). take m rest) n ∙ k.text_is
