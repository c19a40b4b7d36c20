-- Document 01's sample through the whole listing: the `fwd` line is read as scan's case has it, the two others and the rows by computation. Assumes nothing.
use Prim.Native.Nat.{ℕ}
use Prim.Native.String.{String}
use mathlib.Core.Path.{◌≡◌, refl}
use mathlib.Core.List.{List, [], ◌∷◌, ◌++◌}
use Rattle.text.specs.Place.{found_below, first_of, first_in, first_place, last_place, byte_before, last_byte}
use Rattle.text.specs.Quote.{bytes}
use Rattle.text.specs.Decimal.{digits_within, decimal_text}
use Rattle.scan.specs.declared.Pieces.TheVariants.{Lenient}
use Rattle.scan.specs.Frame.{idle, first_high, frame_colon, frame_ascii, frame_of}
use Rattle.scan.specs.Parse.{with_frame, parse_of}
use Rattle.scan.proofs.Cases.{fwd}
use Rattle.listing_rows.specs.Rows.{word_and_number, refused_row, entry_row, totals_row}
use Rattle.filters.specs.Seen as S
use Rattle.filters.specs.Texts.{answer_by, seen_by, seen_of, seen_line, row_of, is_entry}
use Rattle.whole_output.specs.Output.{rows_from, entries_in, listed, listing_of}

-- a quoted line with its newline
abbrev line : String → List ℕ
line text = bytes text ++ (10 ∷ [])

abbrev fwd_line : List ℕ
fwd_line = line " fwd-7 [002] d..1. 12.000345: tb_tx: type=TB_CFG_PKG_READ, size=3, domain=0, route=0, data=[0x0, 0x0, 0x04002001]"

-- one word for all that the two refused lines compute with, and one for the rows
reads : Unit {0}
unfolding found_below first_of first_in first_place last_place byte_before last_byte idle first_high frame_colon frame_ascii frame_of with_frame parse_of seen_by seen_line
reads = tt

prints : Unit {0}
unfolding digits_within decimal_text word_and_number refused_row entry_row totals_row row_of is_entry rows_from entries_in listed listing_of
prints = tt

comment_seen : seen_line Lenient (line "# tracer: nop") ≡ S.Refused 1
unfolding reads
comment_seen = refl

fwd_seen : seen_line Lenient fwd_line ≡ S.Entry 1 3
unfolding seen_line seen_by
fwd_seen = rw (fwd Lenient).entry

nonsense_seen : seen_line Lenient (line "nonsense") ≡ S.Refused 4
unfolding reads
nonsense_seen = refl

-- document 01's sample: three lines, four rows
pub sample : listing_of (line "# tracer: nop" ∷ fwd_line ∷ line "nonsense" ∷ []) ≡ line "1 refused 1" ++ (line "2 kind 1 dwords 3" ++ (line "3 refused 4" ++ line "lines 3 entries 1"))
unfolding prints seen_of answer_by seen_line
sample = rw (comment_seen, fwd_seen, nonsense_seen)
