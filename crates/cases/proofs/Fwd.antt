-- Document 01's `fwd` line as a record, byte by byte: what is written of the line's entry, read back, and written again, all computed. Assumes nothing.
use Rattle.std.specs.Prelude.{None, Some}
use Prim.Native.Nat.{ℕ}
use mathlib.Core.Path.{◌≡◌, refl}
use mathlib.Core.Bool.{false}
use mathlib.Core.List.{List, [], ◌∷◌, ◌++◌}
use Rattle.text.specs.Class as Class
use Rattle.text.specs.Quote.{bytes}
use Rattle.text.specs.Told.{is}
use Rattle.tlv.specs.Grammar as Layout
use Rattle.tlv.specs.Number as Number
use Rattle.tlv.specs.Reading as Step
use Rattle.entry.specs.declared.Entry.{Entry}
use Rattle.entry.specs.Entry as Value
use Rattle.scan.specs.declared.Pieces.{Pieces}
use Rattle.scan.specs.declared.Pieces.TheVariants.{Strict}
use Rattle.scan.specs.Parse.{parse_of, line_dwords}
use Rattle.scan.proofs.Cases as Lines
use Rattle.record.specs.Finding as Finding
use Rattle.record.specs.Gathering as Gathering
use Rattle.record.specs.Grammar as Grammar
use Rattle.record.specs.Judging as Judging
use Rattle.record.specs.Reading as Reading
use Rattle.record.specs.Reading.{read_of, dwords_of}
use Rattle.record.specs.Rule as Rule
use Rattle.writer.specs.Ranges as Ranges
use Rattle.writer.specs.Writing as Writing
use Rattle.writer.specs.Writing.{write_of, bytes_of}

-- one word for all that a record computes with
unfoldable pub records_open : Unit {0}
unfolding Class.between Class.is_digit Class.is_letter Class.is_word Layout.field_bytes Layout.fields_bytes Number.number_bytes Number.number
    Step.step_from Step.field_at Step.walk_from Step.walk Step.parts
    Value.part_of Value.value_of
    Finding.span_among Finding.span_of Finding.place_of Finding.maybe_of Finding.number_of Finding.byte_of Finding.word_of
    Gathering.entry_of
    Grammar.dwords_bytes Grammar.rows_of Grammar.present Grammar.record_bytes
    Judging.framed Judging.task_size Judging.judge_field Judging.judged Judging.has_required Judging.refusal_of
    Reading.dwords_at Reading.dword_count Reading.dwords_of Reading.read_of
    Rule.rule_of Rule.is_task_byte Rule.fits_text Rule.fits_number Rule.fits_dwords Rule.fits_rule
    Ranges.fits_texts Ranges.fits_numbers Ranges.writable Writing.bytes_of Writing.write_of
records_open = tt

-- the line, its newline with it
abbrev pub fwd_line : List ℕ
fwd_line = bytes " fwd-7 [002] d..1. 12.000345: tb_tx: type=TB_CFG_PKG_READ, size=3, domain=0, route=0, data=[0x0, 0x0, 0x04002001]" ++ (10 ∷ [])

-- its dwords
abbrev pub fwd_dwords : List ℕ
fwd_dwords = 0 ∷ 0 ∷ 0x04002001 ∷ []

-- its record: A1 and the length, then a row a field
abbrev pub fwd_record : List ℕ
fwd_record =
    0xa1 ∷ 0x5e ∷ 0x00
    ∷ 0x01 ∷ 0x03 ∷ 0x00 ∷ 0x66 ∷ 0x77 ∷ 0x64
    ∷ 0x02 ∷ 0x04 ∷ 0x00 ∷ 0x07 ∷ 0x00 ∷ 0x00 ∷ 0x00
    ∷ 0x03 ∷ 0x02 ∷ 0x00 ∷ 0x02 ∷ 0x00
    ∷ 0x04 ∷ 0x08 ∷ 0x00 ∷ 0x0c ∷ 0x00 ∷ 0x00 ∷ 0x00 ∷ 0x00 ∷ 0x00 ∷ 0x00 ∷ 0x00
    ∷ 0x05 ∷ 0x08 ∷ 0x00 ∷ 0x59 ∷ 0x01 ∷ 0x00 ∷ 0x00 ∷ 0x00 ∷ 0x00 ∷ 0x00 ∷ 0x00
    ∷ 0x06 ∷ 0x05 ∷ 0x00 ∷ 0x74 ∷ 0x62 ∷ 0x5f ∷ 0x74 ∷ 0x78
    ∷ 0x07 ∷ 0x01 ∷ 0x00 ∷ 0x01
    ∷ 0x08 ∷ 0x02 ∷ 0x00 ∷ 0x03 ∷ 0x00
    ∷ 0x09 ∷ 0x01 ∷ 0x00 ∷ 0x00
    ∷ 0x0a ∷ 0x04 ∷ 0x00 ∷ 0x00 ∷ 0x00 ∷ 0x00 ∷ 0x00
    ∷ 0x0b ∷ 0x08 ∷ 0x00 ∷ 0x00 ∷ 0x00 ∷ 0x00 ∷ 0x00 ∷ 0x00 ∷ 0x00 ∷ 0x00 ∷ 0x00
    ∷ 0x13 ∷ 0x0c ∷ 0x00 ∷ 0x00 ∷ 0x00 ∷ 0x00 ∷ 0x00 ∷ 0x00 ∷ 0x00 ∷ 0x00 ∷ 0x00 ∷ 0x01 ∷ 0x20 ∷ 0x00 ∷ 0x04
    ∷ []

-- the entry as it lies in the line, on any CPU and on its own; and as it lies in the record
abbrev pub fwd_on : ℕ → Entry
fwd_on cpu = record { task_at = 1; task_len = 3; pid = 7; cpu = cpu; seconds = 12; microseconds = 345; function_at = 30; function_len = 5; kind = 1; size = 3; dropped = false; domain = 0; route = 0; offset = None; code = None; len = None; port = None; config = None; seq = None; unplug = None; dwords = 3 }

abbrev pub fwd_in_line : Entry
fwd_in_line = fwd_on 2

abbrev pub fwd_in_record : Entry
fwd_in_record = record { task_at = 6; task_len = 3; pid = 7; cpu = 2; seconds = 12; microseconds = 345; function_at = 46; function_len = 5; kind = 1; size = 3; dropped = false; domain = 0; route = 0; offset = None; code = None; len = None; port = None; config = None; seq = None; unplug = None; dwords = 3 }

pub record FwdRecord : Type 0 where
  pub line : (pieces : Pieces) → parse_of pieces fwd_line 256 ≡ is fwd_in_line
  pub line_dwords_lem : line_dwords fwd_line ≡ fwd_dwords
  pub written : write_of fwd_line fwd_in_line fwd_dwords 97 ≡ is 97
  pub bytes_written : bytes_of fwd_line fwd_in_line fwd_dwords ≡ fwd_record
  pub read : read_of fwd_record 3 ≡ is fwd_in_record
  pub read_dwords : dwords_of fwd_record ≡ fwd_dwords
  pub again : write_of fwd_record fwd_in_record fwd_dwords 97 ≡ is 97
  pub bytes_again : bytes_of fwd_record fwd_in_record fwd_dwords ≡ fwd_record

pub fwd_record_lem : FwdRecord
unfolding records_open
fwd_record_lem =
    record {
      line = λ pieces. (Lines.fwd pieces).entry;
      line_dwords_lem = (Lines.fwd Strict).dwords;
      written = refl;
      bytes_written = refl;
      read = refl;
      read_dwords = refl;
      again = refl;
      bytes_again = refl;
    }
