-- Whole lines through the reading, by computation: document 01's `fwd` line, and cases P6, P7 and P8 as a line meets them, in lenient and in strict.
-- Assumes nothing.
use Rattle.std.specs.Prelude.{None}
use Prim.Native.Nat.{ℕ}
use mathlib.Core.Path.{◌≡◌, refl}
use mathlib.Core.Bool.{false}
use mathlib.Core.List.{[], ◌∷◌, ◌++◌}
use Rattle.text.specs.Class.{between, is_blank, is_digit, is_letter, is_word, in_class}
use Rattle.text.specs.Number.{digit_of, value, all_digits, number_of, bad_first, value_within, reading_of, digits_from, hex_of}
use Rattle.text.specs.Place.{first_of, first_in, found_below, first_place, last_place, byte_before, last_byte}
use Rattle.text.specs.Quote.{bytes}
use Rattle.text.specs.Told as T
use Rattle.text.specs.Run.{run_end, behind, run_start, stripped}
use Rattle.entry.specs.declared.Entry.{Entry}
use Rattle.entry.specs.Kind.{by_direction, other_kind, kind_of}
use Rattle.header.specs.Dash.{dash_at, first_run, task_of, digits_behind, pid_of}
use Rattle.header.specs.Cpu.{cpu_at, digits_within, cpu_of}
use Rattle.header.specs.Stamp as Stamp
use Rattle.header.specs.Function.{function_of}
use Rattle.pairs.specs.Pair as Pair
use Rattle.pairs.specs.Data as Data
use Rattle.scan.specs.declared.Pieces.{Pieces}
use Rattle.scan.specs.declared.Pieces.TheVariants.{Strict, Lenient}
use Rattle.scan.specs.Frame.{idle, first_high, frame_colon, frame_ascii, frame_of}
use Rattle.scan.specs.Head.{head_of}
use Rattle.scan.specs.Body.{text_at, hex_byte, hex_word, decimal_byte, decimal_word, is_one, dropped_of, optionals_of, body_of}
use Rattle.scan.specs.Dwords.{payload_data, payload_bad, refuses, data_answer}
use Rattle.scan.specs.Parse.{entry_of, with_data, with_body, payload_answer, with_head, parted_answer, with_frame, parse_of, dwords_by, line_dwords}

-- one word for all that a whole line computes with
unfoldable pub computes : Unit {0}
unfolding between is_blank is_digit is_letter is_word in_class digit_of value all_digits number_of bad_first value_within reading_of digits_from hex_of first_of first_in found_below first_place last_place byte_before last_byte run_end behind run_start stripped by_direction other_kind kind_of dash_at first_run task_of digits_behind pid_of cpu_at digits_within cpu_of Stamp.followed Stamp.stamp_at Stamp.both_read Stamp.read_stamp Stamp.stamp_from Stamp.stamp_of function_of Pair.bracket_end Pair.value_end Pair.with_value Pair.pair_with Pair.pair_at Pair.is_hit Pair.pair_from Pair.next_pair Pair.followed Pair.pairs_within Pair.pairs_from Pair.newer Pair.last_in Pair.last_pair Pair.decimal_in Pair.decimal_of Pair.hex_in Pair.hex_at Data.ahead Data.cut Data.piece_of Data.taken Data.dwords_in Data.dwords_of Data.is_bad Data.any_bad Data.bad_of Data.inside_of Data.data_in Data.data_of Data.bad_in Data.bad_data idle first_high frame_colon frame_ascii frame_of head_of text_at hex_byte hex_word decimal_byte decimal_word is_one dropped_of optionals_of body_of payload_data payload_bad refuses data_answer entry_of with_data with_body payload_answer with_head parted_answer with_frame parse_of dwords_by line_dwords
computes = tt

-- P8 in a line: `data=[]` is refused with 15, in both
pub record RefusedP8 : Type 0 where
  pub lenient : parse_of Lenient (bytes "a-1 [002] 1.2: f: type=t size=3 domain=0 route=0 data=[]") 256 ≡ T.refused 15
  pub strict : parse_of Strict (bytes "a-1 [002] 1.2: f: type=t size=3 domain=0 route=0 data=[]") 256 ≡ T.refused 15

pub refused_P8 : RefusedP8
unfolding computes
refused_P8 = record { lenient = refl; strict = refl }

-- P6 and P7 in strict: refused with 18
pub record StrictTwins : Type 0 where
  pub P6 : parse_of Strict (bytes "a-1 [002] 1.2: f: type=t size=3 domain=0 route=0 data=[0x1, zz, 0x2]") 256 ≡ T.refused 18
  pub P7 : parse_of Strict (bytes "a-1 [002] 1.2: f: type=t size=3 domain=0 route=0 data=[0x1,0x2]") 256 ≡ T.refused 18

pub strict_twins : StrictTwins
unfolding computes
strict_twins = record { P6 = refl; P7 = refl }

-- the entry of a line with the required keys alone, by how many dwords it has
abbrev pub plain_entry : ℕ → Entry
plain_entry n = record { task_at = 0; task_len = 1; pid = 1; cpu = 2; seconds = 1; microseconds = 2; function_at = 15; function_len = 1; kind = 0; size = 3; dropped = false; domain = 0; route = 0; offset = None; code = None; len = None; port = None; config = None; seq = None; unplug = None; dwords = n }

-- P7 in a line, in lenient: `data=[0x1,0x2]` is accepted with no dwords
pub accepted_P7 : parse_of Lenient (bytes "a-1 [002] 1.2: f: type=t size=3 domain=0 route=0 data=[0x1,0x2]") 256 ≡ T.is (plain_entry 0)
unfolding computes
accepted_P7 = refl

-- the `fwd` line of document 01, its newline with it, is this entry with these dwords, whatever the choice
pub record Fwd (pieces : Pieces) : Type 0 where
  pub entry : parse_of pieces (bytes " fwd-7 [002] d..1. 12.000345: tb_tx: type=TB_CFG_PKG_READ, size=3, domain=0, route=0, data=[0x0, 0x0, 0x04002001]" ++ (10 ∷ [])) 256 ≡ T.is (record { task_at = 1; task_len = 3; pid = 7; cpu = 2; seconds = 12; microseconds = 345; function_at = 30; function_len = 5; kind = 1; size = 3; dropped = false; domain = 0; route = 0; offset = None; code = None; len = None; port = None; config = None; seq = None; unplug = None; dwords = 3 })
  pub dwords : line_dwords (bytes " fwd-7 [002] d..1. 12.000345: tb_tx: type=TB_CFG_PKG_READ, size=3, domain=0, route=0, data=[0x0, 0x0, 0x04002001]" ++ (10 ∷ [])) ≡ 0 ∷ 0 ∷ 0x04002001 ∷ []

pub fwd : (pieces : Pieces) → Fwd pieces
unfolding computes
fwd Strict = record { entry = refl; dwords = refl }
fwd Lenient = record { entry = refl; dwords = refl }
