-- Document 01's cases as one list with a single statement, P6 and P7 in lenient with their strict sides beside them, as document 02 has it; each was
-- computed or proved where its definitions are. Assumes nothing.
use Rattle.std.specs.Prelude.{Err, None, Ok, Some}
use Rattle.text.specs.declared.number.BadNumber.TheVariants as BadNumber
use Prim.Native.Nat.{ℕ, ◌+◌, ◌<◌, ◌^◌}
use mathlib.Core.Path.{◌≡◌, refl}
use mathlib.Core.List.{[], ◌∷◌}
use Rattle.text.specs.Number.{hex_of}
use Rattle.text.specs.Quote.{bytes}
use Rattle.text.proofs.Cases.{case_P9}
use Rattle.bits.specs.Range.{range_of}
use Rattle.bits.proofs.Cases.{case_P10, case_P11}
use Rattle.entry.specs.declared.events.Event.TheVariants.{LinkRecovery, Unknown}
use Rattle.entry.specs.Event.{event_of}
use Rattle.entry.proofs.Cases.{case_P1}
use Rattle.header.specs.Dash.{Task, pid_of}
use Rattle.header.proofs.Dashes.{task_is}
use Rattle.header.specs.Stamp.{stamp_of}
use Rattle.header.proofs.Cases.{case_P2, case_P3}
use Rattle.pairs.specs.Pair.{pairs_from, decimal_of}
use Rattle.pairs.proofs.PairLists.{placed}
use Rattle.pairs.proofs.Cases.{case_P4, case_P5, case_P6}
use Rattle.scan.specs.declared.Pieces.TheVariants.{Strict, Lenient}
use Rattle.scan.specs.Body.{text_at}
use Rattle.scan.specs.Dwords.{payload_data}
use Rattle.scan.specs.Parse.{parse_of, line_dwords}
use Rattle.scan.proofs.Cases.{computes, plain_entry, accepted_P7, refused_P8, strict_twins}
use Rattle.tlv.specs.Grammar.{field_bytes}
use Rattle.packet.specs.Packet.{entries_of}
use Rattle.packet.proofs.Examples.{three_entries, three_uuids, four_uuids}
use Rattle.text.specs.Told.{is, absent, refused}
use Rattle.questions.specs.Questions.{route_of, start_of, view_of, uuid_answer}
use Rattle.questions.proofs.Cases.{case_P12, case_P13, case_P14}

-- the text of P6's value is what its dwords are read from
payload_P6 : payload_data (bytes "data=[0x1, zz, 0x2]") ≡ Some (1 ∷ 2 ∷ [])
unfolding payload_data text_at
payload_P6 = rw case_P6.value_at case_P6.dwords

-- the line of P6 is accepted in lenient, with its two dwords
accepted_P6 : parse_of Lenient (bytes "a-1 [002] 1.2: f: type=t size=3 domain=0 route=0 data=[0x1, zz, 0x2]") 256 ≡ is (plain_entry 2)
unfolding computes
accepted_P6 = refl

dwords_P6 : line_dwords (bytes "a-1 [002] 1.2: f: type=t size=3 domain=0 route=0 data=[0x1, zz, 0x2]") ≡ 1 ∷ 2 ∷ []
unfolding computes
dwords_P6 = refl

pub record Cases : Type 0 where
  -- P1: code 38 is link recovery, 3 unknown
  pub P1-named : event_of 38 ≡ LinkRecovery
  pub P1-unknown : event_of 3 ≡ Unknown 3
  -- P2: run `a-1-b`: task `a_1`, pid 1
  pub P2-task : Task (bytes "a-1-b") (bytes "a-1")
  pub P2-pid : pid_of (bytes "a-1-b") ≡ Some 1
  -- P3: `12.34.56: f`: 34 s, 56 µs
  pub P3 : stamp_of (bytes "12.34.56: f") ≡ Some (record { seconds = 34; microseconds = 56 })
  -- P4: `a=b=c`: one pair, a to b
  pub P4 : pairs_from (bytes "a=b=c") 0 ≡ placed 0 1 3 ∷ []
  -- P5: `size=1 size=2`: 2
  pub P5 : decimal_of (bytes "size=1 size=2") (bytes "size") 0xffff ≡ Some 2
  -- P6: `data=[0x1, zz, 0x2]`: 1, 2 in lenient; 18 in strict
  pub P6 : payload_data (bytes "data=[0x1, zz, 0x2]") ≡ Some (1 ∷ 2 ∷ [])
  pub P6-lenient : parse_of Lenient (bytes "a-1 [002] 1.2: f: type=t size=3 domain=0 route=0 data=[0x1, zz, 0x2]") 256 ≡ is (plain_entry 2)
  pub P6-dwords : line_dwords (bytes "a-1 [002] 1.2: f: type=t size=3 domain=0 route=0 data=[0x1, zz, 0x2]") ≡ 1 ∷ 2 ∷ []
  pub P6-strict : parse_of Strict (bytes "a-1 [002] 1.2: f: type=t size=3 domain=0 route=0 data=[0x1, zz, 0x2]") 256 ≡ refused 18
  -- P7: `data=[0x1,0x2]`: no dwords, accepted in lenient; 18 in strict
  pub P7-lenient : parse_of Lenient (bytes "a-1 [002] 1.2: f: type=t size=3 domain=0 route=0 data=[0x1,0x2]") 256 ≡ is (plain_entry 0)
  pub P7-strict : parse_of Strict (bytes "a-1 [002] 1.2: f: type=t size=3 domain=0 route=0 data=[0x1,0x2]") 256 ≡ refused 18
  -- P8: `data=[]`: 15 in both
  pub P8-lenient : parse_of Lenient (bytes "a-1 [002] 1.2: f: type=t size=3 domain=0 route=0 data=[]") 256 ≡ refused 15
  pub P8-strict : parse_of Strict (bytes "a-1 [002] 1.2: f: type=t size=3 domain=0 route=0 data=[]") 256 ≡ refused 15
  -- P9: hex 16: `ffff` read, `10000` not
  pub P9-read : hex_of 0xffff (bytes "ffff") ≡ Ok 0xffff
  pub P9-not : hex_of 0xffff (bytes "10000") ≡ (Err BadNumber.TooWide)
  -- P10: bits 8 to 15 of 0x12345678: 0x56
  pub P10 : range_of 0x12345678 8 15 ≡ 0x56
  -- P11: bits 0 to 31: the dword
  pub P11 : (dword : ℕ) → dword < 2 ^ 32 → range_of dword 0 31 ≡ dword
  -- P12: n = 3: five dwords view the last two, three an empty view, two give 25. The three entries have offsets 0, 1 and 7
  pub P12-n : entries_of three_entries 2 ≡ 3
  pub P12-five : view_of 2 three_entries (10 ∷ 11 ∷ 12 ∷ 13 ∷ 14 ∷ []) ≡ 13 ∷ 14 ∷ []
  pub P12-three : view_of 2 three_entries (10 ∷ 11 ∷ 12 ∷ []) ≡ []
  pub P12-starts : start_of 2 three_entries (10 ∷ 11 ∷ 12 ∷ []) ≡ is 3
  pub P12-two : start_of 2 three_entries (10 ∷ 11 ∷ []) ≡ refused 25
  -- P13: dwords 0x80000000, 1: route 2^63+1
  pub P13 : route_of 1 (field_bytes 1 (1 ∷ [])) (0x80000000 ∷ 1 ∷ []) ≡ is (2 ^ 63 + 1)
  -- P14: three `UUID` fields: no UUID; a fourth makes one
  pub P14-three : uuid_answer 8 three_uuids (1 ∷ 2 ∷ 3 ∷ 4 ∷ []) ≡ absent
  pub P14-four : uuid_answer 8 four_uuids (1 ∷ 2 ∷ 3 ∷ 4 ∷ []) ≡ is (record { first = 1; second = 2; third = 3; fourth = 4 })

pub cases : Cases
cases =
    record {
      P1-named = case_P1.link_recovery;
      P1-unknown = case_P1.unknown;
      P2-task = task_is (bytes "a-1-b") case_P2.task;
      P2-pid = case_P2.pid;
      P3 = case_P3;
      P4 = case_P4;
      P5 = case_P5;
      P6 = payload_P6;
      P6-lenient = accepted_P6;
      P6-dwords = dwords_P6;
      P6-strict = strict_twins.P6;
      P7-lenient = accepted_P7;
      P7-strict = strict_twins.P7;
      P8-lenient = refused_P8.lenient;
      P8-strict = refused_P8.strict;
      P9-read = case_P9.widest;
      P9-not = case_P9.too_wide;
      P10 = case_P10;
      P11 = case_P11;
      P12-n = case_P12.n;
      P12-five = case_P12.five;
      P12-three = case_P12.three;
      P12-starts = case_P12.starts;
      P12-two = case_P12.two;
      P13 = case_P13;
      P14-three = case_P14.three;
      P14-four = case_P14.four;
    }
