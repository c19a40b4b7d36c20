-- Every number of document 01 but 10, which document 02 takes out, and 18 of document 02, with an input that is given it, as one list with a single
-- statement; crate `retired` says that no call answers 10. A line's number is given by either choice, 18 by strict alone. All are computed.
-- Assumes nothing.
use Prim.Native.Nat.{ℕ, zero, suc}
use mathlib.Core.Path.{◌≡◌, refl}
use mathlib.Core.List.{List, [], ◌∷◌, ◌++◌}
use lib.ListN.{replicate}
use Rattle.text.specs.Quote.{bytes}
use Rattle.text.specs.Told.{refused}
use Rattle.tlv.specs.Grammar.{field_bytes}
use Rattle.scan.specs.declared.Pieces.{Pieces}
use Rattle.scan.specs.declared.Pieces.TheVariants.{Strict, Lenient}
use Rattle.scan.specs.Parse as Line
use Rattle.scan.proofs.Cases.{computes}
use Rattle.book.specs.Reading.{check_of}
use Rattle.packet.specs.Packet as Packet
use Rattle.packet.proofs.Examples.{three_entries, packet_type, packets_open}
use Rattle.questions.specs.Described as Described
use Rattle.questions.specs.Questions as Questions
use Rattle.questions.specs.Questions.{route_of, type_of}
use Rattle.record.specs.Reading.{read_of}
use Rattle.writer.specs.Writing.{write_of}
use Rattle.cases.proofs.Fwd.{records_open, fwd_line, fwd_dwords, fwd_record, fwd_in_line, fwd_on}

-- a header with every part, and a payload in front of its data
abbrev head : List ℕ
head = bytes "a-1 [002] 1.2: f: "

abbrev front : List ℕ
front = bytes "type=t size=3 domain=0 route=0 "

-- as many times the dword 1, and one more
unfoldable pub many : ℕ → List ℕ
many zero = bytes "1]"
many (suc n) = bytes "1, " ++ many n

-- a control table of kind 1 with no entry
abbrev plain_book : List ℕ
plain_book = field_bytes 1 (1 ∷ [])

-- and with a packet type in dword 0, of which 1 has a name
abbrev type_book : List ℕ
type_book = field_bytes 1 (1 ∷ field_bytes 3 (0 ∷ 0 ∷ packet_type))

-- behind 15 the choice is looked at
many_dwords : (pieces : Pieces) → Line.parse_of pieces (head ++ (front ++ (bytes "data=[" ++ many 256))) 256 ≡ refused 16
unfolding many computes
many_dwords Strict = refl
many_dwords Lenient = refl

few_slots : (pieces : Pieces) → Line.parse_of pieces (head ++ (front ++ bytes "data=[1]")) 0 ≡ refused 17
unfolding computes
few_slots Strict = refl
few_slots Lenient = refl

pub record Reached : Type 0 where
  pub number_1 : (pieces : Pieces) → Line.parse_of pieces (bytes "#") 256 ≡ refused 1
  pub number_2 : (pieces : Pieces) → Line.parse_of pieces (replicate 4097 97) 256 ≡ refused 2
  pub number_3 : (pieces : Pieces) → Line.parse_of pieces (128 ∷ []) 256 ≡ refused 3
  pub number_4 : (pieces : Pieces) → Line.parse_of pieces (bytes "nonsense") 256 ≡ refused 4
  pub number_5 : (pieces : Pieces) → Line.parse_of pieces (bytes "-1 [002] 1.2: f: ") 256 ≡ refused 5
  pub number_6 : (pieces : Pieces) → Line.parse_of pieces (bytes "a-x [002] 1.2: f: ") 256 ≡ refused 6
  pub number_7 : (pieces : Pieces) → Line.parse_of pieces (bytes "a-1 [02] 1.2: f: ") 256 ≡ refused 7
  pub number_8 : (pieces : Pieces) → Line.parse_of pieces (bytes "a-1 [002] f: ") 256 ≡ refused 8
  pub number_9 : (pieces : Pieces) → Line.parse_of pieces (bytes "a-1 [002] 1.2: f g: ") 256 ≡ refused 9
  pub number_11 : (pieces : Pieces) → Line.parse_of pieces head 256 ≡ refused 11
  pub number_12 : (pieces : Pieces) → Line.parse_of pieces (head ++ bytes "type=t") 256 ≡ refused 12
  pub number_13 : (pieces : Pieces) → Line.parse_of pieces (head ++ bytes "type=t size=3") 256 ≡ refused 13
  pub number_14 : (pieces : Pieces) → Line.parse_of pieces (head ++ bytes "type=t size=3 domain=0") 256 ≡ refused 14
  pub number_15 : (pieces : Pieces) → Line.parse_of pieces (head ++ front) 256 ≡ refused 15
  pub number_16 : (pieces : Pieces) → Line.parse_of pieces (head ++ (front ++ (bytes "data=[" ++ many 256))) 256 ≡ refused 16
  pub number_17 : (pieces : Pieces) → Line.parse_of pieces (head ++ (front ++ bytes "data=[1]")) 0 ≡ refused 17
  pub number_18 : Line.parse_of Strict (head ++ (front ++ bytes "data=[z]")) 256 ≡ refused 18
  pub number_18_before_16 : Line.parse_of Strict (head ++ (front ++ (bytes "data=[z, " ++ many 256))) 256 ≡ refused 18
  pub number_18_before_17 : Line.parse_of Strict (head ++ (front ++ bytes "data=[1, z]")) 0 ≡ refused 18
  pub lenient_16_there : Line.parse_of Lenient (head ++ (front ++ (bytes "data=[z, " ++ many 256))) 256 ≡ refused 16
  pub lenient_17_there : Line.parse_of Lenient (head ++ (front ++ bytes "data=[1, z]")) 0 ≡ refused 17
  pub number_20 : Packet.parse_of 1 (1 ∷ []) [] 256 ≡ refused 20
  pub number_20_book : check_of (1 ∷ []) ≡ refused 20
  pub number_21 : Packet.parse_of 0 plain_book [] 256 ≡ refused 21
  pub number_22 : Packet.parse_of 2 plain_book [] 256 ≡ refused 22
  pub number_23 : Packet.parse_of 8 (field_bytes 1 (8 ∷ [])) [] 256 ≡ refused 23
  pub number_24 : Packet.parse_of 1 plain_book (replicate 257 0) 256 ≡ refused 24
  pub number_25 : Packet.parse_of 2 three_entries (10 ∷ 11 ∷ []) 256 ≡ refused 25
  pub number_26 : Packet.parse_of 1 plain_book (0 ∷ []) 0 ≡ refused 26
  pub number_27 : route_of 1 plain_book (0 ∷ []) ≡ refused 27
  pub number_28 : type_of 1 type_book (2 ∷ []) ≡ refused 28
  pub number_30 : read_of (0xa1 ∷ []) 256 ≡ refused 30
  pub number_31 : read_of (0xa1 ∷ 1 ∷ 0 ∷ 1 ∷ []) 256 ≡ refused 31
  pub number_32 : read_of (0xa1 ∷ 3 ∷ 0 ∷ 0x14 ∷ 0 ∷ 0 ∷ []) 256 ≡ refused 32
  pub number_33 : read_of (0xa1 ∷ 0 ∷ 0 ∷ []) 256 ≡ refused 33
  pub number_34 : read_of (0xa1 ∷ 3 ∷ 0 ∷ 2 ∷ 0 ∷ 0 ∷ []) 256 ≡ refused 34
  pub number_35 : read_of fwd_record 2 ≡ refused 35
  pub number_36 : write_of fwd_line fwd_in_line fwd_dwords 96 ≡ refused 36
  pub number_37 : write_of fwd_line (fwd_on 1000) fwd_dwords 5227 ≡ refused 37

pub reached : Reached
unfolding many computes packets_open records_open Questions.refusal Questions.answer route_of type_of Described.type_in
reached =
    record {
      number_1 = λ pieces. refl;
      number_2 = λ pieces. refl;
      number_3 = λ pieces. refl;
      number_4 = λ pieces. refl;
      number_5 = λ pieces. refl;
      number_6 = λ pieces. refl;
      number_7 = λ pieces. refl;
      number_8 = λ pieces. refl;
      number_9 = λ pieces. refl;
      number_11 = λ pieces. refl;
      number_12 = λ pieces. refl;
      number_13 = λ pieces. refl;
      number_14 = λ pieces. refl;
      number_15 = λ pieces. refl;
      number_16 = many_dwords;
      number_17 = few_slots;
      number_18 = refl;
      number_18_before_16 = refl;
      number_18_before_17 = refl;
      lenient_16_there = refl;
      lenient_17_there = refl;
      number_20 = refl;
      number_20_book = refl;
      number_21 = refl;
      number_22 = refl;
      number_23 = refl;
      number_24 = refl;
      number_25 = refl;
      number_26 = refl;
      number_27 = refl;
      number_28 = refl;
      number_30 = refl;
      number_31 = refl;
      number_32 = refl;
      number_33 = refl;
      number_34 = refl;
      number_35 = refl;
      number_36 = refl;
      number_37 = refl;
    }
