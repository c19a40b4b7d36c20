-- Document 01's cases of packets: P12 and P14 from the packets computed in crate `packet`, P13 computed here. Assumes nothing.
use Prim.Native.Nat.{◌+◌, ◌^◌}
use mathlib.Core.Path.{◌≡◌, refl}
use mathlib.Core.List.{[], ◌∷◌}
use Rattle.tlv.specs.Grammar.{field_bytes}
use Rattle.packet.specs.Packet.{entries_of}
use Rattle.packet.proofs.Examples.{three_entries, three_uuids, four_uuids, packets_open}
use Rattle.text.specs.Told.{is, absent, refused}
use Rattle.questions.specs.Questions.{refusal, answer, route_of, start_of, view_of, uuid_answer}

pub record CaseP12 : Type 0 where
  pub n : entries_of three_entries 2 ≡ 3
  pub five : view_of 2 three_entries (10 ∷ 11 ∷ 12 ∷ 13 ∷ 14 ∷ []) ≡ 13 ∷ 14 ∷ []
  pub three : view_of 2 three_entries (10 ∷ 11 ∷ 12 ∷ []) ≡ []
  pub starts : start_of 2 three_entries (10 ∷ 11 ∷ 12 ∷ []) ≡ is 3
  pub two : start_of 2 three_entries (10 ∷ 11 ∷ []) ≡ refused 25

pub case_P12 : CaseP12
unfolding packets_open refusal answer start_of view_of
case_P12 = record { n = refl; five = refl; three = refl; starts = refl; two = refl }

pub case_P13 : route_of 1 (field_bytes 1 (1 ∷ [])) (0x80000000 ∷ 1 ∷ []) ≡ is (2 ^ 63 + 1)
unfolding packets_open refusal answer route_of
case_P13 = refl

pub record CaseP14 : Type 0 where
  pub three : uuid_answer 8 three_uuids (1 ∷ 2 ∷ 3 ∷ 4 ∷ []) ≡ absent
  pub four : uuid_answer 8 four_uuids (1 ∷ 2 ∷ 3 ∷ 4 ∷ []) ≡ is (record { first = 1; second = 2; third = 3; fourth = 4 })

pub case_P14 : CaseP14
unfolding packets_open refusal answer uuid_answer
case_P14 = record { three = refl; four = refl }
