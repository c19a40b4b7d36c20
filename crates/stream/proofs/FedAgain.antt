-- Fed again, nothing changes: what a stream's units say keeps the record's ranges, and the records of such values are units that say it again.
-- Assumes nothing.
use Prim.Native.Nat.{ℕ}
use mathlib.Core.Path.{◌≡◌, refl, ap, subst, ◌∙◌}
use mathlib.Core.List.{List}
use lib.ListN.{length, take, drop}
use lib.Seq.{take_at, drop_at}
use Rattle.tlv.specs.Number.{Bytes}
use Rattle.tlv.specs.Grammar.{All}
use Rattle.tlv.proofs.Places.{bytes_take, bytes_drop}
use Rattle.record.specs.Grammar.{Ranged}
use Rattle.scan.specs.declared.Pieces.{Pieces}
use Rattle.units.specs.declared.Framing.TheVariants.{Both}
use Rattle.units.specs.Units.{Units}
use Rattle.stream.specs.Answers.{said_of, records_of}
use Rattle.stream.specs.Streams.{FedAgain}
use Rattle.stream.proofs.Records.{said_ranged, records_units, records_say, records_accepted}

-- the units of bytes are bytes
pub units_bytes : {s : List ℕ} {us : List (List ℕ)} → Bytes s → Units Both s us → All Bytes us
units_bytes b Units.none = tt
units_bytes b (Units.last u o) = (b, tt)
units_bytes {s} b (Units.next u r w e more) =
    let front : take (length u) s ≡ u = ap (take (length u)) e ∙ take_at u r (length u) refl in
    let back : drop (length u) s ≡ r = ap (drop (length u)) e ∙ drop_at u r (length u) refl in
    (subst Bytes front (bytes_take s (length u) b), units_bytes (subst Bytes back (bytes_drop s (length u) b)) more)

ranged : (pieces : Pieces) (s : List ℕ) (us : List (List ℕ)) → Bytes s → Units Both s us → All Ranged (said_of pieces us)
ranged pieces s us b x = said_ranged pieces us (units_bytes b x)

pub fed_again : (pieces : Pieces) → FedAgain pieces
fed_again pieces =
    record {
      units_are = λ s us b x. records_units (said_of pieces us) (ranged pieces s us b x);
      none_refused = λ s us b x any. records_accepted any (said_of pieces us) (ranged pieces s us b x);
      same_entries = λ s us b x any. records_say any (said_of pieces us) (ranged pieces s us b x);
      same_bytes = λ s us b x any. ap records_of (records_say any (said_of pieces us) (ranged pieces s us b x));
    }
