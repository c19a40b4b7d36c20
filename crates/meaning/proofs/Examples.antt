-- Four packets, computed, that tell a slip in definition and code together: what describes a dword behind a latched name, the all-zero UUID, two
-- `Packet Type` ranges in one entry, and a range named UUID. Assumes nothing.
use Rattle.std.specs.Prelude.{None}
use Prim.Native.Nat.{ℕ}
use mathlib.Core.Path.{◌≡◌, refl}
use mathlib.Core.List.{List, [], ◌∷◌, ◌++◌}
use lib.ListN.{replicate}
use Rattle.text.specs.Quote.{bytes}
use Rattle.tlv.specs.Grammar.{field_bytes}
use Rattle.packet.specs.Packet.{places_of, uuid_of}
use Rattle.packet.proofs.Examples.{named, plain, typed, packet_type, packets_open}

-- four fields named UUID for kind 8
unfoldable pub control : List ℕ
control = field_bytes 1 (8 ∷ (named 0 (bytes "UUID") ++ (named 1 (bytes "UUID") ++ (named 2 (bytes "UUID") ++ named 3 (bytes "UUID")))))

-- a header table with these entries, and one of UUID 1, 2, 3, 4
unfoldable pub header : List ℕ → List ℕ
header entries = field_bytes 2 (replicate 16 0 ++ entries)

unfoldable pub protocol : List ℕ → List ℕ
protocol entries = field_bytes 2 ((1 ∷ 0 ∷ 0 ∷ 0 ∷ 2 ∷ 0 ∷ 0 ∷ 0 ∷ 3 ∷ 0 ∷ 0 ∷ 0 ∷ 4 ∷ 0 ∷ 0 ∷ 0 ∷ []) ++ entries)

-- dword 4 latches the type A; of dword 5 there is an entry of that type, of dword 6 an untyped one alone
unfoldable pub untyped_behind : List ℕ
untyped_behind = control ++ (header [] ++ protocol (field_bytes 3 (4 ∷ 0 ∷ packet_type) ++ (typed 5 ++ (plain 5 ++ plain 6))))

-- the header table latches and has a typed entry, which step 1 does not take
unfoldable pub zero_selects : List ℕ
zero_selects = control ++ header (field_bytes 3 (4 ∷ 0 ∷ packet_type) ++ typed 5)

-- two ranges named `Packet Type`: bits 0 to 7, of which 1 has no name, and bits 8 to 15, of which 1 is named A
unfoldable pub two_types : List ℕ
two_types =
    control
    ++ (header []
    ++ protocol
    (field_bytes 3
    (4
    ∷ 0
    ∷ (field_bytes 6 (0 ∷ 7 ∷ (field_bytes 4 (bytes "Packet Type") ++ field_bytes 7 (2 ∷ 0 ∷ 0 ∷ 0 ∷ bytes "B")))
    ++ field_bytes 6 (8 ∷ 15 ∷ (field_bytes 4 (bytes "Packet Type") ++ field_bytes 7 (1 ∷ 0 ∷ 0 ∷ 0 ∷ bytes "A")))))
    ++ (typed 5 ++ plain 5)))

-- three fields named UUID, and one without a name whose bit range is named so
unfoldable pub range_named_uuid : List ℕ
range_named_uuid =
    field_bytes 1
    (8
    ∷ (named 0 (bytes "UUID")
    ++ (named 1 (bytes "UUID")
    ++ (named 2 (bytes "UUID") ++ field_bytes 3 (3 ∷ 0 ∷ field_bytes 6 (0 ∷ 31 ∷ field_bytes 4 (bytes "UUID")))))))
    ++ header []

unfoldable packets_open_here : Unit {0}
unfolding packets_open control header protocol untyped_behind zero_selects two_types range_named_uuid
packets_open_here = tt

-- what each comes to
pub record WouldNotice : Type 0 where
  -- behind a latched name an untyped entry still counts
  pub untyped_behind : places_of 8 untyped_behind (1 ∷ 2 ∷ 3 ∷ 4 ∷ 1 ∷ 7 ∷ 8 ∷ []) ≡ 4 ∷ 16 ∷ 28 ∷ 40 ∷ 90 ∷ 122 ∷ 136 ∷ []
  -- the all-zero UUID selects the header table
  pub zero_selects : places_of 8 zero_selects (0 ∷ 0 ∷ 0 ∷ 0 ∷ 1 ∷ 7 ∷ []) ≡ 4 ∷ 16 ∷ 28 ∷ 40 ∷ 71 ∷ 103 ∷ []
  -- of two ranges of one name the first counts, so nothing latches
  pub first_range_counts : places_of 8 two_types (1 ∷ 2 ∷ 3 ∷ 4 ∷ 0x0101 ∷ 7 ∷ []) ≡ 4 ∷ 16 ∷ 28 ∷ 40 ∷ 90 ∷ 158 ∷ []
  -- a range named UUID is no field of that name
  pub range_is_no_field : uuid_of 8 range_named_uuid (1 ∷ 2 ∷ 3 ∷ 4 ∷ []) ≡ None

pub would_notice : WouldNotice
unfolding packets_open_here
would_notice = record { untyped_behind = refl; zero_selects = refl; first_range_counts = refl; range_is_no_field = refl }
