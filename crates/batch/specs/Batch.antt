-- Many packets over one book: what `packet::parse` answers for each, on its own part of the dwords and of the places.
-- Assumes nothing.
use Rattle.std.specs.Prelude.{ℕ, ◌+◌, min, ◌≡◌, List, [], ◌∷◌, ◌++◌, length, take, drop, replicate, None, Option, Some}
use Rattle.text.specs.Told.{Told, is, absent, refused}
use Rattle.packet.specs.declared.Packet.{Packet}
use Rattle.packet.specs.Packet.{parse_of, places_of, list_by}

-- where a data view starts, 65,536 for none; a start is below that
abbrev pub start_code : Option ℕ → ℕ
start_code (Some n) = n
start_code None = 65536

-- one number for what is told of a packet, which is never none: its start, or 65,536 and the number that refuses it
abbrev pub code_of : Told Packet → ℕ
code_of (is p) = start_code p.start
code_of absent = 65536
code_of (refused k) = 65536 + k

-- a packet to be read: its kind, and how many dwords it has
pub record Job : Type 0 where
  pub kind : ℕ
  pub count : ℕ

-- a packet for each kind, count and code that are lent
unfoldable pub jobs : List ℕ → List ℕ → List ℕ → List Job
jobs [] cs ns = []
jobs (k ∷ ks) [] ns = []
jobs (k ∷ ks) (c ∷ cs) [] = []
jobs (k ∷ ks) (c ∷ cs) (n ∷ ns) = record { kind = k; count = c } ∷ jobs ks cs ns

-- what is told of the packet in front, on its part of the dwords and of the places
unfoldable pub answer_of : List ℕ → Job → List ℕ → List ℕ → Told Packet
answer_of s j ds ps = parse_of j.kind s (take j.count ds) (length (take j.count ps))

-- its part of the places behind the call
unfoldable pub part_of : List ℕ → Job → List ℕ → List ℕ → List ℕ
part_of s j ds ps = list_by (answer_of s j ds ps) (places_of j.kind s (take j.count ds)) (take j.count ps)

-- the codes of all, and the places of all
unfoldable pub codes_of : List ℕ → List Job → List ℕ → List ℕ → List ℕ
codes_of s [] ds ps = []
codes_of s (j ∷ js) ds ps = code_of (answer_of s j ds ps) ∷ codes_of s js (drop j.count ds) (drop j.count ps)

unfoldable pub places_all : List ℕ → List Job → List ℕ → List ℕ → List ℕ
places_all s [] ds ps = ps
places_all s (j ∷ js) ds ps = part_of s j ds ps ++ places_all s js (drop j.count ds) (drop j.count ps)

-- how many packets there were, a code for each and the other codes as found, and the places
pub record Batch (s kinds counts ds ps ps' codes codes' : List ℕ) (r : ℕ) : Type 0 where
  pub packets : r ≡ length (jobs kinds counts codes)
  pub each : codes' ≡ codes_of s (jobs kinds counts codes) ds ps ++ drop (length (jobs kinds counts codes)) codes
  pub places : ps' ≡ places_all s (jobs kinds counts codes) ds ps

-- ---- what the functions below promise each other

-- number 20 for so many packets
pub record Each (kinds counts : ℕ) (codes codes' : List ℕ) (r : ℕ) : Type 0 where
  pub packets : r ≡ min kinds (min counts (length codes))
  pub each : codes' ≡ replicate r 65556 ++ drop r codes

-- one packet
pub record One (kind : ℕ) (s ds ps ps' : List ℕ) (r : ℕ) : Type 0 where
  pub code : r ≡ code_of (parse_of kind s ds (length ps))
  pub places : ps' ≡ list_by (parse_of kind s ds (length ps)) (places_of kind s ds) ps
