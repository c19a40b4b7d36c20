-- The reading of a line: the stages in the order of their checks.
use Rattle.refusal.specs.declared.Refusal.{Refusal}
use Rattle.refusal.specs.Told.{told}
use Rattle.std.specs.Prelude.{ℕ, ◌+◌, ◌-◌, ◌≡◌, List, [], length, take, drop, Result}
use Rattle.text.specs.Told.{Told, is, absent, refused, and_then}
use Rattle.text.specs.Class.{is_blank}
use Rattle.text.specs.Run.{run_end, stripped}
use Rattle.entry.specs.declared.Entry.{Entry}
use Rattle.pairs.specs.Data.{filled}
use Rattle.scan.specs.declared.head.Head.{Head}
use Rattle.scan.specs.declared.body.Body.{Body}
use Rattle.scan.specs.declared.Pieces.{Pieces}
use Rattle.scan.specs.Frame.{frame_of}
use Rattle.scan.specs.Head.{head_of}
use Rattle.scan.specs.Body.{body_of}
use Rattle.scan.specs.Dwords.{payload_data, or_empty, data_answer}

-- header and payload of a line whose last colon stands at a place, and where the header starts
abbrev pub header_of : List ℕ → ℕ → List ℕ
header_of t colon = stripped (take colon t)

abbrev pub payload_of : List ℕ → ℕ → List ℕ
payload_of t colon = stripped (drop (colon + 1) t)

abbrev pub start_of : List ℕ → ℕ → ℕ
start_of t colon = run_end is_blank (take colon t) 0

-- what header and payload say together: the task starts the header, the function ends it
unfoldable pub entry_of : ℕ → ℕ → Head → Body → ℕ → Entry
entry_of start size head body dwords =
    record {
      task_at = start;
      task_len = head.task;
      pid = head.pid;
      cpu = head.cpu;
      seconds = head.seconds;
      microseconds = head.microseconds;
      function_at = start + head.function;
      function_len = size - head.function;
      kind = body.kind;
      size = body.size;
      dropped = body.dropped;
      domain = body.domain;
      route = body.route;
      offset = body.optionals.offset;
      code = body.optionals.code;
      len = body.optionals.len;
      port = body.optionals.port;
      config = body.optionals.config;
      seq = body.optionals.seq;
      unplug = body.optionals.unplug;
      dwords = dwords;
    }

-- ---- the stages, each going on with what the one before tells

-- with the dwords
unfoldable pub with_data : List ℕ → ℕ → Head → Body → Told ℕ → Told Entry
with_data header start head body got = and_then got (λ n. is (entry_of start (length header) head body n))

-- with the payload
unfoldable pub with_body : Pieces → List ℕ → ℕ → Head → List ℕ → ℕ → Told Body → Told Entry
with_body pieces header start head payload room got =
    and_then got (λ body. with_data header start head body (data_answer pieces payload room))

-- header and payload, given what the header says
unfoldable pub payload_answer : Pieces → List ℕ → ℕ → Head → List ℕ → ℕ → Told Entry
payload_answer pieces header start head payload room =
    with_body pieces header start head payload room (body_of payload (drop head.function header))

-- with the header
unfoldable pub with_head : Pieces → List ℕ → ℕ → ℕ → Told Head → Told Entry
with_head pieces t colon room got =
    and_then got (λ head. payload_answer pieces (header_of t colon) (start_of t colon) head (payload_of t colon) room)

-- a line parted at a colon
unfoldable pub parted_answer : Pieces → List ℕ → ℕ → ℕ → Told Entry
parted_answer pieces t colon room = with_head pieces t colon room (head_of (header_of t colon))

-- with the frame
unfoldable pub with_frame : Pieces → List ℕ → ℕ → Told ℕ → Told Entry
with_frame pieces t room got = and_then got (λ colon. parted_answer pieces t colon room)

-- what is told of a line, given the choice and the number of slots: the first number that applies, else the entry
unfoldable pub parse_of : Pieces → List ℕ → ℕ → Told Entry
parse_of pieces t room = with_frame pieces t room (frame_of t)

-- the dwords that a line would hand over, whatever the choice
unfoldable pub dwords_by : List ℕ → Told ℕ → List ℕ
dwords_by t (is k) = or_empty (payload_data (payload_of t k))
dwords_by t absent = []
dwords_by t (refused k) = []

unfoldable pub line_dwords : List ℕ → List ℕ
line_dwords t = dwords_by t (frame_of t)

-- ---- what is promised

-- the slots by what is told: success writes the dwords from the first and no others, a refusal none
unfoldable pub slots_by : Told Entry → List ℕ → List ℕ → List ℕ
slots_by (is e) ds out = filled ds out
slots_by absent ds out = out
slots_by (refused k) ds out = out

-- the answer, and each slot
pub record Parsed (pieces : Pieces) (t out exit : List ℕ) (r : Result Entry Refusal) : Type 0 where
  pub answer : told r ≡ parse_of pieces t (length out)
  pub slots : exit ≡ slots_by (told r) (line_dwords t) out

-- the same of a line parted at a colon
pub record PartedRead (pieces : Pieces) (t : List ℕ) (colon : ℕ) (out exit : List ℕ) (r : Result Entry Refusal) : Type 0 where
  pub answer : told r ≡ parted_answer pieces t colon (length out)
  pub slots : exit ≡ slots_by (told r) (or_empty (payload_data (payload_of t colon))) out

-- the same of a header that was read and a payload
pub record PayloadRead (pieces : Pieces) (header : List ℕ) (start : ℕ) (head : Head) (payload out exit : List ℕ) (r : Result Entry Refusal) : Type 0 where
  pub answer : told r ≡ payload_answer pieces header start head payload (length out)
  pub slots : exit ≡ slots_by (told r) (or_empty (payload_data payload)) out
