-- The entry as a value: texts by their bytes, dwords as a list, wherever they lie.
use Rattle.std.specs.Prelude.{ℕ, ◌+◌, ◌≤◌, ◌≡◌, Bool, cond, ◌||◌, List, [], leb, eqb, length, take, drop, None, Option, Some}
use Rattle.text.specs.Part.{Slice, OwnPart}
use Rattle.entry.specs.Event.{event_of}
use Rattle.text.specs.Told.{Told, is, absent, maybe}
use Rattle.entry.specs.declared.events.Event.{Event}
use Rattle.entry.specs.declared.Entry.{Entry}

-- what an entry says, in the order of the record's fields
pub record EntryValue : Type 0 where
  pub task : List ℕ
  pub pid : ℕ
  pub cpu : ℕ
  pub seconds : ℕ
  pub microseconds : ℕ
  pub function : List ℕ
  pub kind : ℕ
  pub size : ℕ
  pub dropped : Bool
  pub domain : ℕ
  pub route : ℕ
  pub offset : Option ℕ
  pub code : Option ℕ
  pub len : Option ℕ
  pub port : Option ℕ
  pub config : Option ℕ
  pub seq : Option ℕ
  pub unplug : Option ℕ
  pub dwords : List ℕ

-- the part of a list that starts at a place, of a length; empty where it would lie outside
unfoldable pub part_of : List ℕ → ℕ → ℕ → List ℕ
part_of l at n = cond (leb (at + n) (length l)) (take n (drop at l)) []

-- where that part lies: at its place, or at the start where it would lie outside
unfoldable pub part_from : List ℕ → ℕ → ℕ → ℕ
part_from l at n = cond (leb (at + n) (length l)) at 0

-- that part of what is lent, the caller's own elements, of `size` bytes each
abbrev pub OwnPartAt : ℕ → Slice → ℕ → ℕ → Slice → Type 0
OwnPartAt size lent at n part = OwnPart size lent (part_from lent.now at n) (part_of lent.now at n) part

-- what an entry says, given the text and the slots that it was read into
unfoldable pub value_of : Entry → List ℕ → List ℕ → EntryValue
value_of e text slots =
    record {
      task = part_of text e.task_at e.task_len;
      pid = e.pid;
      cpu = e.cpu;
      seconds = e.seconds;
      microseconds = e.microseconds;
      function = part_of text e.function_at e.function_len;
      kind = e.kind;
      size = e.size;
      dropped = e.dropped;
      domain = e.domain;
      route = e.route;
      offset = e.offset;
      code = e.code;
      len = e.len;
      port = e.port;
      config = e.config;
      seq = e.seq;
      unplug = e.unplug;
      dwords = part_of slots 0 e.dwords;
    }

-- an entry's parts lie in what is lent: its task and function in the text, its dwords in the slots
pub record Lies (e : Entry) (text slots : List ℕ) : Type 0 where
  pub task : e.task_at + e.task_len ≤ length text
  pub function : e.function_at + e.function_len ≤ length text
  pub dwords : e.dwords ≤ length slots

-- two entries are the same when each field is, dwords included, task and function by their bytes, wherever they lie
pub record SameEntry (e : Entry) (text slots : List ℕ) (f : Entry) (other places : List ℕ) : Type 0 where
  pub first_lies : Lies e text slots
  pub second_lies : Lies f other places
  pub same : value_of e text slots ≡ value_of f other places

-- the event question: that of the code, none without one
unfoldable pub event_of_code : Option ℕ → Told Event
event_of_code (Some code) = is (event_of code)
event_of_code None = absent

-- the adapter question: the port, none for events 33 and 36
unfoldable pub adapter_of : Option ℕ → Option ℕ → Told ℕ
adapter_of (Some code) port = cond (eqb code 33 || eqb code 36) absent (maybe port)
adapter_of None port = maybe port

-- the unplug question: whether the byte is 1, none without one
unfoldable pub unplug_of : Option ℕ → Told Bool
unplug_of (Some b) = is (eqb b 1)
unplug_of None = absent
