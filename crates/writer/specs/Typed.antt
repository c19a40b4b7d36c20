-- What the types of an entry's fields and of lent slices say by themselves.
-- Assumes nothing.
use Rattle.std.specs.Prelude.{ℕ, ◌^◌, ◌<◌, List, get_or}
use Rattle.entry.specs.declared.Entry.{Entry}
use Rattle.record.specs.Grammar.{Below}

-- an entry and dwords as code can hold them: each number fits its type
pub record Typed (e : Entry) (dwords : List ℕ) : Type 0 where
  pub pid : e.pid < 2 ^ 32
  pub size : e.size < 2 ^ 16
  pub domain : e.domain < 2 ^ 32
  pub route : e.route < 2 ^ 64
  pub offset : Below (2 ^ 16) (e.offset)
  pub code : Below (2 ^ 8) (e.code)
  pub len : Below (2 ^ 16) (e.len)
  pub port : Below (2 ^ 8) (e.port)
  pub config : Below (2 ^ 8) (e.config)
  pub seq : Below (2 ^ 8) (e.seq)
  pub unplug : Below (2 ^ 8) (e.unplug)
  pub dword : (i : ℕ) → get_or dwords i 0 < 2 ^ 32
