-- What the small writer is once bytes are appended.
-- Assumes nothing.
use Rattle.std.specs.Prelude.{ℕ, ◌≡◌, List}
use Rattle.writer.specs.declared.small.Writer.{Writer}
use Rattle.writer.specs.Put.{Put}

-- the same lent buffer, with the bytes at the writer's place, and the place behind them
pub record Appended (w : Writer) (bytes : List ℕ) (r : Writer) : Type 0 where
  pub put : Put w.out.now w.at bytes r.at r.out.now
  pub same : r.out.ghost_name ≡ w.out.ghost_name
