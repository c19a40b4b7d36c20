-- A line's row, said: the line makes its turn of what is kept, and the row of that turn goes out behind what waits.
use Rattle.std.specs.Prelude.{ℕ, List, Result}
use Rattle.refusal.specs.declared.Refusal.{Refusal}
use Rattle.scan.specs.declared.Pieces.{Pieces}
use Rattle.channel.specs.declared.sink.Outlet.{Outlet}
use Rattle.channel.specs.Sink.{SaidThrough}
use Rattle.unanswered_rows.specs.declared.Row.{Row}
use Rattle.unanswered_rows.specs.Rows.{row_text}
use Rattle.desk.specs.declared.Desk.{Desk}
use Rattle.desk.specs.Turn.{Turned}

pub record LineSaid (pieces : Pieces) (line : List ℕ) (d : Desk) (s : Outlet) (u : Desk) (r : Outlet) : Type 0 where
  pub row : Result Row Refusal
  pub turns : Turned pieces line d u row
  pub says : SaidThrough s (row_text u.counts.lines row) r
