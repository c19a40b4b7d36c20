-- A page and the buffer that was lent to it.
use Rattle.std.specs.Prelude.{◌≡◌, length}
use Rattle.std.specs.Borrow.{MutBor}
use Rattle.print.specs.declared.page.Page.{Page}
use Rattle.oracle_line_rows.specs.declared.rows.Rows.{Rows}

-- a page is over the buffer that another is over, which has kept its length
pub record OverSame (p q : Page) : Type 0 where
  pub same : q.out.ghost_name ≡ p.out.ghost_name
  pub size : length q.out.now ≡ length p.out.now

-- likewise of the page that a program's rows wait on
abbrev pub RowsKept : Rows → Rows → Type 0
RowsKept r s = OverSame r.page s.page

-- no call that puts a value on a page puts another buffer in its place
abbrev pub Keeps : {T : Type 0} → (MutBor Page → T → Unit {0} → MutBor Page → Type 0) → Type 0
Keeps {T} gives = (p : MutBor Page) (v : T) (q : MutBor Page) → gives p v tt q → OverSame p.now q.now
