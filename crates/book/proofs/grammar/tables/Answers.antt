-- `book::grammar::tables` meets its contract: tables fill the book, and none stands behind again. Assumes nothing.
use Rattle.std.proofs.Common.{rules, ◌≡◌, ◌&&◌, List, [], ℕ}
use Rattle.book.proofs.Rows.{row_fresh, fresh, table_fresh}
use Rattle.book.specs.Reading.{table_ok, table_body, same_table, tables_fill}
use Rattle.book.specs.Search.{has_wanted, table_want}
use lib.ListN.{length}
use mathlib.Core.Bool.{not}
use mathlib.Core.Path.{sym, ◌∙◌}
use Rattle.book.proofs.grammar.tables.Goals as goal

pub returns : goal.returns
unfolding tables_fill
returns c =
    let s : List ℕ = c.args.s.now in
    c.fills.ensures (fresh (table_ok s) (same_table s) s)
    (λ p b t e n h.
    let says : t ≡ (table_body p.tag b.now p.from && not (has_wanted (table_want b.now p.tag p.from) [] s (length b.now))) = search rules in
    says ∙ table_fresh s p b.now e n)
    ∙ sym (row_fresh (table_ok s) (same_table s) s 0)
