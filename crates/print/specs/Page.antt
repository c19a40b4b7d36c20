-- A page: a lent buffer and a place.
use Rattle.std.specs.Prelude.{ℕ, ◌≡◌, List}
use Rattle.print.specs.declared.page.Page.{Page}
use Rattle.print.specs.Put.{Placed}

-- a text was put on a page: its bytes at the page's place, and the place behind it
pub record Puts (p : Page) (s : List ℕ) (q : Page) : Type 0 where
  pub placed : Placed p.out.now p.at s q.out.now q.at
  pub same : q.out.ghost_name ≡ p.out.ghost_name
