-- `run_telling` meets what it calls: a stream that has not begun is kept. Assumes nothing.
use borrow.Author.Rules.{rules}
use Rattle.moving.proofs.Places.{kept_begun}
use Rattle.moving.proofs.run_telling.Goals as goal

pub read_all-read-requires : goal.read_all-read-requires
read_all-read-requires c = kept_begun c.args.program c.new-moving.result _ (search rules) c.new-moving.ensures
