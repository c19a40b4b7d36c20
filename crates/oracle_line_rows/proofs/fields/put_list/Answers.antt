-- `fields::put_list` meets its contract: where each call keeps the page over its buffer, they all do. Assumes nothing.
use Rattle.oracle_line_rows.proofs.fields.put_list.Goals as goal

pub loop-item-init : goal.loop-item-init
loop-item-init g c = λ keeps. keeps _ _ _ c.put-2.ensures
