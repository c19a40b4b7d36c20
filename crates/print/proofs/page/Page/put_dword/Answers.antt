-- `Page::put_dword` meets its contract: no place leaves the buffer. Assumes nothing.
use Rattle.print.proofs.Copying.{placed_inside}
use Rattle.print.proofs.page.Page.put_dword.Goals as goal

pub invariant_of-self : goal.invariant_of-self
invariant_of-self c = record { inside = placed_inside c.args.self.now.inside c.put_dword-self.ensures }
