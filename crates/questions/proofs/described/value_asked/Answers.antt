-- `questions::described::value_asked` meets its contract, by the dword that was found. Assumes nothing.
use Rattle.questions.proofs.Asking.{asked_none, asked_at}
use Rattle.questions.proofs.described.value_asked.Goals as goal

pub returns-in_err-range : goal.returns-in_err-range
returns-in_err-range c = rw c.from_residual.ensures (asked_none c.args.book.now c.args.dwords.now c.args.places.now c.args.name.now c.in_err-range.ensures)

pub returns : goal.returns
returns c =
    let found = c.in_ok-range.ensures in
    asked_at c.args.book.now c.args.dwords.now c.args.places.now c.args.name.now found.1 found.2 found.3 c.value_in.ensures
