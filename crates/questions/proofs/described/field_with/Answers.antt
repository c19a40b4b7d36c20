-- `questions::described::field_with` meets its contract, by the dword that was found. Assumes nothing.
use Rattle.std.proofs.Common.{rules}
use Rattle.questions.proofs.Asking.{found_is}
use Rattle.questions.proofs.described.field_with.Goals as goal

pub returns : goal.returns
returns c = found_is c.args.book.now c.args.dwords.now c.args.places.now c.args.ask c.args.kind c.args.name.now c.first_asked-found.result (λ i e. search rules) (λ e. search rules) c.first_asked-found.ensures
