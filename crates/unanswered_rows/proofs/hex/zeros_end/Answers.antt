-- `zeros_end` meets its contract: the first other digit ends the zeros. Assumes nothing.
use Rattle.std.proofs.Common.{◌∙◌, ap}
use Rattle.std.specs.Option.{unwrap_or}
use Rattle.unanswered_rows.proofs.Digits.{zeros_found}
use Rattle.unanswered_rows.proofs.hex.zeros_end.Goals as goal

pub returns : goal.returns
returns c = c.unwrap_or.ensures ∙ ap (λ o. unwrap_or o 15) c.other_digit.ensures ∙ zeros_found c.args.digits.now c.requires
