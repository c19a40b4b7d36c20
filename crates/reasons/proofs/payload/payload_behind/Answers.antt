-- `payload::payload_behind` meets its contract: the blanks and the stripped rest lie behind the colon, within the line. Assumes nothing.
use Prim.Native.Nat.{◌+◌}
use Rattle.reasons.proofs.Said.{placed}
use Rattle.text.proofs.Stripping.{rest_is}
use Rattle.text.specs.Class.{in_class, is_blank}
use Rattle.text.specs.Run.{run_end, stripped}
use mathlib.Core.Path.{ap, ◌∙◌}
use native.Mathlib.Omega.{arith}
use Rattle.reasons.proofs.payload.payload_behind.Goals as goal

pub overflow_add-from : goal.overflow_add-from
unfolding in_class
overflow_add-from c = record { fits = omega (arith, (placed c.args.line.now {colon = c.args.colon} c.requires (c.run_end-blanks.ensures.is ∙ ap (λ l. run_end is_blank l 0) (rest_is (c.args.colon + 1) c.args.line.now)) (c.strip-payload.ensures.is ∙ ap stripped (rest_is (c.args.colon + 1) c.args.line.now))).within, c.well_formed.0.1) }

pub overflow_add-result : goal.overflow_add-result
unfolding in_class
overflow_add-result c = record { fits = omega (arith, (placed c.args.line.now {colon = c.args.colon} c.requires (c.run_end-blanks.ensures.is ∙ ap (λ l. run_end is_blank l 0) (rest_is (c.args.colon + 1) c.args.line.now)) (c.strip-payload.ensures.is ∙ ap stripped (rest_is (c.args.colon + 1) c.args.line.now))).within, c.well_formed.0.1) }

pub returns : goal.returns
unfolding in_class
returns c = placed c.args.line.now {colon = c.args.colon} c.requires (c.run_end-blanks.ensures.is ∙ ap (λ l. run_end is_blank l 0) (rest_is (c.args.colon + 1) c.args.line.now)) (c.strip-payload.ensures.is ∙ ap stripped (rest_is (c.args.colon + 1) c.args.line.now))
