-- `read_line` meets its contract: a text is read with 256 slots, and nothing else is cut off. Assumes nothing.
use Rattle.std.proofs.Common.{rules}
use Rattle.refusal.specs.Told.{told}
use Rattle.filters.proofs.UnitTexts.{line_fits, line_text, line_none}
use lib.Seq.{length-take-le}
use mathlib.Core.Path.{refl, sym, ap, ◌∙◌}
use Rattle.filters.proofs.row.read_line.Goals as goal

pub returns-in_default : goal.returns-in_default
returns-in_default c = line_none c.args.cut c.args.unit.now c.in_default.not-Text

pub slice_bounds-read_text-end : goal.slice_bounds-read_text-end
slice_bounds-read_text-end c = sym (length-take-le _ _ (line_fits c.args.unit.now c.in-Text.is c.requires))

pub returns-in_err-read_text : goal.returns-in_err-read_text
returns-in_err-read_text c =
    let h = line_text c.args.unit.now c.in-Text.is refl (ap told (sym c.in_err-read_text.was) ∙ c.read_text.ensures.answer) in
    search (rules, h)

pub returns : goal.returns
returns c = line_text c.args.unit.now c.in-Text.is refl (ap told (sym c.in_ok-read_text.was) ∙ c.read_text.ensures.answer)
