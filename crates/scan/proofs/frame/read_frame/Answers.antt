-- `frame::read_frame` meets its contract, one law a way out. Assumes nothing.
use Rattle.scan.proofs.Frames.{frame_idle, frame_long, frame-high, frame_ends}
use Rattle.scan.proofs.Levels.{none_told, some_told}
use borrow.Author.Tests.{not-true, not-false}
use mathlib.Core.Path.{sym, ◌∙◌}
use Rattle.scan.proofs.frame.read_frame.Goals as goal

pub returns-then-is_idle : goal.returns-then-is_idle
returns-then-is_idle c = sym (frame_idle _ (sym c.is_idle.ensures ∙ c.if-is_idle.true))

pub returns-then-line-gt-LONGEST : goal.returns-then-line-gt-LONGEST
returns-then-line-gt-LONGEST c = sym (frame_long _ (sym c.is_idle.ensures ∙ c.if-is_idle.false) c.if-line-gt-LONGEST.true)

pub returns-then-not-none_high : goal.returns-then-not-none_high
returns-then-not-none_high c = sym (frame-high _ (sym c.is_idle.ensures ∙ c.if-is_idle.false) c.if-line-gt-LONGEST.false (some_told _ (sym c.none_high.ensures ∙ not-true _ c.if-not-none_high.true-raw)).1)

pub returns : goal.returns
returns c = rw c.ok_or.ensures.value (frame_ends _ (sym c.is_idle.ensures ∙ c.if-is_idle.false) c.if-line-gt-LONGEST.false (none_told _ (sym c.none_high.ensures ∙ not-false _ c.if-not-none_high.false-raw)) c.last.ensures)
