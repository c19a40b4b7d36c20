-- `step_entry` meets its contract: the entry is counted, its step taken and its report filed. Assumes nothing.
use Rattle.std.proofs.Common.{◌≡◌, rules, sym, ap, ◌∙◌}
use Rattle.std.specs.Prelude.{Err, Ok}
use Rattle.desk.specs.Kept.{notes_after, counts_after, row_by, entry_more}
use Rattle.desk.proofs.Desk.step_entry.Goals as goal

pub returns-in_err-report : goal.returns-in_err-report
unfolding notes_after counts_after row_by
returns-in_err-report c =
    let p : c.from_residual.result ≡ Err c.in_err-report.field-0.0 = search rules in
    record {
      report = c.step.result;
      steps = c.step.ensures;
      notes = rw c.in_err-report.was;
      counts = rw (c.in_err-report.was, c.saturating_add-self.ensures);
      says = rw c.in_err-report.was p;
    }

pub returns : goal.returns
unfolding counts_after
returns c =
    record {
      report = Ok c.in_ok-report.report;
      steps = rw c.file.ensures.table (rw c.in_ok-report.was at c.step.ensures);
      notes = c.file.ensures.notes;
      counts = rw c.saturating_add-self.ensures at c.file.ensures.counts;
      says = c.file.ensures.says;
    }
