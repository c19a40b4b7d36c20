-- `read_payload` meets its contract, one law a way out. Assumes nothing.
use Rattle.refusal.proofs.Told.{passed_on}
use Rattle.refusal.specs.Told.{told}
use Rattle.scan.proofs.Said.{data_there}
use Rattle.scan.proofs.Stages.{payload_refused, data_refused, payload_read}
use Rattle.scan.specs.Body.{body_of}
use Rattle.text.proofs.Stripping.{rest_is}
use mathlib.Core.Path.{sym, ap, ◌∙◌}
use Rattle.scan.proofs.read_payload.Goals as goal

pub read_data-requires : goal.read_data-requires
read_data-requires c = (c.requires.2, c.part.ensures ∙ data_there _ c.last_pairs-last.ensures)

pub returns : goal.returns
returns c =
    let got = ap (body_of _) (sym (rest_is c.args.head.function c.args.header.now)) ∙ sym c.read_body.ensures ∙ ap told c.in_ok-body.was in
    payload_read _ _ _ _ _ _ got c.read_data.ensures c.in_ok-dwords.was c.assemble.ensures

pub returns-in_err-dwords : goal.returns-in_err-dwords
returns-in_err-dwords c =
    let got = ap (body_of _) (sym (rest_is c.args.head.function c.args.header.now)) ∙ sym c.read_body.ensures ∙ ap told c.in_ok-body.was in
    data_refused _ _ _ _ _ _ got c.read_data.ensures c.in_err-dwords.was (passed_on c.from_residual-in_err-dwords.result c.from_residual-in_err-dwords.ensures.1)

pub returns-in_err-body : goal.returns-in_err-body
returns-in_err-body c = payload_refused _ _ _ _ _ _ (ap (body_of _) (sym (rest_is c.args.head.function c.args.header.now)) ∙ sym c.read_body.ensures ∙ ap told c.in_err-body.was) (passed_on c.from_residual.result c.from_residual.ensures.1)
