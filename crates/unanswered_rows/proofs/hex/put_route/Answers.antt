-- `put_route` meets its contract: sixteen digits without the zeros in front. Assumes nothing.
use Rattle.std.proofs.Common.{length, ap, ◌∙◌, arith}
use Rattle.unanswered_rows.proofs.Digits.{route_on, zeros_within, sixteen}
use Rattle.unanswered_rows.proofs.hex.put_route.Goals as goal

pub zeros_end-requires : goal.zeros_end-requires
zeros_end-requires c =
    let is = c.text-text.ensures ∙ sixteen _ _ c.new-digits.ensures.bytes c.new-digits.ensures.at c.put_dword.ensures.placed c.put_dword-2.ensures.placed in
    ap length is

pub slice_bounds-put-count : goal.slice_bounds-put-count
slice_bounds-put-count c =
    let is = c.text-text.ensures ∙ sixteen _ _ c.new-digits.ensures.bytes c.new-digits.ensures.at c.put_dword.ensures.placed c.put_dword-2.ensures.placed in
    omega (arith, ap length is, zeros_within _ c.zeros_end.ensures)

pub slice_bounds-put-start : goal.slice_bounds-put-start
slice_bounds-put-start c =
    let is = c.text-text.ensures ∙ sixteen _ _ c.new-digits.ensures.bytes c.new-digits.ensures.at c.put_dword.ensures.placed c.put_dword-2.ensures.placed in
    omega (arith, ap length is, zeros_within _ c.zeros_end.ensures)

pub returns : goal.returns
returns c =
    let is = c.text-text.ensures ∙ sixteen _ _ c.new-digits.ensures.bytes c.new-digits.ensures.at c.put_dword.ensures.placed c.put_dword-2.ensures.placed in
    route_on _ is c.zeros_end.ensures c.requires c.put.ensures
