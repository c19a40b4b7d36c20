-- `item::rows_of` meets its contract, row by row. Assumes nothing.
use Rattle.std.specs.Prelude.{Some}
use Prim.Native.Nat.{ℕ}
use mathlib.Core.List.{List, [], ◌∷◌}
use mathlib.Core.Path.{ap, ◌∙◌}
use Rattle.entry.specs.Entry.{value_of}
use Rattle.record.specs.Grammar.{required, optional, rows_of, dwords_bytes}
use Rattle.writer.proofs.Writes.{wide_is, flag_is}
use Rattle.writer.proofs.item.rows_of.Goals as goal

pub returns : goal.returns
unfolding rows_of value_of
returns c =
    let task = c.bytes.ensures ∙ ap (required 0x01) c.task.ensures.is in
    let pid = c.number.ensures ∙ ap (λ (n : ℕ). optional 0x02 4 (Some n)) c.into.ensures in
    let cpu = c.number-2.ensures ∙ ap (λ (n : ℕ). optional 0x03 2 (Some n)) c.into-2.ensures in
    let seconds = c.number-3.ensures in
    let microseconds = c.number-4.ensures in
    let function = c.bytes-2.ensures ∙ ap (required 0x06) c.function.ensures.is in
    let kind = c.number-5.ensures ∙ ap (λ (n : ℕ). optional 0x07 1 (Some n)) c.into-3.ensures in
    let size = c.number-6.ensures ∙ ap (λ (n : ℕ). optional 0x08 2 (Some n)) c.into-4.ensures in
    let dropped = c.number-7.ensures ∙ ap (λ (n : ℕ). optional 0x09 1 (Some n)) (c.into-5.ensures ∙ flag_is c.args.e.dropped) in
    let domain = c.number-8.ensures ∙ ap (λ (n : ℕ). optional 0x0A 4 (Some n)) c.into-6.ensures in
    let route = c.number-9.ensures in
    let offset = c.number-10.ensures ∙ ap (optional 0x0C 2) (wide_is c.wide.ensures) in
    let code = c.number-11.ensures ∙ ap (optional 0x0D 1) (wide_is c.wide-2.ensures) in
    let len = c.number-12.ensures ∙ ap (optional 0x0E 2) (wide_is c.wide-3.ensures) in
    let port = c.number-13.ensures ∙ ap (optional 0x0F 1) (wide_is c.wide-4.ensures) in
    let config = c.number-14.ensures ∙ ap (optional 0x10 1) (wide_is c.wide-5.ensures) in
    let seq = c.number-15.ensures ∙ ap (optional 0x11 1) (wide_is c.wide-6.ensures) in
    let unplug = c.number-16.ensures ∙ ap (optional 0x12 1) (wide_is c.wide-7.ensures) in
    let words = c.words.ensures ∙ ap (λ (l : List ℕ). required 0x13 (dwords_bytes l)) c.data.ensures.is in
    λ i.
    task i ∷ pid i ∷ cpu i ∷ seconds i ∷ microseconds i ∷ function i ∷ kind i ∷ size i ∷ dropped i ∷ domain i ∷ route i ∷ offset i ∷ code i
    ∷ len i ∷ port i ∷ config i ∷ seq i ∷ unplug i ∷ words i ∷ []
