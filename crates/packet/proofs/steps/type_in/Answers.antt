-- `packet::steps::type_in` meets its contract: the range, then the value. Assumes nothing.
use Rattle.std.specs.Prelude.{None, ◌≡◌}
use Prim.Native.Nat.{ℕ}
use Rattle.packet.proofs.Fields.{nothing_told, found_told}
use Rattle.packet.specs.Field.{named_in}
use Rattle.packet.specs.Steps.{type_in}
use mathlib.Core.Path.{◌∙◌, ap, sym}
use native.Mathlib.Omega.{arith}
use Rattle.packet.proofs.steps.type_in.Goals as goal

pub returns-in_err-range : goal.returns-in_err-range
unfolding type_in named_in
returns-in_err-range c =
    let gone : c.from_residual.result ≡ None = grind arith in
    rw gone (record { is = sym (ap (λ (r : ℕ). named_in c.args.book.now r c.args.dword) (nothing_told c.range_in.ensures c.in_err-range.was)); stands = tt })

pub returns : goal.returns
unfolding type_in
returns c = record {
  is = c.named_in.ensures.is ∙ ap (λ (r : ℕ). named_in c.args.book.now r c.args.dword) (found_told c.range_in.ensures c.in_ok-range.was).0;
  stands = c.named_in.ensures.stands;
}
