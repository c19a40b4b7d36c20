-- `packet::steps::latch` meets its contract, way by way. Assumes nothing.
use Prim.Native.Nat.{ℕ}
use Rattle.packet.proofs.Fields.{nothing_told, found_told}
use Rattle.packet.proofs.Latching.{latch_kept, not_latched, none_named, newly_latched}
use Rattle.packet.specs.Steps.{filled, entry_of}
use Rattle.packet.specs.declared.fill.Pick.TheVariants.{Typed}
use mathlib.Core.List.{List}
use mathlib.Core.Path.{ap, refl, sym, ◌∙◌}
use native.Mathlib.Omega.{arith}
use Rattle.packet.proofs.steps.latch.Goals as goal

pub returns-then-is_some : goal.returns-then-is_some
returns-then-is_some c = latch_kept c.args.book.now c.args.table c.args.found c.args.entry c.args.dword c.args.typed.now c.args.latched c.requires.1 c.is_some.ensures c.then-is_some.either

pub returns-in_err-named : goal.returns-in_err-named
returns-in_err-named c =
    let none = nothing_told c.type_in.ensures c.in_err-named.was in
    rw c.from_residual.ensures
    (none_named c.args.book.now c.args.table c.args.found c.args.entry c.args.dword c.args.typed.now _ 0 (not_latched c.args.book.now c.args.table c.args.found c.args.entry c.args.dword c.args.typed.now c.args.latched c.is_some.ensures c.if-is_some.false) c.if-found-eq0.false (sym none) refl, tt)

pub returns : goal.returns
returns c =
    let named = found_told c.type_in.ensures c.in_ok-named.was in (
      newly_latched c.args.book.now c.args.table c.args.found c.args.entry c.args.dword c.args.typed.now _ c.in_ok-named.named (not_latched c.args.book.now c.args.table c.args.found c.args.entry c.args.dword c.args.typed.now c.args.latched c.is_some.ensures c.if-is_some.false) c.if-found-eq0.false named.0 (λ z. omega (arith, named.1, z))
          (c.fill.ensures ∙ ap (λ (l : List ℕ). filled (entry_of Typed l c.args.book.now c.args.table) c.args.typed.now) c.name_in.ensures.is),
      named.1,
    )
