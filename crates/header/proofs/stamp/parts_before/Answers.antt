-- `stamp::parts_before` meets its contract: looking back finds the runs of the stamp that ends here, one law a way out. Assumes nothing.
use Prim.Native.Nat.{◌+◌}
use Rattle.header.proofs.Stamps.{colon_within, dot_before, no_blank, no-microseconds, no-dot, no-seconds, both_runs}
use Rattle.text.specs.Class.{is_blank, in_class}
use borrow.Author.Tests.{not-true, not-false}
use lib.ListN.{get_or}
use lib.Seq.{length-take-le}
use mathlib.Core.Path.{◌≡◌, sym, ◌∙◌}
use native.Mathlib.Omega.{arith}
use Rattle.header.proofs.stamp.parts_before.Goals as goal

pub overflow_add-c : goal.overflow_add-c
overflow_add-c c = omega (arith, colon_within c.args.h.now {c = c.args.c} c.requires)

pub returns-then-not-is_blank : goal.returns-then-not-is_blank
returns-then-not-is_blank c = no_blank _ c.args.c (sym (let tested : c.is_blank.result ≡ is_blank (get_or c.args.h.now (c.args.c + 1) 0) = rw (← c.byte_at.ensures) c.is_blank.ensures in tested) ∙ not-true _ c.if-not-is_blank.true-raw)

pub slice_bounds-run_start-end : goal.slice_bounds-run_start-end
slice_bounds-run_start-end c = sym (length-take-le _ _ (omega (arith, colon_within c.args.h.now {c = c.args.c} c.requires)))

pub returns-then-k-c : goal.returns-then-k-c
unfolding in_class
returns-then-k-c c = no-microseconds _ _ _ c.run_start-k.ensures.is c.if-k-c.true

pub returns-then-byte_before-ne46 : goal.returns-then-byte_before-ne46
unfolding in_class
returns-then-byte_before-ne46 c = no-dot _ _ _ c.run_start-k.ensures.is (λ e. c.if-byte_before-ne46.true (c.byte_before.ensures ∙ e))

pub overflow_sub-dot : goal.overflow_sub-dot
overflow_sub-dot c = omega (arith, dot_before c.args.h.now (sym c.byte_before.ensures ∙ c.if-byte_before-ne46.false))

pub slice_bounds-run_start-end-2 : goal.slice_bounds-run_start-end-2
slice_bounds-run_start-end-2 c = sym (length-take-le _ _ (omega (arith, c.run_start-k.ensures.within, length-take-le c.args.c c.args.h.now (omega (arith, colon_within c.args.h.now {c = c.args.c} c.requires)), colon_within c.args.h.now {c = c.args.c} c.requires)))

pub returns-then-from-dot : goal.returns-then-from-dot
unfolding in_class
returns-then-from-dot c = no-seconds _ _ c.run_start-k.result c.run_start-k.ensures.is _ (omega (arith, dot_before c.args.h.now (sym c.byte_before.ensures ∙ c.if-byte_before-ne46.false))) _ c.run_start-from.ensures.is c.if-from-dot.true

pub returns : goal.returns
unfolding in_class
returns c =
    both_runs _ _ c.run_start-k.result c.run_start-k.ensures.is _ (omega (arith, dot_before c.args.h.now (sym c.byte_before.ensures ∙ c.if-byte_before-ne46.false))) _ c.run_start-from.ensures.is
    (omega (arith, c.if-k-c.false, c.run_start-k.ensures.within, length-take-le c.args.c c.args.h.now (omega (arith, colon_within c.args.h.now {c = c.args.c} c.requires))))
    (sym c.byte_before.ensures ∙ c.if-byte_before-ne46.false)
    c.requires
    (sym (let tested : c.is_blank.result ≡ is_blank (get_or c.args.h.now (c.args.c + 1) 0) = rw (← c.byte_at.ensures) c.is_blank.ensures in tested) ∙ not-false _ c.if-not-is_blank.false-raw)
    c.if-from-dot.false
