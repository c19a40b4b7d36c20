-- `cpu::parse_cpu` meets its contract: a CPU starts with a bracket, so the first from the start is the first from here. Assumes nothing.
use Rattle.header.proofs.Cpus.{seeking_starts, next_bracket, seeking_hits, seeking_steps, seeking_ends, cpu_within, cpu_some, cpu_none, three_long}
use mathlib.Core.Path.{sym, ◌∙◌}
use native.Mathlib.Omega.{arith}
use Rattle.header.proofs.cpu.parse_cpu.Goals as goal

pub loop-k-init : goal.loop-k-init
loop-k-init c = seeking_starts _

pub is_cpu-requires : goal.is_cpu-requires
is_cpu-requires c = (next_bracket c.args.h.now (sym c.first.ensures ∙ c.in-Some.is)).within

pub overflow_add-k : goal.overflow_add-k
overflow_add-k c = omega (arith, (next_bracket c.args.h.now (sym c.first.ensures ∙ c.in-Some.is)).within)

pub overflow_add-k-then-is_cpu : goal.overflow_add-k-then-is_cpu
overflow_add-k-then-is_cpu c = omega (arith, cpu_within _ _ (sym c.is_cpu.ensures ∙ c.if-is_cpu.true))

pub slice_bounds-decimal-count : goal.slice_bounds-decimal-count
slice_bounds-decimal-count c = omega arith

pub slice_bounds-decimal-end : goal.slice_bounds-decimal-end
slice_bounds-decimal-end c = omega (arith, cpu_within _ _ (sym c.is_cpu.ensures ∙ c.if-is_cpu.true))

pub returns-then-is_cpu : goal.returns-then-is_cpu
returns-then-is_cpu c =
    c.decimal.ensures
    ∙ three_long _ c.args.h.now c.in-Some.k
    ∙ cpu_some _ (seeking_hits _ c.loop-k.invariant (sym c.first.ensures ∙ c.in-Some.is) (sym c.is_cpu.ensures ∙ c.if-is_cpu.true))

pub overflow_add-i : goal.overflow_add-i
overflow_add-i c = omega (arith, (next_bracket c.args.h.now (sym c.first.ensures ∙ c.in-Some.is)).within)

pub loop-k-smaller : goal.loop-k-smaller
loop-k-smaller c = omega (arith, (next_bracket c.args.h.now (sym c.first.ensures ∙ c.in-Some.is)).from, (next_bracket c.args.h.now (sym c.first.ensures ∙ c.in-Some.is)).within)

pub loop-k-preserved : goal.loop-k-preserved
loop-k-preserved c = seeking_steps _ c.loop-k.invariant (sym c.first.ensures ∙ c.in-Some.is) (sym c.is_cpu.ensures ∙ c.if-is_cpu.false)

pub returns : goal.returns
returns c = cpu_none _ (seeking_ends _ c.loop-k.invariant (sym c.first.ensures ∙ c.in_default.is))
