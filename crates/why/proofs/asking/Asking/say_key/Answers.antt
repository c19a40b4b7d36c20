-- `say_key` meets its contract: a text that was found lies in the payload (`HexIn`). Assumes nothing.
use Rattle.std.proofs.Common.{arith}
use Rattle.why.proofs.Chains.{gone_none, gone_same}
use Rattle.why.proofs.Walks.{key_text, key_found_lem, key_absent}
use Rattle.why.proofs.asking.Asking.say_key.Goals as goal

pub slice_bounds-say_text-count : goal.slice_bounds-say_text-count
slice_bounds-say_text-count c = (key_text c.args.payload.now c.args.key c.key_in.ensures c.in-Some.is).up

pub slice_bounds-say_text-start : goal.slice_bounds-say_text-start
slice_bounds-say_text-start c = let h = key_text c.args.payload.now c.args.key c.key_in.ensures c.in-Some.is in omega (arith, h.up, h.within)

pub slice_bounds-say_text-end : goal.slice_bounds-say_text-end
slice_bounds-say_text-end c = let h = key_text c.args.payload.now c.args.key c.key_in.ensures c.in-Some.is in omega (arith, h.up, h.within)

pub say_text-requires-clause-within : goal.say_text-requires-clause-within
say_text-requires-clause-within c = (key_text c.args.payload.now c.args.key c.key_in.ensures c.in-Some.is).read

pub returns-in-Some : goal.returns-in-Some
returns-in-Some c = gone_same (key_found_lem _ _ c.key_in.ensures c.in-Some.is) c.say_text.ensures

pub returns-in_default : goal.returns-in_default
returns-in_default c = gone_same (key_absent _ _ c.key_in.ensures c.in_default.is) gone_none
