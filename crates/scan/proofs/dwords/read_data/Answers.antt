-- `dwords::read_data` meets its contract: all is judged by what the walk took before a slot is written, and a slot is written by what it kept. Assumes
-- nothing.
use Rattle.std.specs.Prelude.{Some}
use Prim.Native.Nat.{ℕ, ◌+◌, ◌-◌}
use Rattle.pairs.proofs.Bracketing.{Brackets, last_unopened, last_brackets}
use Rattle.pairs.proofs.LastPairs.{last_within}
use Rattle.pairs.proofs.Slots.{taken_front, taken_count, taken_fits}
use Rattle.refusal.proofs.Told.{passed_on}
use Rattle.pairs.specs.Data.{dwords_of, bad_of, filled}
use Rattle.pairs.specs.Pair.{part, last_pair, span}
use Rattle.scan.proofs.Stages.{was_there, was_missing, data_missing, data_unbracketed, data_there, bad_there, data_bad, data-many, data-crowded, data-got}
use Rattle.scan.specs.Dwords.{payload_data, payload_bad, refuses}
use Rattle.scan.specs.declared.Pieces.{Pieces}
use Rattle.text.specs.Quote.{bytes}
use borrow.Author.Rules.{rules}
use mathlib.Core.Bool.{Bool}
use mathlib.Core.List.{List}
use mathlib.Core.Path.{◌≡◌, sym, ap, ◌∙◌}
use native.Mathlib.Omega.{arith}
use Rattle.scan.proofs.dwords.read_data.Goals as goal

-- what stands in the brackets is the payload's data
module _ (pieces : Pieces) (p out : List ℕ) {a b : ℕ} (found : last_pair p (bytes "data") ≡ span a b) (r : Brackets p a b) where
  inner_data : payload_data p ≡ Some (dwords_of (part p (a + 1) (b - 1)))
  inner_data = data_there pieces p out found r.inside ∙ ap (λ (l : List ℕ). Some (dwords_of l)) r.inner

  inner_bad : {bad x : Bool} → bad ≡ bad_of (part p (a + 1) (b - 1)) → x ≡ refuses pieces bad → refuses pieces (payload_bad p) ≡ x
  inner_bad q h = bad_there pieces p out found r.inside (q ∙ ap bad_of (sym r.inner)) h

pub returns-in_err-from : goal.returns-in_err-from
returns-in_err-from c =
    let none = was_missing _ _ c.ok_or.ensures.value c.in_err-from.was in
    rw (passed_on c.from_residual.result c.from_residual.ensures.1, none.1) (data_missing _ _ _ (sym c.requires.1 ∙ none.0))

pub overflow_sub-to : goal.overflow_sub-to
overflow_sub-to c = let w = last_within _ _ (sym c.requires.1 ∙ was_there _ _ c.ok_or.ensures.value c.in_ok-from.was) in omega (arith, w.0)

pub bounds-p-from : goal.bounds-p-from
bounds-p-from c = let w = last_within _ _ (sym c.requires.1 ∙ was_there _ _ c.ok_or.ensures.value c.in_ok-from.was) in omega (arith, w.0, w.1)

pub returns-then-p-from-ne91 : goal.returns-then-p-from-ne91
returns-then-p-from-ne91 c = data_unbracketed _ _ _ (sym c.requires.1 ∙ was_there _ _ c.ok_or.ensures.value c.in_ok-from.was) (last_unopened _ _ (sym c.requires.1 ∙ was_there _ _ c.ok_or.ensures.value c.in_ok-from.was) c.if-p-from-ne91.true)

pub overflow_add-from : goal.overflow_add-from
overflow_add-from c = let r = last_brackets _ _ (sym c.requires.1 ∙ was_there _ _ c.ok_or.ensures.value c.in_ok-from.was) c.if-p-from-ne91.false in search rules

pub slice_bounds-take_dwords-count : goal.slice_bounds-take_dwords-count
slice_bounds-take_dwords-count c = let r = last_brackets _ _ (sym c.requires.1 ∙ was_there _ _ c.ok_or.ensures.value c.in_ok-from.was) c.if-p-from-ne91.false in search rules

pub slice_bounds-take_dwords-start : goal.slice_bounds-take_dwords-start
slice_bounds-take_dwords-start c = let r = last_brackets _ _ (sym c.requires.1 ∙ was_there _ _ c.ok_or.ensures.value c.in_ok-from.was) c.if-p-from-ne91.false in search rules

pub slice_bounds-take_dwords-end : goal.slice_bounds-take_dwords-end
slice_bounds-take_dwords-end c = let r = last_brackets _ _ (sym c.requires.1 ∙ was_there _ _ c.ok_or.ensures.value c.in_ok-from.was) c.if-p-from-ne91.false in search rules

pub returns-then-refuse_bad : goal.returns-then-refuse_bad
returns-then-refuse_bad c =
    let pieces = c.args.pieces in
    let slots = c.args.slots.now in
    let there = inner_data pieces _ slots (sym c.requires.1 ∙ was_there _ _ c.ok_or.ensures.value c.in_ok-from.was) (last_brackets _ _ (sym c.requires.1 ∙ was_there _ _ c.ok_or.ensures.value c.in_ok-from.was) c.if-p-from-ne91.false) in
    let refused = inner_bad pieces _ slots (sym c.requires.1 ∙ was_there _ _ c.ok_or.ensures.value c.in_ok-from.was) (last_brackets _ _ (sym c.requires.1 ∙ was_there _ _ c.ok_or.ensures.value c.in_ok-from.was) c.if-p-from-ne91.false) c.take_dwords-tally.ensures.tally.bad_is c.refuse_bad.ensures in
    data_bad _ _ _ _ there (refused ∙ c.if-refuse_bad.true)

pub returns-then-n-gt256 : goal.returns-then-n-gt256
returns-then-n-gt256 c =
    let pieces = c.args.pieces in
    let slots = c.args.slots.now in
    let there = inner_data pieces _ slots (sym c.requires.1 ∙ was_there _ _ c.ok_or.ensures.value c.in_ok-from.was) (last_brackets _ _ (sym c.requires.1 ∙ was_there _ _ c.ok_or.ensures.value c.in_ok-from.was) c.if-p-from-ne91.false) in
    let refused = inner_bad pieces _ slots (sym c.requires.1 ∙ was_there _ _ c.ok_or.ensures.value c.in_ok-from.was) (last_brackets _ _ (sym c.requires.1 ∙ was_there _ _ c.ok_or.ensures.value c.in_ok-from.was) c.if-p-from-ne91.false) c.take_dwords-tally.ensures.tally.bad_is c.refuse_bad.ensures in
    data-many _ _ _ _ there (refused ∙ c.if-refuse_bad.false) (omega (arith, c.take_dwords-tally.ensures.tally.dwords_are, c.if-n-gt256.true))

pub returns-then-slots-n : goal.returns-then-slots-n
returns-then-slots-n c =
    let pieces = c.args.pieces in
    let slots = c.args.slots.now in
    let there = inner_data pieces _ slots (sym c.requires.1 ∙ was_there _ _ c.ok_or.ensures.value c.in_ok-from.was) (last_brackets _ _ (sym c.requires.1 ∙ was_there _ _ c.ok_or.ensures.value c.in_ok-from.was) c.if-p-from-ne91.false) in
    let refused = inner_bad pieces _ slots (sym c.requires.1 ∙ was_there _ _ c.ok_or.ensures.value c.in_ok-from.was) (last_brackets _ _ (sym c.requires.1 ∙ was_there _ _ c.ok_or.ensures.value c.in_ok-from.was) c.if-p-from-ne91.false) c.take_dwords-tally.ensures.tally.bad_is c.refuse_bad.ensures in
    data-crowded _ _ _ _ there (refused ∙ c.if-refuse_bad.false) (omega (arith, c.take_dwords-tally.ensures.tally.dwords_are, c.if-n-gt256.false))
    (omega (arith, c.take_dwords-tally.ensures.tally.dwords_are, c.if-slots-n.true))

pub slice_bounds-own-end : goal.slice_bounds-own-end
slice_bounds-own-end c = taken_fits c.take_dwords-tally.ensures c.if-n-gt256.false

pub slice_bounds-copy-end : goal.slice_bounds-copy-end
slice_bounds-copy-end c = taken_count c.take_dwords-tally.ensures c.if-n-gt256.false

pub copy-requires : goal.copy-requires
copy-requires c = omega (arith, taken_count c.take_dwords-tally.ensures c.if-n-gt256.false, c.if-slots-n.false)

pub returns : goal.returns
returns c =
    let pieces = c.args.pieces in
    let slots = c.args.slots.now in
    let there = inner_data pieces _ slots (sym c.requires.1 ∙ was_there _ _ c.ok_or.ensures.value c.in_ok-from.was) (last_brackets _ _ (sym c.requires.1 ∙ was_there _ _ c.ok_or.ensures.value c.in_ok-from.was) c.if-p-from-ne91.false) in
    let refused = inner_bad pieces _ slots (sym c.requires.1 ∙ was_there _ _ c.ok_or.ensures.value c.in_ok-from.was) (last_brackets _ _ (sym c.requires.1 ∙ was_there _ _ c.ok_or.ensures.value c.in_ok-from.was) c.if-p-from-ne91.false) c.take_dwords-tally.ensures.tally.bad_is c.refuse_bad.ensures in
    let n = c.take_dwords-tally.ensures.tally.dwords_are in
    let kept = taken_front c.take_dwords-tally.ensures c.if-n-gt256.false in
    data-got _ _ _ _ there (refused ∙ c.if-refuse_bad.false) _ _ n (omega (arith, n, c.if-n-gt256.false)) (omega (arith, n, c.if-slots-n.false))
    (c.copy.ensures ∙ ap (λ (l : List ℕ). filled l slots) kept)
