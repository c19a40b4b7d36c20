-- `waiting` meets its contract: the slots that are not free are counted. Assumes nothing.
use Rattle.std.proofs.Common.{◌≡◌, ◌+◌, [], Bool, true, false, cond, not, eqb, List, ◌∷◌, refl, sym, ◌∙◌, rules, arith}
use Rattle.std.specs.List.{count_by}
use Rattle.std.proofs.lemmas.List.Recursion.{is_count_by}
use Rattle.slots.specs.declared.Slot.{Slot}
use Rattle.pending.specs.Table.{waiting}
use Rattle.table.proofs.Table.waiting.Goals as goal

one_more : (s : Slot) (t : List Slot) → waiting (s ∷ t) ≡ cond (not (eqb s.rank 0)) (1 + waiting t) (waiting t)
unfolding waiting
one_more s t = by (eqb s.rank 0)
  where
    by : (b : Bool) → cond b 0 1 + waiting t ≡ cond (not b) (1 + waiting t) (waiting t)
    by true = omega arith
    by false = omega arith

none : waiting [] ≡ 0
unfolding waiting
none = refl

pub returns : goal.returns
returns c =
    let t = c.args.self.now.slots in
    let k : c.count.result ≡ count_by (λ s. not (eqb s.rank 0)) t = search rules in
    k ∙ sym (is_count_by waiting (λ s. not (eqb s.rank 0)) none one_more t)
