-- `book::grammar::fills` meets its contract: what was passed is good, so the answer is that for the rest. Assumes nothing.
use Rattle.std.proofs.Common.{◌≡◌, Bool, take, ◌-◌, length, List, ℕ, Bor}
use Rattle.tlv.specs.Reading.{Part, Stands, filled}
use Rattle.book.proofs.grammar.fills.Given as goal

abbrev pub invariant-loop-tag : goal.invariant-loop-tag
invariant-loop-tag g l =
    (ok : Part → Bool)
    → ((p : Part) (b : Bor (List ℕ)) (t : Bool) → Stands l.s p → b.now ≡ take p.to l.s → goal.F-post g l.good b p.tag p.from t → t ≡ ok p)
    → filled ok l.s l.start ≡ filled ok l.s l.at

abbrev pub decreases-loop-tag : goal.decreases-loop-tag
decreases-loop-tag g l = length l.s - l.at
