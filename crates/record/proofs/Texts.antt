-- The table of rules: behind it there is none. Assumes nothing.
use Rattle.std.specs.Prelude.{None}
use Prim.Native.Nat.{ℕ, ◌≤◌}
use mathlib.Core.Path.{◌≡◌}
use lib.ListN.{get_or-eq_default}
use Rattle.record.specs.Rule.{rules, rule_of}

-- behind the table there is no rule
pub unknown_behind : (tag : ℕ) → 20 ≤ tag → rule_of tag ≡ None
unfolding rule_of
unknown_behind tag h = get_or-eq_default rules None {n = tag} h
