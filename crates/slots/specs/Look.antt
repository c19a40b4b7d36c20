-- What one more slot adds to what was found.
use Rattle.std.specs.Prelude.{ℕ, ◌+◌, ◌-◌, ◌^◌, Bool, true, false, cond, ◌&&◌, ◌||◌, eqb, ltb, None, Option, Some}
use Rattle.std.specs.Int.Bits.{bit_and, bit_or}
use Rattle.entry.specs.declared.Entry.{Entry}
use Rattle.slots.specs.declared.Four.{Four}
use Rattle.slots.specs.declared.Slot.{Slot}
use Rattle.slots.specs.declared.ask.Ask.{Ask}
use Rattle.slots.specs.declared.ask.Ask.TheVariants as A
use Rattle.slots.specs.declared.look.Ranks.{Ranks}
use Rattle.slots.specs.declared.look.Oldest.{Oldest}
use Rattle.slots.specs.declared.look.Seen.{Seen}
use Rattle.slots.specs.Ask.{ask_of}

abbrev pub asked_of : Ask → ℕ → Seen
asked_of ask n = record { ask = ask; size = n; free = n; ranks = record { count = 0; mask = 0; well = true }; oldest = None }

unfoldable pub start_of : Entry → ℕ → Seen
start_of e n = asked_of (ask_of e) n

unfoldable pub seek_of : ℕ → ℕ → Seen
seek_of k n = asked_of (A.Rank k) n

-- the smallest free place, and the size where none is below it
unfoldable pub first_of : ℕ → Slot → ℕ → ℕ
first_of f s i = cond (eqb s.rank 0 && ltb i f) i f

unfoldable pub bit_of : ℕ → ℕ
bit_of k = cond (eqb k 0) 0 (cond (ltb 64 k) 0 (2 ^ (k - 1)))

unfoldable pub broken : Four → ℕ → Bool
broken four rank = ltb 64 rank || ltb (2 ^ 63 - 1) four.route || ltb 1 four.write

unfoldable pub ranked_of : Ranks → Slot → Ranks
ranked_of r s =
    cond (eqb s.rank 0) r
    (cond (ltb 63 r.count) (record { count = r.count; mask = r.mask; well = false })
    (cond (broken s.four s.rank) (record { count = r.count + 1; mask = r.mask; well = false })
    (cond (eqb (bit_and r.mask (bit_of s.rank)) 0) (record { count = r.count + 1; mask = bit_or r.mask (bit_of s.rank); well = r.well })
    (record { count = r.count + 1; mask = r.mask; well = false }))))

unfoldable pub same_four : Four → Four → Bool
same_four a b = eqb a.route b.route && eqb a.domain b.domain && eqb a.seq b.seq && eqb a.write b.write

unfoldable pub is_asked : Ask → Slot → Bool
is_asked A.Dropped s = false
is_asked A.Other s = false
is_asked A.NoSeq s = false
is_asked (A.Request four) s = false
is_asked (A.Response four) s = same_four s.four four
is_asked (A.Rank k) s = eqb s.rank k

-- is a rank older than the oldest that was found, if any?
abbrev pub before : ℕ → Option Oldest → Bool
before k (Some o) = ltb k o.rank
before k None = true

unfoldable pub older_of : Option Oldest → Ask → Slot → ℕ → Option Oldest
older_of o ask s i = cond (eqb s.rank 0) o (cond (before s.rank o && is_asked ask s) (Some (record { place = i; rank = s.rank })) o)

unfoldable pub look_of : Seen → Slot → ℕ → Seen
look_of a s i =
    record {
      ask = a.ask;
      size = a.size;
      free = first_of a.free s i;
      ranks = ranked_of a.ranks s;
      oldest = older_of a.oldest a.ask s i;
    }
