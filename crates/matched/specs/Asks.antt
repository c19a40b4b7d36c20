-- What an entry asks of the table, told of the entry itself in document 02's order of "else"; `ask_of`, which the contracts cite, computes it.
use Rattle.std.specs.Prelude.{◌%◌, ◌^◌, ◌<◌, ◌≤◌, ◌≡◌, true, false, ◌⊎◌, None, Some}
use Rattle.entry.specs.declared.Entry.{Entry}
use Rattle.slots.specs.declared.Four.{Four}
use Rattle.slots.specs.declared.ask.Ask.{Ask}
use Rattle.slots.specs.declared.ask.Ask.TheVariants as A

-- the entry's four: its domain, its route without the top bit, its `seq`, and read (0, of the kinds 1 and 2) or write (1, of the kinds 3 and 4)
pub record Under (e : Entry) (four : Four) : Type 0 where
  pub domain : four.domain ≡ e.domain
  pub route : four.route ≡ e.route % 2 ^ 63
  pub seq : e.seq ≡ Some four.seq
  pub reads : e.kind ≤ 2 → four.write ≡ 0
  pub writes : 2 < e.kind → four.write ≡ 1

-- the kinds 1 to 4
abbrev pub Matchable : Entry → Type 0
Matchable e = (0 < e.kind) × (e.kind ≤ 4)

pub data Asks (e : Entry) : Ask → Type 0 where
  dropped : e.dropped ≡ true → Asks e A.Dropped
  other : e.dropped ≡ false → (Matchable e → ⊥) → Asks e A.Other
  no_seq : e.dropped ≡ false → Matchable e → e.seq ≡ None → Asks e A.NoSeq
  request : {four : Four} → e.dropped ≡ false → (e.kind ≡ 1) ⊎ (e.kind ≡ 3) → Under e four → Asks e (A.Request four)
  response : {four : Four} → e.dropped ≡ false → (e.kind ≡ 2) ⊎ (e.kind ≡ 4) → Under e four → Asks e (A.Response four)
