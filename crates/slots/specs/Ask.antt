-- What an entry asks of the table, in document 02's order of "else": dropped; other, where the kind is not 1 to 4; no `seq`; a request, of kind
-- 1 or 3; a response, of kind 2 or 4.
use Rattle.std.specs.Prelude.{ℕ, ◌%◌, ◌^◌, cond, ◌||◌, eqb, ltb, None, Option, Some}
use Rattle.entry.specs.declared.Entry.{Entry}
use Rattle.slots.specs.declared.Four.{Four}
use Rattle.slots.specs.declared.ask.Ask.{Ask}
use Rattle.slots.specs.declared.ask.Ask.TheVariants as A

-- read (0), or write (1): the kinds 3 and 4
unfoldable pub direction_of : ℕ → ℕ
direction_of kind = cond (ltb 2 kind) 1 0

-- domain, route without its top bit, `seq`, and read or write
unfoldable pub four_of : Entry → ℕ → Four
four_of e seq = record { route = e.route % 2 ^ 63; domain = e.domain; seq = seq; write = direction_of e.kind }

unfoldable pub by_kind : ℕ → Four → Ask
by_kind kind four = cond (eqb (kind % 2) 1) (A.Request four) (A.Response four)

abbrev pub by_seq : Entry → Option ℕ → Ask
by_seq e (Some seq) = by_kind e.kind (four_of e seq)
by_seq e None = A.NoSeq

unfoldable pub ask_of : Entry → Ask
ask_of e = cond e.dropped A.Dropped (cond (eqb e.kind 0 || ltb 4 e.kind) A.Other (by_seq e e.seq))
