-- Notification events: the event of a code, the code of an event, and the names that they print.
use Rattle.std.specs.Prelude.{ℕ, ◌-◌, List, ◌++◌, length, replicate}
use Rattle.text.specs.Decimal.{decimal_text}
use Rattle.entry.specs.declared.events.Event.{Event}
use Rattle.entry.specs.declared.events.Event.TheVariants.{ErrConn, ErrLink, ErrAddr, ErrAdp, HpAck, ErrEnum, ErrNua, ErrLen, ErrHec, ErrFc, ErrPlug, ErrLock, DpBw, RopCmplt, PopCmplt, PcieWake, DpConChange, DptxDiscovery, LinkRecovery, AsymLink, Unknown}
use Rattle.entry.specs.declared.events.Name.{Name}
use Rattle.entry.specs.Codes.{table, row_in, event_in, name_in}

-- the event of a code: the one in its row, unknown with its code in a gap
unfoldable pub event_of : ℕ → Event
event_of code = event_in (row_in table code) code

-- the name in a code's row
unfoldable pub name_at : ℕ → List ℕ
name_at code = name_in (row_in table code) code

-- the way back: what is made of an event by its code, `in_row` of the code of its row, `kept` of the code that an unknown one keeps
abbrev pub by_code : {A : Type 0} → (ℕ → A) → (ℕ → A) → Event → A
by_code in_row kept ErrConn = in_row 0
by_code in_row kept ErrLink = in_row 1
by_code in_row kept ErrAddr = in_row 2
by_code in_row kept ErrAdp = in_row 4
by_code in_row kept HpAck = in_row 7
by_code in_row kept ErrEnum = in_row 8
by_code in_row kept ErrNua = in_row 9
by_code in_row kept ErrLen = in_row 11
by_code in_row kept ErrHec = in_row 12
by_code in_row kept ErrFc = in_row 13
by_code in_row kept ErrPlug = in_row 14
by_code in_row kept ErrLock = in_row 15
by_code in_row kept DpBw = in_row 32
by_code in_row kept RopCmplt = in_row 33
by_code in_row kept PopCmplt = in_row 34
by_code in_row kept PcieWake = in_row 35
by_code in_row kept DpConChange = in_row 36
by_code in_row kept DptxDiscovery = in_row 37
by_code in_row kept LinkRecovery = in_row 38
by_code in_row kept AsymLink = in_row 39
by_code in_row kept (Unknown code) = kept code

-- the code of each event
abbrev pub code_of : Event → ℕ
code_of e = by_code (λ code. code) (λ code. code) e

-- the name that each event prints: that in its row; an unknown one prints its code
unfoldable pub name_of : Event → List ℕ
name_of e = by_code name_at decimal_text e

-- a name as it is handed out: its bytes, then zeros up to 14, and its length
unfoldable pub padded : List ℕ → Name
padded name = record { bytes = name ++ replicate (14 - length name) 0; len = length name }
