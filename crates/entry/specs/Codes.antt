-- The event decision, laid out like table 6-12 of USB4 v2.0: a row a code with its event and its name, in number order, the gaps as ranges.
use Rattle.std.specs.Prelude.{ℕ, ◌+◌, ◌≤◌, ◌<◌, ◌≡◌, Bool, true, false, cond, List, [], ◌∷◌, eqb}
use Prim.Native.String.{String}
use Rattle.text.specs.Class.{between}
use Rattle.text.specs.Quote.{bytes}
use Rattle.text.specs.Decimal.{decimal_text}
use Rattle.entry.specs.declared.events.Event.{Event}
use Rattle.entry.specs.declared.events.Event.TheVariants.{ErrConn, ErrLink, ErrAddr, ErrAdp, HpAck, ErrEnum, ErrNua, ErrLen, ErrHec, ErrFc, ErrPlug, ErrLock, DpBw, RopCmplt, PopCmplt, PcieWake, DpConChange, DptxDiscovery, LinkRecovery, AsymLink, Unknown}

-- a row: a code with its event and its name; or a gap, the codes from one to another, which have neither
pub data Row : Type 0 where
  code : ℕ → Event → String → Row
  gap : ℕ → ℕ → Row

-- the table
unfoldable pub table : List Row
table =
    code 0 ErrConn "ERR_CONN"
    ∷ code 1 ErrLink "ERR_LINK"
    ∷ code 2 ErrAddr "ERR_ADDR"
    ∷ gap 3 3
    ∷ code 4 ErrAdp "ERR_ADP"
    ∷ gap 5 6
    ∷ code 7 HpAck "HP_ACK"
    ∷ code 8 ErrEnum "ERR_ENUM"
    ∷ code 9 ErrNua "ERR_NUA"
    ∷ gap 10 10
    ∷ code 11 ErrLen "ERR_LEN"
    ∷ code 12 ErrHec "ERR_HEC"
    ∷ code 13 ErrFc "ERR_FC"
    ∷ code 14 ErrPlug "ERR_PLUG"
    ∷ code 15 ErrLock "ERR_LOCK"
    ∷ gap 16 31
    ∷ code 32 DpBw "DP_BW"
    ∷ code 33 RopCmplt "ROP_CMPLT"
    ∷ code 34 PopCmplt "POP_CMPLT"
    ∷ code 35 PcieWake "PCIE_WAKE"
    ∷ code 36 DpConChange "DP_CON_CHANGE"
    ∷ code 37 DptxDiscovery "DPTX_DISCOVERY"
    ∷ code 38 LinkRecovery "LINK_RECOVERY"
    ∷ code 39 AsymLink "ASYM_LINK"
    ∷ gap 40 255
    ∷ []

-- does a row hold a code?
abbrev pub holds : Row → ℕ → Bool
holds (code c e name) n = eqb n c
holds (gap low high) n = between low high n

-- the first row of a table that holds a code; a code that no row holds is a gap by itself
abbrev pub row_in : List Row → ℕ → Row
row_in [] n = gap n n
row_in (r ∷ rs) n = cond (holds r n) r (row_in rs n)

-- the event in a code's row: a code of a gap stays unknown
abbrev pub event_in : Row → ℕ → Event
event_in (code c e name) n = e
event_in (gap low high) n = Unknown n

-- the name in a code's row: a code of a gap prints in decimal
abbrev pub name_in : Row → ℕ → List ℕ
name_in (code c e name) n = bytes name
name_in (gap low high) n = decimal_text n

-- does a gap come first?
abbrev pub gap_first : List Row → Bool
gap_first [] = false
gap_first (code c e name ∷ rs) = false
gap_first (gap low high ∷ rs) = true

-- rows in number order, from a code up to another without it: each begins right behind the last code of the one before, and no gap stands behind a gap
pub data InOrder : ℕ → List Row → ℕ → Type 0 where
  end : {n : ℕ} → InOrder n [] n
  next_code : {n m : ℕ} {e : Event} {name : String} {rs : List Row} → InOrder (n + 1) rs m → InOrder n (code n e name ∷ rs) m
  next_gap : {low high m : ℕ} {rs : List Row} → low ≤ high → gap_first rs ≡ false → InOrder (high + 1) rs m → InOrder low (gap low high ∷ rs) m

-- all rows of a table that hold a code
abbrev pub rows_in : List Row → ℕ → List Row
rows_in [] n = []
rows_in (r ∷ rs) n = cond (holds r n) (r ∷ rows_in rs n) (rows_in rs n)

-- the table can be checked with a ruler: its rows are in number order from 0 to 255, each gap one of them, so each byte is in one row and no other
pub record LaidOut : Type 0 where
  pub in_order : InOrder 0 table 256
  pub one_row : (n : ℕ) → n < 256 → rows_in table n ≡ row_in table n ∷ []
