-- The event table: a code that is none of the single ones is in a gap; the event of a row leads back to the row's code and name; the rows are in number
-- order, so each byte has one. Said of any rows by induction, and of the table by a computed test where one is needed; that each event has its row, by the
-- enum's cases. Assumes nothing.
use Prim.Native.Nat.{ℕ, ◌+◌, ◌≤◌, ◌<◌}
use Prim.Native.String.{String}
use mathlib.Core.Path.{◌≡◌, refl, sym, ap, ◌∙◌}
use mathlib.Core.Logic.{◌⊎◌, inl, inr}
use mathlib.Core.Bool.{Bool, true, false, cond, not, ◌&&◌}
use mathlib.Core.List.{List, [], ◌∷◌}
use native.Mathlib.Omega.{arith}
use lib.Dec.{eqb, leb}
use borrow.Author.Tests.{eqb-true, leb-true, not-true, eq-eqb, ne_eqb, le-leb, lt-leb}
use Rattle.text.specs.Class.{between}
use Rattle.text.specs.Quote.{bytes}
use Rattle.text.specs.Same.{same_text}
use Rattle.text.specs.Decimal.{decimal_text}
use Rattle.text.proofs.Places.{clash, by_order}
use Rattle.text.proofs.Texts.{both_left, both_right, same_true}
use Rattle.entry.specs.declared.codes.Decision.{Decision}
use Rattle.entry.specs.declared.events.Event.{Event}
use Rattle.entry.specs.declared.events.Event.TheVariants.{ErrConn, ErrLink, ErrAddr, ErrAdp, HpAck, ErrEnum, ErrNua, ErrLen, ErrHec, ErrFc, ErrPlug, ErrLock, DpBw, RopCmplt, PopCmplt, PcieWake, DpConChange, DptxDiscovery, LinkRecovery, AsymLink, Unknown}
use Rattle.entry.specs.Codes.{Row, code, gap, table, holds, row_in, event_in, name_in, InOrder, end, next_code, next_gap, gap_first, rows_in, LaidOut}
use Rattle.entry.specs.Event.{code_of, event_of, name_at, name_of, padded}
use Rattle.entry.specs.Names.{printed}

-- ---- rows that name a code, and gaps

abbrev pub named : Row → Bool
named (code c e name) = true
named (gap low high) = false

-- a code of a gap stays unknown and prints in decimal
pub gap_says : (r : Row) (n : ℕ) → named r ≡ false → (event_in r n ≡ Unknown n) × (name_in r n ≡ decimal_text n)
gap_says (code c e name) n h = absurd (clash refl h)
gap_says (gap low high) n h = (refl, refl)

-- a decision has this event, and this name with zeros behind it
abbrev Decided : Decision → Event → List ℕ → Type 0
Decided d e name = (d.event ≡ e) × (d.name ≡ padded name)

-- what is decided of a code is what its row says, where the row names it and where it is a gap
pub named_decided : {n c : ℕ} {e : Event} {name : String} → n ≡ c → row_in table c ≡ code c e name → (d : Decision) → Decided d e (bytes name)
    → Decided d (event_of n) (name_at n)
unfolding event_of name_at
named_decided same row d is = rw (same, row) is

pub gap_decided : (n : ℕ) → named (row_in table n) ≡ false → (d : Decision) → Decided d (Unknown n) (decimal_text n) → Decided d (event_of n) (name_at n)
unfolding event_of name_at
gap_decided n h d is =
    let says = gap_says (row_in table n) n h in
    (is.0 ∙ sym says.0, is.1 ∙ sym (ap padded says.1))

-- the codes of the rows of one code
abbrev singles : List Row → List ℕ
singles [] = []
singles (code c e name ∷ rs) = c ∷ singles rs
singles (gap low high ∷ rs) = cond (eqb low high) (low ∷ singles rs) (singles rs)

-- a number is none of some, one fact behind the other, as a match tells it behind its single arms
abbrev NoneOf : Type 0 → List ℕ → ℕ → Type 0
NoneOf told [] n = told
NoneOf told (c ∷ cs) n = NoneOf (told × (n ≡ c → ⊥)) cs n

-- a number that is none of these codes is in a gap
abbrev Behind : List Row → ℕ → Type 0 → Type 0
Behind rs n told = NoneOf told (singles rs) n → told × (named (row_in rs n) ≡ false)

gap_behind : (told : Type 0) (rs : List Row) (n : ℕ) → Behind rs n told
gap_behind told [] n h = (h, refl)
gap_behind told (code c e name ∷ rs) n h =
    let q = gap_behind (told × (n ≡ c → ⊥)) rs n h in
    (q.0.0, rw (ne_eqb n c q.0.1) q.1)
gap_behind told (gap low high ∷ rs) n h =
    let q = behind (eqb low high) (gap_behind told rs n) (gap_behind (told × (n ≡ low → ⊥)) rs n) h in
    (q.0, over (between low high n) q.1)
  where
    behind : (b : Bool) → Behind rs n told → Behind rs n (told × (n ≡ low → ⊥)) → NoneOf told (cond b (low ∷ singles rs) (singles rs)) n
        → told × (named (row_in rs n) ≡ false)
    behind true many one h = let q = one h in (q.0.0, q.1)
    behind false many one h = many h

    over : (b : Bool) → named (row_in rs n) ≡ false → named (cond b (gap low high) (row_in rs n)) ≡ false
    over true h = refl
    over false h = h

pub gap_behind_singles : (n : ℕ) → NoneOf (Unit {0}) (singles table) n → named (row_in table n) ≡ false
gap_behind_singles n h = (gap_behind (Unit {0}) table n h).1

-- ---- what a test over rows says of the one that holds a code

abbrev pub every : (Row → Bool) → List Row → Bool
every p [] = true
every p (r ∷ rs) = p r && every p rs

pub every_found : (p : Row → Bool) (P : Row → Type 0) (n : ℕ) → ((r : Row) → p r ≡ true → holds r n ≡ true → P r) → P (gap n n)
    → (rs : List Row) → every p rs ≡ true → P (row_in rs n)
every_found p P n one none [] t = none
every_found p P n one none (r ∷ rs) t = go (holds r n) refl (every_found p P n one none rs (both_right (p r) _ t))
  where
    go : (b : Bool) → holds r n ≡ b → P (row_in rs n) → P (cond b r (row_in rs n))
    go true h q = one r (both_left _ _ t) h
    go false h q = q

-- ---- the way back

-- the row's event has the row's code and prints the row's name
abbrev leads_back : Row → Bool
leads_back (code c e name) = eqb (code_of e) c && same_text (name_of e) (bytes name)
leads_back (gap low high) = true

table_leads_back : every leads_back table ≡ true
unfolding table name_of name_at between
table_leads_back = refl

abbrev Leads : ℕ → Row → Type 0
Leads n r = (code_of (event_in r n) ≡ n) × (name_of (event_in r n) ≡ name_in r n)

row_leads : (n : ℕ) (r : Row) → leads_back r ≡ true → holds r n ≡ true → Leads n r
unfolding name_of
row_leads n (code c e name) t h =
    (eqb-true (code_of e) c (both_left _ _ t) ∙ sym (eqb-true n c h), same_true (name_of e) (bytes name) (both_right (eqb (code_of e) c) _ t))
row_leads n (gap low high) t h = (refl, refl)

code_leads : (n : ℕ) → Leads n (row_in table n)
unfolding name_of
code_leads n = every_found leads_back (Leads n) n (row_leads n) (refl, refl) table table_leads_back

-- the event of a code has that code
pub event_code : (n : ℕ) → code_of (event_of n) ≡ n
unfolding event_of
event_code n = (code_leads n).0

-- so two codes with one event are one code
pub one_code : (a b : ℕ) → event_of a ≡ event_of b → a ≡ b
one_code a b e = sym (event_code a) ∙ ap code_of e ∙ event_code b

-- and each event is the one in the row of its code, or an unknown one
pub event_in_row : (e : Event) → (event_of (code_of e) ≡ e) ⊎ (e ≡ Unknown (code_of e))
unfolding event_of table between
event_in_row ErrConn = inl refl
event_in_row ErrLink = inl refl
event_in_row ErrAddr = inl refl
event_in_row ErrAdp = inl refl
event_in_row HpAck = inl refl
event_in_row ErrEnum = inl refl
event_in_row ErrNua = inl refl
event_in_row ErrLen = inl refl
event_in_row ErrHec = inl refl
event_in_row ErrFc = inl refl
event_in_row ErrPlug = inl refl
event_in_row ErrLock = inl refl
event_in_row DpBw = inl refl
event_in_row RopCmplt = inl refl
event_in_row PopCmplt = inl refl
event_in_row PcieWake = inl refl
event_in_row DpConChange = inl refl
event_in_row DptxDiscovery = inl refl
event_in_row LinkRecovery = inl refl
event_in_row AsymLink = inl refl
event_in_row (Unknown n) = inr refl

-- what a code prints is the name in its row
pub printed_at : (n : ℕ) → printed n ≡ name_at n
unfolding event_of name_at
printed_at n = (code_leads n).1

-- ---- number order

abbrev ordered : ℕ → List Row → ℕ → Bool
ordered n [] m = eqb n m
ordered n (code c e name ∷ rs) m = eqb n c && ordered (c + 1) rs m
ordered n (gap low high ∷ rs) m = eqb n low && (leb low high && (not (gap_first rs) && ordered (high + 1) rs m))

ordered_is : (n : ℕ) (rs : List Row) (m : ℕ) → ordered n rs m ≡ true → InOrder n rs m
ordered_is n [] m t = rw (eqb-true n m t) end
ordered_is n (code c e name ∷ rs) m t = rw (eqb-true n c (both_left _ _ t)) (next_code (ordered_is (c + 1) rs m (both_right (eqb n c) _ t)))
ordered_is n (gap low high ∷ rs) m t =
    let u = both_right (eqb n low) _ t in
    let v = both_right (leb low high) _ u in
    rw (eqb-true n low (both_left _ _ t))
    (next_gap (leb-true low high (both_left _ _ u)) (not-true _ (both_left _ (ordered (high + 1) rs m) v))
    (ordered_is (high + 1) rs m (both_right (not (gap_first rs)) _ v)))

-- rows in order have no code below their first
none_below : {a b : ℕ} {rs : List Row} → InOrder a rs b → (k : ℕ) → k < a → rows_in rs k ≡ []
unfolding between
none_below end k h = refl
none_below (next_code {n} o) k h = rw (ne_eqb k n (omega arith)) (none_below o k (omega arith))
none_below (next_gap {low} {high} l g o) k h = rw (lt-leb low k h) (none_below o k (omega arith))

-- and one row of each code from there on
one_in_order : {a b : ℕ} {rs : List Row} → InOrder a rs b → (k : ℕ) → a ≤ k → k < b → rows_in rs k ≡ row_in rs k ∷ []
unfolding between
one_in_order end k l h = absurd (omega arith)
one_in_order (next_code {n} {m} {e} {name} o) k l h =
    by_order n k (λ x. rw (ne_eqb k n (omega arith)) (one_in_order o k (omega arith) h))
    (λ x. rw (eq-eqb k n (sym x)) (ap (λ (rs : List Row). code n e name ∷ rs) (none_below o k (omega arith))))
    (λ x. absurd (omega arith))
one_in_order (next_gap {low} {high} {m} {rs} r g o) k l h =
    by_order high k (λ x. rw (le-leb low k l, lt-leb k high x) (one_in_order o k (omega arith) h)) (λ x. here (omega arith)) (λ x. here (omega arith))
  where
    here : k ≤ high → rows_in (gap low high ∷ rs) k ≡ row_in (gap low high ∷ rs) k ∷ []
    here x = rw (le-leb low k l, le-leb k high x) (ap (λ (rs : List Row). gap low high ∷ rs) (none_below o k (omega arith)))

table_in_order : InOrder 0 table 256
unfolding table
table_in_order = ordered_is 0 table 256 refl

pub laid_out : LaidOut
laid_out = record { in_order = table_in_order; one_row = λ n h. one_in_order table_in_order n (omega arith) h }
