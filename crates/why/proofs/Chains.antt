-- Rows said one behind the other are the rows of all that was found, and their counts add up. Assumes nothing.
use Prim.Native.Nat.{ℕ, ◌+◌}
use mathlib.Core.Path.{◌≡◌, refl, sym, ap, ◌∙◌}
use mathlib.Core.List.{List, [], ◌∷◌, ◌++◌}
use native.Mathlib.Omega.{arith}
use lib.ListN.{length, take, drop}
use lib.Seq.{sets-eq, take_at}
use Rattle.std.specs.Prelude.{Option, None, Some, is_some}
use Rattle.text.proofs.Places.{clash}
use Rattle.text.specs.declared.number.BadNumber.{BadNumber}
use Rattle.print.specs.declared.page.Page.{Page}
use Rattle.channel.specs.declared.sink.Outlet.{Outlet}
use Rattle.channel.specs.declared.fault.Fault.{Fault}
use Rattle.channel.specs.Sink.{FlushedThrough}
use Rattle.listing_rows.specs.Rows.{Put, PutOn}
use Rattle.why_rows.specs.declared.tally.Counts.{Counts}
use Rattle.why_rows.specs.Rows.{row_text}
use Rattle.why_rows.specs.Tally.{tally}
use Rattle.why.specs.declared.asking.Asking.{Asking}
use Rattle.why.specs.Finding.{Finding}
use Rattle.why.specs.Saying.{SaidAll, rows_of, tallied, Gone}

rows_append : (n : ℕ) (fs gs : List Finding) → rows_of n (fs ++ gs) ≡ rows_of n fs ++ rows_of n gs
unfolding rows_of
rows_append n [] gs = refl
rows_append n (f ∷ fs) gs = ap (λ (l : List (List ℕ)). row_text n f.what f.text f.reason ∷ l) (rows_append n fs gs)

tallied_append : (c : Counts) (fs gs : List Finding) → tallied c (fs ++ gs) ≡ tallied (tallied c fs) gs
unfolding tallied
tallied_append c [] gs = refl
tallied_append c (f ∷ fs) gs = tallied_append (tally c f.reason) fs gs

said_then : {m r : Outlet} {more : List (List ℕ)} {sink : Outlet} {rows : List (List ℕ)} → SaidAll m sink rows → SaidAll r m more → SaidAll r sink (rows ++ more)
said_then (SaidAll.none q) y = rw (← q) y
said_then (SaidAll.next x xs) y = SaidAll.next x (said_then xs y)

-- the rows of a line leave its number
line_kept : (c : Counts) (y : BadNumber) → (tally c y).lines ≡ c.lines
unfolding tally
line_kept c BadNumber.Empty = refl
line_kept c (BadNumber.BadDigit k) = refl
line_kept c BadNumber.TooWide = refl

lines_kept : (c : Counts) (fs : List Finding) → (tallied c fs).lines ≡ c.lines
unfolding tallied
lines_kept c [] = refl
lines_kept c (f ∷ fs) = lines_kept (tally c f.reason) fs ∙ line_kept c f.reason

pub gone_none : {d : Asking} → Gone d [] d
unfolding rows_of tallied
gone_none = record { says = SaidAll.none refl; counts = refl }

pub gone_same : {d r : Asking} {fs gs : List Finding} → fs ≡ gs → Gone d fs r → Gone d gs r
gone_same e x = rw (← e) x

-- one list behind another
pub gone_then : {d m r : Asking} {fs gs : List Finding} → Gone d fs m → Gone m gs r → Gone d (fs ++ gs) r
gone_then {d} {m} {r} {fs} {gs} x y =
    let n : m.counts.lines ≡ d.counts.lines = ap (λ (c : Counts). c.lines) x.counts ∙ lines_kept d.counts fs in
    record {
      says = rw (rows_append d.counts.lines fs gs) (said_then x.says (rw n at y.says));
      counts = y.counts ∙ ap (λ (c : Counts). tallied c gs) x.counts ∙ sym (tallied_append d.counts fs gs);
    }

-- a row that was put on a page
put_taken : {out s exit : List ℕ} {at r : ℕ} → at ≡ 0 → Put out at s exit r → take r exit ≡ s
put_taken {out} {s} {exit} {at} {r} z x =
    let p : Put out 0 s exit r = rw z at x in
    let e : r ≡ length s = omega (arith, p.place) in
    rw (e, p.buffer, sets-eq s out 0 p.fits) (take_at s (drop (0 + length s) out) (length s) refl)

pub row_alone : {p q : Page} {row : List ℕ} → p.at ≡ 0 → PutOn p row q → take q.at q.out.now ≡ row
row_alone z x = put_taken z x.put

-- what was flushed waits no more, unless a write failed
pub flushed_out : {s r : Outlet} → FlushedThrough s r → r.sink.fault ≡ None → r.sink.at ≡ 0
flushed_out {s} {r} x e = go s.sink.fault refl
  where
    go : (o : Option Fault) → s.sink.fault ≡ o → r.sink.at ≡ 0
    go None n = (x.flushed.passed n).empty
    go (Some f) n = absurd (clash (ap is_some n) (ap is_some (sym (ap (λ (t : Outlet). t.sink.fault) (x.after_fault (ap is_some n))) ∙ e)))
