-- A row that was put at the start of a page is what the page holds. Assumes nothing.
use Prim.Native.Nat.{ℕ, ◌+◌}
use mathlib.Core.Path.{◌≡◌, refl}
use mathlib.Core.List.{List}
use native.Mathlib.Omega.{arith}
use lib.ListN.{length, take, drop}
use lib.Seq.{sets-eq, take_at}
use Rattle.print.specs.declared.page.Page.{Page}
use Rattle.listing_rows.specs.Rows.{Put, PutOn}

put_taken : {out s exit : List ℕ} {at r : ℕ} → at ≡ 0 → Put out at s exit r → take r exit ≡ s
put_taken {out} {s} {exit} {at} {r} z x =
    let p : Put out 0 s exit r = rw z at x in
    let e : r ≡ length s = omega (arith, p.place) in
    rw (e, p.buffer, sets-eq s out 0 p.fits) (take_at s (drop (0 + length s) out) (length s) refl)

-- its text is the row
pub row_alone : {p q : Page} {row : List ℕ} → p.at ≡ 0 → PutOn p row q → take q.at q.out.now ≡ row
row_alone z x = put_taken z x.put
