-- Texts that are said one behind the other are their concatenation said at once, since each waits where the one before it ended. Assumes nothing.
use Prim.Native.Nat.{ℕ, ◌+◌, ◌≤◌}
use mathlib.Core.Path.{◌≡◌, refl, sym, ap, ◌∙◌}
use mathlib.Core.Bool.{true}
use mathlib.Core.List.{List, [], ◌∷◌, ◌++◌, append-nil, append_assoc}
use native.Mathlib.Omega.{arith}
use lib.ListN.{length, take, drop, length-append}
use lib.Seq.{sets-eq, take_at}
use Rattle.std.proofs.lemmas.List.{take-append-drop}
use Rattle.std.specs.Prelude.{Option, Some, None, is_some}
use Rattle.entry.specs.declared.events.Event.{Event}
use Rattle.print.specs.declared.page.Page.{Page}
use Rattle.print.specs.Page.{Puts}
use Rattle.channel.specs.declared.sink.Sink.{Sink}
use Rattle.channel.specs.declared.sink.Outlet.{Outlet}
use Rattle.channel.specs.Sink.{Waits, Kept, SaidThrough}
use Rattle.listing_rows.specs.Rows.{Put, PutOn}
use Rattle.listing_rows.proofs.Putting.{put_whole, put_then}
use Rattle.escape.specs.Escape.{escaped}
use Rattle.saying.specs.Telling.{Told, name_text, event_text}
use Rattle.escape.proofs.Escaping.{escaped_append}

-- what `say` says
pub said_told : {s r : Outlet} {text : List ℕ} → SaidThrough s text r → Told s text r
said_told x = record { after_fault = x.after_fault; waits = x.said.behind; kept = x.kept }

pub nothing_told : {s : Outlet} → Told s [] s
nothing_told {s} =
    record {
      after_fault = λ h. refl;
      waits = λ e h. record { buffer = refl; place = omega arith; rows = refl; sound = e };
      kept = record { to = refl; same = refl; size = refl; within = λ h. h };
    }

pub told_same : {s r : Outlet} {a b : List ℕ} → a ≡ b → Told s a r → Told s b r
told_same e p = rw (← e) p

waits_put : {out text exit : List ℕ} {at whole : ℕ} {r : Sink} → at + length text ≤ length out → Waits out at text exit whole r → Put out at text exit r.at
waits_put h w = record { fits = h; buffer = w.buffer; place = w.place }

kept_then : {s m r : Outlet} → Kept s m → Kept m r → Kept s r
kept_then x y = record { to = y.to ∙ x.to; same = y.same ∙ x.same; size = y.size ∙ x.size; within = λ h. y.within (x.within h) }

-- one text behind another
pub told_then : {s m r : Outlet} {a b : List ℕ} → Told s a m → Told m b r → Told s (a ++ b) r
told_then {s} {m} {r} {a} {b} x y = record { after_fault = fault; waits = both; kept = kept_then x.kept y.kept }
  where
    fault : is_some s.sink.fault ≡ true → r ≡ s
    fault h = let p = x.after_fault h in y.after_fault (rw p h) ∙ p

    both : s.sink.fault ≡ None → s.sink.at + length (a ++ b) ≤ length s.out.now → Waits s.out.now s.sink.at (a ++ b) r.out.now s.sink.whole r.sink
    both e h =
        let fits : s.sink.at + length a ≤ length s.out.now = omega (arith, length-append a b) in
        let w = x.waits e fits in
        let more : m.sink.at + length b ≤ length m.out.now = omega (arith, length-append a b, w.place, x.kept.size) in
        let v = y.waits w.sound more in
        let p = put_then (waits_put fits w) (waits_put more v) in
        record { buffer = p.buffer; place = p.place; rows = v.rows ∙ w.rows; sound = v.sound }

-- what was put at the front is the text
pub put_front : {out s exit : List ℕ} {r : ℕ} → Put out 0 s exit r → take r exit ≡ s
put_front {out} {s} {exit} {r} p =
    let e : r ≡ length s = omega (arith, p.place) in
    ap (take r) (p.buffer ∙ sets-eq s out 0 p.fits) ∙ take_at s (drop (0 + length s) out) r (sym e)

-- a text that was put on an empty page is what the page has
pub page_front : {p q : Page} {s : List ℕ} → p.at ≡ 0 → PutOn p s q → take q.at q.out.now ≡ s
page_front e x = put_front (rw e at x.put)

pub put_front_on : {p q : Page} {s : List ℕ} → p.at ≡ 0 → length s ≤ length p.out.now → Puts p s q → take q.at q.out.now ≡ s
put_front_on {p} {q} e h x = page_front {p = p} {q = q} e (record { put = put_whole (omega arith) x.placed; same = x.same })

pub no_name : (word name : List ℕ) → length name ≡ 0 → [] ≡ name_text word name
unfolding name_text
no_name word [] e = refl
no_name word (b ∷ s) e = absurd (omega arith)

-- so where there is no name, nothing said is all that is to be said
pub no_name_said : (word name : List ℕ) (s : Outlet) → length name ≡ 0 → Told s (name_text word name) s
no_name_said word name s e = told_same (no_name word name e) nothing_told

some_name : (word name : List ℕ) → (length name ≡ 0 → ⊥) → word ++ escaped name ≡ name_text word name
unfolding name_text
some_name word [] h = absurd (h refl)
some_name word (b ∷ s) h = refl

-- a name is said piece after piece: of what was said since the word, the bytes in front of the rest
pub record Pieces (s : Outlet) (name : List ℕ) (r : Outlet) (rest : List ℕ) : Type 0 where
  pub front : List ℕ
  pub is : front ++ rest ≡ name
  pub told : Told s (escaped front) r

module _ (s : Outlet) (name : List ℕ) where
  pub pieces_start : Pieces s name s name
  unfolding escaped
  pieces_start = record { front = []; is = refl; told = nothing_told }

  pub pieces_step : {m r : Outlet} {rest : List ℕ} (n : ℕ) → Pieces s name m rest → Told m (escaped (take n rest)) r → Pieces s name r (drop n rest)
  pieces_step {m} {r} {rest} n x y =
      record {
        front = x.front ++ take n rest;
        is = append_assoc x.front (take n rest) (drop n rest) ∙ ap (λ (l : List ℕ). x.front ++ l) (take-append-drop n rest) ∙ x.is;
        told = told_same (sym (escaped_append x.front (take n rest))) (told_then x.told y);
      }

nil : (l : List ℕ) → length l ≡ 0 → l ≡ []
nil [] e = refl
nil (x ∷ l) e = absurd (omega arith)

pub pieces_end : (s : Outlet) (name : List ℕ) {word rest : List ℕ} {m r : Outlet} → (length name ≡ 0 → ⊥) → SaidThrough s word m → Pieces m name r rest → length rest ≡ 0 → Told s (name_text word name) r
pieces_end s name {word} {rest} some x y e =
    let whole : y.front ≡ name = sym (append-nil y.front) ∙ ap (λ (l : List ℕ). y.front ++ l) (sym (nil rest e)) ∙ y.is in
    told_same (some_name word name some) (told_then (said_told x) (told_same (ap escaped whole) y.told))

pub no_event : (word : List ℕ) (o : Option Event) (s : Outlet) → ((e : Event) → o ≡ Some e → ⊥) → Told s (event_text word o) s
unfolding event_text
no_event word None s h = nothing_told
no_event word (Some e) s h = absurd (h e refl)
