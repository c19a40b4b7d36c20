-- Texts that were said, one behind the other.
use Rattle.entry.specs.declared.events.Event.{Event}
use Rattle.std.specs.Prelude.{ℕ, ◌+◌, ◌≤◌, ◌≡◌, true, List, [], ◌∷◌, ◌++◌, length, None, Option, Some, is_some}
use Rattle.channel.specs.declared.sink.Outlet.{Outlet}
use Rattle.channel.specs.Sink.{Waits, Kept}
use Rattle.entry.specs.Event.{name_of}
use Rattle.escape.specs.Escape.{escaped}

-- a text was said: after a write that failed nothing is put; where there is room for all of it, it waits behind what waited, and nothing is written
pub record Told (s : Outlet) (text : List ℕ) (r : Outlet) : Type 0 where
  pub after_fault : is_some s.sink.fault ≡ true → r ≡ s
  pub waits : s.sink.fault ≡ None → s.sink.at + length text ≤ length s.out.now → Waits s.out.now s.sink.at text r.out.now s.sink.whole r.sink
  pub kept : Kept s r

-- a word and then a name as it is shown; nothing for no name
unfoldable pub name_text : List ℕ → List ℕ → List ℕ
name_text word [] = []
name_text word (b ∷ s) = word ++ escaped (b ∷ s)

-- a word and then the name that an event prints; nothing for no event
unfoldable pub event_text : List ℕ → Option Event → List ℕ
event_text word (Some e) = word ++ name_of e
event_text word None = []
