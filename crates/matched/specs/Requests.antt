-- The plain list of waiting requests, the oldest first, and what an entry does to it. There are n places. Of slots and ranks it knows nothing: the case of a rank
-- stands for what no entry asks.
use Rattle.std.specs.Prelude.{ℕ, Bool, false, cond, ◌||◌, List, [], ◌∷◌, ◌++◌, length, take, ltb}
use Rattle.entry.specs.declared.Entry.{Entry}
use Rattle.slots.specs.declared.Four.{Four}
use Rattle.slots.specs.declared.ask.Ask.{Ask}
use Rattle.slots.specs.declared.ask.Ask.TheVariants as A
use Rattle.slots.specs.Ask.{ask_of}
use Rattle.slots.specs.Look.{same_four}
use Rattle.pending.specs.Words.{Word, dropped, other, no_seq, taken, turned_away, answered, stray}

-- some request of the list has the four
unfoldable pub has : Four → List Four → Bool
has four [] = false
has four (x ∷ l) = same_four x four || has four l

-- the list without its oldest request that has the four
unfoldable pub without : Four → List Four → List Four
without four [] = []
without four (x ∷ l) = cond (same_four x four) l (x ∷ without four l)

-- how an entry is reported: dropped; else other; else no `seq`; else taken, or turned away when no place is free; else answered, or stray when no
-- request has the four. No entry asks for a rank.
unfoldable pub word_of : ℕ → Ask → List Four → Word
word_of n A.Dropped l = dropped
word_of n A.Other l = other
word_of n A.NoSeq l = no_seq
word_of n (A.Request four) l = cond (ltb (length l) n) taken turned_away
word_of n (A.Response four) l = cond (has four l) answered stray
word_of n (A.Rank k) l = other

-- the list after it: a request comes last, and the list is cut to the n places; a response takes the oldest with the four
unfoldable pub next_of : ℕ → Ask → List Four → List Four
next_of n A.Dropped l = l
next_of n A.Other l = l
next_of n A.NoSeq l = l
next_of n (A.Request four) l = take n (l ++ (four ∷ []))
next_of n (A.Response four) l = without four l
next_of n (A.Rank k) l = l

-- entry after entry: what is reported of each, and what waits in the end
unfoldable pub words_of : ℕ → List Entry → List Four → List Word
words_of n [] l = []
words_of n (e ∷ es) l = word_of n (ask_of e) l ∷ words_of n es (next_of n (ask_of e) l)

unfoldable pub left_of : ℕ → List Entry → List Four → List Four
left_of n [] l = l
left_of n (e ∷ es) l = left_of n es (next_of n (ask_of e) l)
