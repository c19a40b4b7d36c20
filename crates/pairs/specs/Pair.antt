-- The pairs of a payload, and the last pair of a key.
use Rattle.std.specs.Prelude.{ℕ, zero, suc, ◌+◌, ◌-◌, ◌≤◌, ◌<◌, ◌≡◌, Bool, true, false, cond, ◌&&◌, List, [], ◌∷◌, ◌++◌, ltb, length, get_or, take, drop, IfSome, None, Option, Some}
use Rattle.text.specs.declared.class.Class.TheVariants.{NotClose}
use Rattle.text.specs.Class.{is_word, in_class}
use Rattle.text.specs.Number.{number_of, hex_number_of}
use Rattle.text.specs.Place.{first_place, is_at}
use Rattle.text.specs.Run.{Inside, Run, run_end}
use Rattle.text.specs.Same.{same_text}
use Rattle.pairs.specs.declared.pair.Hit.{Hit}
use Rattle.pairs.specs.declared.pair.Span.{Span}

-- a part by its places, and a pair by its own
abbrev pub span : ℕ → ℕ → Option Span
span a b = Some (record { from = a; to = b })

abbrev pub hit : ℕ → ℕ → ℕ → Option Hit
hit i m e = Some (record { key = i; equals = m; end = e })

-- the part of s from a up to b
abbrev pub part : List ℕ → ℕ → ℕ → List ℕ
part s a b = take (b - a) (drop a s)

-- a value from v to e: a word run, or `[`, one or more bytes other than `]`, `]`
pub data Value (s : List ℕ) (v e : ℕ) : Type 0 where
  word : v < e → Run is_word s v e → Value s v e
  bracket : (c : ℕ) → get_or s v 0 ≡ 91 → v + 1 < c → Inside (in_class NotClose) s (v + 1) c → get_or s c 0 ≡ 93 →
      e ≡ c + 1 → Value s v e

-- a match from i to e: word run, `=` at m, value
pub record PairAt (s : List ℕ) (i m e : ℕ) : Type 0 where
  pub some : i < m
  pub key : Run is_word s i m
  pub equals : get_or s m 0 ≡ 61
  pub value : Value s (m + 1) e

-- the next match from a place on: none starts before it
pub record FirstPair (s : List ℕ) (from i m e : ℕ) : Type 0 where
  pub up : from ≤ i
  pub here : PairAt s i m e
  pub before : (k l f : ℕ) → from ≤ k → k < i → PairAt s k l f → ⊥

-- no match starts from a place on
abbrev pub NoPair : List ℕ → ℕ → Type 0
NoPair s from = (k l f : ℕ) → from ≤ k → PairAt s k l f → ⊥

-- the pairs from a place on: from the left, each next match, and the next search starts where the last ended
pub data Pairs (s : List ℕ) : ℕ → List Hit → Type 0 where
  none : {from : ℕ} → NoPair s from → Pairs s from []
  next : {from : ℕ} {p : Hit} {l : List Hit} → FirstPair s from p.key p.equals p.end →
      Pairs s p.end l → Pairs s from (p ∷ l)

-- the text of a pair's key
abbrev pub key_of : List ℕ → Hit → List ℕ
key_of s p = part s p.key p.equals

-- no pair of the list has the key
pub data Lacks (s key : List ℕ) : List Hit → Type 0 where
  empty : Lacks s key []
  other : {p : Hit} {l : List Hit} → (key_of s p ≡ key → ⊥) → Lacks s key l → Lacks s key (p ∷ l)

-- the last pair of the key has its value from v to e
pub record LastPair (s key : List ℕ) (v e : ℕ) : Type 0 where
  pub before : List Hit
  pub last : Hit
  pub after : List Hit
  pub all : Pairs s 0 (before ++ (last ∷ after))
  pub is_key : key_of s last ≡ key
  pub none_after : Lacks s key after
  pub from : v ≡ last.equals + 1
  pub to : e ≡ last.end

-- no pair has the key
pub record KeyMissing (s key : List ℕ) : Type 0 where
  pub pairs : List Hit
  pub all : Pairs s 0 pairs
  pub none : Lacks s key pairs

-- where the brackets from v on end, if they stand there
unfoldable pub bracket_end : List ℕ → ℕ → Option ℕ
bracket_end s v =
    let c : ℕ = run_end (in_class NotClose) s (v + 1) in
    cond (is_at 91 s v && ltb (v + 1) c && ltb c (length s)) (Some (c + 1)) None

-- where the value from v on ends, if one stands there
unfoldable pub value_end : List ℕ → ℕ → Option ℕ
value_end s v = cond (ltb v (run_end is_word s v)) (Some (run_end is_word s v)) (bracket_end s v)

-- a key and its value together
unfoldable pub with_value : ℕ → ℕ → Option ℕ → Option Hit
with_value i m (Some e) = hit i m e
with_value i m None = None

-- the match whose word run is from i to m, if `=` and a value follow
unfoldable pub pair_with : List ℕ → ℕ → ℕ → Option Hit
pair_with s i m = cond (ltb i m && is_at 61 s m) (with_value i m (value_end s (m + 1))) None

-- the match that starts at i, if one does
unfoldable pub pair_at : List ℕ → ℕ → Option Hit
pair_at s i = pair_with s i (run_end is_word s i)

-- a match was found
unfoldable pub is_hit : Option Hit → Bool
is_hit (Some p) = true
is_hit None = false

-- the match at a place that was found
unfoldable pub pair_from : List ℕ → Option ℕ → Option Hit
pair_from s (Some i) = pair_at s i
pair_from s None = None

-- the next match from a place on
unfoldable pub next_pair : List ℕ → ℕ → Option Hit
next_pair s from = pair_from s (first_place (λ (i : ℕ). is_hit (pair_at s i)) (length s) from)

-- a match in front of those that come from its end on
unfoldable pub followed : (ℕ → List Hit) → Option Hit → List Hit
followed rest (Some p) = p ∷ rest p.end
followed rest None = []

-- the first n pairs from a place on
unfoldable pub pairs_within : ℕ → List ℕ → ℕ → List Hit
pairs_within zero s from = []
pairs_within (suc n) s from = followed (pairs_within n s) (next_pair s from)

-- the pairs from a place on: there are no more of them than bytes
unfoldable pub pairs_from : List ℕ → ℕ → List Hit
pairs_from s from = pairs_within (length s - from) s from

-- the value of a pair that has the key, else the best so far
unfoldable pub newer : List ℕ → List ℕ → Option Span → Hit → Option Span
newer s key best p = cond (same_text (key_of s p) key) (span (p.equals + 1) p.end) best

-- the value of the last pair of the list that has the key, else the best so far
unfoldable pub last_in : List ℕ → List ℕ → Option Span → List Hit → Option Span
last_in s key best [] = best
last_in s key best (p ∷ l) = last_in s key (newer s key best p) l

-- the value of the last pair of the key
unfoldable pub last_pair : List ℕ → List ℕ → Option Span
last_pair s key = last_in s key None (pairs_from s 0)

-- the decimal number in a part of s
unfoldable pub decimal_in : List ℕ → ℕ → Option Span → Option ℕ
decimal_in s limit (Some w) = number_of 10 limit (part s w.from w.to)
decimal_in s limit None = None

-- the last pair of the key, in decimal
unfoldable pub decimal_of : List ℕ → List ℕ → ℕ → Option ℕ
decimal_of s key limit = decimal_in s limit (last_pair s key)

-- the hex number in a part of s
unfoldable pub hex_in : List ℕ → ℕ → Option Span → Option ℕ
hex_in s limit (Some w) = hex_number_of limit (part s w.from w.to)
hex_in s limit None = None

-- the last pair of the key, in hex
unfoldable pub hex_at : List ℕ → List ℕ → ℕ → Option ℕ
hex_at s key limit = hex_in s limit (last_pair s key)

-- an answer is the next pair; its places rise within the text, which spares callers the argument
pub record NextPair (s : List ℕ) (from : ℕ) (r : Option Hit) : Type 0 where
  pub is : r ≡ next_pair s from
  pub rise : IfSome r (λ p. (from ≤ p.key) × (p.key < p.equals) × (p.equals + 1 < p.end) × (p.end ≤ length s))

-- an answer is the last pair's value; it lies within the text, which spares callers the argument
pub record ValueAt (s key : List ℕ) (r : Option Span) : Type 0 where
  pub is : r ≡ last_pair s key
  pub within : IfSome r (λ w. (w.from < w.to) × (w.to ≤ length s))
