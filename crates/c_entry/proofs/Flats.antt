-- Flat and entry are one to one: each field goes there and back by itself. Assumes nothing.
use Rattle.std.specs.Prelude.{None, Option, Some, MatchOption}
use Rattle.std.specs.Int.{from_bool}
use Prim.Native.Nat.{ℕ, ◌≤◌}
use mathlib.Core.Path.{◌≡◌, refl, sym, ap}
use mathlib.Core.Bool.{Bool, true, false, ◌&&◌}
use native.Mathlib.Omega.{arith}
use native.Mathlib.Decide.{dec_lt}
use lib.Dec.{eqb, leb}
use borrow.Author.Tests.{lt-ltb, le-ltb, leb-true, eqb-true}
use Rattle.tlv.proofs.Pieces.{both_true}
use Rattle.entry.specs.declared.Entry.{Entry}
use Rattle.c_entry.specs.declared.Flat.{Flat}
use Rattle.text.specs.Told.{is}
use Rattle.text.proofs.Told.{by_cases, fixed_by_told}
use Rattle.c_entry.specs.Flat.{absent, flag_number, flat_byte, flat_word, flat_flag, flat_of, byte_of, word_of, entry_of, is_byte, is_word, bytes_in_range, in_range, raised_told, raise_of, ByteFits, WordFits, OptionalsFit}

-- what `or_absent` answers is the optional's number
pub flat_byte_is : (b : Option ℕ) {n : ℕ} → MatchOption b (n ≡ absent) (λ x. n ≡ x) → n ≡ flat_byte b
unfolding flat_byte
flat_byte_is (Some b) h = h
flat_byte_is None h = h

pub flat_word_is : (w : Option ℕ) {n : ℕ} → MatchOption w (n ≡ absent) (λ x. n ≡ x) → n ≡ flat_word w
unfolding flat_word
flat_word_is (Some w) h = h
flat_word_is None h = h

pub flat_flag_is : (f : Option Bool) {n : ℕ} → MatchOption f (n ≡ absent) (λ x. n ≡ from_bool x) → n ≡ flat_flag f
unfolding flat_flag
flat_flag_is (Some true) h = h
flat_flag_is (Some false) h = h
flat_flag_is None h = h

pub dropped_is : (b : Bool) {n : ℕ} → n ≡ from_bool b → n ≡ flag_number b
dropped_is true h = h
dropped_is false h = h

-- an optional's number is in range and gives the optional back
byte_back : (b : Option ℕ) → ByteFits b → byte_of (flat_byte b) ≡ b
unfolding byte_of flat_byte ByteFits
byte_back (Some b) h = rw (lt-ltb b 256 h)
byte_back None h = refl

byte_in : (b : Option ℕ) → ByteFits b → is_byte (flat_byte b) ≡ true
unfolding is_byte flat_byte ByteFits
byte_in (Some b) h = rw (lt-ltb b 256 h)
byte_in None h = refl

word_back : (w : Option ℕ) → WordFits w → word_of (flat_word w) ≡ w
unfolding word_of flat_word WordFits
word_back (Some w) h = rw (lt-ltb w 65536 h)
word_back None h = refl

word_in : (w : Option ℕ) → WordFits w → is_word (flat_word w) ≡ true
unfolding is_word flat_word WordFits
word_in (Some w) h = rw (lt-ltb w 65536 h)
word_in None h = refl

dropped_back : (b : Bool) → eqb (flag_number b) 1 ≡ b
dropped_back true = refl
dropped_back false = refl

dropped_in : (b : Bool) → leb (flag_number b) 1 ≡ true
dropped_in true = refl
dropped_in false = refl

entry_back : (e : Entry) → OptionalsFit e → entry_of (flat_of e) ≡ e
unfolding entry_of flat_of
entry_back e h =
    λ i.
    record {
      task_at = e.task_at;
      task_len = e.task_len;
      pid = e.pid;
      cpu = e.cpu;
      seconds = e.seconds;
      microseconds = e.microseconds;
      function_at = e.function_at;
      function_len = e.function_len;
      kind = e.kind;
      size = e.size;
      dropped = dropped_back e.dropped i;
      domain = e.domain;
      route = e.route;
      offset = word_back e.offset h.offset i;
      code = byte_back e.code h.code i;
      len = word_back e.len h.len i;
      port = byte_back e.port h.port i;
      config = byte_back e.config h.config i;
      seq = byte_back e.seq h.seq i;
      unplug = byte_back e.unplug h.unplug i;
      dwords = e.dwords;
    }

flat_in : (e : Entry) → OptionalsFit e → in_range (flat_of e) ≡ true
unfolding in_range bytes_in_range flat_of
flat_in e h =
    rw (dropped_in e.dropped, word_in e.offset h.offset, word_in e.len h.len, byte_in e.code h.code, byte_in e.port h.port, byte_in e.config h.config, byte_in e.seq h.seq, byte_in e.unplug h.unplug)

-- what flattens is raised again to the same entry
pub raise_flat : (e : Entry) → OptionalsFit e → raise_of (flat_of e) ≡ is e
unfolding raise_of
raise_flat e h = rw (flat_in e h) (ap is (entry_back e h))

-- a number in range comes back from its optional
byte_number : (n : ℕ) → is_byte n ≡ true → flat_byte (byte_of n) ≡ n
unfolding is_byte flat_byte byte_of
byte_number n h =
    elim (dec_lt n 256) [
      | yes l ↦ rw (lt-ltb n 256 l)
      | no l ↦ let m : 256 ≤ n = omega arith in rw (le-ltb n 256 m) (sym (eqb-true n absent (rw (le-ltb n 256 m) at h)))
    ]

word_number : (n : ℕ) → is_word n ≡ true → flat_word (word_of n) ≡ n
unfolding is_word flat_word word_of
word_number n h =
    elim (dec_lt n 65536) [
      | yes l ↦ rw (lt-ltb n 65536 l)
      | no l ↦ let m : 65536 ≤ n = omega arith in rw (le-ltb n 65536 m) (sym (eqb-true n absent (rw (le-ltb n 65536 m) at h)))
    ]

dropped_number : (n : ℕ) → leb n 1 ≡ true → flag_number (eqb n 1) ≡ n
dropped_number n h =
    let l : n ≤ 1 = leb-true n 1 h in
    elim (dec_lt n 1) [
      | yes m ↦ let z : n ≡ 0 = omega arith in rw z
      | no m ↦ let z : n ≡ 1 = omega arith in rw z
    ]

-- only what some entry flattens to is raised, so no second form of an entry is taken
pub flat_back : (f : Flat) → in_range f ≡ true → flat_of (entry_of f) ≡ f
unfolding in_range bytes_in_range flat_of entry_of
flat_back f h =
    let a = both_true (leb f.dropped 1 && is_word f.offset && is_word f.len) (bytes_in_range f) h in
    let b = both_true (leb f.dropped 1 && is_word f.offset) (is_word f.len) a.0 in
    let c = both_true (leb f.dropped 1) (is_word f.offset) b.0 in
    let d = both_true (is_byte f.code && is_byte f.port && is_byte f.config && is_byte f.seq) (is_byte f.unplug) a.1 in
    let e = both_true (is_byte f.code && is_byte f.port && is_byte f.config) (is_byte f.seq) d.0 in
    let g = both_true (is_byte f.code && is_byte f.port) (is_byte f.config) e.0 in
    let k = both_true (is_byte f.code) (is_byte f.port) g.0 in
    λ i.
    record {
      task_at = f.task_at;
      task_len = f.task_len;
      pid = f.pid;
      cpu = f.cpu;
      seconds = f.seconds;
      microseconds = f.microseconds;
      function_at = f.function_at;
      function_len = f.function_len;
      kind = f.kind;
      size = f.size;
      dropped = dropped_number f.dropped c.0 i;
      domain = f.domain;
      route = f.route;
      offset = word_number f.offset c.1 i;
      code = byte_number f.code k.0 i;
      len = word_number f.len b.1 i;
      port = byte_number f.port k.1 i;
      config = byte_number f.config g.1 i;
      seq = byte_number f.seq e.1 i;
      unplug = byte_number f.unplug d.1 i;
      dwords = f.dwords;
    }

-- no second answer to `raise`: two answers that tell the same are the same
pub one_raised : (a b : Option Entry) → raised_told a ≡ raised_told b → a ≡ b
one_raised = fixed_by_told raised_told (by_cases Some None (λ k. None)) same
  where
    same : (a : Option Entry) → by_cases Some None (λ k. None) (raised_told a) ≡ a
    same (Some e) = refl
    same None = refl
