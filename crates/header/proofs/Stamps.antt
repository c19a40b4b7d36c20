-- The timestamp: looking back from a colon finds the two digit runs of the stamp that ends there, and stamps come in the order of their
-- colons, so the first colon that ends one ends the first; and that is the sentence's first whole run. Assumes nothing.
use Rattle.std.specs.Prelude.{None, Option, Some}
use Prim.Native.Nat.{ℕ, zero, suc, ◌+◌, ◌-◌, ◌^◌, ◌≤◌, ◌<◌}
use Rattle.std.proofs.lemmas.Option.{none-some, same_Some}
use mathlib.Core.Path.{◌≡◌, refl, sym, ap, ◌∙◌}
use mathlib.Core.Bool.{Bool, true, false, not, ◌&&◌}
use mathlib.Core.List.{List}
use native.Mathlib.Omega.{arith}
use lib.Dec.{ltb, eqb}
use lib.ListN.{length, get_or, take, drop}
use lib.Seq.{get_or-take, length-take-le}
use borrow.Author.Tests.{lt-ltb, eq-eqb, ltb-true, eqb-true, not-true}
use Rattle.text.specs.Class.{between, is_digit, is_blank}
use Rattle.text.specs.Number.{number_of}
use Rattle.text.specs.Place.{First, is_at, first_place, first_byte, byte_before}
use Rattle.text.specs.Run.{Inside, RunBack, run_end, run_start}
use Rattle.text.proofs.Places.{by_order, clash, first_is, first_all, first_none, first_free, before_none, before_some, stands_within}
use Rattle.text.proofs.Runs.{run_is, run_all, back_is, back_all}
use Rattle.text.proofs.Texts.{both_left, both_right}
use Rattle.text.proofs.Numbers.{number_is, number_all}
use Rattle.header.specs.declared.stamp.Stamp.{Stamp}
use Rattle.header.specs.declared.stamp.Parts.{Parts}
use Rattle.header.specs.Stamp.{StampAt, Timestamp, followed, stamp_at, both_read, read_stamp, stamp_from, stamp_of, PartsBefore}

zero_is_no_digit : is_digit 0 ≡ false
unfolding is_digit between
zero_is_no_digit = refl

dot_is_no_digit : is_digit 46 ≡ false
unfolding is_digit between
dot_is_no_digit = refl

colon_is_no_digit : is_digit 58 ≡ false
unfolding is_digit between
colon_is_no_digit = refl

module _ (h : List ℕ) where
  -- the digits right before place e start at i
  record DigitsBefore (i e : ℕ) : Type 0 where
    up : i ≤ e
    inside : Inside is_digit h i e
    starts : is_digit (byte_before h i) ≡ false

  -- code looks back in the part before e
  module _ (e : ℕ) (e-within : e ≤ length h) where
    size : length (take e h) ≡ e
    size = length-take-le e h e-within

    same_byte : (k : ℕ) → k < e → get_or (take e h) k 0 ≡ get_or h k 0
    same_byte k l = get_or-take e h k 0 l

    digits_are : (i : ℕ) → i ≡ run_start is_digit (take e h) → DigitsBefore i e
    unfolding byte_before
    digits_are i i-is =
        let r : RunBack is_digit (take e h) i = rw i-is (back_is is_digit (take e h)) in
        record {
          up = omega (arith, r.within, size);
          inside = λ k a b. rw (← same_byte k b) (r.inside k a (omega (arith, size)));
          starts = first-digit i r;
        }
      where
        first-digit : (i : ℕ) → RunBack is_digit (take e h) i → is_digit (byte_before h i) ≡ false
        first-digit zero r = zero_is_no_digit
        first-digit (suc m) r = rw (← same_byte m (omega (arith, r.within, size))) (r.stops m refl)

    digits_one : (i : ℕ) → DigitsBefore i e → run_start is_digit (take e h) ≡ i
    unfolding byte_before
    digits_one i r =
        back_all is_digit (take e h) i
        (record {
          within = omega (arith, r.up, size);
          inside = λ k a b. let l : k < e = omega (arith, size) in rw (same_byte k l) (r.inside k a l);
          stops = λ k q. let l : k < e = omega (arith, r.up) in rw (same_byte k l) (no_digit k q);
        })
      where
        no_digit : (k : ℕ) → i ≡ suc k → is_digit (get_or h k 0) ≡ false
        no_digit k q = rw q at r.starts

  -- the byte before the place behind j stands at j
  byte_behind : (j : ℕ) → byte_before h (j + 1) ≡ get_or h j 0
  byte_behind j = let back : j + 1 - 1 ≡ j = omega arith in rw back at (before_some h (j + 1) (omega arith))

  -- looking back from a stamp's colon finds its two runs
  module _ (i j c : ℕ) (r : StampAt h i j c) where
    second_start : run_start is_digit (take c h) ≡ j + 1
    second_start =
        digits_one c r.digits.within (j + 1)
        (record {
          up = r.digits.from;
          inside = r.digits.inside;
          starts = rw (byte_behind j, r.dot) dot_is_no_digit;
        })

    first_start : run_start is_digit (take j h) ≡ i
    first_start =
        digits_one j r.whole.within i
        (record { up = r.whole.from; inside = r.whole.inside; starts = r.starts })

  -- a colon stands within the text, and a dot before a place makes it another than the first
  pub colon_within : {c : ℕ} → get_or h c 0 ≡ 58 → c < length h
  colon_within {c} e = stands_within h c (λ z. absurd (omega arith))

  pub dot_before : {k : ℕ} → byte_before h k ≡ 46 → 0 < k
  dot_before {k} e =
      by_order 0 k (λ l. l) (λ q. absurd (omega (arith, before_none h (sym q)))) (λ l. absurd (omega arith))

  -- the ways of the look back from a colon, with the places as code has them
  module _ (c : ℕ) where
    pub no_blank : is_blank (get_or h (c + 1) 0) ≡ false → PartsBefore h c None
    unfolding PartsBefore
    no_blank f i j r = clash r.blank f

    module _ (k : ℕ) (k-is : k ≡ run_start is_digit (take c h)) where
      pub no-microseconds : k ≡ c → PartsBefore h c None
      unfolding PartsBefore
      no-microseconds e i j r = absurd (omega (arith, k-is, r.more, second_start i j c r))

      pub no-dot : (byte_before h k ≡ 46 → ⊥) → PartsBefore h c None
      unfolding PartsBefore
      no-dot n i j r = n (rw (k-is ∙ second_start i j c r) (byte_behind j ∙ r.dot))

      module _ (dot : ℕ) (dot-is : k ≡ dot + 1) (from : ℕ) (from_is : from ≡ run_start is_digit (take dot h)) where
        pub no-seconds : from ≡ dot → PartsBefore h c None
        unfolding PartsBefore
        no-seconds e i j r =
            let same : j ≡ dot = omega (arith, k-is, second_start i j c r) in
            let start : run_start is_digit (take dot h) ≡ i = rw same at (first_start i j c r) in
            absurd (omega (arith, r.some))

        pub both_runs : k < c → byte_before h k ≡ 46 → get_or h c 0 ≡ 58 → is_blank (get_or h (c + 1) 0) ≡ true → (from ≡ dot → ⊥) → PartsBefore h c (Some (record { from = from; dot = dot }))
        unfolding PartsBefore
        both_runs some point colon blank n =
            let l : c < length h = colon_within colon in
            let dot-there : get_or h dot 0 ≡ 46 = sym (byte_behind dot) ∙ rw dot-is at point in
            let second : DigitsBefore k c = digits_are c (omega arith) k k-is in
            let one : DigitsBefore from dot = digits_are dot (omega arith) from from_is in
            record {
              starts = one.starts;
              some = by_order from dot (λ q. q) (λ q. absurd (n q)) (λ q. absurd (omega (arith, one.up)));
              whole = record { from = one.up; within = omega arith; inside = one.inside; stops = λ q. rw dot-there dot_is_no_digit };
              dot = dot-there;
              more = omega arith;
              digits = record { from = omega arith; within = omega arith; inside = λ m a b. second.inside m (omega arith) b; stops = λ q. rw colon colon_is_no_digit };
              colon = colon;
              blank = blank;
            }

    -- what is told, by its two cases
    pub parts_some : {p : Option Parts} {parts : Parts} → PartsBefore h c p → p ≡ Some parts → StampAt h parts.from parts.dot c
    unfolding PartsBefore
    parts_some r e = rw e at r

    pub parts_none : {p : Option Parts} → PartsBefore h c p → p ≡ None → PartsBefore h c None
    parts_none r e = rw e at r

  -- the two runs of a stamp, as code cuts and reads them
  seconds_none : (u : Option ℕ) → both_read None u ≡ None
  unfolding both_read
  seconds_none (Some u) = refl
  seconds_none None = refl

  microseconds_none : (s : Option ℕ) → both_read s None ≡ None
  unfolding both_read
  microseconds_none (Some s) = refl
  microseconds_none None = refl

  module _ (i j k : ℕ) (j-is : j ≡ run_end is_digit h i) (k-is : k ≡ run_end is_digit h (j + 1)) where
    pub read_none : number_of 10 (2 ^ 63 - 1) (take (j - i) (drop i h)) ≡ None → None ≡ read_stamp h i
    unfolding read_stamp
    read_none e = rw (← j-is, ← k-is, e) (sym (seconds_none _))

    pub read_half : number_of 10 (2 ^ 63 - 1) (take (k - (j + 1)) (drop (j + 1) h)) ≡ None → None ≡ read_stamp h i
    unfolding read_stamp
    read_half e = rw (← j-is, ← k-is, e) (sym (microseconds_none _))

    pub read_both : {s u : ℕ} → number_of 10 (2 ^ 63 - 1) (take (j - i) (drop i h)) ≡ Some s → number_of 10 (2 ^ 63 - 1) (take (k - (j + 1)) (drop (j + 1) h)) ≡ Some u → Some (record { seconds = s; microseconds = u }) ≡ read_stamp h i
    unfolding read_stamp both_read
    read_both a b = rw (← j-is, ← k-is, a, b)

  pub stamp_some : {i : ℕ} → first_place (stamp_at h) (length h) 0 ≡ Some i → read_stamp h i ≡ stamp_of h
  unfolding stamp_of stamp_from
  stamp_some e = rw e

  pub stamp_none : first_place (stamp_at h) (length h) 0 ≡ None → None ≡ stamp_of h
  unfolding stamp_of stamp_from
  stamp_none e = rw e

  -- a place starts a stamp exactly where the sentence's record stands
  pub stamp_at_all : (i j k : ℕ) → StampAt h i j k → stamp_at h i ≡ true
  unfolding stamp_at followed
  stamp_at_all i j k r =
      rw (r.starts, run_all is_digit h r.whole, lt-ltb i j r.some, run_all is_digit h r.digits, eq-eqb _ _ r.dot, lt-ltb (j + 1) k r.more, eq-eqb _ _ r.colon) r.blank

  pub stamp_at_is : (i : ℕ) → i < length h → stamp_at h i ≡ true → StampAt h i (run_end is_digit h i) (run_end is_digit h (run_end is_digit h i + 1))
  unfolding stamp_at followed
  stamp_at_is i l t =
      let j : ℕ = run_end is_digit h i in
      let k : ℕ = run_end is_digit h (j + 1) in
      let front = both_left _ _ t in
      let rest : (eqb (get_or h j 0) 46 && ltb (j + 1) k && eqb (get_or h k 0) 58 && is_blank (get_or h (k + 1) 0)) ≡ true = both_right (not (is_digit (byte_before h i)) && ltb i j) _ t in
      let three = both_left _ _ rest in
      let two = both_left _ _ three in
      let dot : get_or h j 0 ≡ 46 = eqb-true _ _ (both_left _ _ two) in
      let in-text : j < length h = stands_within h j (λ e. absurd (omega arith)) in
      record {
        starts = not-true _ (both_left _ _ front);
        some = ltb-true _ _ (both_right (not (is_digit (byte_before h i))) _ front);
        whole = run_is is_digit h (omega arith);
        dot = dot;
        more = ltb-true _ _ (both_right (eqb (get_or h j 0) 46) _ two);
        digits = run_is is_digit h (omega arith);
        colon = eqb-true _ _ (both_right (eqb (get_or h j 0) 46 && ltb (j + 1) k) _ three);
        blank = both_right (eqb (get_or h j 0) 46 && ltb (j + 1) k && eqb (get_or h k 0) 58) _ rest;
      }

  -- where no stamp starts, the test fails
  no_stamp_at : (i : ℕ) → i < length h → ((j k : ℕ) → StampAt h i j k → ⊥) → stamp_at h i ≡ false
  no_stamp_at i l n = go (stamp_at h i) refl
    where
      go : (b : Bool) → stamp_at h i ≡ b → b ≡ false
      go true t = absurd (n _ _ (stamp_at_is i l t))
      go false t = refl

  -- a stamp with none that starts before it is the first
  first_stamp : {i j k : ℕ} → StampAt h i j k → ((a b c : ℕ) → a < i → StampAt h a b c → ⊥) → first_place (stamp_at h) (length h) 0 ≡ Some i
  first_stamp {i} {j} {k} r n =
      first_all (stamp_at h)
      (record {
        from = omega arith;
        within = omega (arith, r.some, r.whole.within);
        here = stamp_at_all _ _ _ r;
        before = λ a l m. no_stamp_at a (omega (arith, r.some, r.whole.within)) (λ b c q. n a b c m q);
      })

  -- of two stamps the one that starts first has the first colon: whole runs do not overlap, and no dot is a digit
  starts_later : {i j k a b c : ℕ} → StampAt h i j k → StampAt h a b c → a < i → c < k
  starts_later {i} {j} {k} {a} {b} {c} r q l =
      by_order c k (λ m. m) (λ m. absurd (inside-second (omega arith))) (λ m. absurd (inside-second (omega arith)))
    where
      before-i : is_digit (get_or h (i - 1) 0) ≡ false
      before-i = rw (before_some h i (omega arith)) at r.starts

      -- the other's first run has ended where this stamp starts
      ended : b < i
      ended =
          by_order b i (λ m. m) (λ m. absurd (clash (q.whole.inside (i - 1) (omega arith) (omega arith)) before-i))
          (λ m. absurd (clash (q.whole.inside (i - 1) (omega arith) (omega arith)) before-i))

      inside-second : k ≤ c → ⊥
      inside-second m =
          let digit : is_digit (get_or h j 0) ≡ true = q.digits.inside j (omega (arith, ended, r.some)) (omega (arith, r.more)) in
          clash digit (rw r.dot dot_is_no_digit)

  -- the walk from colon to colon: no stamp has its colon before the present place
  pub record Seeking (n : ℕ) : Type 0 where
    pub within : n ≤ length h
    pub later : (i j k : ℕ) → StampAt h i j k → n ≤ k

  pub seeking_starts : Seeking 0
  seeking_starts = record { within = omega arith; later = λ i j k r. omega arith }

  pub next_colon : {n c : ℕ} → first_byte 58 h n ≡ Some c → First (is_at 58 h) n (length h) c
  unfolding first_byte
  next_colon e = first_is (is_at 58 h) e

  module _ {n : ℕ} (s : Seeking n) where
    module _ {c : ℕ} (e : first_byte 58 h n ≡ Some c) where
      none-sooner : (i j k : ℕ) → StampAt h i j k → c ≤ k
      none-sooner i j k r =
          by_order k c (λ l. absurd (clash (eq-eqb _ _ r.colon) ((next_colon e).before k (s.later i j k r) l)))
          (λ q. omega arith)
          (λ l. omega arith)

      pub seeking_steps : PartsBefore h c None → Seeking (c + 1)
      unfolding PartsBefore
      seeking_steps none =
          record {
            within = omega (arith, (next_colon e).within);
            later = λ i j k r. by_order c k (λ l. omega arith) (λ q. absurd (none i j (rw q r))) (λ l. absurd (omega (arith, none-sooner i j k r)));
          }

      pub seeking_hits : {from dot : ℕ} → StampAt h from dot c → first_place (stamp_at h) (length h) 0 ≡ Some from
      seeking_hits r =
          first_stamp r (λ i j k l q. absurd (omega (arith, starts_later r q l, none-sooner i j k q)))

    pub seeking_ends : first_byte 58 h n ≡ None → first_place (stamp_at h) (length h) 0 ≡ None
    unfolding first_byte
    seeking_ends e =
        first_none (stamp_at h) {i = 0} {n = length h}
        (λ i a l. no_stamp_at i l
        (λ j k r. clash (eq-eqb _ _ r.colon) (first_free (is_at 58 h) e s.within k (s.later i j k r) (colon_within r.colon))))

  pub timestamp_all : {s u : ℕ} → Timestamp h s u → stamp_of h ≡ Some (record { seconds = s; microseconds = u })
  timestamp_all {s} {u} r =
      let j-is : r.dot ≡ run_end is_digit h r.from = sym (run_all is_digit h r.here.whole) in
      let k-is : r.colon ≡ run_end is_digit h (r.dot + 1) = sym (run_all is_digit h r.here.digits) in
      let place : first_place (stamp_at h) (length h) 0 ≡ Some r.from = first_stamp r.here r.first in
      sym (stamp_some place)
      ∙ sym (read_both r.from r.dot r.colon j-is k-is (number_all 10 (2 ^ 63 - 1) _ r.seconds_read) (number_all 10 (2 ^ 63 - 1) _ r.microseconds_read))

  both_values : (a b : Option ℕ) {s u : ℕ} → both_read a b ≡ Some (record { seconds = s; microseconds = u }) → (a ≡ Some s) × (b ≡ Some u)
  unfolding both_read
  both_values (Some x) (Some y) e = let q = same_Some _ _ e in (ap (λ (m : Stamp). Some m.seconds) q, ap (λ (m : Stamp). Some m.microseconds) q)
  both_values (Some x) None e = absurd (none-some _ e)
  both_values None (Some y) e = absurd (none-some _ e)
  both_values None None e = absurd (none-some _ e)

  pub timestamp_is : {s u : ℕ} → stamp_of h ≡ Some (record { seconds = s; microseconds = u }) → Timestamp h s u
  unfolding stamp_of stamp_from read_stamp
  timestamp_is {s} {u} e = go (first_place (stamp_at h) (length h) 0) refl e
    where
      go : (f : Option ℕ) → first_place (stamp_at h) (length h) 0 ≡ f → stamp_from h f ≡ Some (record { seconds = s; microseconds = u }) → Timestamp h s u
      go (Some i) q t =
          let f = first_is (stamp_at h) q in
          let both = both_values _ _ t in
          record {
            from = i;
            dot = run_end is_digit h i;
            colon = run_end is_digit h (run_end is_digit h i + 1);
            here = stamp_at_is i f.within f.here;
            first = λ a b c l r. clash (stamp_at_all a b c r) (f.before a (omega arith) l);
            seconds_read = number_is 10 (2 ^ 63 - 1) _ both.0;
            microseconds_read = number_is 10 (2 ^ 63 - 1) _ both.1;
          }
      go None q t = absurd (none-some _ t)

  pub one_timestamp : {s u s' u' : ℕ} → Timestamp h s u → Timestamp h s' u' → (s ≡ s') × (u ≡ u')
  one_timestamp a b = let x = timestamp_all a in let y = timestamp_all b in let q = same_Some _ _ (sym x ∙ y) in (ap (λ (m : Stamp). m.seconds) q, ap (λ (m : Stamp). m.microseconds) q)
