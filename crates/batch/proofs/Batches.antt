-- Packet after packet: what was answered stands in front, and what is left to answer is the batch of the rest. Assumes nothing.
use Prim.Native.Nat.{ℕ, suc, ◌+◌, ◌-◌, ◌≤◌, ◌<◌, min}
use mathlib.Core.Path.{◌≡◌, refl, sym, ap, ap₂, subst, ◌∙◌}
use mathlib.Core.List.{List, [], ◌∷◌, ◌++◌, append-nil, append_assoc}
use mathlib.Core.Bool.{Bool, true, false}
use native.Mathlib.Omega.{arith}
use borrow.Author.Tests.{leb-true, leb-false}
use lib.Dec.{leb}
use lib.ListN.{length, get_or, take, drop, set, replicate, length-append, length-drop, length-set, take-append-drop, drop_of_length-le}
use lib.Seq.{drop-cons, drop-drop, take_all, take_at, drop_at, take-suc-set, drop-set-lt, append_snoc, length-take-le}
use Rattle.text.specs.Told as T
use Rattle.book.specs.Reading.{check_of}
use Rattle.packet.specs.Packet.{number_of, parse_of, places_of, list_by}
use Rattle.packet.proofs.Packets.{length_listed, number_20}
use Rattle.batch.specs.Batch.{code_of, Job, jobs, answer_of, part_of, codes_of, places_all, Batch, Each, One}

-- ---- as many packets as kinds, counts and codes

pub length_jobs : (ks cs ns : List ℕ) → length (jobs ks cs ns) ≡ min (length ks) (min (length cs) (length ns))
unfolding jobs
length_jobs [] cs ns = omega arith
length_jobs (k ∷ ks) [] ns = omega arith
length_jobs (k ∷ ks) (c ∷ cs) [] = omega arith
length_jobs (k ∷ ks) (c ∷ cs) (n ∷ ns) = let e = length_jobs ks cs ns in omega (arith, e)

least_under : (b c k : ℕ) → min b c ≤ k → min (b - k) (c - k) ≡ 0
least_under b c k le = omega arith

all_under : (a b c k : ℕ) → min a (min b c) ≤ k → min (a - k) (min (b - k) (c - k)) ≡ 0
all_under a b c k le = by (leb a k) refl
  where
    by : (t : Bool) → leb a k ≡ t → min (a - k) (min (b - k) (c - k)) ≡ 0
    by true h =
        let le = leb-true a k h in
        let none : a - k ≡ 0 = omega (arith, le) in
        rw none (omega arith)
    by false h =
        let lt = leb-false a k h in
        let others : min b c ≤ k = omega (arith, le, lt) in
        rw (least_under b c k others) (omega arith)

none_left : {A : Type 0} (l : List A) → length l ≡ 0 → l ≡ []
none_left [] e = refl
none_left (x ∷ l) e = absurd (omega arith)

module _ (ks cs ns : List ℕ) (k : ℕ) where
  -- the packets from the k-th on
  abbrev pub left : List Job
  left = jobs (drop k ks) (drop k cs) (drop k ns)

  jobs_next : k < min (length ks) (min (length cs) (length ns))
      → jobs (drop k ks) (drop k cs) (drop k ns)
      ≡ record { kind = get_or ks k 0; count = get_or cs k 0 } ∷ jobs (drop (suc k) ks) (drop (suc k) cs) (drop (suc k) ns)
  unfolding jobs
  jobs_next lt = rw (drop-cons ks k 0 (omega arith), drop-cons cs k 0 (omega arith), drop-cons ns k 0 (omega arith))

  jobs_over : min (length ks) (min (length cs) (length ns)) ≤ k → jobs (drop k ks) (drop k cs) (drop k ns) ≡ []
  jobs_over le =
      none_left (jobs (drop k ks) (drop k cs) (drop k ns))
      (length_jobs (drop k ks) (drop k cs) (drop k ns) ∙ rw (length-drop k ks, length-drop k cs, length-drop k ns) (all_under (length ks) (length cs) (length ns) k le))

-- ---- a packet's part of a list

-- so many behind a place, as far as the list goes
pub record Cut (from count len r : ℕ) : Type 0 where
  pub is : r ≡ from + min count (len - from)
  pub up : from ≤ r
  pub within : r ≤ len

pub cut_is : (from count len : ℕ) {m : ℕ} → from ≤ len → m ≡ min count (len - from) → Cut from count len (from + m)
cut_is from count len le e = record { is = ap (◌+◌ from) e; up = omega arith; within = omega (arith, e) }

module _ (l : List ℕ) {from count end : ℕ} (c : Cut from count (length l) end) where
  pub part_is : take (end - from) (drop from l) ≡ take count (drop from l)
  part_is = by (leb count (length l - from)) refl
    where
      by : (t : Bool) → leb count (length l - from) ≡ t → take (end - from) (drop from l) ≡ take count (drop from l)
      by true h =
          let le = leb-true count (length l - from) h in
          let all : end - from ≡ count = omega (arith, c.is, le) in
          ap (λ (n : ℕ). take n (drop from l)) all
      by false h =
          let lt = leb-false count (length l - from) h in
          let size = length-drop from l in
          take_all (end - from) (drop from l) (omega (arith, c.is, lt, size)) ∙ sym (take_all count (drop from l) (omega (arith, lt, size)))

  pub rest_is : drop end l ≡ drop count (drop from l)
  rest_is = by (leb count (length l - from)) refl
    where
      by : (t : Bool) → leb count (length l - from) ≡ t → drop end l ≡ drop count (drop from l)
      by true h =
          let le = leb-true count (length l - from) h in
          let all : end ≡ from + count = omega (arith, c.is, le) in
          ap (λ (n : ℕ). drop n l) all ∙ sym (drop-drop count from l)
      by false h =
          let lt = leb-false count (length l - from) h in
          let size = length-drop from l in
          drop_of_length-le l {i = end} (omega (arith, c.is, c.up, lt)) ∙ sym (drop_of_length-le (drop from l) {i = count} (omega (arith, lt, size)))

-- ---- packet after packet

module _ (s ks cs ds ps₀ ns : List ℕ) where
  pub record Through (from at k : ℕ) (p m : List ℕ) : Type 0 where
    pub among : k ≤ min (length ks) (min (length cs) (length ns))
    pub dwords_up : from ≤ length ds
    pub places_up : at ≤ length ps₀
    pub places_kept : length p ≡ length ps₀
    pub codes_kept : length m ≡ length ns
    pub codes_behind : drop k m ≡ drop k ns
    pub places : take at p ++ places_all s (left ks cs ns k) (drop from ds) (drop at p) ≡ places_all s (jobs ks cs ns) ds ps₀
    pub codes : take k m ++ codes_of s (left ks cs ns k) (drop from ds) (drop at p) ≡ codes_of s (jobs ks cs ns) ds ps₀

  pub through_start : Through 0 0 0 ps₀ ns
  through_start =
      record {
        among = omega arith;
        dwords_up = omega arith;
        places_up = omega arith;
        places_kept = refl;
        codes_kept = refl;
        codes_behind = refl;
        places = refl;
        codes = refl;
      }

  module _ {from at k : ℕ} {p m : List ℕ} (t : Through from at k p m) (lt : k < min (length ks) (min (length cs) (length ns))) {end stop code : ℕ}
      {part : List ℕ} (d : Cut from (get_or cs k 0) (length ds) end) (q : Cut at (get_or cs k 0) (length p) stop)
      (one : One (get_or ks k 0) s (take (end - from) (drop from ds)) (take (stop - at) (drop at p)) part code) where
    job : Job
    job = record { kind = get_or ks k 0; count = get_or cs k 0 }

    code_is : code ≡ code_of (answer_of s job (drop from ds) (drop at p))
    unfolding answer_of job
    code_is = one.code ∙ ap₂ (λ (a b : List ℕ). code_of (parse_of (get_or ks k 0) s a (length b))) (part_is ds d) (part_is p q)

    part_of_lem : part ≡ part_of s job (drop from ds) (drop at p)
    unfolding part_of answer_of job
    part_of_lem =
        one.places
        ∙ ap₂ (λ (a b : List ℕ). list_by (parse_of (get_or ks k 0) s a (length b)) (places_of (get_or ks k 0) s a) b) (part_is ds d) (part_is p q)

    length_part : length part ≡ stop - at
    length_part =
        ap length one.places ∙ length_listed (get_or ks k 0) s (take (end - from) (drop from ds)) (take (stop - at) (drop at p))
        ∙ length-take-le (stop - at) (drop at p) (omega (arith, length-drop at p, q.within))

    length_front : length (take at p ++ part) ≡ stop
    length_front =
        length-append (take at p) part
        ∙ omega (arith, length-take-le at p (omega (arith, t.places_up, t.places_kept)), length_part, q.up)

    -- what was answered stands in front
    front_is : take stop ((take at p ++ part) ++ drop stop p) ≡ take at p ++ part
    front_is = take_at (take at p ++ part) (drop stop p) stop length_front

    behind_is : drop stop ((take at p ++ part) ++ drop stop p) ≡ drop (get_or cs k 0) (drop at p)
    behind_is = drop_at (take at p ++ part) (drop stop p) stop length_front ∙ rest_is p q

    pub length_next : length ((take at p ++ part) ++ drop stop p) ≡ length p
    length_next = length-append (take at p ++ part) (drop stop p) ∙ omega (arith, length_front, length-drop stop p, q.within)

    next_places : take stop ((take at p ++ part) ++ drop stop p) ++ places_all s (left ks cs ns (k + 1)) (drop end ds) (drop stop ((take at p ++ part) ++ drop stop p))
        ≡ places_all s (jobs ks cs ns) ds ps₀
    unfolding places_all job
    next_places =
        let up : suc k ≡ k + 1 = omega arith in
        let rest : places_all s (left ks cs ns k) (drop from ds) (drop at p)
        ≡ part ++ places_all s (left ks cs ns (suc k)) (drop (get_or cs k 0) (drop from ds)) (drop (get_or cs k 0) (drop at p)) =
        rw (jobs_next ks cs ns k lt) (ap (λ (l : List ℕ). l ++ places_all s (left ks cs ns (suc k)) (drop (get_or cs k 0) (drop from ds)) (drop (get_or cs k 0) (drop at p))) (sym part_of_lem))
        in
        ap₂ ◌++◌ front_is (ap (λ (n : ℕ). places_all s (left ks cs ns n) (drop end ds) (drop stop ((take at p ++ part) ++ drop stop p))) (sym up) ∙ ap₂ (places_all s (left ks cs ns (suc k))) (rest_is ds d) behind_is)
        ∙ append_assoc (take at p) part (places_all s (left ks cs ns (suc k)) (drop (get_or cs k 0) (drop from ds)) (drop (get_or cs k 0) (drop at p)))
        ∙ sym (ap (◌++◌ (take at p)) rest) ∙ t.places

    next_codes : take (k + 1) (set m k code) ++ codes_of s (left ks cs ns (k + 1)) (drop end ds) (drop stop ((take at p ++ part) ++ drop stop p))
        ≡ codes_of s (jobs ks cs ns) ds ps₀
    unfolding codes_of job
    next_codes =
        let up : suc k ≡ k + 1 = omega arith in
        let inside : k < length m = omega (arith, lt, t.codes_kept) in
        let rest : codes_of s (left ks cs ns k) (drop from ds) (drop at p)
        ≡ code ∷ codes_of s (left ks cs ns (suc k)) (drop (get_or cs k 0) (drop from ds)) (drop (get_or cs k 0) (drop at p)) =
        rw (jobs_next ks cs ns k lt) (ap (λ (n : ℕ). n ∷ codes_of s (left ks cs ns (suc k)) (drop (get_or cs k 0) (drop from ds)) (drop (get_or cs k 0) (drop at p))) (sym code_is))
        in
        ap (λ (n : ℕ). take n (set m k code) ++ codes_of s (left ks cs ns n) (drop end ds) (drop stop ((take at p ++ part) ++ drop stop p))) (sym up)
        ∙ ap₂ ◌++◌ (take-suc-set m k code inside) (ap₂ (codes_of s (left ks cs ns (suc k))) (rest_is ds d) behind_is)
        ∙ append_snoc (take k m) code (codes_of s (left ks cs ns (suc k)) (drop (get_or cs k 0) (drop from ds)) (drop (get_or cs k 0) (drop at p)))
        ∙ sym (ap (◌++◌ (take k m)) rest) ∙ t.codes

    next_behind : drop (k + 1) (set m k code) ≡ drop (k + 1) ns
    next_behind = drop-set-lt (k + 1) m k code (omega arith) ∙ sym (drop-drop 1 k m) ∙ ap (drop 1) t.codes_behind ∙ drop-drop 1 k ns

    through_next : Through end stop (k + 1) ((take at p ++ part) ++ drop stop p) (set m k code)
    through_next =
        record {
          among = omega (arith, lt);
          dwords_up = d.within;
          places_up = omega (arith, q.within, t.places_kept);
          places_kept = length_next ∙ t.places_kept;
          codes_kept = length-set m k code ∙ t.codes_kept;
          codes_behind = next_behind;
          places = next_places;
          codes = next_codes;
        }

    -- the same with the lent part put back
    pub through_lent : Through end stop (k + 1) (take at p ++ (part ++ drop (stop - at) (drop at p))) (set m k code)
    through_lent =
        let whole : at + (stop - at) ≡ stop = omega (arith, q.up) in
        let back : drop (stop - at) (drop at p) ≡ drop stop p = drop-drop (stop - at) at p ∙ ap (λ (n : ℕ). drop n p) whole in
        subst (λ l. Through end stop (k + 1) l (set m k code))
        (append_assoc (take at p) part (drop stop p) ∙ sym (ap (λ (l : List ℕ). take at p ++ (part ++ l)) back)) through_next

  -- behind the last
  pub through_end : {from at k : ℕ} {p m : List ℕ} → Through from at k p m → (r : ℕ) → r ≡ min (length ks) (min (length cs) (length ns)) → r ≤ k
      → Batch s ks cs ds ps₀ p ns m r
  unfolding places_all codes_of
  through_end {from} {at} {k} {p} {m} t r is le =
      let none : left ks cs ns k ≡ [] = jobs_over ks cs ns k (omega (arith, is, le)) in
      let all : r ≡ length (jobs ks cs ns) = omega (arith, is, length_jobs ks cs ns) in
      let last : k ≡ r = omega (arith, t.among, is, le) in
      let done : take k m ≡ codes_of s (jobs ks cs ns) ds ps₀ =
      sym (append-nil (take k m)) ∙ ap (λ (js : List Job). take k m ++ codes_of s js (drop from ds) (drop at p)) (sym none) ∙ t.codes
      in
      record {
        packets = all;
        each = sym (take-append-drop k m) ∙ ap₂ ◌++◌ done (t.codes_behind ∙ ap (λ (n : ℕ). drop n ns) (last ∙ all));
        places = sym (take-append-drop at p) ∙ ap (λ (js : List Job). take at p ++ places_all s js (drop from ds) (drop at p)) (sym none) ∙ t.places;
      }

-- ---- a book that is refused

-- over a book that is refused each packet is, with 20, and no place is touched
module _ (s : List ℕ) (bad : check_of s ≡ T.refused 20) where
  refused_answer : (kind : ℕ) (ds : List ℕ) (room : ℕ) → parse_of kind s ds room ≡ T.refused 20
  unfolding parse_of number_of
  refused_answer kind ds room = rw bad

  refused_codes : (js : List Job) (ds ps : List ℕ) → codes_of s js ds ps ≡ replicate (length js) 65556
  unfolding codes_of answer_of
  refused_codes [] ds ps = refl
  refused_codes (j ∷ js) ds ps =
      ap₂ ◌∷◌ (ap code_of (refused_answer j.kind (take j.count ds) (length (take j.count ps))))
      (refused_codes js (drop j.count ds) (drop j.count ps))

  refused_places : (js : List Job) (ds ps : List ℕ) → places_all s js ds ps ≡ ps
  unfolding places_all part_of answer_of list_by
  refused_places [] ds ps = refl
  refused_places (j ∷ js) ds ps =
      let here : part_of s j ds ps ≡ take j.count ps = rw (refused_answer j.kind (take j.count ds) (length (take j.count ps))) in
      ap₂ ◌++◌ here (refused_places js (drop j.count ds) (drop j.count ps)) ∙ take-append-drop j.count ps

  pub refused_batch : (ks cs ds ps ns : List ℕ) {ns' : List ℕ} {r : ℕ} → Each (length ks) (length cs) ns ns' r → Batch s ks cs ds ps ps ns ns' r
  refused_batch ks cs ds ps ns {ns'} {r} e =
      let all : r ≡ length (jobs ks cs ns) = e.packets ∙ sym (length_jobs ks cs ns) in
      record {
        packets = all;
        each =
            e.each ∙ ap (λ (n : ℕ). replicate n 65556 ++ drop n ns) all
            ∙ ap (λ (l : List ℕ). l ++ drop (length (jobs ks cs ns)) ns) (sym (refused_codes (jobs ks cs ns) ds ps));
        places = sym (refused_places (jobs ks cs ns) ds ps);
      }

-- the check refuses with 20 alone
pub refused_20 : (s : List ℕ) {k : ℕ} → check_of s ≡ T.refused k → check_of s ≡ T.refused 20
refused_20 s e = e ∙ ap T.refused (number_20 s e)

-- no second answer satisfies the contract, codes and places included
pub no_second_batch : {s ks cs ds ps ns : List ℕ} {ps₁ ps₂ ns₁ ns₂ : List ℕ} {r₁ r₂ : ℕ}
    → Batch s ks cs ds ps ps₁ ns ns₁ r₁ → Batch s ks cs ds ps ps₂ ns ns₂ r₂ → (r₁ ≡ r₂) × (ns₁ ≡ ns₂) × (ps₁ ≡ ps₂)
no_second_batch a b = (a.packets ∙ sym b.packets, a.each ∙ sym b.each, a.places ∙ sym b.places)
