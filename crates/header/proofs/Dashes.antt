-- Task and pid: both are last dashes of the first run, so their laws are those of last places. Assumes nothing.
use Rattle.std.specs.Prelude.{None, Option, Some}
use Prim.Native.Nat.{ℕ, zero, suc, ◌+◌, ◌-◌, ◌^◌, ◌≤◌, ◌<◌}
use mathlib.Core.Path.{◌≡◌, refl, sym, ap, ◌∙◌}
use mathlib.Core.Bool.{Bool, true, false, ◌&&◌}
use mathlib.Core.List.{List}
use native.Mathlib.Omega.{arith}
use lib.Dec.{ltb}
use lib.ListN.{length, get_or, take, drop}
use borrow.Author.Tests.{lt-ltb, eq-eqb, ne_eqb, eqb-true}
use Rattle.std.specs.Bool.{then_some}
use lib.Seq.{get_or-take, length-take-le}
use Rattle.text.specs.declared.class.Class.TheVariants.{NotSpace}
use Rattle.text.specs.Class.{is_digit, in_class, other_than}
use Rattle.text.specs.Number.{number_of}
use Rattle.text.specs.Place.{last_place, last_byte, is_at}
use Rattle.text.specs.Run.{Run, run_end}
use Rattle.text.proofs.Blocks.{last_skip_to}
use Rattle.text.proofs.Places.{clash, last_is, last_all, last_none, last_free}
use Rattle.text.proofs.Runs.{run_is, run_all, run_within}
use Rattle.text.proofs.Numbers.{number_is, number_all}
use Rattle.header.specs.Dash.{dash_at, Task, Pid, first_run, task_of, digits_behind, pid_of}

module _ (numbered : Bool) (h : List ℕ) (k : ℕ) where
  pub dash_first : k ≡ 0 → dash_at numbered h k ≡ false
  unfolding dash_at
  dash_first e = rw e

  pub dash_other : (get_or h k 0 ≡ 45 → ⊥) → dash_at numbered h k ≡ false
  unfolding dash_at
  dash_other n = go (ltb 0 k) refl
    where
      go : (b : Bool) → ltb 0 k ≡ b → dash_at numbered h k ≡ false
      go true t = rw (t, ne_eqb _ _ n)
      go false t = rw t

module _ (h : List ℕ) (k : ℕ) where
  dash_plain : 0 < k → get_or h k 0 ≡ 45 → dash_at false h k ≡ true
  unfolding dash_at
  dash_plain p e = rw (lt-ltb 0 k p, eq-eqb _ _ e)

-- the first run ends within the header
pub first_run_within : (h : List ℕ) → first_run h ≤ length h
unfolding first_run
first_run_within h = run_within (in_class NotSpace) h 0 (omega arith)

first_run_is : (h : List ℕ) → Run (in_class NotSpace) h 0 (first_run h)
unfolding first_run
first_run_is h = run_is (in_class NotSpace) h (omega arith)

first_run_all : (h : List ℕ) {run : ℕ} → Run (in_class NotSpace) h 0 run → first_run h ≡ run
unfolding first_run
first_run_all h r = run_all (in_class NotSpace) h r

-- the last dash of the first run, as code finds it there
module _ (h : List ℕ) {run : ℕ} (run-is : run ≡ run_end (other_than 32) h 0) where
  -- a dash of the run is one of the part before its end
  run_same : run ≡ first_run h
  unfolding first_run in_class
  run_same = run-is

  run_length : length (take run h) ≡ run
  run_length = length-take-le run h (omega (arith, run_same, first_run_within h))

  in_run : (k : ℕ) → k < run → get_or (take run h) k 0 ≡ get_or h k 0
  in_run k l = get_or-take run h k 0 l

  no_dash : (k : ℕ) → is_at 45 h k ≡ false → dash_at false h k ≡ false
  no_dash k e = dash_other false h k (λ q. clash (eq-eqb _ _ q) e)

  -- where no dash stands there is no task
  pub task_missing : last_byte 45 (take run h) ≡ None → None ≡ task_of h
  unfolding task_of last_byte
  task_missing e =
      rw (← run_same)
      (sym (last_none (dash_at false h) run (λ k a l. no_dash k (rw (in_run k l) at (last_free (is_at 45 (take run h)) e k a (omega (arith, run_length)))))))

  -- the last dash is the task's where a byte stands before it; at place 0 it is none, and no other dash stands
  pub task_kept : {dash : ℕ} → last_byte 45 (take run h) ≡ Some dash → then_some (ltb 0 dash) dash ≡ task_of h
  unfolding task_of last_byte
  task_kept {dash} e =
      let r = last_is (is_at 45 (take run h)) e in
      let inside : dash < run = omega (arith, r.within, run_length) in
      let none_after : (k : ℕ) → suc dash ≤ k → k < run → dash_at false h k ≡ false = λ k a l. no_dash k (rw (in_run k l) at (r.after k a (omega (arith, run_length)))) in
      rw (← run_same) (go dash refl inside none_after)
    where
      go : (d : ℕ) → dash ≡ d → d < run → ((k : ℕ) → suc d ≤ k → k < run → dash_at false h k ≡ false) → then_some (ltb 0 d) d ≡ last_place (dash_at false h) run
      go zero q l f = sym (last_none (dash_at false h) run (λ k a m. first k f m))
        where
          first : (k : ℕ) → ((k : ℕ) → 1 ≤ k → k < run → dash_at false h k ≡ false) → k < run → dash_at false h k ≡ false
          first zero f m = dash_first false h 0 refl
          first (suc k) f m = f (suc k) (omega arith) m
      go (suc d) q l f =
          rw (lt-ltb 0 (suc d) (omega arith))
          (sym
          (last_all (dash_at false h) run
          (record {
            within = l;
            here = dash_plain h (suc d) (omega arith) (let t : get_or (take run h) (suc d) 0 ≡ 45 = rw (← q) (eqb-true _ _ (last_is (is_at 45 (take run h)) e).here) in sym (in_run (suc d) l) ∙ t);
            after = f;
          })))

-- the task is what the sentence says, and nothing else is
pub task_is : (h : List ℕ) {m : ℕ} → task_of h ≡ Some m → Task h (take m h)
unfolding task_of
task_is h {m} e =
    record {
      run = first_run h;
      first_run = first_run_is h;
      dash = m;
      last_dash = last_is (dash_at false h) e;
      before = refl;
    }

pub task_all : (h : List ℕ) {t : List ℕ} (r : Task h t) → task_of h ≡ Some r.dash
unfolding task_of
task_all h r = rw (first_run_all h r.first_run) (last_all (dash_at false h) r.run r.last_dash)

pub one_task : (h : List ℕ) {t u : List ℕ} → Task h t → Task h u → t ≡ u
one_task h a b =
    let x = task_all h a in
    let y = task_all h b in
    let e : a.dash ≡ b.dash = cc in
    a.before ∙ ap (λ (m : ℕ). take m h) e ∙ sym b.before

-- the task's bytes end before the header does
pub task_within : (h : List ℕ) {m : ℕ} → task_of h ≡ Some m → m < length h
unfolding task_of
task_within h e =
    let r = last_is (dash_at false h) e in
    omega (arith, r.within, first_run_within h)

-- where no dash stands, no numbered one does
no_numbered : (h : List ℕ) (k : ℕ) → dash_at false h k ≡ false → dash_at true h k ≡ false
unfolding dash_at
no_numbered h k e = go (ltb 0 k && is_at 45 h k) refl
  where
    go : (b : Bool) → (ltb 0 k && is_at 45 h k) ≡ b → (b && is_digit (get_or h (k + 1) 0)) ≡ false
    go true t = absurd (clash (rw t refl) e)
    go false t = refl

-- behind the task's dash the first run has no dash at all
pub pid_before_task : (h : List ℕ) {m : ℕ} → task_of h ≡ Some m → last_place (dash_at true h) (first_run h) ≡ last_place (dash_at true h) (m + 1)
unfolding task_of
pid_before_task h {m} e =
    let r = last_is (dash_at false h) e in
    last_skip_to (dash_at true h) (omega (arith, r.within)) (λ k a b. no_numbered h k (r.after k (omega arith) b))

-- the digits behind a dash, as code cuts them
pub pid_some : (h : List ℕ) {k : ℕ} → last_place (dash_at true h) (first_run h) ≡ Some k → number_of 10 (2 ^ 32 - 1) (take (run_end is_digit h (k + 1) - (k + 1)) (drop (k + 1) h)) ≡ pid_of h
unfolding pid_of digits_behind
pid_some h e = rw e

pub pid_none : (h : List ℕ) → last_place (dash_at true h) (first_run h) ≡ None → None ≡ pid_of h
unfolding pid_of digits_behind
pid_none h e = rw e

pub pid_is : (h : List ℕ) {v : ℕ} → pid_of h ≡ Some v → Pid h v
unfolding pid_of digits_behind
pid_is h {v} e = go (last_place (dash_at true h) (first_run h)) refl e
  where
    go : (f : Option ℕ) → last_place (dash_at true h) (first_run h) ≡ f → digits_behind h f ≡ Some v → Pid h v
    go (Some k) q n =
        let d = last_is (dash_at true h) q in
        let near : k + 1 ≤ length h = omega (arith, d.within, first_run_within h) in
        record {
          run = first_run h;
          first_run = first_run_is h;
          dash = k;
          last_dash = d;
          end = run_end is_digit h (k + 1);
          digits = run_is is_digit h near;
          value = number_is 10 (2 ^ 32 - 1) _ n;
        }
    go None q n = absurd (let z : ◌≡◌ {A = ℕ} 0 1 = cc in omega arith)

pub pid_all : (h : List ℕ) {v : ℕ} → Pid h v → pid_of h ≡ Some v
pid_all h {v} r =
    let place : last_place (dash_at true h) (first_run h) ≡ Some r.dash =
    rw (first_run_all h r.first_run) (last_all (dash_at true h) r.run r.last_dash) in
    sym (pid_some h place) ∙ rw (run_all is_digit h r.digits) (number_all 10 (2 ^ 32 - 1) _ r.value)

pub one_pid : (h : List ℕ) {v w : ℕ} → Pid h v → Pid h w → v ≡ w
one_pid h a b = let x = pid_all h a in let y = pid_all h b in cc
