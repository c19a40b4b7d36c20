-- Cases P2 and P3 of document 01, by computation. Assumes nothing.
use Rattle.std.specs.Prelude.{Some}
use mathlib.Core.Path.{◌≡◌, refl}
use Rattle.text.specs.Class.{between, is_blank, is_digit, is_letter, is_word, in_class}
use Rattle.text.specs.Number.{digit_of, value, all_digits, number_of}
use Rattle.text.specs.Place.{first_of, first_in, found_below, first_place, last_place, byte_before}
use Rattle.text.specs.Run.{run_end, behind, run_start}
use Rattle.text.specs.Quote.{bytes}
use Rattle.header.specs.Dash.{dash_at, first_run, task_of, digits_behind, pid_of}
use Rattle.header.specs.Stamp.{followed, stamp_at, both_read, read_stamp, stamp_from, stamp_of}

-- one word for all that a worked header computes with
texts : Unit {0}
unfolding between is_blank is_digit is_letter is_word in_class digit_of value all_digits number_of first_of first_in found_below first_place last_place byte_before run_end behind run_start
texts = tt

-- run `a-1-b`: the task is its first three bytes, `a_1`, and the pid is 1
pub record P2 : Type 0 where
  pub task : task_of (bytes "a-1-b") ≡ Some 3
  pub pid : pid_of (bytes "a-1-b") ≡ Some 1

pub case_P2 : P2
unfolding texts dash_at first_run task_of digits_behind pid_of
case_P2 = record { task = refl; pid = refl }

-- `12.34.56: f`: 34 s, 56 µs
pub case_P3 : stamp_of (bytes "12.34.56: f") ≡ Some (record { seconds = 34; microseconds = 56 })
unfolding texts followed stamp_at both_read read_stamp stamp_from stamp_of
case_P3 = refl
