-- The worked cases, by computation. Assumes nothing.
use mathlib.Core.Path.{refl}
use native.Mathlib.Omega.{arith}
use Rattle.scan.specs.declared.Pieces.{Pieces}
use Rattle.scan.specs.Frame.{idle, frame_of}
use Rattle.scan.specs.Parse.{with_frame, parse_of}
use Rattle.intake.specs.Intake.{starts_a1}
use Rattle.text.specs.Place.{first_byte, first_place, first_in, first_of, found_below}
use Rattle.units.specs.Units.{marked, stated, Open}
use Rattle.units.specs.Kept.{is_long, is_left, is_kept, line_left, none_found}
use Rattle.stream.specs.Answers.{answer_of}
use Rattle.stream.specs.Worked.{Worked}

pub worked : (pieces : Pieces) → Worked pieces
unfolding answer_of starts_a1 is_long stated parse_of with_frame frame_of idle marked is_kept is_left line_left none_found first_byte first_place first_in first_of found_below
worked pieces =
    record {
      one_byte = refl;
      two_bytes = refl;
      one_missing = refl;
      too_long = refl;
      still_open = Open.a_record refl (omega arith);
      newline = refl;
      nothing_held = refl;
      another_size = refl;
      newline_held = refl;
      nearly_passed = refl;
      all_passed = refl;
    }
