-- All that document 02 a) promises of the table, each from its own file. Assumes nothing.
use Rattle.matched.specs.Matched.{Matched}
use Rattle.matched.proofs.Asks.{asks_exactly}
use Rattle.matched.proofs.Lists.{table_holds, holds_sound, list_fits, one_list, empty_holds}
use Rattle.matched.proofs.Acts.{same_size, acts_as_list, stays_a_table, empty_is_a_table}
use Rattle.matched.proofs.Some.{some_answer, some_history}
use Rattle.matched.proofs.One.{one_answer, one_count, one_place, one_history}
use Rattle.matched.proofs.Slots.{each_slot_taken, each_slot_answered, else_unchanged, turned_away_exactly, stray_exactly, used_again, used_at_once}
use Rattle.matched.proofs.InPlace.{stays_in_place}
use Rattle.matched.proofs.ReadOut.{count_of_the_list, place_in_the_list, nowhere_else}
use Rattle.matched.proofs.Refusals.{count_refused_alike, place_refused_alike, fifty_exactly, fifty_one_exactly, no_other_number, refusal_changes_nothing, never_refused}
use Rattle.matched.proofs.Histories.{replays_as_list, counted, from_empty, cleared_is_empty, cleared_is_a_table}

pub matched : Matched
matched =
    record {
      asks_exactly = asks_exactly;
      acts_as_list = acts_as_list;
      replays_as_list = replays_as_list;
      empty_holds_none = empty_holds;
      holds_some = table_holds;
      one_list = one_list;
      holding_is_sound = holds_sound;
      list_fits = list_fits;
      count_of_the_list = count_of_the_list;
      place_in_the_list = place_in_the_list;
      nowhere_else = nowhere_else;
      same_size = same_size;
      each_slot_taken = each_slot_taken;
      each_slot_answered = each_slot_answered;
      else_unchanged = else_unchanged;
      stays_in_place = stays_in_place;
      turned_away_exactly = turned_away_exactly;
      stray_exactly = stray_exactly;
      used_again = used_again;
      used_at_once = used_at_once;
      fifty_exactly = fifty_exactly;
      fifty_one_exactly = fifty_one_exactly;
      no_other_number = no_other_number;
      count_refused_alike = count_refused_alike;
      place_refused_alike = place_refused_alike;
      refusal_changes_nothing = refusal_changes_nothing;
      stays_a_table = stays_a_table;
      never_refused = never_refused;
      some_answer = some_answer;
      some_history = some_history;
      one_answer = one_answer;
      one_count = one_count;
      one_place = one_place;
      one_history = one_history;
      counted = counted;
      from_empty = from_empty;
      empty_is_a_table = empty_is_a_table;
      cleared_is_empty = cleared_is_empty;
      cleared_is_a_table = cleared_is_a_table;
    }
