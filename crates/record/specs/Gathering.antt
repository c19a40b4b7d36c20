-- The entry that the fields of a text give.
-- Assumes nothing.
use Rattle.std.specs.Prelude.{ℕ, ◌/◌, List, eqb}
use Rattle.entry.specs.declared.Entry.{Entry}
use Rattle.record.specs.Finding.{place_of, number_of, byte_of, word_of}

-- the entry that the fields of a text give
unfoldable pub entry_of : List ℕ → Entry
entry_of t =
    record {
      task_at = (place_of t 0x01).from;
      task_len = (place_of t 0x01).len;
      pid = number_of 4 t 0x02;
      cpu = number_of 2 t 0x03;
      seconds = number_of 8 t 0x04;
      microseconds = number_of 8 t 0x05;
      function_at = (place_of t 0x06).from;
      function_len = (place_of t 0x06).len;
      kind = number_of 1 t 0x07;
      size = number_of 2 t 0x08;
      dropped = eqb (number_of 1 t 0x09) 1;
      domain = number_of 4 t 0x0A;
      route = number_of 8 t 0x0B;
      offset = word_of t 0x0C;
      code = byte_of t 0x0D;
      len = word_of t 0x0E;
      port = byte_of t 0x0F;
      config = byte_of t 0x10;
      seq = byte_of t 0x11;
      unplug = byte_of t 0x12;
      dwords = (place_of t 0x13).len / 4;
    }
