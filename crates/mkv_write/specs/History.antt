-- The packets that a writer was given, read off what its buffer held before and after each.
use Rattle.std.specs.Prelude.{ℕ, List, length, drop, map}
use Rattle.mkv_write.specs.declared.history.Given.{Given}
use Rattle.mkv_write.specs.declared.history.History.{History}
use Rattle.mkv_write.specs.Writing.{Writing}

-- What the buffer gained.
abbrev pub packet_of : Given → List ℕ
packet_of given = drop (length given.before.value.items) given.after.value.items

-- The file that the history is of.
abbrev pub writing_of : History → (rate : ℕ) → Writing
writing_of history rate = record {
  private = history.private.value.items;
  width = history.width.value;
  height = history.height.value;
  rate = rate;
  packets = map packet_of history.packets.items;
}
