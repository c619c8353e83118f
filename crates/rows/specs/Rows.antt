-- The desk's rows: what is held stands in front, and a free place is all zero.
use Rattle.std.specs.Prelude.{List}
use Rattle.laws.specs.Lists.{filled}
use Rattle.meaning.specs.declared.Slot.{Slot}
use Rattle.meaning.specs.declared.Stream.{Stream}

-- a free place
abbrev pub no_slot : Slot
no_slot = record { start = 0; end = 0 }

abbrev pub no_stream : Stream
no_stream = record { id = 0; priority = 0; octets = 0; period = 0; jitter = 0; deadline = 0 }

-- the 32 places with these slots held
unfoldable pub slot_row : List Slot → List Slot
slot_row xs = filled 32 no_slot xs

-- the 64 places with these streams held
unfoldable pub stream_row : List Stream → List Stream
stream_row xs = filled 64 no_stream xs
