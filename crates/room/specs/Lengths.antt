-- How many octets each field takes, its tag and its length included.
-- Assumes nothing.
use mathlib.Core.Path.{◌≡◌, refl}
use Rattle.meaning.specs.declared.Port.{Port}
use Rattle.meaning.specs.declared.Slot.{Slot}
use Rattle.meaning.specs.declared.Stream.{Stream}
use Rattle.meaning.specs.Bytes.{port_field, slot_field, stream_field, tag_of, value_length, field_length}

pub port_length : (p : Port) → field_length (port_field p) ≡ 16
unfolding field_length tag_of value_length
port_length p = refl

pub slot_length : (s : Slot) → field_length (slot_field s) ≡ 11
unfolding field_length tag_of value_length
slot_length s = refl

pub stream_length : (j : Stream) → field_length (stream_field j) ≡ 20
unfolding field_length tag_of value_length
stream_length j = refl
