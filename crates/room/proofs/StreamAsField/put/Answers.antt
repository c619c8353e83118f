-- A stream's `put` meets its contract: each part of the field fills the front of what is left.
use Rattle.meaning.specs.Bytes.{octets_of, field_octets, value_of, tag_of, value_length}
use Rattle.room.proofs.Rooms.{wrote_next}
use Rattle.room.proofs.StreamAsField.put.Goals as goal

pub returns : goal.returns
unfolding octets_of field_octets value_of tag_of value_length
returns c = wrote_next (wrote_next c.put_tag-at.ensures c.put_short-at.ensures) c.put_times.ensures
