-- A port's `put` meets its contract: each part of the field fills the front of what is left.
use Rattle.std.proofs.Common.{◌∙◌}
use Rattle.meaning.specs.Bytes.{octets_of, field_octets, value_of, tag_of, value_length}
use Rattle.room.proofs.Rooms.{octets_1, wrote_as, wrote_next}
use Rattle.room.proofs.PortAsField.put.Goals as goal

pub returns : goal.returns
unfolding octets_of field_octets value_of tag_of value_length
returns c =
    wrote_next
    (wrote_next c.put_tag-at.ensures (wrote_as (c.to_be_bytes.ensures ∙ octets_1 _ c.requires.1) c.put-at.ensures))
    c.put_times.ensures
