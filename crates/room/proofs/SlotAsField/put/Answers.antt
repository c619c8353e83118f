-- A slot's `put` meets its contract: each part of the field fills the front of what is left.
use Rattle.std.proofs.Common.{◌∙◌}
use Rattle.meaning.specs.Bytes.{octets_of, field_octets, value_of, tag_of, value_length}
use Rattle.room.proofs.Rooms.{octets_4, wrote_as, wrote_next}
use Rattle.room.proofs.SlotAsField.put.Goals as goal

pub returns : goal.returns
unfolding octets_of field_octets value_of tag_of value_length
returns c =
    let s = c.args.self in
    wrote_next
    (wrote_next c.put_tag-at.ensures (wrote_as (c.to_be_bytes.ensures ∙ octets_4 s.start) c.put-at.ensures))
    (wrote_as (c.to_be_bytes-2.ensures ∙ octets_4 s.end) c.put.ensures)
