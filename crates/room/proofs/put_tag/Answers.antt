-- `room::put_tag` meets its contract: the length fills the front of what the tag leaves.
use Rattle.std.proofs.Common.{◌∙◌}
use Rattle.room.proofs.Rooms.{octets_1, octets_2, wrote_as, wrote_next}
use Rattle.room.proofs.put_tag.Goals as goal

pub returns : goal.returns
returns c =
    wrote_next (wrote_as (c.to_be_bytes.ensures ∙ octets_1 c.args.tag c.ranges.tag.fits) c.put-at.ensures)
    (wrote_as (c.to_be_bytes-2.ensures ∙ octets_2 c.args.octets) c.put.ensures)
