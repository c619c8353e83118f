-- `room::put_short` meets its contract: each number fills the front of what is left.
use Rattle.std.proofs.Common.{◌∙◌}
use Rattle.meaning.specs.Bytes.{octets_of}
use Rattle.room.proofs.Rooms.{octets_1, octets_2, wrote_as, wrote_next}
use Rattle.room.proofs.put_short.Goals as goal

pub returns : goal.returns
unfolding octets_of
returns c =
    wrote_next
    (wrote_next (wrote_as (c.to_be_bytes.ensures ∙ octets_2 c.args.id) c.put-at.ensures)
    (wrote_as (c.to_be_bytes-2.ensures ∙ octets_1 c.args.priority c.ranges.priority.fits) c.put-at-2.ensures))
    (wrote_as (c.to_be_bytes-3.ensures ∙ octets_2 c.args.octets) c.put.ensures)
