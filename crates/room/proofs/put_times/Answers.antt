-- `room::put_times` meets its contract: each time fills the front of what is left.
use Rattle.std.proofs.Common.{◌∙◌}
use Rattle.meaning.specs.Bytes.{octets_of}
use Rattle.room.proofs.Rooms.{octets_4, wrote_as, wrote_next}
use Rattle.room.proofs.put_times.Goals as goal

pub returns : goal.returns
unfolding octets_of
returns c =
    wrote_next
    (wrote_next (wrote_as (c.to_be_bytes.ensures ∙ octets_4 c.args.a) c.put-at.ensures)
    (wrote_as (c.to_be_bytes-2.ensures ∙ octets_4 c.args.b) c.put-at-2.ensures))
    (wrote_as (c.to_be_bytes-3.ensures ∙ octets_4 c.args.c) c.put.ensures)
