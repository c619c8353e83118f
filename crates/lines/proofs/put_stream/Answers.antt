-- `lines::put_stream` meets its contract: each part of the line fills the front of what is left.
use Rattle.meaning.specs.Findings.{octets_in, told, newline}
use Rattle.lines.specs.Texts.{figure_line}
use Rattle.room.proofs.Rooms.{wrote_next}
use Rattle.lines.proofs.put_stream.Goals as goal

pub returns : goal.returns
unfolding figure_line told newline octets_in
returns c =
    wrote_next (wrote_next (rw c.from.ensures at c.put_told-at.ensures.0) c.put_verdict-at.ensures) c.put.ensures
