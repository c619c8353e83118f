-- `lines::put_last` meets its contract: the line's end fills the front of what the number leaves.
use native.Mathlib.Omega.{arith}
use Rattle.meaning.specs.Findings.{octets_in, newline}
use Rattle.room.proofs.Rooms.{wrote_next}
use Rattle.lines.proofs.put_last.Goals as goal

pub returns : goal.returns
unfolding newline octets_in
returns c =
    (wrote_next c.put_told-at.ensures.0 c.put.ensures, omega (arith, c.put.ensures.count))
