-- `lines::put_of` meets its contract: the second number fills the front of what the first leaves.
use native.Mathlib.Omega.{arith}
use Rattle.meaning.specs.Findings.{octets_in, told}
use Rattle.room.proofs.Rooms.{wrote_next}
use Rattle.lines.proofs.put_of.Goals as goal

pub returns : goal.returns
unfolding told octets_in
returns c =
    let whole = rw c.from.ensures at c.put_told.ensures in
    (wrote_next c.put_told-at.ensures.0 whole.0, omega (arith, whole.1))
