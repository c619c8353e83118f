-- `report::put_findings` meets its contract: each part fills the front of what is left.
use Prim.Native.Nat.{◌≤◌}
use native.Mathlib.Omega.{arith}
use borrow.Author.Rules.{rules}
use Rattle.room.proofs.Rooms.{wrote_as, wrote_next}
use Rattle.report.proofs.Whole.{sized, whole_text}
use Rattle.report.proofs.put_findings.Goals as goal

pub put_stairs-at-requires : goal.put_stairs-at-requires
put_stairs-at-requires c =
    let z = sized c.args.d c.requires.0 c.requires.1 in
    let s = c.stairs_of.ensures in
    rw (s.1, s.2) (search rules)

pub put_streams-requires : goal.put_streams-requires
put_streams-requires c =
    let z = sized c.args.d c.requires.0 c.requires.1 in
    let s = c.stairs_of.ensures in
    let w = rw (s.1, s.2) at c.put_stairs-at.ensures in
    let n : c.put_stairs-at.result ≤ 25_818 = omega (arith, w.count, z.stairs) in
    (c.requires.0, c.requires.1, search rules)

pub returns : goal.returns
returns c =
    let s = c.stairs_of.ensures in
    wrote_as (whole_text c.args.d c.requires.0 c.requires.1)
    (wrote_next (wrote_next c.put_first-at.ensures (rw (s.1, s.2) at c.put_stairs-at.ensures)) c.put_streams.ensures)
