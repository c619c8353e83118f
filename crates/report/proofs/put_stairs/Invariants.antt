-- `report::put_stairs` meets its contract: each line fills the front of what those before it leave.
use lib.ListN.{length}
use Rattle.meaning.specs.Findings.{stair_line}
use Rattle.table.specs.Lookup.{paired}
use Rattle.room.proofs.Rooms.{Filled}
use Rattle.report.proofs.put_stairs.Given as goal

abbrev pub invariant-loop-far : goal.invariant-loop-far
invariant-loop-far l =
    Filled stair_line l.initial.out (paired l.stairs.far.now l.stairs.tot.now) l.out l.at (length l.yielded)
