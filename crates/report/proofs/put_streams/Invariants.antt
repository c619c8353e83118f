-- `report::put_streams` meets its contract: each line fills the front of what those before it leave.
use Rattle.desk.specs.Desks.{streams_in}
use Rattle.room.proofs.Rooms.{Filled}
use Rattle.report.specs.Lines.{line_in}
use Rattle.report.proofs.put_streams.Given as goal

abbrev pub invariant-loop-j : goal.invariant-loop-j
invariant-loop-j l = Filled (line_in l.d) l.initial.out (streams_in l.d) l.out l.at l.j-index
