-- The invariant: the first i periods have their inverses.
use Rattle.arrivals.specs.Rows.{Inverses}
use Rattle.search.proofs.hasten.inverses.Given as goal

abbrev pub invariant-loop-i : goal.invariant-loop-i
invariant-loop-i l = Inverses l.row l.per l.i
