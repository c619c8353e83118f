-- `arrivals::counts::Counts::pass` meets its contract. The invariant: the first i streams are done.
use Rattle.arrivals.proofs.Counting.{Passed}
use Rattle.arrivals.proofs.counts.Counts.pass.Given as goal

abbrev pub invariant-loop-i : goal.invariant-loop-i
invariant-loop-i l = Passed l.initial.next-items l.rows.per l.rows.cost l.x l.i l.next-items l.load l.least
