-- `arrivals::counts::Counts::count` meets its contract. The invariant: the first i streams are counted.
use Rattle.arrivals.proofs.Counting.{CountedAt}
use Rattle.arrivals.proofs.counts.Counts.count.Given as goal

abbrev pub invariant-loop-i : goal.invariant-loop-i
invariant-loop-i l = CountedAt l.rows.per l.rows.jit l.rows.cost l.x l.i l.next-items l.load l.least
