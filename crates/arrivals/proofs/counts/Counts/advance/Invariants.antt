-- `arrivals::counts::Counts::advance` meets its contract. The invariant: what is counted has come by x. The measure:
-- how far the least next instant is from being past x.
use Prim.Native.Nat.{◌+◌, ◌-◌}
use Rattle.arrivals.specs.Counted.{Counted}
use Rattle.arrivals.proofs.counts.Counts.advance.Given as goal

abbrev pub invariant-loop-self : goal.invariant-loop-self
invariant-loop-self l = Counted l.rows l.self l.x

abbrev pub decreases-loop-self : goal.decreases-loop-self
decreases-loop-self l = l.x + 1 - l.self.least
