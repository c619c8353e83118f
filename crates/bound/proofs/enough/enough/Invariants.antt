-- The invariant: what is counted of the rows has come by w.
use Rattle.std.proofs.Common.{◌≤◌}
use Rattle.arrivals.specs.Counted.{Counted}
use Rattle.bound.proofs.enough.enough.Given as goal

abbrev pub invariant-loop : goal.invariant-loop
invariant-loop l = Counted l.calm.rows.now l.seen l.w × (l.w ≤ 100_000_000)
