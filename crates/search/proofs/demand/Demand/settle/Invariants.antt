-- The invariant: no number below w closes, and what is counted has come by w. The measure: how far w is from the
-- horizon, which it never passes.
use Rattle.std.proofs.Common.{◌-◌, ◌≤◌}
use Rattle.laws.proofs.Leasts.{Under}
use Rattle.arrivals.specs.Counted.{Counted}
use Rattle.search.specs.Searches.{demand}
use Rattle.search.proofs.demand.Demand.settle.Given as goal

abbrev pub invariant-loop-base : goal.invariant-loop-base
invariant-loop-base l =
    Counted l.self.rows.now l.seen l.w × Under (demand l.self.stairs l.self.rows.now l.base l.off) l.w
    × (l.w ≤ 100_000_000)

abbrev pub decreases-loop-base : goal.decreases-loop-base
decreases-loop-base l = 100_000_000 - l.w
