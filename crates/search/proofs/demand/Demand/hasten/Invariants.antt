-- The invariant: no number below w closes. The measure: how far w is from the horizon.
use Rattle.std.proofs.Common.{◌-◌, ◌≤◌}
use Rattle.laws.proofs.Leasts.{Under}
use Rattle.search.specs.Searches.{busy}
use Rattle.search.proofs.demand.Demand.hasten.Given as goal

abbrev pub invariant-loop-inv : goal.invariant-loop-inv
invariant-loop-inv l = Under (busy l.self.stairs l.self.rows.now l.own) l.w × (l.w ≤ 100_000_000)

abbrev pub decreases-loop-inv : goal.decreases-loop-inv
decreases-loop-inv l = 100_000_000 - l.w
