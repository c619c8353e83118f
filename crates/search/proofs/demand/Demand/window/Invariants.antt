-- The invariant: no number below w closes, and what is counted has come by w. The measure: how far w is from the
-- horizon.
use Rattle.std.proofs.Common.{◌-◌, ◌≤◌}
use Rattle.laws.proofs.Leasts.{Under}
use Rattle.arrivals.specs.Counted.{Counted}
use Rattle.search.specs.Searches.{busy}
use Rattle.search.proofs.demand.Demand.window.Given as goal

abbrev pub invariant-loop-seen : goal.invariant-loop-seen
invariant-loop-seen l = Counted l.self.rows.now l.seen l.w × Under (busy l.self.stairs l.self.rows.now l.own) l.w
    × (l.w ≤ 100_000_000)

abbrev pub decreases-loop-seen : goal.decreases-loop-seen
decreases-loop-seen l = 100_000_000 - l.w
