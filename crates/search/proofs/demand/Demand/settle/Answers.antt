-- `search::Demand::settle` meets its contract.
use Rattle.std.proofs.Common.{◌≤◌, arith}
use Rattle.laws.proofs.Leasts.{Under}
use Rattle.search.specs.Searches.{demand}
use Rattle.search.proofs.Searching.{demand_grows, search_goes_on, under_soon, counted_on_to}
use Rattle.search.proofs.demand.Demand.settle.Goals.{After-attempt-need}
use Rattle.search.proofs.demand.Demand.settle.Goals as goal

-- where w does not close, no number below what was asked for does
goes_on : (c : After-attempt-need)
    → let a = c.args in
    let d = a.self.now in
    Under (demand d.stairs d.rows.now a.base a.off) c.attempt-need.result × (c.attempt-need.result ≤ 100_000_000)
goes_on c =
    let a = c.args in
    let d = a.self.now in
    let grows = demand_grows d a.base a.off in
    let u = search_goes_on c.loop-base.invariant.1 c.attempt-need.ensures.1 grows in
    (u, under_soon u c.requires.4)

pub overflow_cast-w : goal.overflow_cast-w
overflow_cast-w c = omega (arith, (goes_on (goal.at.overflow_cast-w c).After-attempt-need).1)

pub loop-base-preserved : goal.loop-base-preserved
loop-base-preserved c =
    let on = goes_on (goal.at.loop-base-preserved c).After-attempt-need in
    let t = c.attempt-need in
    (counted_on_to c.args.self.now.rows.now t.ensures.0 (omega arith), on.0, on.1)
