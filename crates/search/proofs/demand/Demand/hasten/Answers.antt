-- `search::Demand::hasten` meets its contract.
use Rattle.std.proofs.Common.{◌+◌, arith}
use Rattle.laws.proofs.Leasts.{Under, under_step, under_over}
use Rattle.search.specs.Searches.{table_of, asked_of, busy}
use Rattle.search.proofs.Searching.{table_most, busy_grows, tried_under, under_below}
use Rattle.search.proofs.demand.Demand.hasten.Goals.{After-interference}
use Rattle.search.proofs.demand.Demand.hasten.Goals as goal

pub overflow_add-need-in-loop-inv : goal.overflow_add-need-in-loop-inv
overflow_add-need-in-loop-inv c =
    let a = c.args in
    let d = a.self.now in
    omega (
      arith,
      d.rows.now.fit.few,
      c.interference.ensures,
      table_most d.stairs d.bounds c.loop-inv.w (omega arith),
    )

-- what is asked for at least, and so no number below it closes
goes_on : (c : After-interference)
    → Under (busy c.args.self.now.stairs c.args.self.now.rows.now c.args.own.now)
    (c.load.result + c.load_at_least.result + c.interference.result)
goes_on c =
    let a = c.args in
    let d = a.self.now in
    let r = d.rows.now in
    under_below (under_step (busy_grows d a.own.now) c.loop-inv.invariant.0)
    (tried_under (table_of d.stairs) r.per r.jit r.cost r.n (asked_of a.own.now) c.load.result
    c.load_at_least.result c.interference.result c.loop-inv.w c.load.ensures.0 c.load_at_least.ensures.0
    c.interference.ensures)

pub returns-then-need-gt-HORIZON : goal.returns-then-need-gt-HORIZON
returns-then-need-gt-HORIZON c =
    under_over (goes_on (goal.at.returns-then-need-gt-HORIZON c).After-interference) c.if-need-gt-HORIZON.true

pub loop-inv-preserved : goal.loop-inv-preserved
loop-inv-preserved c = (goes_on (goal.at.loop-inv-preserved c).After-interference, c.if-need-gt-HORIZON.false)
