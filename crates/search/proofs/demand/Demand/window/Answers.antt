-- `search::Demand::window` meets its contract.
use Rattle.std.proofs.Common.{◌≡◌, ◌∙◌, arith}
use Rattle.search.specs.Searches.{table_of, asked_of, busy}
use Rattle.search.proofs.Searching.{busy_grows, tried_busy, search_closes, search_goes_on, search_none, counted_on_to}
use Rattle.search.proofs.demand.Demand.window.Goals.{After-attempt-need}
use Rattle.search.proofs.demand.Demand.window.Goals as goal

-- what is asked for is what the window asks for
asked : (c : After-attempt-need)
    → c.attempt-need.result ≡ busy c.args.self.now.stairs c.args.self.now.rows.now c.args.own.now c.loop-seen.w
asked c =
    let a = c.args in
    let d = a.self.now in
    let r = d.rows.now in
    c.attempt-need.ensures.1
    ∙ tried_busy (table_of d.stairs) r.per r.jit r.cost r.n (asked_of a.own.now) c.load.result c.loop-seen.w
    c.load.ensures.0

pub returns-then-need-from : goal.returns-then-need-from
returns-then-need-from c =
    let e = asked (goal.at.returns-then-need-from c).After-attempt-need in
    (search_closes c.loop-seen.invariant.1 e (omega arith), c.loop-seen.invariant.2)

pub returns-then-need-gt-HORIZON : goal.returns-then-need-gt-HORIZON
returns-then-need-gt-HORIZON c =
    let a = c.args in
    let d = a.self.now in
    let e = asked (goal.at.returns-then-need-gt-HORIZON c).After-attempt-need in
    search_none c.loop-seen.invariant.1 e (busy_grows d a.own.now)
    (omega arith)

pub loop-seen-preserved : goal.loop-seen-preserved
loop-seen-preserved c =
    let a = c.args in
    let d = a.self.now in
    let t = c.attempt-need in
    let e = asked (goal.at.loop-seen-preserved c).After-attempt-need in (
      counted_on_to d.rows.now t.ensures.0 (omega arith),
      search_goes_on c.loop-seen.invariant.1 e (busy_grows d a.own.now),
      omega arith,
    )
