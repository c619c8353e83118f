-- `search::Demand::attempt` meets its contract: the sum fits 64 bits, and it is what the try asks for.
use Rattle.std.proofs.Common.{◌+◌, ◌≤◌, arith}
use Rattle.search.specs.Searches.{table_of}
use Rattle.search.proofs.Searching.{loads_few, table_most, tried}
use Rattle.search.proofs.demand.Demand.attempt.Goals.{After-advance}
use Rattle.search.proofs.demand.Demand.attempt.Goals as goal

few : (c : After-advance) → c.advance.new.self.load ≤ 2_560_128_000_000
few c =
    let a = c.args in
    let d = a.self.now in
    loads_few d c.advance.new.self a.w c.advance.ensures.0 c.requires.1

pub overflow_add-result : goal.overflow_add-result
overflow_add-result c = omega (arith, few c)

pub overflow_add-result-2 : goal.overflow_add-result-2
overflow_add-result-2 c =
    let a = c.args in
    let d = a.self.now in
    omega (
      arith,
      few (goal.at.overflow_add-result-2 c).After-advance,
      c.interference.ensures,
      table_most d.stairs d.bounds (a.w + a.off) (omega arith),
    )

pub returns : goal.returns
returns c =
    let a = c.args in
    let d = a.self.now in
    let r = d.rows.now in
    let u = c.advance.ensures in (
      u.0,
      tried r.per r.jit r.cost r.n r.fit (table_of d.stairs) a.base a.off a.w c.advance.new.self
          c.interference.result u.0 u.1 c.interference.ensures,
    )
