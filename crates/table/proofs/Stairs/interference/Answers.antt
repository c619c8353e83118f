-- `table::Stairs::interference` meets its contract: the last stair reached is the last of as many as are reached.
use Rattle.table.proofs.Reached.{answer_is}
use Rattle.table.proofs.Stairs.interference.Goals as goal

pub returns : goal.returns
returns c =
    let s = c.args.self.now in
    let r = c.reached-reached in
    rw (c.from.ensures, c.from-2.ensures, c.from-rest.ensures)
    (answer_is s.cycle s.far.now s.tot.now c.args.t s.fits r.result c.all_blocked-2.result c.all_blocked.result
    r.ensures.bound r.ensures.partitioned c.all_blocked-2.ensures c.all_blocked.ensures)
