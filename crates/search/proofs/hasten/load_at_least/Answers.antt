-- `search::hasten::load_at_least` meets its contract.
use Rattle.std.proofs.Common.{◌<◌, get_or, ap, arith}
use Rattle.std.proofs.lemmas.List.{get_or-take}
use Rattle.meaning.specs.Arrivals.{most_in}
use Rattle.arrivals.specs.Rows.{row_stream}
use Rattle.arrivals.proofs.Counting.{row_load_under}
use Rattle.search.proofs.hasten.load_at_least.Goals as goal

pub loop-i-preserved : goal.loop-i-preserved
loop-i-preserved c =
    let a = c.args in
    let r = a.rows.now in
    let l = c.loop-i in
    let here : l.i < r.n = omega arith in
    let period = get_or r.per l.i 0 in
    let few = c.frames_at_least.ensures.0 period (omega (arith, r.fit.periods l.i here)) (c.requires.0 l.i here) in
    let same = ap (λ j. most_in (row_stream period j) a.x) (get_or-take r.n r.jit l.i 0 here) in (
      rw c.frames_wire-load.ensures.0
          (row_load_under r.per r.jit r.cost a.x l.i l.load c.frames_at_least.result l.invariant.0
          (omega (arith, few, same))),
      omega (arith, c.frames_wire-load.ensures.1),
    )
