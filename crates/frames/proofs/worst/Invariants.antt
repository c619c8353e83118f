-- The invariant: so many frames are done, and what is counted has come by w.
use Rattle.std.proofs.Common.{◌≤◌}
use Rattle.arrivals.specs.Counted.{Counted}
use Rattle.search.specs.Searches.{table_of, asked_of}
use Rattle.frames.proofs.Framing.{FrameNumbers, FramesDone}
use Rattle.frames.proofs.worst.Given as goal

abbrev pub invariant-loop : goal.invariant-loop
invariant-loop l =
    let d = l.demand in
    let r = d.rows.now in
    Counted r l.seen l.w × (l.w ≤ 100_000_000) × FrameNumbers (asked_of l.own) l.counter l.base l.come l.later
    × FramesDone (table_of d.stairs) (asked_of l.own) r.per r.jit r.cost r.n l.frames l.counter l.w l.best
