-- The invariant: it is no more than the load of the first i streams.
use Rattle.std.proofs.Common.{◌*◌, ◌≤◌}
use Rattle.arrivals.specs.Rows.{row_load}
use Rattle.search.proofs.hasten.load_at_least.Given as goal

abbrev pub invariant-loop-i : goal.invariant-loop-i
invariant-loop-i l =
    (l.load ≤ row_load l.rows.per l.rows.jit l.rows.cost l.i l.x) × (l.load ≤ l.i * 60_000_000_000)
