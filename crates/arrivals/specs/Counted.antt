-- The frames of a response's streams, as they are counted.
use Rattle.std.specs.Prelude.{ℕ}
use Rattle.arrivals.specs.declared.rows.Rows.{Rows}
use Rattle.arrivals.specs.declared.counts.Counts.{Counts}
use Rattle.arrivals.specs.Rows.{RowsCounted}

-- what is counted has come by x
abbrev pub Counted : Rows → Counts → ℕ → Type 0
Counted rows seen x = RowsCounted rows.per rows.jit rows.cost rows.n seen x
