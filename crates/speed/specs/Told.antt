-- The numbers of a call, what is asked of them, and the answer as a number.
use Rattle.std.specs.Prelude.{List, ℕ, Option, unwrap_or}
use Rattle.meaning.specs.Interference.{by_stairs}
use Rattle.table.specs.Lookup.{stairs_in, all_in, TableFits}
use Rattle.arrivals.specs.Rows.{RowsFit}
use Rattle.search.specs.Asked.{Asked, OwnFits}
use Rattle.bound.specs.Answers.{RowsAsk}

-- V(t), as it is read from the first m stairs of two rows
abbrev pub table_v : (cycle : ℕ) (far tot : List ℕ) (m : ℕ) → ℕ → ℕ
table_v cycle far tot m = by_stairs cycle (all_in tot m) (stairs_in far tot m)

-- numbers of stairs, of the stream asked about and of those beside it, from which its bound can be computed
pub record NumbersAsk (cycle : ℕ) (far tot : List ℕ) (m : ℕ) (o : Asked) (per jit cost : List ℕ) (n : ℕ) : Type 0 where
  pub table : TableFits cycle far tot m
  pub own_fits : OwnFits o
  pub rows_fit : RowsFit per jit cost n
  pub asks : RowsAsk (table_v cycle far tot m) (all_in tot m) o per jit cost n

-- the bound; no bound is as large as the number that stands for an endless stream
abbrev pub number_of : Option ℕ → ℕ
number_of r = unwrap_or r 1_000_000_000
