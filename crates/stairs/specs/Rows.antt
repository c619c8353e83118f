-- What building the stairs asks of the runs.
use Rattle.std.specs.Prelude.{ℕ, ◌≤◌, length, List}
use Rattle.laws.specs.Lists.{RisingBy}
use Rattle.meaning.specs.declared.Run.{Run}
use Rattle.meaning.specs.Interference.{all_len}
use Rattle.meaning.proofs.Counts.{Below}
use Rattle.meaning.proofs.Pairs.{Long}

-- the runs of a circle of at most 100,000,000 cells
pub record RunsFit (cycle : ℕ) (rs : List Run) : Type 0 where
  pub few : length rs ≤ 32
  pub some_cells : 1 ≤ cycle
  pub in_horizon : cycle ≤ 100_000_000
  pub rises : RisingBy (λ r. r.start) rs
  pub below : Below cycle rs
  pub long : Long rs
  pub all_fit : all_len rs ≤ cycle
