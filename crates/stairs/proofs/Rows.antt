-- The runs of slots are such that their stairs can be built.
-- Assumes nothing.
use mathlib.Core.Path.{◌≡◌}
use mathlib.Core.Bool.{true}
use mathlib.Core.List.{List}
use Prim.Native.Nat.{◌≤◌}
use native.Mathlib.Nat.{le_trans}
use native.Mathlib.Omega.{arith}
use lib.ListN.{length}
use Rattle.meaning.specs.declared.Gate.{Gate}
use Rattle.meaning.specs.declared.Slot.{Slot}
use Rattle.meaning.specs.Runs.{has_free, runs}
use Rattle.meaning.specs.Promises.{Chain}
use Rattle.meaning.proofs.Cells.{free_cell}
use Rattle.meaning.proofs.Windows.{all_at_most_cycle}
use Rattle.meaning.proofs.ChainFree.{runs_few}
use Rattle.meaning.proofs.Gates.{slots_rise, slots_below, slots_long}
use Rattle.stairs.specs.Rows.{RunsFit}

-- the runs of a few slots in a chain that leave a cell free: what building the stairs asks
pub slots_fit : (g : Gate) (ss : List Slot) → g.cycle ≤ 100_000_000 → length ss ≤ 32 → Chain 0 ss g.cycle
    → has_free g ss ≡ true → RunsFit g.cycle (runs g ss)
slots_fit g ss most few links free =
    let (c, h, e) = (free_cell g ss).0 free in
    record {
      few = le_trans (runs_few g ss links) few;
      some_cells = omega arith;
      in_horizon = most;
      rises = slots_rise g ss;
      below = slots_below g ss;
      long = slots_long g ss;
      all_fit = all_at_most_cycle g ss free;
    }
