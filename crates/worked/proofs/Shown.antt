-- What is found of slots in a chain can be shown and built on.
-- Assumes nothing.
use mathlib.Core.Path.{◌≡◌, sym, ◌∙◌}
use mathlib.Core.Bool.{true}
use mathlib.Core.List.{List}
use Prim.Native.Nat.{◌≤◌}
use native.Mathlib.Omega.{arith}
use lib.ListN.{take}
use Rattle.meaning.specs.declared.Gate.{Gate}
use Rattle.meaning.specs.declared.Slot.{Slot}
use Rattle.meaning.specs.declared.Run.{Run}
use Rattle.meaning.specs.Runs.{has_free, runs}
use Rattle.gate.specs.declared.RunRow.{RunRow}
use Rattle.gate.specs.Rows.{SlotsFit, run_row}
use Rattle.gate.proofs.Rows.{row_count, row_runs}
use Rattle.stairs.specs.Rows.{RunsFit}
use Rattle.stairs.proofs.Rows.{slots_fit}

module _ (g : Gate) (ss : List Slot) (fits : SlotsFit g ss) (free : true ≡ has_free g ss) where
  fit_runs : RunsFit g.cycle (runs g ss)
  fit_runs = slots_fit g ss fits.gate.cycle_most fits.few fits.chain (sym free)

  pub found_few : {r : RunRow} → r ≡ run_row (runs g ss) → r.n ≤ 32
  found_few found = omega (arith, row_count (runs g ss) found, fit_runs.few)

  pub found_fits : {r : RunRow} {rs : List Run} → r ≡ run_row (runs g ss) → rs ≡ take r.n r.row → RunsFit g.cycle rs
  found_fits found held = rw (held ∙ row_runs (runs g ss) found) fit_runs
