-- `reader::walk` meets its contract: turn by turn, what is left from a place decides what the plan gives.
use Prim.Native.Nat.{◌-◌, ◌≤◌}
use lib.ListN.{length}
use Rattle.entries.specs.Entries.{held_in, FitEntries}
use Rattle.reader.proofs.Walks.{ReadsOn}
use Rattle.reader.proofs.walk.Given as goal

abbrev pub invariant-loop-at : goal.invariant-loop-at
invariant-loop-at l = FitEntries l.e × (l.at ≤ length l.plan) × ReadsOn l.plan l.at (held_in l.e)

abbrev pub decreases-loop-at : goal.decreases-loop-at
decreases-loop-at l = length l.plan - l.at
