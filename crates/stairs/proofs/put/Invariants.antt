-- `stairs::put` meets its contract. The invariant: node k is low, and all nodes are right but the one above k.
-- The measure: k.
use mathlib.Core.Path.{◌≡◌}
use mathlib.Core.List.{List}
use Prim.Native.Nat.{ℕ, ◌+◌, ◌/◌, ◌≤◌, ◌<◌}
use lib.ListN.{length, get_or}
use Rattle.stairs.specs.Tree.{Nodes}
use Rattle.stairs.proofs.put.Given as goal

abbrev pub invariant-loop-k : goal.invariant-loop-k
invariant-loop-k l =
    (1 ≤ l.k) × (l.k < 64) × (length l.tree ≡ 64) × (get_or l.tree l.k 0 ≡ l.low)
    × ((keys : List ℕ) → Nodes keys l.initial.tree ((32 + l.i) / 2) → Nodes keys l.tree (l.k / 2))

abbrev pub decreases-loop-k : goal.decreases-loop-k
decreases-loop-k l = l.k
