-- `stairs::build` meets its contract: the pairs come by rising key, and those over the last total are stairs.
use mathlib.Core.Path.{◌≡◌}
use lib.ListN.{length, get_or}
use Rattle.stairs.specs.Tree.{Standing}
use Rattle.stairs.proofs.Turns.{SoFar, left}
use Rattle.stairs.proofs.build.Given as goal

abbrev pub invariant-loop-low : goal.invariant-loop-low
invariant-loop-low l =
    Standing l.cycle l.runs l.pos l.tree × SoFar l.cycle l.runs l.pos l.table l.top × (l.low ≡ get_or l.tree 1 0)

abbrev pub decreases-loop-low : goal.decreases-loop-low
decreases-loop-low l = left (length l.runs) l.pos
