-- `stairs::heads` meets its contract: each row's first pair goes to its leaf.
use Rattle.stairs.specs.Tree.{Standing}
use Rattle.stairs.proofs.HeadRow.{entered}
use Rattle.stairs.proofs.heads.Given as goal

abbrev pub invariant-loop-i : goal.invariant-loop-i
invariant-loop-i l = Standing l.cycle l.runs (entered l.i) l.tree
