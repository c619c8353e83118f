-- `rows::remove` meets its contract: the loop closes the row over place p.
use Rattle.laws.proofs.Shifting.{Closed}
use Rattle.rows.proofs.remove.Given as goal

abbrev pub invariant-loop-i : goal.invariant-loop-i
invariant-loop-i g l = Closed l.initial.row l.n l.p l.row l.i
