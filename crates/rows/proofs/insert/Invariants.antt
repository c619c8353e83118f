-- `rows::insert` meets its contract: the loop opens a gap from the first free place down to the place of x.
use Rattle.laws.proofs.Shifting.{Opened}
use Rattle.rows.proofs.insert.Given as goal

abbrev pub invariant-loop-i : goal.invariant-loop-i
invariant-loop-i g l = Opened l.initial.row l.n l.p l.row l.i
