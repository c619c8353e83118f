-- `table::Stairs::reached` meets its contract. The invariant: of the distances behind it, those that u reaches are
-- counted.
use Prim.Native.Nat.{◌+◌}
use Rattle.table.proofs.Reached.{CountedTo}
use Rattle.table.proofs.Stairs.reached.Given as goal

abbrev pub invariant-loop-d : goal.invariant-loop-d
invariant-loop-d l = CountedTo l.self.far.now l.u (l.before + l.d-index) (l.before + l.n)
