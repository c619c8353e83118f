-- `fields::number` meets its contract: octet by octet, the highest first.
use Rattle.fields.proofs.Fronts.{NumberSoFar}
use Rattle.fields.proofs.number.Given as goal

abbrev pub invariant-loop-octet : goal.invariant-loop-octet
invariant-loop-octet g l = NumberSoFar l.at l.plan l.n l.octet-index
