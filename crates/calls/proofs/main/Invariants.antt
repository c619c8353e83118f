-- The desk stays fit from call to call.
use Rattle.desk.specs.Desks.{Fit}
use Rattle.calls.proofs.main.Given as goal

abbrev pub invariant-loop-i : goal.invariant-loop-i
invariant-loop-i l = Fit l.d
