-- `lines::texts::put_decimal` meets its contract: each turn stores the last digit of what is left of the number.
use Rattle.lines.proofs.Digits.{Behind}
use Rattle.lines.proofs.texts.put_decimal.Given as goal

abbrev pub invariant-loop-i : goal.invariant-loop-i
invariant-loop-i l = Behind l.initial.out l.n l.out l.i l.rest
