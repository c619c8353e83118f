-- `ahead::unpack` meets its contract: the rows are those of the places passed, all but the one that is left out.
use mathlib.Core.Path.{◌≡◌}
use Prim.Native.Nat.{◌≤◌}
use Rattle.ahead.proofs.Unpacking.{up_to}
use Rattle.ahead.proofs.unpack.Given as goal

abbrev pub invariant-loop-i : goal.invariant-loop-i
invariant-loop-i l = (l.a.n ≤ l.i) × (l.a ≡ up_to l.rate l.own l.leave l.streams l.i)
