-- `gate::Slots::hang_ends` meets its contract: the ends are filled in from the last slot back.
use Rattle.gate.proofs.Hangs.{Hangs}
use Rattle.gate.proofs.Slots.hang_ends.Given as goal

abbrev pub invariant-loop-i : goal.invariant-loop-i
invariant-loop-i l = Hangs l.reach l.self.slots.now l.i l.ends
