-- `gate::Slots::some_free` meets its contract: some cell is free exactly where some gap is wide.
use Rattle.std.proofs.Common.{◌≡◌, ◌+◌, ◌≤◌, drop}
use Rattle.meaning.specs.Runs.{has_free}
use Rattle.gate.proofs.Walks.{some_wide}
use Rattle.gate.proofs.Slots.some_free.Given as goal

abbrev pub invariant-loop-s : goal.invariant-loop-s
invariant-loop-s l =
    (l.before ≤ l.g.cycle + l.g.cycle)
    × (has_free l.g l.self.slots.now ≡ some_wide l.g l.before (drop l.s-index l.self.slots.now))
