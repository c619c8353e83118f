-- `gate::runs_from` meets its contract: the row begins with the runs that the slots passed start.
use Rattle.std.specs.Iterator.Adapters.{zip_first, zip_second}
use Rattle.std.specs.Slice.Iter.{iter_rest}
use Rattle.gate.specs.Walks.{walked}
use Rattle.gate.proofs.Turns.{Walking}
use Rattle.gate.proofs.runs_from.Given as goal

abbrev pub invariant-loop-s : goal.invariant-loop-s
invariant-loop-s l =
    Walking l.g l.first l.far (walked l.g l.first l.far l.before l.slots) l.end (iter_rest (zip_first l.s-iterator))
    (iter_rest (zip_second l.s-iterator)) l.found
