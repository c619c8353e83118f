-- `table::all_blocked` meets its contract.
use Rattle.table.proofs.Reached.{all_last}
use Rattle.table.proofs.all_blocked.Goals as goal

pub returns : goal.returns
returns c = let e = all_last c.args.tot.now in let f = c.last.ensures.value in cc
