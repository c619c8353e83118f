-- `bound::enough::enough_calm` meets its contract: rows without jitter are rows too.
use Rattle.std.proofs.Common.{replicate}
use Rattle.bound.proofs.Bounding.{zeros_in, calm_fits}
use Rattle.bound.proofs.enough.enough_calm.Goals as goal

pub invariant_of-rows : goal.invariant_of-rows
invariant_of-rows c =
    let r = c.args.demand.now.rows.now in
    record { fit = calm_fits r.per r.jit r.cost (replicate 64 0) r.n r.fit (zeros_in r.n r.fit.few) }
