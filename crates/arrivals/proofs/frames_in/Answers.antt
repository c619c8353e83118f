-- `arrivals::frames_in` meets its contract.
use native.Mathlib.Omega.{arith}
use Rattle.arrivals.proofs.Arriving.{frames_computed, frames_few}
use Rattle.arrivals.proofs.frames_in.Goals as goal

pub returns : goal.returns
returns c =
    let a = c.args in
    let e = frames_computed a.x a.period a.jitter in
    (e, omega arith, omega (arith, e, frames_few a.x a.period a.jitter c.requires.0 c.requires.1 c.requires.2))
