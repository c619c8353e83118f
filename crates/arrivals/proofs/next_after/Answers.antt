-- `arrivals::next_after` meets its contract.
use mathlib.Core.Path.{◌≡◌}
use Prim.Native.Nat.{◌+◌, ◌-◌, ◌*◌, ◌≤◌, ◌<◌}
use native.Mathlib.Omega.{arith}
use Rattle.meaning.proofs.Later.{next_of}
use Rattle.arrivals.specs.Rows.{row_stream}
use Rattle.arrivals.proofs.Arriving.{next_computed, next_near}
use Rattle.arrivals.proofs.next_after.Goals.{After-frames_in}
use Rattle.arrivals.proofs.next_after.Goals as goal

-- the product is the next instant and the jitter
instant : (c : After-frames_in)
    → let a = c.args in
    let k = c.frames_in.result in
    (k * a.period - a.jitter ≡ next_of (row_stream a.period a.jitter) a.x)
    × (a.x < k * a.period - a.jitter) × (k * a.period - a.jitter ≤ a.x + a.period)
instant c =
    let a = c.args in
    let e = next_computed a.x a.period a.jitter c.frames_in.result c.frames_in.ensures.0 in
    let near = next_near a.x a.period a.jitter c.requires.0 c.requires.1 in
    (e, omega (arith, near.0), omega (arith, near.1))

pub overflow_mul-result : goal.overflow_mul-result
overflow_mul-result c = omega (arith, (instant c).2)

pub overflow_sub-result : goal.overflow_sub-result
overflow_sub-result c = omega (arith, (instant c).1)

pub returns : goal.returns
returns c = ((instant c).0, omega (arith, (instant c).0, (instant c).2))
