-- `arrivals::frames_at_least` meets its contract.
use Prim.Native.Nat.{◌+◌, ◌*◌, ◌≤◌}
use native.Mathlib.Nat.{mul-le-mul}
use native.Mathlib.Omega.{arith}
use Rattle.arrivals.proofs.Arriving.{frames_under}
use Rattle.arrivals.proofs.frames_at_least.Goals.{Start}
use Rattle.arrivals.proofs.frames_at_least.Goals as goal

product : (c : Start) → (c.args.x + c.args.jitter) * c.args.inv ≤ 858_993_459_000_000_000
product c =
    let a = c.args in
    mul-le-mul {n₁ = a.x + a.jitter} {m₁ = a.inv} {n₂ = 200_000_000} {m₂ = 4_294_967_295}
    (omega (arith, c.requires)) (omega (arith, c.ranges.inv))

pub returns : goal.returns
returns c =
    let a = c.args in
    rw (c.from.ensures, c.from-2.ensures)
    (λ t pos h. omega (arith, frames_under a.x t a.jitter a.inv pos h), omega (arith, product c.before.before))
