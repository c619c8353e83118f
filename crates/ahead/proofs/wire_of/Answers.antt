-- `ahead::wire_of` meets its contract: the wire time that was answered fits, and is 0 where the rate was refused.
use mathlib.Core.Path.{◌≡◌, ap, ◌∙◌}
use Prim.Native.Nat.{◌≤◌}
use native.Mathlib.Omega.{arith}
use Rattle.std.specs.Result.{result_unwrap_or}
use Rattle.meaning.specs.Wire.{wire_time}
use Rattle.ahead.proofs.Rated.{wire_fits, wire_read}
use Rattle.ahead.proofs.wire_of.Goals.{After-unwrap_or}
use Rattle.ahead.proofs.wire_of.Goals as goal

-- the time that was answered is the frame's, and no longer than the longest
answered : (c : After-unwrap_or)
    → let a = c.args in
    let t = c.unwrap_or.result in
    (t ≡ wire_time a.rate a.octets) × (t ≤ 2_000_000)
answered c =
    let a = c.args in
    let e : c.unwrap_or.result ≡ wire_time a.rate a.octets =
    c.unwrap_or.ensures ∙ ap (λ r. result_unwrap_or r 0) (rw c.from.ensures at c.wire_time.ensures)
    ∙ wire_read a.rate a.octets in
    (e, omega (arith, wire_fits a.rate a.octets c.requires))

pub overflow_cast-result : goal.overflow_cast-result
overflow_cast-result c = omega (arith, (answered c).1)

pub returns : goal.returns
returns c = answered c
