-- `wire::wire_time` meets its contract: nothing overflows, and the division rounds up.
use native.Mathlib.Omega.{arith}
use Rattle.std.proofs.lemmas.Result.{err_from_is_err_and}
use Rattle.wire.proofs.Rates.{product_fits, wire_is, unknown_time}
use Rattle.wire.proofs.wire_time.Goals as goal

pub overflow_mul-from : goal.overflow_mul-from
overflow_mul-from c =
    let fits = product_fits c.args.rate c.args.octets c.in_ok-ten.ten (omega arith) c.in_ok-ten.ensures in
    rw c.from.ensures (omega (arith, fits))

pub returns : goal.returns
returns c =
    rw (c.div_ceil.ensures, c.from.ensures)
    (wire_is c.args.rate c.args.octets c.in_ok-ten.ten c.in_ok-ten.ensures)

pub returns-in_err-ten : goal.returns-in_err-ten
returns-in_err-ten c =
    let p = err_from_is_err_and c.from_residual.result c.from_residual.ensures.1 in
    rw p.1 (unknown_time c.args.rate _ _ c.in_err-ten.ensures)
