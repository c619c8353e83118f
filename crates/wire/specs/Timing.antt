-- What the functions of this crate answer.
use Rattle.std.specs.Prelude.{cond, ℕ, Result, Ok, Err}
use Rattle.meaning.specs.Ranges.{within}
use Rattle.wire.specs.declared.UnknownRate.{UnknownRate}

-- t at a rate code, 1 to 5; any other number is refused by name
unfoldable pub timed : ℕ → ℕ → Result ℕ UnknownRate
timed rate t = cond (within 1 5 rate) (Ok t) (Err (record {}))
