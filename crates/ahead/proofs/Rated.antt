-- Wire time by the rate code: at most 2,000,000 ns for the longest frame, and 0 at a number that is no rate code.
-- Assumes nothing.
use mathlib.Core.Path.{◌≡◌, refl, sym, ap, ◌∙◌}
use mathlib.Core.Bool.{Bool, true, false, cond, true≢false}
use Prim.Native.Nat.{ℕ, ◌+◌, ◌*◌, ◌≤◌}
use native.Mathlib.Nat.{mul-zero}
use native.Mathlib.Omega.{arith}
use lib.Dec.{eqb}
use borrow.Author.Tests.{ne_eqb}
use Rattle.meaning.specs.Ranges.{within}
use Rattle.meaning.specs.Wire.{ten_octets, extra_octets, tenth_up, wire_time}
use Rattle.meaning.proofs.Wires.{wire_at_most}
use Rattle.std.specs.Prelude.{Ok, Err}
use Rattle.std.specs.Result.{result_unwrap_or}
use Rattle.wire.proofs.Rates.{unknown}
use Rattle.wire.specs.Timing.{timed}

pub wire_fits : (rate octets : ℕ) → octets ≤ 2_000 → wire_time rate octets ≤ 2_000_000
unfolding extra_octets
wire_fits rate octets h = omega (arith, wire_at_most rate octets)

-- no rate code, no time of ten octets
ten_unknown : (rate : ℕ) → within 1 5 rate ≡ false → ten_octets rate ≡ 0
unfolding ten_octets
ten_unknown rate h = rw (other 1 refl, other 2 refl, other 3 refl, other 4 refl, other 5 refl)
  where
    other : (k : ℕ) → within 1 5 k ≡ true → eqb rate k ≡ false
    other k e = ne_eqb rate k (λ q. true≢false (sym e ∙ ap (within 1 5) (sym q) ∙ h))

-- what is read from a time or its refusal
pub wire_read : (rate octets : ℕ) → result_unwrap_or (timed rate (wire_time rate octets)) 0 ≡ wire_time rate octets
unfolding timed wire_time
wire_read rate octets = go (within 1 5 rate) refl
  where
    go : (b : Bool) → within 1 5 rate ≡ b
        → result_unwrap_or (cond b (Ok (wire_time rate octets)) (Err unknown)) 0
        ≡ tenth_up ((octets + extra_octets) * ten_octets rate)
    go true e = refl
    go false e = rw (ten_unknown rate e, mul-zero (octets + extra_octets)) refl
