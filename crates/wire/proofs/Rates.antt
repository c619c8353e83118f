-- The rate code's cases.
-- Assumes nothing.
use mathlib.Core.Path.{◌≡◌, refl, ap, ◌∙◌}
use mathlib.Core.Bool.{Bool, true, false, cond}
use Prim.Native.Nat.{ℕ, ◌+◌, ◌*◌, ◌≤◌, ◌<◌}
use native.Mathlib.Nat.{mul-le-mul}
use native.Mathlib.Omega.{arith}
use Rattle.meaning.specs.Ranges.{within}
use Rattle.meaning.specs.Wire.{ten_octets, extra_octets, tenth_up, wire_time}
use Rattle.meaning.proofs.Wires.{ten_at_most}
use Rattle.std.specs.Prelude.{Ok, Err}
use Rattle.std.specs.Int.{div_ceil}
use Rattle.wire.specs.declared.UnknownRate.{UnknownRate}
use Rattle.wire.specs.Timing.{timed}

-- the refusal
abbrev pub unknown : UnknownRate
unknown = record {}

-- what a time tells: it is that time, and so is any other at that rate
known_is : (rate t k : ℕ) → Ok k ≡ timed rate t → k ≡ t
unfolding timed
known_is rate t k = go (within 1 5 rate)
  where
    go : (b : Bool) → Ok k ≡ cond b (Ok t) (Err unknown) → k ≡ t
    go true e = cc
    go false e = cc

known_time : (rate t k u : ℕ) → Ok k ≡ timed rate t → Ok u ≡ timed rate u
unfolding timed
known_time rate t k u = go (within 1 5 rate)
  where
    go : (b : Bool) → Ok k ≡ cond b (Ok t) (Err unknown) → Ok u ≡ cond b (Ok u) (Err unknown)
    go true e = refl
    go false e = cc

-- what no time tells
pub unknown_time : (rate t u : ℕ) → Err unknown ≡ timed rate t → Err unknown ≡ timed rate u
unfolding timed
unknown_time rate t u = go (within 1 5 rate)
  where
    go : (b : Bool) → Err unknown ≡ cond b (Ok t) (Err unknown) → Err unknown ≡ cond b (Ok u) (Err unknown)
    go true e = cc
    go false e = refl

-- the product fits 64 bits
pub product_fits : (rate octets k : ℕ) → octets < 4_294_967_296 → Ok k ≡ timed rate (ten_octets rate)
    → (octets + 8) * k ≤ 34_359_738_432_000
product_fits rate octets k h e =
    mul-le-mul {n₁ = octets + 8} {m₁ = k} {n₂ = 4_294_967_304} {m₂ = 8_000}
    (omega arith) (omega (arith, known_is rate (ten_octets rate) k e, ten_at_most rate))

-- a tenth, rounded up
tenth : (x : ℕ) → div_ceil x 10 ≡ tenth_up x
tenth x = omega arith

-- the frame's wire time, from the time of ten octets
pub wire_is : (rate octets k : ℕ) → Ok k ≡ timed rate (ten_octets rate)
    → Ok (div_ceil ((octets + 8) * k) 10) ≡ timed rate (wire_time rate octets)
unfolding wire_time extra_octets
wire_is rate octets k e =
    ap Ok (tenth ((octets + 8) * k) ∙ ap (λ (x : ℕ). tenth_up ((octets + 8) * x)) (known_is rate (ten_octets rate) k e))
    ∙ known_time rate (ten_octets rate) k (wire_time rate octets) e
