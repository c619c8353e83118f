-- Wire time: rounded up once, never 0 at a known rate, and how large it can be.
-- Assumes nothing.
use mathlib.Core.Bool.{Bool, true, false, cond}
use Prim.Native.Nat.{ℕ, zero, suc, ◌+◌, ◌*◌, ◌≤◌, ◌<◌}
use native.Mathlib.Nat.{mul-le-mul_left, mul-le-mul}
use native.Mathlib.Omega.{arith}
use lib.Dec.{eqb, lit≤}
use Rattle.meaning.specs.Wire.{ten_octets, extra_octets, wire_time}

-- one of the five times, or 0
pub ten_at_most : (rate : ℕ) → ten_octets rate ≤ 8_000
unfolding ten_octets
ten_at_most rate =
    pick (eqb rate 1) (lit≤ tt)
    (pick (eqb rate 2) (lit≤ tt)
    (pick (eqb rate 3) (lit≤ tt) (pick (eqb rate 4) (lit≤ tt) (pick (eqb rate 5) (lit≤ tt) (lit≤ tt)))))
  where
    pick : (b : Bool) {x y : ℕ} → x ≤ 8_000 → y ≤ 8_000 → cond b x y ≤ 8_000
    pick true p q = p
    pick false p q = q

-- every rate code has a time
pub ten_at_least : (rate : ℕ) → 1 ≤ rate → rate ≤ 5 → 8 ≤ ten_octets rate
unfolding ten_octets
ten_at_least zero lo hi = absurd (omega arith)
ten_at_least (suc zero) lo hi = lit≤ tt
ten_at_least (suc (suc zero)) lo hi = lit≤ tt
ten_at_least (suc (suc (suc zero))) lo hi = lit≤ tt
ten_at_least (suc (suc (suc (suc zero)))) lo hi = lit≤ tt
ten_at_least (suc (suc (suc (suc (suc zero))))) lo hi = lit≤ tt
ten_at_least (suc (suc (suc (suc (suc (suc n)))))) lo hi = absurd (omega arith)

-- ten times the wire time is no less than what ten frames take, and less than ten more
pub wire_rounds_up : (rate octets : ℕ)
    → ((octets + extra_octets) * ten_octets rate ≤ 10 * wire_time rate octets)
    × (10 * wire_time rate octets < (octets + extra_octets) * ten_octets rate + 10)
unfolding wire_time
wire_rounds_up rate octets = (omega arith, omega arith)

pub wire_pos : (rate octets : ℕ) → 1 ≤ rate → rate ≤ 5 → 0 < wire_time rate octets
unfolding extra_octets
wire_pos rate octets lo hi =
    let r = wire_rounds_up rate octets in
    let ten = ten_at_least rate lo hi in
    let least = mul-le-mul {n₁ = 1} {m₁ = 8} {n₂ = octets + 8} {m₂ = ten_octets rate} (omega arith) ten in
    omega (arith, r.0, least)

pub wire_at_most : (rate octets : ℕ) → wire_time rate octets ≤ (octets + extra_octets) * 800
wire_at_most rate octets =
    let r = wire_rounds_up rate octets in
    omega (arith, r.1, mul-le-mul_left (octets + extra_octets) (ten_at_most rate))
