-- Arrivals of streams of which only the period and the jitter are looked at.
-- Assumes nothing.
use mathlib.Core.Path.{◌≡◌, refl, sym, ap, ◌∙◌}
use Prim.Native.Nat.{ℕ, ◌+◌, ◌-◌, ◌*◌, ◌/◌, ◌≤◌, ◌<◌}
use native.Mathlib.Nat.{le_trans, mul_assoc, mul_right_comm, mul-le-mul_left, mul-le-mul_right}
use native.Mathlib.Nat.{div-mul-le_self, le-div_iff_mul-le}
use native.Mathlib.Omega.{arith}
use Rattle.meaning.specs.declared.Stream.{Stream}
use Rattle.meaning.specs.Ranges.{horizon}
use Rattle.meaning.specs.Arrivals.{most_in, earliest}
use Rattle.meaning.proofs.Arrivals.{counted, few_in_horizon, most_grows}
use Rattle.meaning.proofs.Later.{gap_of, later_in, steady, next_of, later_steady, next_after, next_soon}
use Rattle.arrivals.specs.Rows.{row_stream}

-- ---- the formulas

-- the counts and the earliest arrivals depend on the period and the jitter alone
pub arrivals_alike : (i j : Stream) → i.period ≡ j.period → i.jitter ≡ j.jitter
    → ((x : ℕ) → most_in i x ≡ most_in j x) × ((q : ℕ) → earliest i q ≡ earliest j q)
unfolding most_in earliest
arrivals_alike i j p q = (λ x. rw (p, q), λ k. rw (p, q))

-- the count and the next instant, as they are computed
pub frames_computed : (x period jitter : ℕ) → (x + jitter) / period + 1 ≡ most_in (row_stream period jitter) x
unfolding most_in
frames_computed x period jitter = refl

pub next_computed : (x period jitter k : ℕ) → k ≡ most_in (row_stream period jitter) x
    → k * period - jitter ≡ next_of (row_stream period jitter) x
unfolding next_of earliest
next_computed x period jitter k e =
    let same : k ≡ most_in (row_stream period jitter) x + 1 - 1 = omega arith in
    ap (λ (i : ℕ). i * period - jitter) same

-- without jitter the count is how many more frames a longer stretch can hold
pub later_computed : (j : Stream) (y : ℕ) → most_in (row_stream j.period 0) y ≡ later_in j y
unfolding steady gap_of
later_computed j y = (arrivals_alike (row_stream j.period 0) (steady j) refl refl).0 y ∙ sym (later_steady j y)

-- a product with an inverse of the period never counts a frame too many
pub frames_under : (x period jitter inv : ℕ) → 0 < period → inv * period ≤ 35_184_372_088_832
    → (x + jitter) * inv / 35_184_372_088_832 + 1 ≤ most_in (row_stream period jitter) x
unfolding most_in
frames_under x period jitter inv pos h =
    let y = x + jitter in
    let q = y * inv / 35_184_372_088_832 in
    let product : q * 35_184_372_088_832 * period ≤ y * inv * period =
    mul-le-mul_right period (div-mul-le_self (y * inv) 35_184_372_088_832) in
    let most : y * (inv * period) ≤ y * 35_184_372_088_832 = mul-le-mul_left y h in
    let under : q * period * 35_184_372_088_832 ≤ y * 35_184_372_088_832 =
    omega (arith, product, most, mul_assoc y inv period, mul_right_comm q 35_184_372_088_832 period) in
    let few : q * period ≤ y = omega (arith, under) in
    omega (arith, (le-div_iff_mul-le {k = period} {x = q} {y = y} pos).1 few)

-- ---- in range

frames_grow : (x y period jitter : ℕ) → x ≤ y → 10_000 ≤ period
    → most_in (row_stream period jitter) x ≤ most_in (row_stream period jitter) y
frames_grow x y period jitter h long = most_grows (counted (row_stream period jitter) (omega arith)) x y h

module _ (x period jitter : ℕ) (soon : x ≤ 100_000_000) (long : 10_000 ≤ period) where
  pub frames_few : jitter ≤ 100_000_000 → most_in (row_stream period jitter) x ≤ 20_001
  unfolding horizon
  frames_few h =
      le_trans (frames_grow x horizon period jitter soon long)
      (few_in_horizon (row_stream period jitter) long h)

  -- the next instant comes after x, by a period at most
  pub next_near : (x < next_of (row_stream period jitter) x) × (next_of (row_stream period jitter) x ≤ x + period)
  next_near =
      (next_after (row_stream period jitter) (omega arith) x, next_soon (row_stream period jitter) (omega arith) x)
