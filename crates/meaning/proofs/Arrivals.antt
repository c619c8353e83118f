-- How many frames a stream can bring, and how early: the two facts that everything about responses rests on.
-- Assumes nothing.
use mathlib.Core.Path.{◌≡◌}
use mathlib.Core.Logic.{◌↔◌, by_cases}
use Prim.Native.Nat.{ℕ, ◌+◌, ◌-◌, ◌*◌, ◌/◌, ◌≤◌, ◌<◌}
use native.Mathlib.Nat.{le_refl, le_trans, mul-le-mul_left, div-mul-le_self, le-div_iff_mul-le}
use native.Mathlib.Decide.{dec_le}
use native.Mathlib.Omega.{arith}
use Rattle.laws.specs.Numbers.{Mono}
use Rattle.meaning.specs.declared.Stream.{Stream}
use Rattle.meaning.specs.Ranges.{horizon}
use Rattle.meaning.specs.Arrivals.{most_in, earliest}

pub record Counted (most early : ℕ → ℕ) : Type 0 where
  -- frame q is among the most in x exactly when its earliest arrival is at most x
  pub iff : (q x : ℕ) → 1 ≤ q → (q ≤ most x) ↔ (early q ≤ x)
  pub first : early 1 ≡ 0

pub counted : (j : Stream) → 0 < j.period → Counted (most_in j) (earliest j)
unfolding most_in earliest
counted j pos = record { iff = among; first = omega arith }
  where
    among : (q x : ℕ) → 1 ≤ q
        → (q ≤ (x + j.jitter) / j.period + 1) ↔ ((q - 1) * j.period - j.jitter ≤ x)
    among q x h =
        let (to, from) = le-div_iff_mul-le {k = j.period} {x = q - 1} {y = x + j.jitter} pos in
        (λ l. omega (arith, to (omega arith)), λ l. omega (arith, from (omega arith)))

-- in range, a stream brings at most 20,001 frames in a stretch as long as the horizon
pub few_in_horizon : (j : Stream) → 10_000 ≤ j.period → j.jitter ≤ 100_000_000 → most_in j horizon ≤ 20_001
unfolding most_in horizon
few_in_horizon j long short =
    let n : ℕ = (100_000_000 + j.jitter) / j.period in
    omega (arith, mul-le-mul_left n long, div-mul-le_self (100_000_000 + j.jitter) j.period)

module _ {most early : ℕ → ℕ} (known : Counted most early) where
  -- a longer stretch holds no fewer frames
  pub most_grows : Mono most
  most_grows x y h =
      by_cases (dec_le 1 (most x))
      (λ l. (known.iff (most x) y l).1 (le_trans ((known.iff (most x) x l).0 (le_refl (most x))) h))
      (λ l. omega arith)

  -- every stretch may hold a frame
  pub most_one : (x : ℕ) → 1 ≤ most x
  most_one x = (known.iff 1 x (le_refl 1)).1 (omega (arith, known.first))

  -- a later frame comes no earlier
  pub early_grows : (q r : ℕ) → 1 ≤ q → q ≤ r → early q ≤ early r
  early_grows q r h l =
      (known.iff q (early r) h).0 (le_trans l ((known.iff r (early r) (le_trans h l)).1 (le_refl (early r))))
