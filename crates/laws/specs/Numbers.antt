-- Numbers: sums and largest values over a stretch, and the first number that closes.
use Rattle.std.specs.Prelude.{Bool, false, cond, ◌||◌, ℕ, zero, suc, ◌+◌, max, ◌≤◌, leb}
use Rattle.std.proofs.Math.Option.{Option, none, some}

-- f 0 + f 1 + .. + f (n - 1)
unfoldable pub sum : ℕ → (ℕ → ℕ) → ℕ
sum zero f = 0
sum (suc n) f = sum n f + f n

-- the largest of f 1, f 2, .., f n
unfoldable pub largest_to : ℕ → (ℕ → ℕ) → ℕ
largest_to zero f = 0
largest_to (suc n) f = max (largest_to n f) (f (suc n))

-- some number below n passes the test
unfoldable pub any_below : ℕ → (ℕ → Bool) → Bool
any_below zero p = false
any_below (suc n) p = any_below n p || p n

-- x where f x <= x
abbrev pub closing : (ℕ → ℕ) → ℕ → Option ℕ
closing f x = cond (leb (f x) x) (some x) none

abbrev pub or_else : Option ℕ → Option ℕ → Option ℕ
or_else none b = b
or_else (some a) b = some a

-- the first x from 0 up to the limit with f x <= x, none where there is none
unfoldable pub least_up_to : (ℕ → ℕ) → ℕ → Option ℕ
least_up_to f zero = closing f 0
least_up_to f (suc n) = or_else (least_up_to f n) (closing f (suc n))

-- x is the least number with f x <= x
pub record Least (f : ℕ → ℕ) (x : ℕ) : Type 0 where
  pub closes : f x ≤ x
  pub first : (y : ℕ) → f y ≤ y → x ≤ y

-- f never falls
abbrev pub Mono : (ℕ → ℕ) → Type 0
Mono f = (x y : ℕ) → x ≤ y → f x ≤ f y
