-- Sums over 0 .. n - 1.
-- Assumes nothing.
use mathlib.Core.Path.{◌≡◌, refl, ap, ap₂}
use mathlib.Core.Logic.{by_cases}
use mathlib.Core.Bool.{cond}
use Prim.Native.Nat.{ℕ, zero, suc, ◌+◌, ◌-◌, ◌≤◌, ◌<◌, zero-le}
use native.Mathlib.Nat.{zero-add, add-zero, add-suc, le_refl}
use native.Mathlib.Decide.{dec_lt, ℕ_discrete}
use native.Mathlib.Omega.{arith}
use lib.Dec.{ltb, eqb}
use borrow.Author.Tests.{eq-eqb, ne_eqb, lt-ltb, le-ltb}
use Rattle.laws.specs.Numbers.{sum}

pub sum_ext : (n : ℕ) (f g : ℕ → ℕ) → ((k : ℕ) → k < n → f k ≡ g k) → sum n f ≡ sum n g
unfolding sum
sum_ext zero f g h = refl
sum_ext (suc n) f g h = ap₂ (λ (x y : ℕ). x + y) (sum_ext n f g (λ k l. h k (omega arith))) (h n (omega arith))

pub sum_add : (n : ℕ) (f g : ℕ → ℕ) → sum n (λ k. f k + g k) ≡ sum n f + sum n g
unfolding sum
sum_add zero f g = refl
sum_add (suc n) f g = omega (arith, sum_add n f g)

pub sum_le : (n : ℕ) (f g : ℕ → ℕ) → ((k : ℕ) → k < n → f k ≤ g k) → sum n f ≤ sum n g
unfolding sum
sum_le zero f g h = zero-le
sum_le (suc n) f g h = omega (arith, sum_le n f g (λ k l. h k (omega arith)), h n (le_refl (suc n)))

pub sum_split : (m n : ℕ) (f : ℕ → ℕ) → sum (m + n) f ≡ sum m f + sum n (λ k. f (m + k))
unfolding sum
sum_split m zero f = rw (add-zero m) (omega arith)
sum_split m (suc n) f = rw (add-suc m n) (omega (arith, sum_split m n f))

-- a longer stretch has no smaller sum
pub sum_mono : (m n : ℕ) (f : ℕ → ℕ) → m ≤ n → sum m f ≤ sum n f
sum_mono m n f h =
    let e : m + (n - m) ≡ n = omega arith in
    omega (arith, sum_split m (n - m) f, ap (λ (x : ℕ). sum x f) e)

pub sum_zero : (n : ℕ) → sum n (λ k. 0) ≡ 0
unfolding sum
sum_zero zero = refl
sum_zero (suc n) = omega (arith, sum_zero n)

pub sum_ones : (n : ℕ) → sum n (λ k. 1) ≡ n
unfolding sum
sum_ones zero = refl
sum_ones (suc n) = omega (arith, sum_ones n)

pub sum_shift : (n : ℕ) (f : ℕ → ℕ) → sum n (λ k. f (suc k)) + f 0 ≡ sum n f + f n
unfolding sum
sum_shift zero f = refl
sum_shift (suc n) f = omega (arith, sum_shift n f)

pub sum_front : (n : ℕ) (f : ℕ → ℕ) → sum (suc n) f ≡ f 0 + sum n (λ k. f (suc k))
unfolding sum
sum_front n f = omega (arith, sum_shift n f)

-- one summand that may not be 0
pub sum_one : (m c l : ℕ) → sum m (λ k. cond (eqb k c) l 0) ≡ cond (ltb c m) l 0
unfolding sum
sum_one zero c l = rw (le-ltb c zero zero-le)
sum_one (suc m) c l = rw (sum_one m c l) (by_cases (dec_lt m c) below (λ a. by_cases (ℕ_discrete m c) at (above a)))
  where
    below : m < c → cond (ltb c m) l 0 + cond (eqb m c) l 0 ≡ cond (ltb c (suc m)) l 0
    below h = rw (le-ltb c m (omega arith), ne_eqb m c (omega arith), le-ltb c (suc m) h)

    at : m ≡ c → cond (ltb c m) l 0 + cond (eqb m c) l 0 ≡ cond (ltb c (suc m)) l 0
    at h = rw (le-ltb c m (omega arith), eq-eqb m c h, lt-ltb c (suc m) (omega arith)) (zero-add l)

    above : ¬ (m < c) → ¬ (m ≡ c) → cond (ltb c m) l 0 + cond (eqb m c) l 0 ≡ cond (ltb c (suc m)) l 0
    above h e = rw (lt-ltb c m (omega arith), ne_eqb m c e, lt-ltb c (suc m) (omega arith)) (add-zero l)
