-- Numbers: tests below a limit.
-- Assumes nothing.
use mathlib.Core.Path.{◌≡◌, refl, ap, ◌∙◌}
use mathlib.Core.Logic.{◌↔◌, by_cases}
use mathlib.Core.Bool.{Bool, true, false, ◌||◌, or-true, false≢true}
use Prim.Native.Nat.{ℕ, zero, suc, ◌<◌}
use native.Mathlib.Nat.{not-suc-le-zero}
use native.Mathlib.Decide.{dec_lt}
use native.Mathlib.Omega.{arith}
use Rattle.laws.specs.Numbers.{any_below}

pub any_below_true : (n : ℕ) (p : ℕ → Bool) → any_below n p ≡ true ↔ ((k : ℕ) × (k < n) × (p k ≡ true))
unfolding any_below
any_below_true zero p = (λ e. absurd (false≢true e), λ (k, h, e). absurd (not-suc-le-zero h))
any_below_true (suc n) p = (to (any_below_true n p).0 (any_below n p) refl, from (any_below_true n p).1)
  where
    to : (any_below n p ≡ true → (k : ℕ) × (k < n) × (p k ≡ true)) → (b : Bool) → any_below n p ≡ b → (b || p n) ≡ true
        → (k : ℕ) × (k < suc n) × (p k ≡ true)
    to ih true q e = let (k, h, f) = ih q in (k, omega arith, f)
    to ih false q e = (n, omega arith, e)

    from : ((k : ℕ) × (k < n) × (p k ≡ true) → any_below n p ≡ true) → (k : ℕ) × (k < suc n) × (p k ≡ true)
        → (any_below n p || p n) ≡ true
    from ih (k, h, e) =
        by_cases (dec_lt k n) (λ l. rw (ih (k, l, e)))
        (λ l. let same : n ≡ k = omega arith in rw (ap p same ∙ e) (or-true (any_below n p)))
