-- Places on a circle of n cells: cell b lies (b + (n - a)) % n cells after cell a.
-- Assumes nothing.
use mathlib.Core.Path.{◌≡◌, sym, ap, ◌∙◌}
use mathlib.Core.Logic.{◌↔◌, ◌⊎◌, inl, inr, ⊎_elim, by_cases}
use Prim.Native.Nat.{ℕ, zero, suc, ◌+◌, ◌-◌, ◌*◌, ◌/◌, ◌%◌, ◌≤◌, ◌<◌}
use native.Mathlib.Nat.{zero-add, add-zero, add-suc, suc-add, mod-eq_of_lt, mod-eq-sub-mod, mod_self, add-mod_right}
use native.Mathlib.Nat.{div-add-mod', mod-lt}
use native.Mathlib.Decide.{dec_le, dec_lt}
use native.Mathlib.Omega.{arith}
use Rattle.laws.specs.Numbers.{sum}
use Rattle.laws.proofs.Sums.{sum_ext, sum_shift}

pub mod_once : (n x : ℕ) → n ≤ x → x < n + n → x % n ≡ x - n
mod_once n x h l = mod-eq-sub-mod h ∙ mod-eq_of_lt (omega arith)

pub mod_twice : (n x : ℕ) → n + n ≤ x → x < n + n + n → x % n ≡ x - (n + n)
mod_twice n x h l = mod-eq-sub-mod (omega arith) ∙ mod_once n (x - n) (omega arith) (omega arith) ∙ omega arith

-- the distance to a cell further on, to one further back, and to the cell itself
pub dist_up : (n s c : ℕ) → s ≤ c → c < n → (c + (n - s)) % n ≡ c - s
dist_up n s c h l = mod_once n (c + (n - s)) (omega arith) (omega arith) ∙ omega arith

pub dist_down : (n s c : ℕ) → c < s → s < n → (c + (n - s)) % n ≡ c + (n - s)
dist_down n s c h l = mod-eq_of_lt (omega arith)

pub dist_self : (n s : ℕ) → s < n → (s + (n - s)) % n ≡ 0
dist_self n s h = ap (λ (x : ℕ). x % n) (omega arith) ∙ mod_self n

-- the k-th cell after s is c exactly where k is the distance
pub at_dist : (n s c k : ℕ) → s < n → c < n → k < n → ((s + k) % n ≡ c) ↔ (k ≡ (c + (n - s)) % n)
at_dist n s c k hs hc hk = by_cases (dec_lt (s + k) n) near far
  where
    d : ℕ
    d = (c + (n - s)) % n

    distance : (s ≤ c) ⊎ (c < s) → (s + d ≡ c) ⊎ (s + d ≡ c + n)
    distance (inl h) = inl (omega (arith, dist_up n s c h hc))
    distance (inr h) = inr (omega (arith, dist_down n s c h hs))

    there : (s + d ≡ c) ⊎ (s + d ≡ c + n)
    there = by_cases (dec_le s c) (λ h. distance (inl h)) (λ h. distance (inr (omega arith)))

    less : d < n
    less = mod-lt (c + (n - s)) (omega arith)

    near : s + k < n → ((s + k) % n ≡ c) ↔ (k ≡ d)
    near h =
        let e = mod-eq_of_lt h in
        ⊎_elim (λ (q : s + d ≡ c). (λ f. omega arith, λ f. omega arith))
        (λ (q : s + d ≡ c + n). (λ f. omega (arith, less), λ f. omega (arith, less))) there

    far : ¬ (s + k < n) → ((s + k) % n ≡ c) ↔ (k ≡ d)
    far h =
        let e = mod_once n (s + k) (omega arith) (omega arith) in
        ⊎_elim (λ (q : s + d ≡ c). (λ f. omega (arith, less), λ f. omega (arith, less)))
        (λ (q : s + d ≡ c + n). (λ f. omega arith, λ f. omega arith)) there

-- a whole round from any cell
pub sum_round : (n a : ℕ) (g : ℕ → ℕ) → sum n (λ k. g ((a + k) % n)) ≡ sum n g
sum_round n zero g = sum_ext n _ g (λ k h. ap g (ap (λ (x : ℕ). x % n) (zero-add k) ∙ mod-eq_of_lt h))
sum_round n (suc a) g = omega (arith, sum_round n a g, sum_shift n (λ k. g ((a + k) % n)), same, last)
  where
    same : sum n (λ k. g ((suc a + k) % n)) ≡ sum n (λ k. g ((a + suc k) % n))
    same = sum_ext n _ _ (λ k h. ap (λ (x : ℕ). g (x % n)) (suc-add a k ∙ sym (add-suc a k)))

    last : g ((a + n) % n) ≡ g ((a + 0) % n)
    last = ap g (add-mod_right a n ∙ ap (λ (x : ℕ). x % n) (sym (add-zero a)))

-- what repeats every n
pub per_mod {ℓ} : {A : Type ℓ} (n : ℕ) (g : ℕ → A) → ((c : ℕ) → g (c + n) ≡ g c) → (x : ℕ) → g (x % n) ≡ g x
per_mod {A = A} n g per x = sym (go (x / n)) ∙ ap g (div-add-mod' x n)
  where
    go : (q : ℕ) → g (q * n + x % n) ≡ g (x % n)
    go zero = ap g (omega arith)
    go (suc q) = let ih = go q in ap g (omega arith) ∙ per (q * n + x % n) ∙ ih
