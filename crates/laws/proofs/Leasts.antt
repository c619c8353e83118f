-- The least number that closes, by search up to a limit and by iteration from below; the largest of f 1, f 2, .., f n.
-- Assumes nothing.
use mathlib.Core.Path.{◌≡◌, sym, ap, ◌∙◌, subst}
use mathlib.Core.Logic.{◌↔◌, ◌⊎◌, inl, inr, by_cases}
use mathlib.Core.Option.{Option, none, some, mem_unique, some-ne-none, none-ne-some}
use Prim.Native.Nat.{ℕ, zero, suc, ◌≤◌, ◌<◌, zero-le}
use native.Mathlib.Nat.{le_refl, le_trans, le_antisymm, max-le}
use native.Mathlib.Decide.{dec_le, dec_lt}
use native.Mathlib.Omega.{arith}
use borrow.Author.Tests.{le-leb, lt-leb}
use Rattle.laws.specs.Numbers.{largest_to, closing, or_else, least_up_to, Least, Mono}

pub least_unique : {f : ℕ → ℕ} {x y : ℕ} → Least f x → Least f y → x ≡ y
least_unique {f} {x} {y} a b = le_antisymm (a.first y b.closes) (b.first x a.closes)

-- where f never falls, the least number that closes is met exactly
pub least_fixed : {f : ℕ → ℕ} {x : ℕ} → Mono f → Least f x → f x ≡ x
least_fixed {f} {x} mono l = le_antisymm l.closes (l.first (f x) (mono (f x) x l.closes))

-- ---- the search up to a limit

-- no number up to the limit closes
abbrev NoneUpTo : (ℕ → ℕ) → ℕ → Type 0
NoneUpTo f n = (x : ℕ) → x ≤ n → ¬ (f x ≤ x)

-- what a search up to n may answer
abbrev Searched : (ℕ → ℕ) → ℕ → Option ℕ → Type 0
Searched f n o = ((x : ℕ) × (o ≡ some x) × Least f x × (x ≤ n)) ⊎ ((o ≡ none) × NoneUpTo f n)

last_searched : (f : ℕ → ℕ) (n : ℕ) → ((x : ℕ) → x < n → ¬ (f x ≤ x)) → Searched f n (closing f n)
last_searched f n below =
    by_cases (dec_le (f n) n)
    (λ h. inl (n, rw (le-leb (f n) n h), record { closes = h; first = least }, le_refl n))
    (λ h. inr (rw (lt-leb (f n) n (omega arith)), nowhere h))
  where
    least : (y : ℕ) → f y ≤ y → n ≤ y
    least y c = by_cases (dec_le n y) (λ h. h) (λ h. absurd (below y (omega arith) c))

    nowhere : ¬ (f n ≤ n) → NoneUpTo f n
    nowhere h x l c =
        by_cases (dec_lt x n) (λ k. below x k c) (λ k. h (subst (λ (y : ℕ). f y ≤ y) (omega arith) c))

searched : (f : ℕ → ℕ) (n : ℕ) → Searched f n (least_up_to f n)
unfolding least_up_to
searched f zero = last_searched f 0 (λ x l c. omega arith)
searched f (suc n) = further (least_up_to f n) (searched f n)
  where
    further : (o : Option ℕ) → Searched f n o → Searched f (suc n) (or_else o (closing f (suc n)))
    further o (inl (x, e, l, h)) = inl (x, rw e, l, omega arith)
    further o (inr (e, never)) = rw e (last_searched f (suc n) (λ x l. never x (omega arith)))

-- what the search finds is the least number that closes
pub least_some : (f : ℕ → ℕ) (n x : ℕ) → least_up_to f n ≡ some x ↔ (Least f x × (x ≤ n))
least_some f n x = (to (searched f n), from (searched f n))
  where
    to : Searched f n (least_up_to f n) → least_up_to f n ≡ some x → Least f x × (x ≤ n)
    to (inl (y, e, l, h)) q = let same = mem_unique e q in (rw same at l, omega arith)
    to (inr (e, never)) q = absurd (none-ne-some x (sym e ∙ q))

    from : Searched f n (least_up_to f n) → Least f x × (x ≤ n) → least_up_to f n ≡ some x
    from (inl (y, e, l, h)) (k, m) = e ∙ ap {B = Option ℕ} some (least_unique l k)
    from (inr (e, never)) (k, m) = absurd (never x m k.closes)

-- it finds none exactly where none up to the limit closes
pub least_none : (f : ℕ → ℕ) (n : ℕ) → least_up_to f n ≡ none ↔ ((x : ℕ) → x ≤ n → ¬ (f x ≤ x))
least_none f n = (to (searched f n), from (searched f n))
  where
    to : Searched f n (least_up_to f n) → least_up_to f n ≡ none → NoneUpTo f n
    to (inl (y, e, l, h)) q = absurd (some-ne-none y (sym e ∙ q))
    to (inr (e, never)) q = never

    from : Searched f n (least_up_to f n) → NoneUpTo f n → least_up_to f n ≡ none
    from (inl (y, e, l, h)) never = absurd (never y h l.closes)
    from (inr (e, _)) never = e

-- where some number up to the limit closes, it finds the least
pub least_found : (f : ℕ → ℕ) (n x : ℕ) → x ≤ n → f x ≤ x → (y : ℕ) × (least_up_to f n ≡ some y) × Least f y
least_found f n x h c = found (searched f n)
  where
    found : Searched f n (least_up_to f n) → (y : ℕ) × (least_up_to f n ≡ some y) × Least f y
    found (inl (y, e, l, _)) = (y, e, l)
    found (inr (_, never)) = absurd (never x h c)

-- ---- the iteration from below

-- y lies below every number that closes
pub record Under (f : ℕ → ℕ) (y : ℕ) : Type 0 where
  pub under : (x : ℕ) → f x ≤ x → y ≤ x

pub under_zero : (f : ℕ → ℕ) → Under f 0
under_zero f = record { under = λ x c. zero-le }

pub under_step : {f : ℕ → ℕ} {y : ℕ} → Mono f → Under f y → Under f (f y)
under_step {f} {y} mono u = record { under = λ x c. le_trans (mono y x (u.under x c)) c }

-- once it closes, it is the least
pub under_least : {f : ℕ → ℕ} {y : ℕ} → Under f y → f y ≤ y → Least f y
under_least u c = record { closes = c; first = u.under }

-- past a limit, none up to the limit closes
pub under_over : {f : ℕ → ℕ} {y z : ℕ} → Under f y → z < y → (x : ℕ) → x ≤ z → ¬ (f x ≤ x)
under_over u l x h c = omega (arith, u.under x c)

-- k steps from 0
unfoldable pub iter : (ℕ → ℕ) → ℕ → ℕ
iter f zero = 0
iter f (suc k) = f (iter f k)

iter_under : {f : ℕ → ℕ} → Mono f → (k : ℕ) → Under f (iter f k)
unfolding iter
iter_under {f} mono zero = under_zero f
iter_under mono (suc k) = under_step mono (iter_under mono k)

-- a least number by computation: k steps from 0 reach x, and x closes
pub iter_least : {f : ℕ → ℕ} → Mono f → (k x : ℕ) → iter f k ≡ x → f x ≤ x → Least f x
iter_least {f} mono k x e c = under_least (subst (λ (y : ℕ). Under f y) e (iter_under mono k)) c

-- ---- the largest of f 1, f 2, .., f n

pub largest_to_ge : (n : ℕ) (f : ℕ → ℕ) (q : ℕ) → 1 ≤ q → q ≤ n → f q ≤ largest_to n f
unfolding largest_to
largest_to_ge zero f q lo hi = absurd (omega arith)
largest_to_ge (suc n) f q lo hi =
    by_cases (dec_le q n)
    (λ h. omega (arith, largest_to_ge n f q lo h))
    (λ h. let e : q ≡ suc n = omega arith in omega (arith, ap f e))

pub largest_to_le : (n : ℕ) (f : ℕ → ℕ) (k : ℕ) → ((q : ℕ) → 1 ≤ q → q ≤ n → f q ≤ k) → largest_to n f ≤ k
unfolding largest_to
largest_to_le zero f k h = zero-le
largest_to_le (suc n) f k h =
    max-le (largest_to_le n f k (λ q lo hi. h q lo (omega arith))) (h (suc n) (omega arith) (le_refl (suc n)))

-- the largest is some one's
pub largest_to_met : (n : ℕ) (f : ℕ → ℕ) → 1 ≤ n → (q : ℕ) × (1 ≤ q) × (q ≤ n) × (largest_to n f ≡ f q)
unfolding largest_to
largest_to_met zero f h = absurd (omega arith)
largest_to_met (suc zero) f h = (1, le_refl 1, le_refl 1, omega arith)
largest_to_met (suc (suc n)) f h =
    let (q, lo, hi, e) = largest_to_met (suc n) f (omega arith) in
    by_cases (dec_le (f (suc (suc n))) (largest_to (suc n) f))
    (λ l. (q, lo, omega arith, omega arith))
    (λ l. (suc (suc n), omega arith, le_refl (suc (suc n)), omega arith))

pub largest_to_ext : (n : ℕ) (f g : ℕ → ℕ) → ((q : ℕ) → 1 ≤ q → q ≤ n → f q ≡ g q) → largest_to n f ≡ largest_to n g
largest_to_ext n f g h =
    le_antisymm
    (largest_to_le n f (largest_to n g) (λ q lo hi. omega (arith, h q lo hi, largest_to_ge n g q lo hi)))
    (largest_to_le n g (largest_to n f) (λ q lo hi. omega (arith, h q lo hi, largest_to_ge n f q lo hi)))
