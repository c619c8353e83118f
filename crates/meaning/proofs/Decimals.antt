-- Decimal digits: one law for each case, the number they make, no zero in front, and how many there are.
-- Assumes nothing.
use mathlib.Core.Path.{◌≡◌, refl, sym, ap, ◌∙◌}
use mathlib.Core.Logic.{by_cases, ⊎_elim}
use mathlib.Core.List.Memᴰ
use mathlib.Core.List.{List, [], ◌∷◌, ◌++◌}
use Prim.Native.Nat.{ℕ, zero, suc, ◌+◌, ◌-◌, ◌*◌, ◌/◌, ◌%◌, ◌^◌, ◌≤◌, ◌<◌}
use native.Mathlib.Nat.{pow-zero, pow-suc}
use native.Mathlib.Decide.{dec_lt}
use native.Mathlib.Omega.{arith}
use lib.ListN.{length, get_or, length-append, get_or-append}
use borrow.Author.Tests.{lt-ltb, le-ltb}
use Rattle.laws.specs.Lists.{Mem}
use Rattle.meaning.specs.Findings.{digits_within, decimal}

-- ---- the two cases

module _ (w n : ℕ) where
  within_small : n < 10 → digits_within (suc w) n ≡ (48 + n) ∷ []
  unfolding digits_within
  within_small h = rw (digits_within, lt-ltb n 10 h)

  within_more : 10 ≤ n → digits_within (suc w) n ≡ digits_within w (n / 10) ++ ((48 + n % 10) ∷ [])
  unfolding digits_within
  within_more h = rw (digits_within, le-ltb n 10 h)

-- places to spare change nothing
within_same : (w v n : ℕ) → n < w → n < v → digits_within w n ≡ digits_within v n
within_same zero v n h k = absurd (omega arith)
within_same (suc w) zero n h k = absurd (omega arith)
within_same (suc w) (suc v) n h k =
    by_cases (dec_lt n 10) (λ s. within_small w n s ∙ sym (within_small v n s))
    (λ l.
    within_more w n (omega arith)
    ∙ ap (λ (xs : List ℕ). xs ++ ((48 + n % 10) ∷ [])) (within_same w v (n / 10) (omega arith) (omega arith))
    ∙ sym (within_more v n (omega arith)))

pub decimal_small : (n : ℕ) → n < 10 → decimal n ≡ (48 + n) ∷ []
unfolding decimal
decimal_small n h = within_small n n h

pub decimal_more : (n : ℕ) → 10 ≤ n → decimal n ≡ decimal (n / 10) ++ ((48 + n % 10) ∷ [])
unfolding decimal
decimal_more n h =
    let same = within_same n (suc (n / 10)) (n / 10) (omega arith) (omega arith) in
    within_more n n h ∙ ap (λ (xs : List ℕ). xs ++ ((48 + n % 10) ∷ [])) same

-- what holds of the small numbers, and of n where it holds of n / 10, holds of all
pub by_digits : (P : ℕ → Type 0) → ((n : ℕ) → n < 10 → P n) → ((n : ℕ) → 10 ≤ n → P (n / 10) → P n) → (n : ℕ) → P n
by_digits P small more n = go (suc n) n (omega arith)
  where
    go : (w n : ℕ) → n < w → P n
    go zero n h = absurd (omega arith)
    go (suc w) n h =
        by_cases (dec_lt n 10) (small n) (λ l. more n (omega arith) (go w (n / 10) (omega arith)))

-- ---- the number that digits make

-- after the number n
unfoldable pub made_after : ℕ → List ℕ → ℕ
made_after n [] = n
made_after n (x ∷ xs) = made_after (n * 10 + (x - 48)) xs

made_append : (n : ℕ) (xs ys : List ℕ) → made_after n (xs ++ ys) ≡ made_after (made_after n xs) ys
unfolding made_after
made_append n [] ys = refl
made_append n (x ∷ xs) ys = made_append (n * 10 + (x - 48)) xs ys

-- the digits of n make n again
pub decimal_makes : (n : ℕ) → made_after 0 (decimal n) ≡ n
unfolding made_after
decimal_makes =
    by_digits (λ n. made_after 0 (decimal n) ≡ n) (λ n h. rw (decimal_small n h) (omega arith))
    (λ n h e.
    rw (decimal_more n h) (made_append 0 (decimal (n / 10)) ((48 + n % 10) ∷ []) ∙ rw e (omega arith)))

-- ---- the digits

-- each is one of the ten
pub decimal_digits : (n x : ℕ) → Mem x (decimal n) → (48 ≤ x) × (x ≤ 57)
decimal_digits =
    by_digits (λ n. (x : ℕ) → Mem x (decimal n) → (48 ≤ x) × (x ≤ 57))
    (λ n h x m. let e = Memᴰ.eq_of_singleton (rw (decimal_small n h) at m) in (omega arith, omega arith))
    (λ n h each x m.
    ⊎_elim (each x) (λ k. let e = Memᴰ.eq_of_singleton k in (omega arith, omega arith))
    (Memᴰ.append_cases (decimal (n / 10)) (rw (decimal_more n h) at m)))

-- there is one
pub decimal_some : (n : ℕ) → 1 ≤ length (decimal n)
decimal_some =
    by_digits (λ n. 1 ≤ length (decimal n)) (λ n h. rw (decimal_small n h) (omega arith))
    (λ n h l. rw (decimal_more n h, length-append (decimal (n / 10)) ((48 + n % 10) ∷ [])) (omega arith))

-- no zero stands in front: the first is 0 only in "0" itself
pub decimal_first : (n : ℕ) → 1 ≤ n → 48 < get_or (decimal n) 0 0
decimal_first =
    by_digits (λ n. 1 ≤ n → 48 < get_or (decimal n) 0 0) (λ n h k. rw (decimal_small n h) (omega arith))
    (λ n h ih k.
    let z = get_or-append (decimal (n / 10)) ((48 + n % 10) ∷ []) 0 0 (decimal_some (n / 10)) in
    rw (decimal_more n h, z) (ih (omega arith)))

-- how many
pub decimal_one_more : (n : ℕ) → 10 ≤ n → length (decimal n) ≡ length (decimal (n / 10)) + 1
decimal_one_more n h = ap length (decimal_more n h) ∙ length-append (decimal (n / 10)) ((48 + n % 10) ∷ [])

pub decimal_length : (k n : ℕ) → n < 10 ^ suc k → length (decimal n) ≤ suc k
decimal_length k n h =
    by_cases (dec_lt n 10) (λ s. rw (decimal_small n s) (omega arith)) (λ l. more k n h (omega arith))
  where
    more : (k n : ℕ) → n < 10 ^ suc k → 10 ≤ n → length (decimal n) ≤ suc k
    more zero n h l = absurd (omega (arith, pow-suc 10 0, pow-zero 10))
    more (suc k) n h l =
        let less : n / 10 < 10 ^ suc k = omega (arith, pow-suc 10 (suc k)) in
        rw (decimal_one_more n l)
        (by_cases (dec_lt (n / 10) 10) (λ s. rw (decimal_small (n / 10) s) (omega arith))
        (λ m. omega (arith, more k (n / 10) less (omega arith))))
