-- Rows by their places: sums and stores.
-- Assumes nothing.
use mathlib.Core.Path.{◌≡◌, ap, ◌∙◌}
use mathlib.Core.Logic.{by_cases}
use mathlib.Core.List.{List, ◌++◌}
use Prim.Native.Nat.{ℕ, zero, suc, ◌+◌, ◌-◌, ◌*◌, ◌≤◌, ◌<◌, zero-le}
use native.Mathlib.Numerals.{add-one}
use native.Mathlib.Decide.{ℕ_discrete}
use native.Mathlib.Omega.{arith}
use lib.ListN.{length, get_or, set, drop}
use lib.Seq.{get_or-set_same, get_or-set_other}
use Rattle.std.proofs.lemmas.List.{get_or_append_left, get_or-append_right, get_or-drop}
use Rattle.laws.specs.Numbers.{sum}

-- ---- sums

pub sum_more : (n : ℕ) (f : ℕ → ℕ) → sum (n + 1) f ≡ sum n f + f n
unfolding sum
sum_more n f = rw (add-one n)

pub sum_few : (n most : ℕ) (f : ℕ → ℕ) → ((k : ℕ) → k < n → f k ≤ most) → sum n f ≤ n * most
unfolding sum
sum_few zero most f h = zero-le
sum_few (suc n) most f h = omega (arith, sum_few n most f (λ k l. h k (omega arith)), h n (omega arith))

-- ---- places

-- what holds of each place below i, and of what is stored at i, holds of each place below i + 1
pub set_below : (P : ℕ → ℕ → Type 0) (l : List ℕ) (i s : ℕ) → i < length l
    → ((k : ℕ) → k < i → P k (get_or l k 0)) → P i s → (k : ℕ) → k < i + 1 → P k (get_or (set l i s) k 0)
set_below P l i s h old new k b =
    by_cases (ℕ_discrete k i)
    (λ e. rw (e, get_or-set_same l i s 0 h) new)
    (λ e. rw (get_or-set_other l i k s 0 e) (old k (omega arith)))

-- the first n places of a row, lent and written, are back
module _ (row items : List ℕ) (n : ℕ) (e : length items ≡ n) where
  pub back_front : (k : ℕ) → k < n → get_or (items ++ drop n row) k 0 ≡ get_or items k 0
  back_front k h = get_or_append_left items (drop n row) 0 k (omega arith)

  pub back_rest : (k : ℕ) → n ≤ k → get_or (items ++ drop n row) k 0 ≡ get_or row k 0
  back_rest k h =
      get_or-append_right items (drop n row) n k 0 e h ∙ get_or-drop n row (k - n) 0
      ∙ ap (λ (i : ℕ). get_or row i 0) (omega arith)
