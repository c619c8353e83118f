-- A loop that makes the stairs from rows of pairs: it takes the nearest head of all rows, and moves that row on.
-- Assumes nothing.
use mathlib.Core.Path.{◌≡◌, refl, ap}
use mathlib.Core.Logic.{◌↔◌, ⊎_elim, inl, by_cases}
use mathlib.Core.List.{List, [], ◌∷◌, ◌++◌}
use Prim.Native.Nat.{ℕ, ◌+◌, ◌≤◌, ◌<◌}
use native.Mathlib.Nat.{le_refl, le_trans}
use native.Mathlib.Decide.{dec_lt, ℕ_discrete}
use native.Mathlib.Omega.{arith}
use Rattle.laws.specs.Lists.{Mem}
use Rattle.meaning.specs.declared.Stair.{Stair}
use Rattle.meaning.specs.Promises.{IsStairs}
use Rattle.meaning.proofs.Stairs.{same_total}
use Rattle.meaning.proofs.StairsLoop.{Ahead, Partly, partly_none, partly_step, partly_done}

-- the pairs ps are n rows of n: at i j is the j-th of row i, and along a row the distances rise
pub record InRows (n : ℕ) (at : ℕ → ℕ → Stair) (ps : List Stair) : Type 0 where
  pub index : (p : Stair) → Mem p ps ↔ ((i j : ℕ) × (i < n) × (j < n) × (p ≡ at i j))
  pub rises : (i j k : ℕ) → i < n → j < k → k < n → (at i j).far < (at i k).far

-- the stairs so far, where the head of row i stands at pos i: no pair that a row has passed is over the top
pub record Merging (n : ℕ) (at : ℕ → ℕ → Stair) (ps st : List Stair) (pos : ℕ → ℕ) (top : ℕ) : Type 0 where
  pub partly : Partly ps st top
  pub passed : (i j : ℕ) → i < n → j < pos i → (at i j).total ≤ top

-- row i is not at its end, and its head comes no later than the others
pub record Nearest (n : ℕ) (at : ℕ → ℕ → Stair) (pos : ℕ → ℕ) (i : ℕ) : Type 0 where
  pub row : i < n
  pub live : pos i < n
  pub ahead : (k : ℕ) → k < n → pos k < n → Ahead (at i (pos i)) (at k (pos k))

-- row i moves on
pub record Moved (pos next : ℕ → ℕ) (i : ℕ) : Type 0 where
  pub here : next i ≡ pos i + 1
  pub other : (k : ℕ) → ¬ (k ≡ i) → next k ≡ pos k

module _ {n : ℕ} {at : ℕ → ℕ → Stair} {ps : List Stair} (rows : InRows n at ps) where
  pub merging_none : {pos : ℕ → ℕ} → ((p : Stair) → Mem p ps → 0 < p.total) → ((i : ℕ) → i < n → pos i ≡ 0)
      → Merging n at ps [] pos 0
  merging_none long start = record {
    partly = partly_none ps long;
    passed = λ i j hi h. absurd (omega (arith, start i hi));
  }

  passes : {st : List Stair} {pos next : ℕ → ℕ} {top i : ℕ} → Merging n at ps st pos top → Moved pos next i
      → (t : ℕ) → top ≤ t → (at i (pos i)).total ≤ t → (k j : ℕ) → k < n → j < next k → (at k j).total ≤ t
  passes {st} {pos} {next} {top} {i} g m t h l k j hk hj =
      by_cases (ℕ_discrete k i) same (λ e. le_trans (g.passed k j hk (omega (arith, m.other k e))) h)
    where
      same : k ≡ i → (at k j).total ≤ t
      same e =
          by_cases (dec_lt j (pos k))
          (λ c. le_trans (g.passed k j hk c) h)
          (λ c. let f : j ≡ pos i = omega (arith, ap next e, ap pos e, m.here) in rw (e, f) l)

  -- a head that has a larger total than the top is the next stair
  pub merging_append : {st : List Stair} {pos next : ℕ → ℕ} {top i : ℕ} → Merging n at ps st pos top
      → Nearest n at pos i → Moved pos next i → top < (at i (pos i)).total
      → Merging n at ps (st ++ at i (pos i) ∷ []) next (at i (pos i)).total
  merging_append {st} {pos} {next} {top} {i} g near m l = record {
    partly =
        partly_step head g.partly ((rows.index head).1 (i, pos i, near.row, near.live, refl)) l
        (λ p mp lp. first p lp ((rows.index p).0 mp));
    passed = passes g m head.total (omega arith) (le_refl head.total);
  }
    where
      head : Stair
      head = at i (pos i)

      later : (k j : ℕ) → (at k (pos k)).far < (at k j).far → Ahead head (at k (pos k)) → Ahead head (at k j)
      later k j h a = inl (⊎_elim (λ b. omega arith) (λ b. omega arith) a)

      first : (p : Stair) → top < p.total → (k j : ℕ) × (k < n) × (j < n) × (p ≡ at k j) → Ahead head p
      first p lp (k, j, hk, hj, e) =
          rw e
          (by_cases (dec_lt j (pos k))
          (λ c. absurd (omega (arith, g.passed k j hk c, same_total e)))
          (λ c. by_cases (ℕ_discrete j (pos k))
          (λ f. rw f (near.ahead k hk (omega arith)))
          (λ f. later k j (rows.rises k (pos k) j hk (omega arith) hj) (near.ahead k hk (omega arith)))))

  -- any other is passed by
  pub merging_skip : {st : List Stair} {pos next : ℕ → ℕ} {top i : ℕ} → Merging n at ps st pos top → Moved pos next i
      → (at i (pos i)).total ≤ top → Merging n at ps st next top
  merging_skip {top = top} g m l = record { partly = g.partly; passed = passes g m top (le_refl top) l }

  -- once all rows are at their ends
  pub merging_done : {st : List Stair} {pos : ℕ → ℕ} {top : ℕ} → Merging n at ps st pos top
      → ((i : ℕ) → i < n → n ≤ pos i) → IsStairs ps st
  merging_done g ends =
      partly_done g.partly
      (λ p m. let (i, j, hi, hj, e) = (rows.index p).0 m in
      omega (arith, g.passed i j hi (omega (arith, ends i hi)), same_total e))
