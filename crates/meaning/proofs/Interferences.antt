-- The laws of interference: the form that computes, how it grows, and that the stairs give it.
-- Assumes nothing.
use mathlib.Core.Path.{◌≡◌, refl, sym, ap, ◌∙◌}
use mathlib.Core.Logic.{◌⊎◌, inl, inr, ⊎_elim}
use mathlib.Core.Bool.{Bool, true, false, cond}
use mathlib.Core.List.Memᴰ
use mathlib.Core.List.{List, [], ◌∷◌, get_last_d}
use Prim.Native.Nat.{ℕ, zero, suc, ◌+◌, ◌-◌, ◌*◌, ◌/◌, ◌%◌, ◌≤◌, ◌<◌, zero-le, suc-le-suc}
use native.Mathlib.Nat.{le_trans, le_antisymm, add-zero, mod-lt, mod-add-mod, mul-le-mul_left, div-mul-le_self}
use native.Mathlib.Omega.{arith}
use lib.ListN.{length}
use lib.Dec.{leb, ltb, eqb}
use borrow.Author.Tests.{eqb-true, leb-true, le-leb, lt-ltb}
use Rattle.laws.specs.Lists.{total, largest, Mem, RisingBy}
use Rattle.laws.specs.Numbers.{sum, Mono}
use Rattle.laws.proofs.Sums.{sum_ext, sum_split, sum_mono, sum_front}
use Rattle.laws.proofs.Circle.{dist_self}
use Rattle.laws.proofs.Lists.{largest_ge, largest_le, largest_ext, largest_add}
use Rattle.laws.proofs.Keeping.{no_members, mem_length, keep_mem, largest_passing, total_some, rising_shorter}
use Rattle.laws.proofs.Keeping.{last_mem, last_largest}
use Rattle.meaning.specs.declared.Run.{Run}
use Rattle.meaning.specs.declared.Stair.{Stair}
use Rattle.meaning.specs.Runs.{dist}
use Rattle.meaning.specs.Interference.{len_at, all_len, count, interference_of, pairs, by_stairs}
use Rattle.meaning.specs.Promises.{IsStairs, Stairway}
use Rattle.meaning.proofs.Counts.{Below, met, count_met, count_law}
use Rattle.meaning.proofs.Stairs.{same_far, same_total, none_covers, reached, reached_ge, reached_le}
use Rattle.meaning.proofs.Stairs.{last_total_lem}
use Rattle.meaning.proofs.Pairs.{met_grows, met_all, met_at_most, pair_to, pairs_mem, away, pairs_away}

-- ---- the largest count

pub count_at_most : (n : ℕ) (rs : List Run) (t : ℕ) (r : Run) → Mem r rs
    → count n rs r.start t ≤ interference_of n rs t
unfolding interference_of
count_at_most n rs t r m = largest_ge (λ r. count n rs r.start t) rs r m

pub interference_le : (n : ℕ) (rs : List Run) (t k : ℕ) → ((r : Run) → Mem r rs → count n rs r.start t ≤ k)
    → interference_of n rs t ≤ k
unfolding interference_of
interference_le n rs t k h = largest_le (λ r. count n rs r.start t) rs k h

pub interference_none : (n t : ℕ) → interference_of n [] t ≡ 0
unfolding interference_of largest
interference_none n t = refl

-- the form that computes
pub interference_law : (n : ℕ) (rs : List Run) (t : ℕ) → Below n rs
    → interference_of n rs t ≡ t / n * all_len rs + largest (λ r. met n rs r.start (t % n)) rs
unfolding interference_of largest all_len total
interference_law n [] t h = omega arith
interference_law n (r ∷ rs) t h =
    largest_ext _ _ (r ∷ rs) (λ q m. count_law n (r ∷ rs) q.start t h (h q m))
    ∙ largest_add (t / n * all_len (r ∷ rs)) (λ q. met n (r ∷ rs) q.start (t % n)) r rs

-- ---- how it grows

pub interference_mono : (n : ℕ) (rs : List Run) → Mono (interference_of n rs)
unfolding count
interference_mono n rs x y h =
    interference_le n rs x (interference_of n rs y) (λ r m. le_trans (longer r.start) (count_at_most n rs y r m))
  where
    longer : (s : ℕ) → sum (suc x) (λ k. len_at rs ((s + k) % n)) ≤ sum (suc y) (λ k. len_at rs ((s + k) % n))
    longer s = sum_mono (suc x) (suc y) (λ k. len_at rs ((s + k) % n)) (suc-le-suc h)

-- a cell where no run starts has no length
len_at_some : (rs : List Run) (c : ℕ) → (len_at rs c ≡ 0) ⊎ ((r : Run) × Mem r rs × (c ≡ r.start))
unfolding len_at
len_at_some rs c =
    ⊎_elim (λ e. inl e) (λ (r, m, h). inr (r, m, go r (eqb c r.start) refl h))
    (total_some (λ r. cond (eqb c r.start) r.len 0) rs)
  where
    go : (r : Run) (b : Bool) → eqb c r.start ≡ b → 0 < cond b r.len 0 → c ≡ r.start
    go r true e h = eqb-true c r.start e
    go r false e h = absurd (omega arith)

-- the runs that start in any t + 1 cells or fewer, from any cell on
pub window_at_most : (n : ℕ) (rs : List Run) (t m a : ℕ) → m ≤ suc t
    → sum m (λ k. len_at rs ((a + k) % n)) ≤ interference_of n rs t
unfolding sum count
window_at_most n rs t zero a h = zero-le
window_at_most n rs t (suc m) a h =
    ⊎_elim (λ z. free z (window_at_most n rs t m (suc a) (omega arith))) (λ (r, k, e). start r k e)
    (len_at_some rs (a % n))
  where
    free : len_at rs (a % n) ≡ 0 → sum m (λ k. len_at rs ((suc a + k) % n)) ≤ interference_of n rs t
        → sum (suc m) (λ k. len_at rs ((a + k) % n)) ≤ interference_of n rs t
    free z ih =
        omega (
          arith,
          sum_front m (λ k. len_at rs ((a + k) % n)),
          ap (λ (x : ℕ). len_at rs (x % n)) (add-zero a),
          sum_ext m (λ k. len_at rs ((a + suc k) % n)) (λ k. len_at rs ((suc a + k) % n))
              (λ k l. ap (λ (x : ℕ). len_at rs (x % n)) (omega arith)),
        )

    start : (r : Run) → Mem r rs → a % n ≡ r.start → sum (suc m) (λ k. len_at rs ((a + k) % n)) ≤ interference_of n rs t
    start r k e =
        omega (
          arith,
          sum_mono (suc m) (suc t) (λ k. len_at rs ((a + k) % n)) h,
          sum_ext (suc t) (λ k. len_at rs ((a + k) % n)) (λ k. len_at rs ((r.start + k) % n))
              (λ k l. ap (len_at rs) (sym (ap (λ (z : ℕ). (z + k) % n) (sym e) ∙ mod-add-mod a n k))),
          count_at_most n rs t r k,
        )

count_spreads : (n : ℕ) (rs : List Run) (s x y : ℕ) → count n rs s (x + y) ≤ count n rs s x + interference_of n rs y
unfolding count
count_spreads n rs s x y =
    let e : suc (x + y) ≡ suc x + y = omega arith in
    omega (
      arith,
      ap (λ (z : ℕ). sum z f) e,
      sum_split (suc x) y f,
      sum_ext y (λ k. f (suc x + k)) (λ k. len_at rs ((s + suc x + k) % n))
          (λ k l. ap (λ (z : ℕ). len_at rs (z % n)) (omega arith)),
      window_at_most n rs y y (s + suc x) (omega arith),
    )
  where
    f : ℕ → ℕ
    f k = len_at rs ((s + k) % n)

pub interference_spreads : (n : ℕ) (rs : List Run) (x y : ℕ)
    → interference_of n rs (x + y) ≤ interference_of n rs x + interference_of n rs y
interference_spreads n rs x y =
    interference_le n rs (x + y) (interference_of n rs x + interference_of n rs y)
    (λ r m. omega (arith, count_spreads n rs r.start x y, count_at_most n rs x r m))

-- V(t) is at most t and one round more
pub interference_at_most : (n : ℕ) (rs : List Run) → Below n rs → all_len rs ≤ n → (t : ℕ)
    → interference_of n rs t ≤ t + n
interference_at_most n rs h l t =
    omega (
      arith,
      interference_law n rs t h,
      mul-le-mul_left (t / n) l,
      div-mul-le_self t n,
      largest_le (λ r. met n rs r.start (t % n)) rs (all_len rs) (λ r m. met_at_most n rs r.start (t % n)),
    )

-- ---- by the stairs

module _ (n : ℕ) (rs : List Run) (rises : RisingBy (λ r. r.start) rs) (below : Below n rs) where
  -- what is met over u from the start of r is the total of a pair no further than u
  met_reached : (r : Run) → Mem r rs → (u : ℕ) → met n rs r.start u ≤ reached (pairs n rs) u
  met_reached r m u =
      let s = r.start in
      let self = le-leb (dist n s s) u (omega (arith, dist_self n s (below r m))) in
      let (q, mq, e, top) = largest_passing (λ q. leb (dist n s q.start) u) (λ q. dist n s q.start) rs r m self in
      let pair = pair_to n rs s q in
      le_trans
      (met_grows n rs s u (dist n s q.start) (λ x mx l. top x mx (le-leb (dist n s x.start) u l)))
      (reached_ge (pairs n rs) u pair ((pairs_mem n rs rises below pair).1 (r, q, m, mq, refl))
      (leb-true (dist n s q.start) u e))

  -- within one round, the largest total met is the largest total of a pair
  met_by_pairs : (u : ℕ) → largest (λ r. met n rs r.start u) rs ≡ reached (pairs n rs) u
  met_by_pairs u =
      le_antisymm
      (largest_le _ rs (reached (pairs n rs) u) (λ r m. met_reached r m u))
      (reached_le (pairs n rs) u _ (λ p m l. under p l ((pairs_mem n rs rises below p).0 m)))
    where
      under : (p : Stair) → p.far ≤ u → (r q : Run) × Mem r rs × Mem q rs × (p ≡ pair_to n rs r.start q)
          → p.total ≤ largest (λ r. met n rs r.start u) rs
      under p l (r, q, mr, mq, e) =
          let d = dist n r.start q.start in
          omega (
            arith,
            same_total e,
            met_grows n rs r.start d u (λ x m k. omega (arith, same_far e)),
            largest_ge (λ r. met n rs r.start u) rs r mr,
          )

  -- "V(t) is (t / cycle, whole part) x all blocked cells, plus the total of the last stair whose distance is at most
  -- the remainder."
  pub interference_stairs : (st : List Stair) → IsStairs (pairs n rs) st → (t : ℕ)
      → interference_of n rs t ≡ by_stairs n (all_len rs) st t
  unfolding by_stairs
  interference_stairs st a t =
      interference_law n rs t below
      ∙ ap (λ (x : ℕ). t / n * all_len rs + x) (met_by_pairs (t % n) ∙ sym (last_total_lem (t % n) a))

  -- every pair is met from the start of some run, and its total is no more than all
  pair_met : (p : Stair) → Mem p (pairs n rs) → (r : Run) × Mem r rs × (count n rs r.start p.far ≡ p.total)
  pair_met p m =
      let (r, q, mr, mq, e) = (pairs_mem n rs rises below p).0 m in
      let h = below r mr in
      let d = dist n r.start q.start in (
        r,
        mr,
        ap (count n rs r.start) (same_far e)
            ∙ count_met n rs r.start d below h (mod-lt (q.start + (n - r.start)) (omega arith))
            ∙ sym (same_total e),
      )

  pair_at_most : (p : Stair) → Mem p (pairs n rs) → p.total ≤ all_len rs
  pair_at_most p m =
      let (r, q, mr, mq, e) = (pairs_mem n rs rises below p).0 m in
      omega (arith, same_total e, met_at_most n rs r.start (dist n r.start q.start))

  -- "There are at most n(n - 1) + 1 for n of 1 or more, and none for n = 0."
  stairs_few : (st : List Stair) → IsStairs (pairs n rs) st → 1 ≤ length rs
      → length st ≤ length rs * (length rs - 1) + 1
  stairs_few [] a h = zero-le
  stairs_few (x ∷ xs) a h =
      omega (
        arith,
        pairs_away n rs below h,
        rising_shorter (λ s. s.far) xs (away (pairs n rs)) a.far_rises.1 further,
      )
    where
      -- all behind the first stair have a distance
      further : (y : Stair) → Mem y xs → Mem y (away (pairs n rs))
      further y m =
          let l : 0 < y.far = omega (arith, a.far_rises.0 y m) in
          (keep_mem (λ p. ltb 0 p.far) (pairs n rs) y).1 (a.among y (Memᴰ.tail m), lt-ltb 0 y.far l)

  stairs_none : (st : List Stair) → IsStairs (pairs n rs) st → length rs ≡ 0 → st ≡ []
  stairs_none st a e =
      no_members st (λ x m. let (r, mr, c) = pair_met x (a.among x m) in omega (arith, mem_length rs r mr))

  -- the last stair has all
  last_at_most : (st : List Stair) → IsStairs (pairs n rs) st → (d : Stair) → d.total ≡ 0
      → (get_last_d st d).total ≤ all_len rs
  unfolding get_last_d
  last_at_most [] a d e = omega arith
  last_at_most (x ∷ xs) a d e =
      pair_at_most (get_last_d (x ∷ xs) d) (a.among (get_last_d (x ∷ xs) d) (last_mem x xs d))

  last_at_least : (st : List Stair) → IsStairs (pairs n rs) st → (d : Stair) → all_len rs ≤ (get_last_d st d).total
  unfolding all_len
  last_at_least st a d =
      ⊎_elim (λ e. omega arith) (λ (r, m, h). from r m) (total_some (λ r. r.len) rs)
    where
      over : (p : Stair) → Mem p (pairs n rs) → p.total ≤ (get_last_d st d).total
      over p m =
          let (q, mq, c) = a.covering p m in
          omega (arith, last_largest (λ s. s.total) st q d a.total_rises mq)

      from : (r : Run) → Mem r rs → all_len rs ≤ (get_last_d st d).total
      from r m =
          let h = below r m in
          omega (
            arith,
            met_all n rs r.start n (λ q k. omega (arith, mod-lt (q.start + (n - r.start)) {m = n} (omega arith))),
            met_reached r m n,
            reached_le (pairs n rs) n (get_last_d st d).total (λ p k l. over p k),
          )

-- all that is promised of the stairs of a circle's runs
pub stairway : (n : ℕ) (rs : List Run) (st : List Stair) → RisingBy (λ r. r.start) rs → Below n rs
    → IsStairs (pairs n rs) st → Stairway n rs st
stairway n rs st rises below a = record {
  far_rises = a.far_rises;
  total_rises = a.total_rises;
  none_covers = none_covers a;
  met = λ x m. pair_met n rs rises below x (a.among x m);
  few = stairs_few n rs rises below st a;
  none = stairs_none n rs rises below st a;
  last_is_all =
      le_antisymm
      (last_at_most n rs rises below st a (record { far = 0; total = 0 }) refl)
      (last_at_least n rs rises below st a (record { far = 0; total = 0 }));
  gives = interference_stairs n rs rises below st a;
}
