-- The count from a start, by whole cycles and a rest.
-- Assumes nothing.
use mathlib.Core.Path.{◌≡◌, sym, ap, ap₂, ◌∙◌}
use mathlib.Core.Logic.{by_cases}
use mathlib.Core.Bool.{cond}
use mathlib.Core.List.Memᴰ
use mathlib.Core.List.{List, [], ◌∷◌}
use Prim.Native.Nat.{ℕ, zero, suc, ◌+◌, ◌*◌, ◌/◌, ◌%◌, ◌<◌}
use native.Mathlib.Nat.{zero-add, add-suc, zero-mul, mod-lt, add-mod_left, div-add-mod', add_left_comm}
use native.Mathlib.Decide.{ℕ_discrete}
use native.Mathlib.Omega.{arith}
use lib.Dec.{leb, eqb, leb-suc-suc}
use borrow.Author.Tests.{eq-eqb, ne_eqb, lt-ltb}
use Rattle.laws.specs.Lists.{total, Mem}
use Rattle.laws.specs.Numbers.{sum}
use Rattle.laws.proofs.Sums.{sum_ext, sum_add, sum_split, sum_zero, sum_one}
use Rattle.laws.proofs.Circle.{at_dist, sum_round}
use Rattle.laws.proofs.Lists.{mem_head}
use Rattle.meaning.specs.declared.Run.{Run}
use Rattle.meaning.specs.Runs.{dist}
use Rattle.meaning.specs.Interference.{len_at, all_len, count}

-- every run starts below n
abbrev pub Below : ℕ → List Run → Type 0
Below n rs = (r : Run) → Mem r rs → r.start < n

-- the total length of the runs that start no further than d after s, on one round
unfoldable pub met : ℕ → List Run → ℕ → ℕ → ℕ
met n rs s d = total (λ r. cond (leb (dist n s r.start) d) r.len 0) rs

below_tail : {n : ℕ} {r : Run} {rs : List Run} → Below n (r ∷ rs) → Below n rs
below_tail h q m = h q (Memᴰ.tail m)

-- a stretch of length 0 holds the whole of a run that starts at its one instant
pub count_at_once : (n : ℕ) (rs : List Run) (s : ℕ) → count n rs s 0 ≡ len_at rs ((s + 0) % n)
unfolding count sum
count_at_once n rs s = zero-add (len_at rs ((s + 0) % n))

-- one round holds every run once
pub sum_len_at : (n : ℕ) (rs : List Run) → Below n rs → sum n (len_at rs) ≡ all_len rs
unfolding len_at all_len total
sum_len_at n [] h = sum_zero n
sum_len_at n (r ∷ rs) h =
    sum_add n (λ c. cond (eqb c r.start) r.len 0) (len_at rs)
    ∙ ap₂ (λ (x y : ℕ). x + y)
    (sum_one n r.start r.len ∙ rw (lt-ltb r.start n (h r (mem_head r rs))))
    (sum_len_at n rs (below_tail h))

pub count_cycle : (n : ℕ) (rs : List Run) (s t : ℕ) → Below n rs → count n rs s (n + t) ≡ all_len rs + count n rs s t
unfolding count
count_cycle n rs s t h =
    rw (← add-suc n t)
    (sum_split n (suc t) (λ k. len_at rs ((s + k) % n))
    ∙ ap₂ (λ (x y : ℕ). x + y) (sum_round n s (len_at rs) ∙ sum_len_at n rs h)
    (sum_ext (suc t) _ _
    (λ k l. ap (len_at rs) (ap (λ (x : ℕ). x % n) (add_left_comm s n k) ∙ add-mod_left n (s + k)))))

pub count_cycles : (n : ℕ) (rs : List Run) (s q u : ℕ) → Below n rs
    → count n rs s (q * n + u) ≡ q * all_len rs + count n rs s u
count_cycles n rs s zero u h = rw (zero-mul n, zero-add u, zero-mul (all_len rs), zero-add (count n rs s u))
count_cycles n rs s (suc q) u h =
    ap (count n rs s) (omega arith) ∙ count_cycle n rs s (q * n + u) h
    ∙ ap (λ (x : ℕ). all_len rs + x) (count_cycles n rs s q u h) ∙ omega arith

-- within one round: the runs no further than u
pub count_met : (n : ℕ) (rs : List Run) (s u : ℕ) → Below n rs → s < n → u < n → count n rs s u ≡ met n rs s u
unfolding count met len_at total
count_met n [] s u h hs hu = sum_zero (suc u)
count_met n (r ∷ rs) s u h hs hu =
    sum_add (suc u) (λ k. cond (eqb ((s + k) % n) r.start) r.len 0) (λ k. len_at rs ((s + k) % n))
    ∙ ap₂ (λ (x y : ℕ). x + y)
    (sum_ext (suc u) _ _ here ∙ sum_one (suc u) (dist n s r.start) r.len
    ∙ ap (λ b. cond b r.len 0) (leb-suc-suc (dist n s r.start) u))
    (count_met n rs s u (below_tail h) hs hu)
  where
    same : (k : ℕ) → k < suc u → eqb ((s + k) % n) r.start ≡ eqb k (dist n s r.start)
    same k l =
        let a = at_dist n s r.start k hs (h r (mem_head r rs)) (omega arith) in
        by_cases (ℕ_discrete k (dist n s r.start))
        (λ e. eq-eqb _ _ (a.1 e) ∙ sym (eq-eqb _ _ e))
        (λ e. ne_eqb _ _ (λ x. e (a.0 x)) ∙ sym (ne_eqb _ _ e))

    here : (k : ℕ) → k < suc u
        → cond (eqb ((s + k) % n) r.start) r.len 0 ≡ cond (eqb k (dist n s r.start)) r.len 0
    here k l = ap (λ b. cond b r.len 0) (same k l)

-- the form that computes
pub count_law : (n : ℕ) (rs : List Run) (s t : ℕ) → Below n rs → s < n
    → count n rs s t ≡ t / n * all_len rs + met n rs s (t % n)
count_law n rs s t h hs =
    ap (count n rs s) (sym (div-add-mod' t n)) ∙ count_cycles n rs s (t / n) (t % n) h
    ∙ ap (λ (x : ℕ). t / n * all_len rs + x) (count_met n rs s (t % n) h hs (mod-lt t (omega arith)))
