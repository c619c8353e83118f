-- The row of the heads' keys: none there yet, one put in its place, and all of them at their own runs.
-- Assumes nothing.
use mathlib.Core.Path.{◌≡◌, refl, sym, ap, ◌∙◌}
use mathlib.Core.Logic.{by_cases}
use mathlib.Core.List.{List, ◌++◌}
use Prim.Native.Nat.{ℕ, ◌+◌, ◌≤◌, ◌<◌}
use native.Mathlib.Decide.{dec_lt, ℕ_discrete}
use native.Mathlib.Omega.{arith}
use lib.ListN.{length, get_or, drop, set, replicate, length-set, length-replicate, get_or-replicate, get_or-append}
use lib.Seq.{get_or-set_same, get_or-set_other}
use borrow.Author.Fill.{fill_more}
use Rattle.meaning.specs.declared.Run.{Run}
use Rattle.stairs.specs.Heads.{done, head_key, Heads}
use Rattle.stairs.proofs.Keys.{head_ended}

-- where the rows stand when the first i have been put at their own runs: the others are past their ends
unfoldable pub entered : ℕ → List ℕ
entered i = replicate i 0 ++ drop i (replicate 32 32)

-- one row more at its own run
pub entered_next : (i : ℕ) → i < 32 → set (entered i) i 0 ≡ entered (i + 1)
unfolding entered
entered_next i h = fill_more i 0 (replicate 32 32) h

module _ {cycle : ℕ} {rs : List Run} where
  pub heads_none : length rs ≤ 32 → Heads cycle rs (entered 0) (replicate 32 done)
  unfolding entered
  heads_none few = record {
    rows = refl;
    heads = refl;
    at = λ i h.
        let past = get_or-replicate {A = ℕ} 32 i 32 0 h in
        get_or-replicate 32 i done 0 h ∙ sym (head_ended cycle rs i (get_or (entered 0) i 0) (λ k. omega arith));
  }

  -- row i put at its j-th pair
  pub heads_set : {pos keys : List ℕ} → Heads cycle rs pos keys → (i j : ℕ) → i < 32
      → Heads cycle rs (set pos i j) (set keys i (head_key cycle rs i j))
  heads_set {pos} {keys} h i j hi = record {
    rows = length-set pos i j ∙ h.rows;
    heads = length-set keys i (head_key cycle rs i j) ∙ h.heads;
    at = λ k hk. by_cases (ℕ_discrete k i) (here k) (other k hk);
  }
    where
      here : (k : ℕ) → k ≡ i
          → get_or (set keys i (head_key cycle rs i j)) k 0 ≡ head_key cycle rs k (get_or (set pos i j) k 0)
      here k e =
          rw (
            e,
            get_or-set_same keys i (head_key cycle rs i j) 0 (omega (arith, h.heads)),
            get_or-set_same pos i j 0 (omega (arith, h.rows)),
          )

      other : (k : ℕ) → k < 32 → ¬ (k ≡ i)
          → get_or (set keys i (head_key cycle rs i j)) k 0 ≡ head_key cycle rs k (get_or (set pos i j) k 0)
      other k hk e =
          get_or-set_other keys i k (head_key cycle rs i j) 0 e ∙ h.at k hk
          ∙ ap (head_key cycle rs k) (sym (get_or-set_other pos i k j 0 e))

  -- all rows at their own runs
  pub heads_all : {keys : List ℕ} (n : ℕ) → length rs ≡ n → Heads cycle rs (entered n) keys
      → Heads cycle rs (replicate 32 0) keys
  unfolding entered
  heads_all {keys} n e h = record {
    rows = refl;
    heads = h.heads;
    at = λ k hk. h.at k hk ∙ by_cases (dec_lt k n) (live k hk) (ended k);
  }
    where
      live : (k : ℕ) → k < 32 → k < n
          → head_key cycle rs k (get_or (entered n) k 0) ≡ head_key cycle rs k (get_or (replicate 32 0) k 0)
      live k hk l =
          ap (head_key cycle rs k)
          (get_or-append (replicate n 0) (drop n (replicate 32 32)) 0 k (omega (arith, length-replicate {A = ℕ} n 0))
          ∙ get_or-replicate n k 0 0 l ∙ sym (get_or-replicate 32 k 0 0 hk))

      ended : (k : ℕ) → ¬ (k < n)
          → head_key cycle rs k (get_or (entered n) k 0) ≡ head_key cycle rs k (get_or (replicate 32 0) k 0)
      ended k l =
          head_ended cycle rs k (get_or (entered n) k 0) (λ b. omega arith)
          ∙ sym (head_ended cycle rs k (get_or (replicate 32 0) k 0) (λ b. omega arith))
