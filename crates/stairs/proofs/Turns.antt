-- The loop that takes the nearest head each time: its start, its turns and its end.
-- Assumes nothing.
use mathlib.Core.Path.{◌≡◌, sym, ap, ap₂, ◌∙◌}
use mathlib.Core.Logic.{by_cases}
use mathlib.Core.List.{List, [], ◌∷◌, ◌++◌}
use Prim.Native.Nat.{ℕ, zero, suc, ◌+◌, ◌-◌, ◌*◌, ◌/◌, ◌%◌, ◌≤◌, ◌<◌}
use native.Mathlib.Nat.{mul-le-mul}
use native.Mathlib.Numerals.{add-one}
use native.Mathlib.Decide.{dec_le}
use native.Mathlib.Omega.{arith}
use lib.ListN.{length, get_or, take, set, replicate, length-append, get_or-replicate}
use lib.Seq.{length-take-le, get_or-set_same, get_or-set_other, get_or-take, take-set-lt}
use Rattle.laws.specs.Lists.{total}
use Rattle.meaning.specs.declared.Run.{Run}
use Rattle.meaning.specs.declared.Stair.{Stair}
use Rattle.meaning.specs.Interference.{all_len, pairs, stairs_of}
use Rattle.meaning.proofs.Pairs.{pairs_long}
use Rattle.meaning.proofs.Stairs.{stairs_unique, stairs_are}
use Rattle.meaning.proofs.Interferences.{stairway}
use Rattle.meaning.proofs.StairsLoop.{Ahead, partly_few}
use Rattle.meaning.proofs.PairLoop.{turned, pair_at, pairs_index, pair_rises}
use Rattle.meaning.proofs.MergeLoop.{InRows, Merging, Nearest, Moved, merging_none, merging_append, merging_skip}
use Rattle.meaning.proofs.MergeLoop.{merging_done}
use Rattle.table.specs.declared.Table.{Table}
use Rattle.table.specs.Rows.{table_of}
use Rattle.stairs.specs.Rows.{RunsFit}
use Rattle.stairs.specs.Heads.{key_of, far_of, total_of, done, Heads, Moving}
use Rattle.stairs.specs.Tree.{Standing}
use Rattle.table.proofs.Rows.{table_with, grown, table_none, table_next}
use Rattle.stairs.proofs.Keys.{key_far, key_total, key_order, head_live, pair_total_fits, not_done, is_done}
use Rattle.stairs.proofs.Tree.{first_least, first_row}

-- ---- how far the loop has come

-- the table holds the stairs so far, where row i stands at pos i
pub record SoFar (cycle : ℕ) (rs : List Run) (pos : List ℕ) (table : Table) (top : ℕ) : Type 0 where
  pub st : List Stair
  pub merging : Merging (length rs) (pair_at cycle rs) (pairs cycle rs) st (λ i. get_or pos i 0) top
  pub held : table ≡ table_of st

-- row i has the nearest head, and its key is k
pub record Chosen (cycle : ℕ) (rs : List Run) (pos : List ℕ) (i k : ℕ) : Type 0 where
  pub near : Nearest (length rs) (pair_at cycle rs) (λ x. get_or pos x 0) i
  pub far_is : far_of k ≡ (pair_at cycle rs i (get_or pos i 0)).far
  pub total_is : total_of k ≡ (pair_at cycle rs i (get_or pos i 0)).total

-- the pairs that are left, of n rows
unfoldable pub left : ℕ → List ℕ → ℕ
left n pos = total (λ p. n - p) (take n pos)

-- row i moves on
abbrev pub moved_on : List ℕ → ℕ → List ℕ
moved_on pos i = set pos i (get_or pos i 0 + 1)

total_set : (f : ℕ → ℕ) (xs : List ℕ) (i v : ℕ) → i < length xs
    → total f (set xs i v) + f (get_or xs i 0) ≡ total f xs + f v
unfolding total
total_set f [] i v h = absurd (omega arith)
total_set f (x ∷ xs) zero v h = omega arith
total_set f (x ∷ xs) (suc i) v h = omega (arith, total_set f xs i v (omega arith))

-- each turn takes one
pub left_falls : (n : ℕ) (pos : List ℕ) (i : ℕ) → n ≤ length pos → i < n → get_or pos i 0 < n
    → left n (moved_on pos i) < left n pos
unfolding left
left_falls n pos i h hi hj =
    omega (
      arith,
      ap (total (λ (p : ℕ). n - p)) (take-set-lt n pos i (get_or pos i 0 + 1) hi),
      total_set (λ p. n - p) (take n pos) i (get_or pos i 0 + 1) (omega (arith, length-take-le n pos h)),
      get_or-take n pos i 0 hi,
    )

moved : (pos : List ℕ) (i : ℕ) → i < length pos → Moved (λ x. get_or pos x 0) (λ x. get_or (moved_on pos i) x 0) i
moved pos i h = record {
  here = get_or-set_same pos i (get_or pos i 0 + 1) 0 h;
  other = λ k e. get_or-set_other pos i k (get_or pos i 0 + 1) 0 e;
}

module _ {cycle : ℕ} {rs : List Run} (f : RunsFit cycle rs) where
  rows : InRows (length rs) (pair_at cycle rs) (pairs cycle rs)
  rows = record { index = pairs_index cycle rs; rises = pair_rises cycle rs f.rises f.below }

  -- the table has a place for each stair
  pub few_stairs : length (stairs_of (pairs cycle rs)) ≤ 993
  few_stairs =
      let way = stairway cycle rs (stairs_of (pairs cycle rs)) f.rises f.below (stairs_are (pairs cycle rs)) in
      by_cases (dec_le 1 (length rs))
      (λ h. omega (
        arith,
        way.few h,
        mul-le-mul {n₁ = length rs} {m₁ = length rs - 1} {n₂ = 32} {m₂ = 31} f.few (omega (arith, f.few)),
      ))
      (λ h. omega (arith, ap length (way.none (omega arith))))

  -- ---- the start

  pub so_far_start : SoFar cycle rs (replicate 32 0) (table_with 0 (replicate 993 0) (replicate 993 0)) 0
  so_far_start = record {
    st = [];
    merging = merging_none rows (pairs_long cycle rs f.long)
        (λ i h. get_or-replicate {A = ℕ} 32 i 0 0 (omega (arith, f.few)));
    held = sym table_none;
  }

  -- ---- a turn

  chosen : {pos keys : List ℕ} → Heads cycle rs pos keys → (i : ℕ) → i < 32
      → ((k : ℕ) → k < length rs → get_or keys i 0 ≤ get_or keys k 0) → ¬ (get_or keys i 0 ≡ done)
      → Chosen cycle rs pos i (get_or keys i 0)
  chosen {pos} {keys} h i hi least live = record {
    near = record { row = on.0; live = on.1; ahead = λ k hk hj. ahead k hk hj };
    far_is = ap far_of key_is ∙ key_far head.far head.total (fits i);
    total_is = ap total_of key_is ∙ key_total head.far head.total (fits i);
  }
    where
      at : ℕ → Stair
      at k = pair_at cycle rs k (get_or pos k 0)

      head : Stair
      head = at i

      fits : (k : ℕ) → (at k).total ≤ 134_217_727
      fits k = omega (arith, pair_total_fits f k (get_or pos k 0))

      on : (i < length rs) × (get_or pos i 0 < length rs)
      on = not_done f i (get_or pos i 0) (λ e. live (h.at i hi ∙ e))

      of_row : (k : ℕ) → k < length rs → get_or pos k 0 < length rs → get_or keys k 0 ≡ key_of (at k).far (at k).total
      of_row k hk hj = h.at k (omega (arith, f.few)) ∙ head_live cycle rs k (get_or pos k 0) hk hj

      key_is : get_or keys i 0 ≡ key_of head.far head.total
      key_is = of_row i on.0 on.1

      ahead : (k : ℕ) → k < length rs → get_or pos k 0 < length rs → Ahead head (at k)
      ahead k hk hj =
          key_order head (at k) (fits i) (fits k) (omega (arith, key_is, of_row k hk hj, least k hk))

  -- the first node of the tree of the heads names the row, and has its key
  pub first_chosen : {pos tree : List ℕ} → Standing cycle rs pos tree → (low : ℕ) → low ≡ get_or tree 1 0
      → low < done * 32 → Chosen cycle rs pos (low % 32) (low / 32)
  first_chosen s low e h =
      let is = first_row s.nodes low e (omega arith) in
      rw is at
      (chosen s.heads (low % 32) (omega arith)
      (λ k l. omega (arith, is, first_least s.nodes low e k (omega (arith, f.few))))
      (λ d. omega (arith, is, d)))

  module _ {pos : List ℕ} {table : Table} {top i k : ℕ} (c : SoFar cycle rs pos table top)
      (s : Chosen cycle rs pos i k) (long : length pos ≡ 32) where
    head : Stair
    head = pair_at cycle rs i (get_or pos i 0)

    on : i < length pos
    on = omega (arith, s.near.row, f.few)

    -- a head with a larger total than the top is the next stair
    module _ (t : ℕ) (is : t ≡ total_of k) (over : top < t) where
      appended : Merging (length rs) (pair_at cycle rs) (pairs cycle rs) (c.st ++ head ∷ [])
          (λ x. get_or (moved_on pos i) x 0) head.total
      unfolding head
      appended =
          merging_append rows c.merging s.near (moved pos i on) (omega (arith, s.total_is))

      room : length c.st < 993
      room =
          omega (arith, partly_few appended.partly, length-append c.st (head ∷ []), few_stairs)

      pub so_far_room : table.n < 993
      unfolding table_of
      so_far_room = omega (arith, room, ap (λ (x : Table). x.n) c.held)

      pub so_far_stair : (d : ℕ) → d ≡ far_of k → SoFar cycle rs (moved_on pos i) (grown table d t) t
      unfolding head
      so_far_stair d ed = record {
        st = c.st ++ head ∷ [];
        merging = rw total_is appended;
        held =
            ap (λ (x : Table). grown x d t) c.held
            ∙ ap₂ (grown (table_of c.st)) (ed ∙ s.far_is) total_is
            ∙ sym (table_next c.st head room);
      }
        where
          total_is : t ≡ head.total
          total_is = is ∙ s.total_is

    -- any other is passed by
    pub so_far_covered : (t : ℕ) → t ≡ total_of k → t ≤ top → SoFar cycle rs (moved_on pos i) table top
    so_far_covered t is under = record {
      st = c.st;
      merging = merging_skip rows c.merging (moved pos i on) (omega (arith, s.total_is));
      held = c.held;
    }

  -- ---- the end: the nearest head is done

  pub so_far_end : {pos tree : List ℕ} {table : Table} {top : ℕ} → SoFar cycle rs pos table top
      → Standing cycle rs pos tree → (low : ℕ) → low ≡ get_or tree 1 0 → done * 32 ≤ low
      → table ≡ table_of (stairs_of (pairs cycle rs))
  so_far_end {pos} c s low e h =
      c.held ∙ ap table_of (stairs_unique (merging_done rows c.merging ends) (stairs_are (pairs cycle rs)))
    where
      ends : (k : ℕ) → k < length rs → length rs ≤ get_or pos k 0
      ends k hk =
          let few : k < 32 = omega (arith, f.few) in
          is_done f k (get_or pos k 0) (omega (arith, first_least s.nodes low e k few, s.heads.at k few)) hk

-- where row i moves to
pub moving_on : {cycle i k : ℕ} {rs : List Run} {pos : List ℕ} → RunsFit cycle rs → Chosen cycle rs pos i k → (t : ℕ)
    → t ≡ total_of k → Moving cycle rs i (get_or pos i 0 + 1) t
unfolding pair_at
moving_on {i = i} {rs = rs} {pos = pos} f s t e = record {
  fits = f;
  row = s.near.row;
  passed =
      e ∙ s.total_is ∙ ap (λ (x : ℕ). all_len (take x (turned rs i))) (sym (add-one (get_or pos i 0)));
}
