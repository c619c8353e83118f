-- The tree of the heads: its start, a leaf put in, the nodes above it mended, and what the first node says of leaves.
-- Assumes nothing.
use mathlib.Core.Path.{◌≡◌, refl, sym, ap, ◌∙◌}
use mathlib.Core.Logic.{by_cases}
use mathlib.Core.List.{List}
use Prim.Native.Nat.{ℕ, zero, suc, ◌+◌, ◌-◌, ◌*◌, ◌/◌, ◌%◌, ◌≤◌, ◌<◌, min}
use native.Mathlib.Decide.{dec_lt, dec_le, ℕ_discrete}
use native.Mathlib.Omega.{arith}
use lib.ListN.{length, get_or, set, replicate, length-set, get_or-replicate}
use lib.Seq.{get_or-set_same, get_or-set_other}
use Rattle.meaning.specs.declared.Run.{Run}
use Rattle.stairs.specs.Heads.{done, head_key}
use Rattle.stairs.specs.Tree.{NodeRight, Nodes, Standing}
use Rattle.stairs.proofs.HeadRow.{entered, heads_none, heads_set, heads_all}

-- ---- the start: no row has a pair

pub tree_none : Nodes (replicate 32 done) (replicate 64 (done * 32)) 0
unfolding done
tree_none = record {
  long = refl;
  keys_long = refl;
  key = λ i h.
      omega (arith, get_or-replicate 64 (32 + i) (done * 32) 0 (omega arith), get_or-replicate 32 i done 0 h);
  row = λ i h l. absurd (omega (arith, get_or-replicate 32 i done 0 h));
  right = λ m a b c.
      let same : (k : ℕ) → k < 64 → get_or (replicate 64 (done * 32)) k 0 ≡ done * 32 =
      λ k h. get_or-replicate 64 k (done * 32) 0 h in
      omega (arith, same m (omega arith), same (2 * m) (omega arith), same (2 * m + 1) (omega arith));
}

-- ---- a node changed

-- a node stays right if neither it nor a node below it is the changed one
kept : (tree : List ℕ) (k v m : ℕ) → ¬ (m ≡ k) → ¬ (2 * m ≡ k) → ¬ (2 * m + 1 ≡ k) → NodeRight tree m
    → NodeRight (set tree k v) m
kept tree k v m a b c h =
    rw (
      get_or-set_other tree k m v 0 a,
      get_or-set_other tree k (2 * m) v 0 b,
      get_or-set_other tree k (2 * m + 1) v 0 c,
    )
    h

-- row i's leaf: only the node above it can be wrong
pub put_leaf : {keys tree : List ℕ} → Nodes keys tree 0 → (i v : ℕ) → i < 32 → v % 32 ≡ i
    → Nodes (set keys i (v / 32)) (set tree (32 + i) v) ((32 + i) / 2)
put_leaf {keys} {tree} s i v h e = record {
  long = length-set tree (32 + i) v ∙ s.long;
  keys_long = length-set keys i (v / 32) ∙ s.keys_long;
  key = λ k hk. by_cases (ℕ_discrete k i) (λ x. rw x (ap (λ (y : ℕ). y / 32) leaf ∙ sym key))
      (λ x. ap (λ (y : ℕ). y / 32) (leaves k x) ∙ s.key k hk ∙ sym (keys_same k x));
  row = λ k hk l. by_cases (ℕ_discrete k i) (λ x. rw x (ap (λ (y : ℕ). y % 32) leaf ∙ e))
      (λ x. ap (λ (y : ℕ). y % 32) (leaves k x) ∙ s.row k hk (omega (arith, keys_same k x)));
  right = λ m a b c.
      kept tree (32 + i) v m (λ x. omega arith) (λ x. c (omega arith)) (λ x. c (omega arith))
      (s.right m a b (λ x. omega arith));
}
  where
    leaf : get_or (set tree (32 + i) v) (32 + i) 0 ≡ v
    leaf = get_or-set_same tree (32 + i) v 0 (omega (arith, s.long))

    key : get_or (set keys i (v / 32)) i 0 ≡ v / 32
    key = get_or-set_same keys i (v / 32) 0 (omega (arith, s.keys_long))

    leaves : (k : ℕ) → ¬ (k ≡ i) → get_or (set tree (32 + i) v) (32 + k) 0 ≡ get_or tree (32 + k) 0
    leaves k x = get_or-set_other tree (32 + i) (32 + k) v 0 (λ y. x (omega arith))

    keys_same : (k : ℕ) → ¬ (k ≡ i) → get_or (set keys i (v / 32)) k 0 ≡ get_or keys k 0
    keys_same k x = get_or-set_other keys i k (v / 32) 0 x

-- the node above node k mended: only the one above that can be wrong
pub mend_node : {keys tree : List ℕ} (k low r : ℕ) → Nodes keys tree (k / 2) → 1 < k → k < 64 → get_or tree k 0 ≡ low
    → r ≡ min low (get_or tree (4 * (k / 2) + 1 - k) 0) → Nodes keys (set tree (k / 2) r) (k / 2 / 2)
mend_node {keys} {tree} k low r s a b is l = record {
  long = length-set tree (k / 2) r ∙ s.long;
  keys_long = s.keys_long;
  key = λ i h. ap (λ (y : ℕ). y / 32) (leaves i) ∙ s.key i h;
  row = λ i h d. ap (λ (y : ℕ). y % 32) (leaves i) ∙ s.row i h d;
  right = λ m c d x. by_cases (ℕ_discrete m (k / 2)) (λ e. rw e mended)
      (λ e. kept tree (k / 2) r m e (λ y. x (omega arith)) (λ y. x (omega arith)) (s.right m c d e));
}
  where
    leaves : (i : ℕ) → get_or (set tree (k / 2) r) (32 + i) 0 ≡ get_or tree (32 + i) 0
    leaves i = get_or-set_other tree (k / 2) (32 + i) r 0 (λ y. omega arith)

    at : {x y : ℕ} → x ≡ y → get_or tree x 0 ≡ get_or tree y 0
    at e = ap (λ (z : ℕ). get_or tree z 0) e

    -- of the two below one is node k
    two : r ≡ min (get_or tree (2 * (k / 2)) 0) (get_or tree (2 * (k / 2) + 1) 0)
    two =
        by_cases (ℕ_discrete (2 * (k / 2)) k)
        (λ e. let o : 4 * (k / 2) + 1 - k ≡ 2 * (k / 2) + 1 = omega arith in omega (arith, at e, at o, is, l))
        (λ e.
        let o : 4 * (k / 2) + 1 - k ≡ 2 * (k / 2) = omega arith in
        let p : 2 * (k / 2) + 1 ≡ k = omega arith in
        omega (arith, at o, at p, is, l))

    mended : NodeRight (set tree (k / 2) r) (k / 2)
    mended =
        rw (
          get_or-set_same tree (k / 2) r 0 (omega (arith, s.long)),
          get_or-set_other tree (k / 2) (2 * (k / 2)) r 0 (λ y. omega arith),
          get_or-set_other tree (k / 2) (2 * (k / 2) + 1) r 0 (λ y. omega arith),
        )
        two

-- ---- the first node

module _ {keys tree : List ℕ} (s : Nodes keys tree 0) where
  -- no node is less, f being how far below the first it may be
  below : (f k : ℕ) → k ≤ f → 1 ≤ k → k < 64 → get_or tree 1 0 ≤ get_or tree k 0
  below zero k h a b = absurd (omega arith)
  below (suc f) k h a b =
      by_cases (ℕ_discrete k 1) (λ e. omega (arith, ap (λ (x : ℕ). get_or tree x 0) e))
      (λ e.
      let n = s.right (k / 2) (omega arith) (omega arith) (λ x. omega arith) in
      let up = below f (k / 2) (omega arith) (omega arith) (omega arith) in
      by_cases (ℕ_discrete (2 * (k / 2)) k)
      (λ x. omega (arith, up, n, ap (λ (y : ℕ). get_or tree y 0) x))
      (λ x.
      let o : 2 * (k / 2) + 1 ≡ k = omega arith in
      omega (arith, up, n, ap (λ (y : ℕ). get_or tree y 0) o)))

  -- a node of a row that is not done is the leaf of the row that it names
  named : (f k : ℕ) → 64 ≤ k + f → 1 ≤ k → k < 64 → get_or tree k 0 / 32 < done
      → get_or tree (32 + get_or tree k 0 % 32) 0 ≡ get_or tree k 0
  named zero k h a b d = absurd (omega arith)
  named (suc f) k h a b d =
      by_cases (dec_lt k 32)
      (λ l.
      let n = s.right k a l (λ x. omega arith) in
      by_cases (dec_le (get_or tree (2 * k) 0) (get_or tree (2 * k + 1) 0))
      (λ x.
      let e : get_or tree k 0 ≡ get_or tree (2 * k) 0 = omega arith in
      ap (λ (x : ℕ). get_or tree (32 + x % 32) 0) e
      ∙ named f (2 * k) (omega arith) (omega arith) (omega arith) (omega (arith, e)) ∙ sym e)
      (λ x.
      let e : get_or tree k 0 ≡ get_or tree (2 * k + 1) 0 = omega arith in
      ap (λ (x : ℕ). get_or tree (32 + x % 32) 0) e
      ∙ named f (2 * k + 1) (omega arith) (omega arith) (omega arith) (omega (arith, e)) ∙ sym e))
      (λ l.
      let o : 32 + (k - 32) ≡ k = omega arith in
      let same = ap (λ (x : ℕ). get_or tree x 0) o in
      let row = s.row (k - 32) (omega arith) (omega (arith, s.key (k - 32) (omega arith), same)) in
      ap (λ (x : ℕ). get_or tree x 0) (omega (arith, row, same)))

  pub first_least : (low : ℕ) → low ≡ get_or tree 1 0 → (k : ℕ) → k < 32 → low / 32 ≤ get_or keys k 0
  first_least low e k h =
      omega (arith, below 63 (32 + k) (omega arith) (omega arith) (omega arith), s.key k h)

  pub first_row : (low : ℕ) → low ≡ get_or tree 1 0 → low / 32 < done → get_or keys (low % 32) 0 ≡ low / 32
  first_row low e d =
      sym (s.key (low % 32) (omega arith))
      ∙ ap (λ (x : ℕ). x / 32)
      (ap (λ (x : ℕ). get_or tree (32 + x % 32) 0) e
      ∙ named 63 1 (omega arith) (omega arith) (omega arith) (omega (arith, e)) ∙ sym e)

-- ---- the tree of the heads

module _ {cycle : ℕ} {rs : List Run} where
  -- no row at its run yet
  pub standing_none : length rs ≤ 32 → Standing cycle rs (entered 0) (replicate 64 (done * 32))
  standing_none few = record { keys = replicate 32 done; heads = heads_none few; nodes = tree_none }

  -- row i put at its j-th pair
  pub standing_put : {pos tree after : List ℕ} → Standing cycle rs pos tree → (i j v : ℕ) → i < 32
      → v ≡ head_key cycle rs i j * 32 + i
      → ((keys : List ℕ) → Nodes keys tree 0 → Nodes (set keys i (v / 32)) after 0)
      → Standing cycle rs (set pos i j) after
  standing_put s i j v h e put =
      let is : v / 32 ≡ head_key cycle rs i j = omega arith in
      record {
        keys = set s.keys i (v / 32);
        heads = rw is (heads_set s.heads i j h);
        nodes = put s.keys s.nodes;
      }

  -- all rows at their own runs
  pub standing_all : {tree : List ℕ} (n : ℕ) → length rs ≡ n → Standing cycle rs (entered n) tree
      → Standing cycle rs (replicate 32 0) tree
  standing_all n e s = record { keys = s.keys; heads = heads_all n e s.heads; nodes = s.nodes }
