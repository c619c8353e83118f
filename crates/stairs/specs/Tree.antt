-- The tree of the heads: 32 leaves, one for each row, and above them nodes that are the lesser of two.
use Rattle.std.specs.Prelude.{◌≡◌, List, ℕ, ◌+◌, ◌*◌, ◌/◌, ◌%◌, ◌≤◌, ◌<◌, min, length, get_or}
use Rattle.meaning.specs.declared.Run.{Run}
use Rattle.stairs.specs.Heads.{done, Heads}

-- node m of a tree is the lesser of the two nodes below it
abbrev pub NodeRight : List ℕ → ℕ → Type 0
NodeRight tree m = get_or tree m 0 ≡ min (get_or tree (2 * m) 0) (get_or tree (2 * m + 1) 0)

-- a tree with these keys: leaf i is row i's key times 32, plus i unless the row is done, and the nodes above are right,
-- all but one (with 0, all)
pub record Nodes (keys tree : List ℕ) (but : ℕ) : Type 0 where
  pub long : length tree ≡ 64
  pub keys_long : length keys ≡ 32
  pub key : (i : ℕ) → i < 32 → get_or tree (32 + i) 0 / 32 ≡ get_or keys i 0
  pub row : (i : ℕ) → i < 32 → get_or keys i 0 < done → get_or tree (32 + i) 0 % 32 ≡ i
  pub right : (m : ℕ) → 1 ≤ m → m < 32 → ¬ (m ≡ but) → NodeRight tree m

-- the tree of the rows' heads, where row i stands at pos i
pub record Standing (cycle : ℕ) (rs : List Run) (pos tree : List ℕ) : Type 0 where
  pub keys : List ℕ
  pub heads : Heads cycle rs pos keys
  pub nodes : Nodes keys tree 0
