-- The heads of the rows: from each run there is a row of pairs, and its head is the pair to be taken next.
use Rattle.std.specs.Prelude.{◌≡◌, cond, ◌&&◌, List, ℕ, ◌+◌, ◌-◌, ◌*◌, ◌/◌, ◌%◌, ◌<◌, length, get_or, take, ltb}
use Rattle.meaning.specs.declared.Run.{Run}
use Rattle.meaning.specs.Interference.{all_len}
use Rattle.meaning.proofs.PairLoop.{turned, pair_at}
use Rattle.stairs.specs.Rows.{RunsFit}

-- a pair as one number, its key: the nearer pair has the smaller one, and of two as near the one with the larger total
unfoldable pub key_of : ℕ → ℕ → ℕ
key_of far total = far * 134_217_728 + (134_217_727 - total)

-- the distance and the total of a pair with this key
abbrev pub far_of : ℕ → ℕ
far_of k = k / 134_217_728

abbrev pub total_of : ℕ → ℕ
total_of k = 134_217_727 - k % 134_217_728

-- the key of a row that has no pair left, over that of every pair
unfoldable pub done : ℕ
done = 18_014_398_509_481_984

-- the key of row i's head where it stands at its j-th pair
unfoldable pub head_key : ℕ → List Run → ℕ → ℕ → ℕ
head_key cycle rs i j =
    cond (ltb i (length rs) && ltb j (length rs)) (key_of (pair_at cycle rs i j).far (pair_at cycle rs i j).total) done

-- the keys of 32 heads, where row i stands at pos i
pub record Heads (cycle : ℕ) (rs : List Run) (pos keys : List ℕ) : Type 0 where
  pub rows : length pos ≡ 32
  pub heads : length keys ≡ 32
  pub at : (i : ℕ) → i < 32 → get_or keys i 0 ≡ head_key cycle rs i (get_or pos i 0)

-- row i may stand at its j-th pair: t is the total length met before it
pub record Moving (cycle : ℕ) (rs : List Run) (i j t : ℕ) : Type 0 where
  pub fits : RunsFit cycle rs
  pub row : i < length rs
  pub passed : t ≡ all_len (take j (turned rs i))
