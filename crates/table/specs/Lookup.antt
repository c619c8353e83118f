-- Stairs stored as two rows of numbers, and what is read from them.
use Rattle.std.specs.Prelude.{◌≡◌, true, List, [], ◌∷◌, ℕ, zero, suc, ◌≤◌, ◌<◌, length, take, get_or}
use Rattle.laws.specs.Lists.{Mem}
use Rattle.meaning.specs.declared.Gate.{Gate}
use Rattle.meaning.specs.declared.Slot.{Slot}
use Rattle.meaning.specs.declared.Run.{Run}
use Rattle.meaning.specs.declared.Stair.{Stair}
use Rattle.meaning.specs.Runs.{blocked, runs}
use Rattle.meaning.specs.Interference.{by_stairs, count, interference}
use Rattle.meaning.specs.Promises.{blocked_in}

-- a stair of each distance and the total beside it
unfoldable pub paired : List ℕ → List ℕ → List Stair
paired [] tot = []
paired (d ∷ far) [] = []
paired (d ∷ far) (z ∷ tot) = record { far = d; total = z } ∷ paired far tot

-- the first n stairs of a row of distances and a row of totals
unfoldable pub stairs_in : List ℕ → List ℕ → ℕ → List Stair
stairs_in far tot n = paired (take n far) (take n tot)

-- the total of the last of the first n stairs, 0 with none: of all stairs it is all blocked cells
unfoldable pub all_in : List ℕ → ℕ → ℕ
all_in tot zero = 0
all_in tot (suc n) = get_or tot n 0

-- the first n distances rise
abbrev pub RisesTo : List ℕ → ℕ → Type 0
RisesTo far n = (i j : ℕ) → i < j → j < n → get_or far i 0 < get_or far j 0

-- rows from which interference can be read
pub record TableFits (cycle : ℕ) (far tot : List ℕ) (n : ℕ) : Type 0 where
  pub few : n ≤ 993
  pub some_cycle : 1 ≤ cycle
  pub far_long : length far ≡ 993
  pub tot_long : length tot ≡ 993
  pub far_rises : RisesTo far n

-- stairs from which interference can be read: as many totals as distances
pub record StairsFit (cycle : ℕ) (far tot : List ℕ) : Type 0 where
  pub few : length far ≤ 993
  pub some_cycle : 1 ≤ cycle
  pub as_many : length tot ≡ length far
  pub far_rises : RisesTo far (length far)

-- V(t), as it is read from them
abbrev pub stairs_v : (cycle : ℕ) (far tot : List ℕ) → ℕ → ℕ
stairs_v cycle far tot = by_stairs cycle (all_in tot (length tot)) (paired far tot)

-- demand 3, of the answers v(t) of a table: "for every arrival instant and every length [..], the blocked time in that
-- window is at most the table's figure. If anything is blocked, some run's start meets that figure exactly by document
-- 01's count"; and the figure is document 01's interference
pub record DemandThree (g : Gate) (ss : List Slot) (v : ℕ → ℕ) : Type 0 where
  pub at_most : (a t : ℕ) → blocked_in (blocked g ss) a t ≤ v t
  pub exact : (t : ℕ) → v t ≡ interference g ss t
  pub met : (c t : ℕ) → blocked g ss c ≡ true
      → (r : Run) × Mem r (runs g ss) × (count g.cycle (runs g ss) r.start t ≡ v t)
