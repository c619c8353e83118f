-- Document 01, "Blocked runs".
use Rattle.std.specs.Prelude.{Bool, true, false, not, cond, ◌&&◌, List, [], ◌∷◌, ◌++◌, ℕ, zero, suc, ◌+◌, ◌-◌, ◌%◌, ltb}
use Rattle.laws.specs.Lists.{any}
use Rattle.laws.specs.Numbers.{any_below}
use Rattle.meaning.specs.declared.Port.{Port}
use Rattle.meaning.specs.declared.Gate.{Gate}
use Rattle.meaning.specs.declared.Slot.{Slot}
use Rattle.meaning.specs.declared.Stream.{Stream}
use Rattle.meaning.specs.declared.Run.{Run}

-- the gate numbers in force: the port's own
unfoldable pub gate_of : Port → List Stream → Gate
gate_of p js = record { cycle = p.cycle; guard = p.guard; header = p.header }

-- "Time is a circle of cycle cells of 1 ns": the distance forward from cell a (below n) to cell b, around a circle of n
abbrev pub dist : ℕ → ℕ → ℕ → ℕ
dist n a b = (b + (n - a)) % n

-- "A slot start..end blocks the cells from start - guard up to, not including, end + header, around the circle": those
-- at a distance from start - guard of less than (end + header) - (start - guard). The guard is added to both ends of
-- the distance, so that nothing is negative.
unfoldable pub blocks : Gate → Slot → ℕ → Bool
blocks g s c = ltb (dist g.cycle s.start (c + g.guard)) (s.end - s.start + g.guard + g.header)

-- cell c is blocked; cell c and cell c + cycle are one cell
unfoldable pub blocked : Gate → List Slot → ℕ → Bool
blocked g ss c = any (λ s. blocks g s c) ss

-- some cell is free
unfoldable pub has_free : Gate → List Slot → Bool
has_free g ss = any_below g.cycle (λ c. not (blocked g ss c))

-- "A blocked run is a longest unbroken row of blocked cells on the circle". On a circle of n cells, of which b names
-- the blocked ones: a run starts at a blocked cell whose predecessor is free.
unfoldable pub starts : ℕ → (ℕ → Bool) → ℕ → Bool
starts n b c = b c && not (b (c + (n - 1)))

-- its length: how many cells from c on are blocked in an unbroken row, of the k cells from c on
unfoldable pub row : (ℕ → Bool) → ℕ → ℕ → ℕ
row b zero c = 0
row b (suc k) c = elim (b c) [ true ↦ suc (row b k (suc c)) | false ↦ 0 ]

-- the runs that start below cell k, by rising start; one that crosses the circle's end is whole
unfoldable pub runs_below : ℕ → (ℕ → Bool) → ℕ → List Run
runs_below n b zero = []
runs_below n b (suc k) = runs_below n b k ++ cond (starts n b k) (record { start = k; len = row b n k } ∷ []) []

-- all runs of the circle
unfoldable pub runs_of : ℕ → (ℕ → Bool) → List Run
runs_of n b = runs_below n b n

-- the blocked runs of the slots
unfoldable pub runs : Gate → List Slot → List Run
runs g ss = runs_of g.cycle (blocked g ss)
