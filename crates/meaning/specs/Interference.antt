-- Document 01, "Interference": over a circle of n cells and its runs, and then over the gate numbers and the slots.
use Rattle.std.specs.Prelude.{Bool, not, cond, ◌&&◌, ◌||◌, ℕ, suc, ◌+◌, ◌*◌, ◌/◌, ◌%◌, leb, ltb, eqb}
use mathlib.Core.List.{List, [], ◌∷◌, ◌++◌, foldr}
use Rattle.laws.specs.Lists.{keep, every, total, largest}
use Rattle.laws.specs.Numbers.{sum}
use Rattle.meaning.specs.declared.Gate.{Gate}
use Rattle.meaning.specs.declared.Slot.{Slot}
use Rattle.meaning.specs.declared.Run.{Run}
use Rattle.meaning.specs.declared.Stair.{Stair}
use Rattle.meaning.specs.Runs.{dist, runs}

-- the whole length of the runs that start at cell c
unfoldable pub len_at : List Run → ℕ → ℕ
len_at rs c = total (λ r. cond (eqb c r.start) r.len 0) rs

-- all blocked cells
unfoldable pub all_len : List Run → ℕ
all_len rs = total (λ r. r.len) rs

-- "The count from a run's start over length t is the sum of the whole lengths of all runs, repeats in later cycles
-- included, whose starts lie from that start to t later, both ends included": those that start at s, s + 1, .., s + t
unfoldable pub count : ℕ → List Run → ℕ → ℕ → ℕ
count n rs s t = sum (suc t) (λ k. len_at rs ((s + k) % n))

-- "Interference V(t) is the largest such count over all runs, and 0 with no slots."
unfoldable pub interference_of : ℕ → List Run → ℕ → ℕ
interference_of n rs t = largest (λ r. count n rs r.start t) rs

-- from the start s, after runs of the total length z: each run met adds "the pair of the distance from its start to the
-- start of the j-th run met, and the total length of those j"
unfoldable pub pairs_meeting : ℕ → ℕ → ℕ → List Run → List Stair
pairs_meeting n s z [] = []
pairs_meeting n s z (r ∷ rs) =
    record { far = dist n s r.start; total = z + r.len } ∷ pairs_meeting n s (z + r.len) rs

-- "for each run": from it the runs behind it are met, then those before it
unfoldable pub pairs_from : ℕ → List Run → List Run → List Stair
pairs_from n before [] = []
pairs_from n before (r ∷ behind) =
    pairs_meeting n r.start 0 (r ∷ behind ++ before) ++ pairs_from n (before ++ r ∷ []) behind

unfoldable pub pairs : ℕ → List Run → List Stair
pairs n rs = pairs_from n [] rs

-- "A pair is covered by another if the other has a distance no longer and a total no smaller."
unfoldable pub covers : Stair → Stair → Bool
covers q p = leb q.far p.far && leb p.total q.total

unfoldable pub same : Stair → Stair → Bool
same q p = eqb q.far p.far && eqb q.total p.total

-- "covered by no other pair"
unfoldable pub uncovered : List Stair → Stair → Bool
uncovered ps p = every (λ q. same q p || not (covers q p)) ps

-- p put in by rising distance, and only once
unfoldable pub put : Stair → List Stair → List Stair
put p [] = p ∷ []
put p (x ∷ xs) = cond (same p x) (x ∷ xs) (cond (ltb p.far x.far) (p ∷ x ∷ xs) (x ∷ put p xs))

-- "The stairs are the distinct pairs covered by no other pair, by rising distance."
unfoldable pub stairs_of : List Stair → List Stair
stairs_of ps = foldr put [] (keep (uncovered ps) ps)

-- "the total of the last stair whose distance is at most" u; z where there is none
unfoldable pub last_total : ℕ → List Stair → ℕ → ℕ
last_total z [] u = z
last_total z (x ∷ xs) u = last_total (cond (leb x.far u) x.total z) xs u

-- "V(t) is (t / cycle, whole part) x all blocked cells, plus the total of the last stair whose distance is at most the
-- remainder."
unfoldable pub by_stairs : ℕ → ℕ → List Stair → ℕ → ℕ
by_stairs n all st t = t / n * all + last_total 0 st (t % n)

-- V(t) of the slots
unfoldable pub interference : Gate → List Slot → ℕ → ℕ
interference g ss t = interference_of g.cycle (runs g ss) t

-- the stairs of the slots
unfoldable pub stairs : Gate → List Slot → List Stair
stairs g ss = stairs_of (pairs g.cycle (runs g ss))
