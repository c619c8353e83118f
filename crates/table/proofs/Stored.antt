-- The stairs that two rows hold: their number, their order, their last.
-- Assumes nothing.
use mathlib.Core.Path.{◌≡◌, refl, ap, ap₂, ◌∙◌}
use mathlib.Core.List.Memᴰ
use mathlib.Core.List.{List, [], ◌∷◌, map, get_last_d}
use Prim.Native.Nat.{ℕ, zero, suc, ◌≤◌, ◌<◌, zero-le}
use native.Mathlib.Omega.{arith}
use lib.ListN.{length, get_or, length-map}
use lib.Seq.{take_at}
use Rattle.laws.specs.Lists.{filled, Mem, RisingBy}
use Rattle.laws.proofs.Lists.{mem_head}
use Rattle.meaning.specs.declared.Stair.{Stair}
use Rattle.table.specs.Lookup.{paired, stairs_in, all_in, RisesTo}

-- ---- n stairs

-- rows that hold n stairs are no shorter
pub rows_long : (far tot : List ℕ) (n : ℕ) → n ≤ length (stairs_in far tot n) → (n ≤ length far) × (n ≤ length tot)
unfolding stairs_in paired
rows_long far tot zero h = (zero-le, zero-le)
rows_long [] tot (suc n) h = absurd (omega arith)
rows_long (d ∷ far) [] (suc n) h = absurd (omega arith)
rows_long (d ∷ far) (z ∷ tot) (suc n) h = let (a, b) = rows_long far tot n (omega arith) in (omega arith, omega arith)

-- the total of their last is what is read as all
pub last_all : (far tot : List ℕ) (n : ℕ) (d : Stair) → d.total ≡ 0 → n ≤ length far → n ≤ length tot
    → (get_last_d (stairs_in far tot n) d).total ≡ all_in tot n
unfolding stairs_in paired all_in get_last_d
last_all far tot zero s e a b = e
last_all [] tot (suc n) s e a b = absurd (omega arith)
last_all (d ∷ far) [] (suc n) s e a b = absurd (omega arith)
last_all (d ∷ far) (z ∷ tot) (suc zero) s e a b = refl
last_all (d ∷ []) (z ∷ tot) (suc (suc n)) s e a b = absurd (omega arith)
last_all (d ∷ (d' ∷ far)) (z ∷ []) (suc (suc n)) s e a b = absurd (omega arith)
last_all (d ∷ (d' ∷ far)) (z ∷ (z' ∷ tot)) (suc (suc n)) s e a b =
    last_all (d' ∷ far) (z' ∷ tot) (suc n) s e (omega arith) (omega arith)

-- ---- their order

stair_mem : (far tot : List ℕ) (n i : ℕ) → n ≤ length far → n ≤ length tot → i < n
    → Mem (record { far = get_or far i 0; total = get_or tot i 0 }) (stairs_in far tot n)
unfolding stairs_in paired
stair_mem far tot zero i a b h = absurd (omega arith)
stair_mem [] tot (suc n) i a b h = absurd (omega arith)
stair_mem (d ∷ far) [] (suc n) i a b h = absurd (omega arith)
stair_mem (d ∷ far) (z ∷ tot) (suc n) zero a b h = mem_head _ _
stair_mem (d ∷ far) (z ∷ tot) (suc n) (suc i) a b h =
    Memᴰ.tail (stair_mem far tot n i (omega arith) (omega arith) (omega arith))

-- where the stairs rise, the row of distances does
pub rows_rise : (far tot : List ℕ) (n : ℕ) → n ≤ length far → n ≤ length tot
    → RisingBy (λ s. s.far) (stairs_in far tot n) → RisesTo far n
unfolding stairs_in paired
rows_rise far tot zero a b r i j h l = absurd (omega arith)
rows_rise [] tot (suc n) a b r i j h l = absurd (omega arith)
rows_rise (d ∷ far) [] (suc n) a b r i j h l = absurd (omega arith)
rows_rise (d ∷ far) (z ∷ tot) (suc n) a b r i zero h l = absurd (omega arith)
rows_rise (d ∷ far) (z ∷ tot) (suc n) a b r zero (suc j) h l =
    r.0 _ (stair_mem far tot n j (omega arith) (omega arith) (omega arith))
rows_rise (d ∷ far) (z ∷ tot) (suc n) a b r (suc i) (suc j) h l =
    rows_rise far tot n (omega arith) (omega arith) r.1 i j (omega arith) (omega arith)

-- ---- stairs that are stored

paired_parts : (st : List Stair) → paired (map (λ s. s.far) st) (map (λ s. s.total) st) ≡ st
unfolding paired
paired_parts [] = refl
paired_parts (s ∷ st) = ap {B = List Stair} (λ l. s ∷ l) (paired_parts st)

-- rows that begin with the distances and the totals hold the stairs
pub rows_hold : (m : ℕ) (st : List Stair)
    → stairs_in (filled m 0 (map (λ s. s.far) st)) (filled m 0 (map (λ s. s.total) st)) (length st) ≡ st
unfolding stairs_in filled
rows_hold m st =
    ap₂ paired
    (take_at (map (λ (s : Stair). s.far) st) _ (length st) (length-map st _))
    (take_at (map (λ (s : Stair). s.total) st) _ (length st) (length-map st _))
    ∙ paired_parts st
