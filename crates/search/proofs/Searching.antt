-- Tries of a search over rows of streams: how large their numbers are, and that they never fall.
-- Assumes nothing.
use mathlib.Core.Path.{◌≡◌, ap}
use mathlib.Core.List.{List}
use Prim.Native.Nat.{ℕ, ◌+◌, ◌*◌, ◌/◌, ◌%◌, ◌≤◌, ◌<◌}
use native.Mathlib.Nat.{le_trans, add-zero, mul-le-mul, mul-le-mul_right}
use native.Mathlib.Nat.{div-le_self, div_self, div-eq_of_lt, mod_self, mod-lt, mod-eq_of_lt}
use native.Mathlib.Omega.{arith}
use lib.ListN.{get_or}
use Rattle.laws.specs.Numbers.{Least, Mono}
use Rattle.laws.proofs.Sums.{sum_le}
use Rattle.laws.proofs.Leasts.{Under, under_step, under_least, under_over}
use Rattle.meaning.specs.Arrivals.{most_in}
use Rattle.meaning.specs.declared.Stair.{Stair}
use Rattle.meaning.specs.Interference.{by_stairs, last_total}
use Rattle.meaning.proofs.Arrivals.{counted, most_grows}
use Rattle.table.specs.Lookup.{paired}
use Rattle.table.specs.declared.Stairs.{Stairs}
use Rattle.arrivals.specs.declared.counts.Counts.{Counts}
use Rattle.arrivals.specs.declared.rows.Rows.{Rows}
use Rattle.arrivals.specs.Rows.{stream_at, row_load, RowsFit, RowsCounted}
use Rattle.arrivals.specs.Counted.{Counted}
use Rattle.search.specs.Asked.{Asked, OwnFits, own_stream, row_demand, row_busy}
use Rattle.search.specs.declared.demand.Demand.{Demand}
use Rattle.search.specs.declared.own.Own.{Own}
use Rattle.search.specs.Searches.{table_of, all_of, TableBounds, asked_of, demand, busy, NoneCloses, Closes}
use Rattle.arrivals.proofs.Counting.{rows_few, rows_on, rows_all}

-- ---- interference

module _ (s : Stairs) (fit : TableBounds s) where
  abbrev v : ℕ → ℕ
  v = table_of s

  abbrev all : ℕ
  all = all_of s

  abbrev stairs : List Stair
  stairs = paired s.far.now s.tot.now

  -- in the cycle under way it is at most all blocked cells and V(0)
  table_round : (t : ℕ) → v t ≤ t / s.cycle * all + (all + v 0)
  unfolding by_stairs
  table_round t =
      let some = s.fits.some_cycle in
      let low = mod-lt t some in
      let within = fit.grows (t % s.cycle) s.cycle (omega arith) in
      let quotient = ap (λ (q : ℕ). q * all) (div-eq_of_lt low) in
      let rest = ap (last_total 0 stairs) (mod-eq_of_lt low) in
      let whole = ap (λ (q : ℕ). q * all) (div_self some) in
      let again = ap (last_total 0 stairs) (mod_self s.cycle) in
      let none = ap (λ (q : ℕ). q * all) (div-eq_of_lt some) in
      let first = ap (last_total 0 stairs) (mod-eq_of_lt some) in
      omega arith

  -- so that it fits 64 bits with room to spare
  pub table_most : (t : ℕ) → t ≤ 102_000_000 → v t ≤ 10_300_000_000_000_000
  table_most t h =
      let cycles = le_trans (div-le_self t s.cycle) h in
      omega (
        arith,
        table_round t,
        fit.all_most,
        fit.first_most,
        mul-le-mul {n₁ = t / s.cycle} {m₁ = all}
            {n₂ = 102_000_000} {m₂ = 100_000_000} cycles fit.all_most,
      )

-- ---- tries

module _ (per jit cost : List ℕ) (n : ℕ) (fit : RowsFit per jit cost n) where
  pub row_load_mono : Mono (row_load per jit cost n)
  unfolding row_load
  row_load_mono x y h =
      sum_le n _ _
      (λ k l. mul-le-mul_right (get_or cost k 0)
      (most_grows (counted (stream_at per jit k) (omega (arith, fit.periods k l))) x y h))

  module _ (v : ℕ → ℕ) (v_grows : Mono v) where
    pub row_demand_mono : (base off : ℕ) → Mono (row_demand v per jit cost n base off)
    unfolding row_demand
    row_demand_mono base off x y h = omega (arith, row_load_mono x y h, v_grows (x + off) (y + off) (omega arith))

    pub row_busy_mono : (own : Asked) → OwnFits own → Mono (row_busy v per jit cost n own)
    unfolding row_busy
    row_busy_mono own fits x y h =
        omega (
          arith,
          row_load_mono x y h,
          v_grows x y h,
          mul-le-mul_right own.wire
              (most_grows (counted (own_stream own) (omega (arith, fits.period_least))) x y h),
        )

  -- what a try asks for, with all frames in w counted
  pub tried : (v : ℕ → ℕ) (base off w : ℕ) (seen : Counts) (blocked : ℕ)
      → RowsCounted per jit cost n seen w → w < seen.least → blocked ≡ v (w + off)
      → base + seen.load + blocked ≡ row_demand v per jit cost n base off w
  unfolding row_demand
  tried v base off w seen blocked u past e = omega (arith, rows_all per jit cost n fit seen w u past)

-- with own's frames, a try is one of the busy window
pub tried_busy : (v : ℕ → ℕ) (per jit cost : List ℕ) (n : ℕ) (own : Asked) (base w : ℕ)
    → base ≡ own.lower + most_in (own_stream own) w * own.wire
    → row_demand v per jit cost n base 0 w ≡ row_busy v per jit cost n own w
unfolding row_demand row_busy
tried_busy v per jit cost n own base w e = omega (arith, ap v (add-zero w))

-- own's frames, a load that is no more than that of the rows, and the interference: no more than the window asks for
pub tried_under : (v : ℕ → ℕ) (per jit cost : List ℕ) (n : ℕ) (own : Asked) (base load blocked w : ℕ)
    → base ≡ own.lower + most_in (own_stream own) w * own.wire → load ≤ row_load per jit cost n w → blocked ≡ v w
    → base + load + blocked ≤ row_busy v per jit cost n own w
unfolding row_busy
tried_under v per jit cost n own base load blocked w e few eb = omega arith

-- ---- a search from below, after a try that asks for y

module _ {f : ℕ → ℕ} {w y : ℕ} (u : Under f w) (e : y ≡ f w) where
  -- w covers it
  pub search_closes : y ≤ w → Least f w
  search_closes h = under_least u (omega arith)

  -- w does not: the search goes on from y
  pub search_goes_on : Mono f → Under f y
  search_goes_on mono = rw e (under_step mono u)

  -- w does not, and y is over the horizon
  pub search_none : Mono f → 100_000_000 < y → NoneCloses f
  search_none mono h = under_over (search_goes_on mono) h

-- where no number below y closes, none below a lesser one does
pub under_below : {f : ℕ → ℕ} {y z : ℕ} → Under f y → z ≤ y → Under f z
under_below u h = record { under = λ x c. le_trans h (u.under x c) }

-- where some number up to the horizon closes, the search never passes the horizon
pub under_soon : {f : ℕ → ℕ} {w : ℕ} → Under f w → Closes f → w ≤ 100_000_000
under_soon u (x, closes, soon) = le_trans (u.under x closes) soon

-- and base is no longer than it either
pub base_soon : (v : ℕ → ℕ) (per jit cost : List ℕ) (n base off : ℕ) → Closes (row_demand v per jit cost n base off)
    → base ≤ 100_000_000
unfolding row_demand
base_soon v per jit cost n base off (x, closes, soon) = omega arith

-- ---- over the code's structs

module _ (d : Demand) where
  abbrev r : Rows
  r = d.rows.now

  -- the load that is counted fits 64 bits with room to spare
  pub loads_few : (seen : Counts) (w : ℕ) → Counted r seen w → w ≤ 100_000_000 → seen.load ≤ 2_560_128_000_000
  loads_few seen w u soon = omega (arith, r.fit.few, rows_few r.per r.jit r.cost r.n r.fit seen w u soon)

  pub demand_grows : (base off : ℕ) → Mono (demand d.stairs r base off)
  demand_grows = row_demand_mono r.per r.jit r.cost r.n r.fit (table_of d.stairs) d.bounds.grows

  pub busy_grows : (o : Own) → Mono (busy d.stairs r o)
  busy_grows o = row_busy_mono r.per r.jit r.cost r.n r.fit (table_of d.stairs) d.bounds.grows (asked_of o) o.fits

-- what is counted up to x is counted up to any number from x on
pub counted_on_to : (r : Rows) {seen : Counts} {x y : ℕ} → Counted r seen x → x ≤ y → Counted r seen y
counted_on_to r {seen} {x} {y} u h = rows_on r.per r.jit r.cost r.n r.fit seen x u y h
