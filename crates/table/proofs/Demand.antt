-- Demand 3, said of what is read from stored stairs, and that the stairs of slots can always be read.
-- Assumes nothing.
use mathlib.Core.Path.{◌≡◌, refl, sym, ap, ap₂, ◌∙◌, subst}
use mathlib.Core.Logic.{by_cases}
use mathlib.Core.Bool.{true}
use mathlib.Core.List.{List, map, get_last_d}
use Prim.Native.Nat.{ℕ, ◌-◌, ◌≤◌}
use native.Mathlib.Nat.{mul-le-mul}
use native.Mathlib.Decide.{dec_le}
use native.Mathlib.Omega.{arith}
use lib.ListN.{length, length-map, take}
use Rattle.laws.specs.Lists.{filled, RisingBy}
use Rattle.meaning.specs.declared.Gate.{Gate}
use Rattle.meaning.specs.declared.Slot.{Slot}
use Rattle.meaning.specs.declared.Stair.{Stair}
use Rattle.meaning.specs.Runs.{has_free, runs}
use Rattle.meaning.specs.Interference.{all_len, by_stairs, interference, stairs}
use Rattle.meaning.proofs.Cells.{free_cell}
use Rattle.meaning.proofs.Windows.{covering}
use Rattle.meaning.proofs.Gates.{slots_stairway, slots_by_stairs}
use Rattle.table.specs.Lookup.{stairs_in, all_in, stairs_v, TableFits, DemandThree}
use Rattle.laws.proofs.Rows.{filled_length}
use Rattle.table.proofs.Stored.{rows_long, last_all, rows_rise, rows_hold}
use Rattle.table.proofs.Reached.{lent_v}

-- at most 32 runs, at most 993 stairs
pub stairs_few : (g : Gate) (ss : List Slot) → length (runs g ss) ≤ 32 → length (stairs g ss) ≤ 993
stairs_few g ss h =
    let k = length (runs g ss) in
    let way = slots_stairway g ss in
    by_cases (dec_le 1 k)
    (λ l. omega (arith, way.few l, mul-le-mul {n₁ = k} {m₁ = k - 1} {n₂ = 32} {m₂ = 31} h (omega arith)))
    (λ l. omega (arith, ap (λ (st : List Stair). length st) (way.none (omega arith))))

-- rows whose first n stairs are all the stairs of the slots
module _ (g : Gate) (ss : List Slot) (far tot : List ℕ) (n : ℕ)
    (held : stairs_in far tot n ≡ stairs g ss) (all : n ≡ length (stairs g ss)) where
  long : (n ≤ length far) × (n ≤ length tot)
  long = rows_long far tot n (omega (arith, ap (λ (st : List Stair). length st) held))

  -- the last total is all blocked cells
  pub all_is : all_in tot n ≡ all_len (runs g ss)
  all_is =
      sym (last_all far tot n (record { far = 0; total = 0 }) refl long.0 long.1)
      ∙ ap (λ (st : List Stair). (get_last_d st (record { far = 0; total = 0 })).total) held
      ∙ (slots_stairway g ss).last_is_all

  -- what is read is V(t) of the slots
  pub rows_give_interference : (t : ℕ)
      → by_stairs g.cycle (all_in tot n) (stairs_in far tot n) t ≡ interference g ss t
  rows_give_interference t =
      ap₂ (λ (x : ℕ) (st : List Stair). by_stairs g.cycle x st t) all_is held ∙ sym (slots_by_stairs g ss t)

  -- demand 3, of what is read from such rows
  pub demand_three : has_free g ss ≡ true → DemandThree g ss (by_stairs g.cycle (all_in tot n) (stairs_in far tot n))
  demand_three free =
      let cells = covering g ss free in
      record {
        at_most = λ a t. omega (arith, cells.at_most a t, rows_give_interference t);
        exact = rows_give_interference;
        met = λ c t on. let (r, m, e) = cells.met c t on in (r, m, e ∙ sym (rows_give_interference t));
      }

  -- demand 3, of the answers of `table::Stairs::interference` where the first n of such rows are lent
  pub demand_three_lent : has_free g ss ≡ true → TableFits g.cycle far tot n
      → DemandThree g ss (stairs_v g.cycle (take n far) (take n tot))
  demand_three_lent free fit =
      let d = demand_three free in
      let v = lent_v g.cycle far tot n fit in
      record {
        at_most = λ a t. omega (arith, d.at_most a t, v t);
        exact = λ t. v t ∙ d.exact t;
        met = λ c t on. let (r, m, e) = d.met c t on in (r, m, e ∙ sym (v t));
      }

  -- such rows fit, where they are 993 long and there are at most 32 runs
  rows_fit_table : length far ≡ 993 → length tot ≡ 993 → has_free g ss ≡ true → length (runs g ss) ≤ 32
      → TableFits g.cycle far tot n
  rows_fit_table lf lt free few =
      let (c, h, e) = (free_cell g ss).0 free in
      let way = slots_stairway g ss in
      record {
        few = omega (arith, stairs_few g ss few);
        some_cycle = omega arith;
        far_long = lf;
        tot_long = lt;
        far_rises =
            rows_rise far tot n long.0 long.1
            (subst (λ (st : List Stair). RisingBy (λ s. s.far) st) (sym held) way.far_rises);
      }

-- rows of 993 places that begin with the distances and the totals of the slots' stairs, and have 0 behind them
module _ (g : Gate) (ss : List Slot) (far tot : List ℕ) (n : ℕ)
    (far_row : far ≡ filled 993 0 (map (λ s. s.far) (stairs g ss)))
    (tot_row : tot ≡ filled 993 0 (map (λ s. s.total) (stairs g ss))) (all : n ≡ length (stairs g ss)) where
  pub stairs_held : stairs_in far tot n ≡ stairs g ss
  stairs_held = rw (far_row, tot_row, all) (rows_hold 993 (stairs g ss))

  -- such rows can always be read
  pub stairs_fit_table : has_free g ss ≡ true → length (runs g ss) ≤ 32 → TableFits g.cycle far tot n
  stairs_fit_table free few =
      rows_fit_table g ss far tot n stairs_held all
      (ap (λ (l : List ℕ). length l) far_row ∙ stored (λ s. s.far))
      (ap (λ (l : List ℕ). length l) tot_row ∙ stored (λ s. s.total)) free few
    where
      stored : (f : Stair → ℕ) → length (filled 993 0 (map f (stairs g ss))) ≡ 993
      stored f =
          filled_length 993 0 (map f (stairs g ss)) (omega (arith, length-map (stairs g ss) f, stairs_few g ss few))
