-- The laws of runs, stairs and interference, said of gate numbers and slots: what the crates above cite.
-- Assumes nothing.
use mathlib.Core.Path.{◌≡◌}
use mathlib.Core.Bool.{true}
use mathlib.Core.List.{List}
use Prim.Native.Nat.{ℕ, ◌+◌, ◌≤◌}
use Rattle.laws.specs.Lists.{RisingBy}
use Rattle.laws.specs.Numbers.{Mono}
use Rattle.meaning.specs.declared.Gate.{Gate}
use Rattle.meaning.specs.declared.Slot.{Slot}
use Rattle.meaning.specs.declared.Stair.{Stair}
use Rattle.meaning.specs.Runs.{has_free, runs}
use Rattle.meaning.specs.Interference.{all_len, pairs, by_stairs, interference, stairs}
use Rattle.meaning.specs.Promises.{IsStairs, Stairway}
use Rattle.meaning.proofs.Counts.{Below}
use Rattle.meaning.proofs.Cells.{runs_below_lem, runs_rise, runs_long}
use Rattle.meaning.proofs.Windows.{all_at_most_cycle}
use Rattle.meaning.proofs.Stairs.{stairs_are, stairs_unique}
use Rattle.meaning.proofs.Pairs.{Long}
use Rattle.meaning.proofs.Interferences.{interference_mono, interference_spreads, interference_at_most}
use Rattle.meaning.proofs.Interferences.{stairway}

module _ (g : Gate) (ss : List Slot) where
  -- runs start in the cycle, by rising start, and have a length
  pub slots_below : Below g.cycle (runs g ss)
  unfolding runs
  slots_below = runs_below_lem g.cycle _

  pub slots_rise : RisingBy (λ r. r.start) (runs g ss)
  unfolding runs
  slots_rise = runs_rise g.cycle _

  pub slots_long : Long (runs g ss)
  unfolding runs
  slots_long = runs_long g.cycle _

  -- what a loop makes of the pairs, if it has the stairs' properties, is the stairs
  pub slots_stairs : (st : List Stair) → IsStairs (pairs g.cycle (runs g ss)) st → st ≡ stairs g ss
  unfolding stairs
  slots_stairs st a = stairs_unique a (stairs_are (pairs g.cycle (runs g ss)))

  pub slots_stairway : Stairway g.cycle (runs g ss) (stairs g ss)
  unfolding stairs
  slots_stairway = stairway g.cycle (runs g ss) _ slots_rise slots_below (stairs_are (pairs g.cycle (runs g ss)))

  -- V by the stairs
  pub slots_by_stairs : (t : ℕ) → interference g ss t ≡ by_stairs g.cycle (all_len (runs g ss)) (stairs g ss) t
  unfolding interference
  slots_by_stairs = slots_stairway.gives

  pub slots_grow : Mono (interference g ss)
  unfolding interference
  slots_grow = interference_mono g.cycle (runs g ss)

  pub slots_spread : (x y : ℕ) → interference g ss (x + y) ≤ interference g ss x + interference g ss y
  unfolding interference
  slots_spread = interference_spreads g.cycle (runs g ss)

  pub slots_at_most : has_free g ss ≡ true → (t : ℕ) → interference g ss t ≤ t + g.cycle
  unfolding interference
  slots_at_most e = interference_at_most g.cycle (runs g ss) slots_below (all_at_most_cycle g ss e)
