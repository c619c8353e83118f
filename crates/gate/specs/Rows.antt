-- What is asked of gate numbers and slots, and the row in which runs are answered.
use Rattle.std.specs.Coded.{le_prop}
use denote.Struct.Props.{props}
use Rattle.std.specs.Prelude.{List, [], ◌∷◌, ℕ, ◌≤◌, length}
use Rattle.laws.specs.Lists.{filled}
use Rattle.meaning.specs.declared.Gate.{Gate}
use Rattle.meaning.specs.declared.Slot.{Slot}
use Rattle.meaning.specs.declared.Run.{Run}
use Rattle.meaning.specs.Promises.{Chain}
use Rattle.gate.specs.declared.RunRow.{RunRow}

-- a place that holds no run
abbrev pub no_run : Run
no_run = record { start = 0; len = 0 }

-- the numbers are small enough to be added up, and the circle has a cell
pub record GateFits (g : Gate) : Type 0 where
  pub cycle_least : 1 ≤ g.cycle
  pub cycle_most : g.cycle ≤ 100_000_000
  pub guard_most : g.guard ≤ 10_000_000
  pub header_most : g.header ≤ 10_000_000

-- gate numbers and slots that runs can be found of: the slots lie in a chain, none past the cycle's end
pub record SlotsFit (g : Gate) (ss : List Slot) : Type 0 where
  pub few : length ss ≤ 32
  pub gate : GateFits g
  pub chain : Chain 0 ss g.cycle

-- each of these holds in one way at most, as a ghost field's fact must
pub chain_prop : (lo : ℕ) (ss : List Slot) (hi : ℕ) → IsProp (Chain lo ss hi)
chain_prop lo [] hi a b = le_prop a b
chain_prop lo (s ∷ ss) hi a b =
    λ i. (le_prop a.0 b.0 i, le_prop a.1 b.1 i, chain_prop s.end ss hi a.2 b.2 i)

pub slots_fit_prop : (g : Gate) (ss : List Slot) → IsProp (SlotsFit g ss)
slots_fit_prop g ss = Prim.hlevel (props, chain_prop)

-- the runs, in the row's first places
unfoldable pub run_row : List Run → RunRow
run_row rs = record { n = length rs; row = filled 32 no_run rs }
