-- What a fit desk gives where it is open: what it holds, and that its stairs may be read.
-- Assumes nothing.
use mathlib.Core.Path.{◌≡◌, sym, ap, subst, ◌∙◌}
use mathlib.Core.Bool.{true}
use mathlib.Core.List.{map}
use Prim.Native.Nat.{ℕ, ◌≤◌}
use native.Mathlib.Omega.{arith}
use lib.ListN.{length}
use borrow.Author.Tests.{le-ltb}
use Rattle.laws.specs.Lists.{filled}
use Rattle.meaning.specs.Ranges.{horizon}
use Rattle.meaning.specs.Runs.{runs}
use Rattle.meaning.specs.Interference.{by_stairs, stairs}
use Rattle.meaning.specs.Refusals.{accepted, unless}
use Rattle.meaning.specs.Desks.{opened}
use Rattle.meaning.specs.Calls.{ask_stairs, ask_interference}
use Rattle.meaning.specs.Promises.{Chain, Sound}
use Rattle.meaning.proofs.Sounds.{gate_cycle, gate_chain}
use Rattle.meaning.proofs.ChainFree.{runs_few}
use Rattle.meaning.proofs.Gates.{slots_stairway}
use Rattle.table.specs.declared.Table.{Table}
use Rattle.table.specs.Rows.{table_of}
use Rattle.table.specs.Lookup.{all_in, TableFits, DemandThree}
use Rattle.table.proofs.Demand.{demand_three, stairs_held, stairs_fit_table}
use Rattle.entries.proofs.Opened.{Open, open_entries}
use Rattle.desk.specs.declared.Desk.{Desk}
use Rattle.desk.specs.Desks.{filled_desk, desk_of, held, Fit}
use Rattle.desk.specs.Desks.{port_in, slots_in, streams_in, gate_in}
use Rattle.desk.specs.Edits.{entries_in}
use Rattle.desk.specs.Reach.{stored_stairs, figure_in, DemandThreeHolds}
use Rattle.desk.proofs.Held.{fit_entries}

-- the stairs as the struct has them
abbrev pub table_in : Desk → Table
table_in d = record { n = d.nstairs; far = d.far; tot = d.tot }

-- the cycle of the gate numbers in force is the port's
pub same_cycle : (d : Desk) → (gate_in d).cycle ≡ d.cycle
same_cycle d = gate_cycle (port_in d) (streams_in d)

pub record OpenFits (d : Desk) : Type 0 where
  pub holds : held d ≡ opened (port_in d) (slots_in d) (streams_in d)
  pub sound : Sound (port_in d) (slots_in d) (streams_in d)
  pub streams_count : d.nstreams ≡ length (streams_in d)
  pub few_streams : d.nstreams ≤ 64
  pub table : table_in d ≡ table_of (stairs (gate_in d) (slots_in d))
  pub count : d.nstairs ≡ length (stairs (gate_in d) (slots_in d))
  pub stored : stored_stairs d ≡ stairs (gate_in d) (slots_in d)
  pub table_fits : TableFits d.cycle d.far d.tot d.nstairs

module _ (d : Desk) (f : Fit d) (o : d.opened ≡ true) where
  holds_open : held d ≡ opened (port_in d) (slots_in d) (streams_in d)
  unfolding held
  holds_open = rw o

  entries_open : Open (entries_in d)
  entries_open = open_entries (entries_in d) (fit_entries d f) o

  sound_open : Sound (port_in d) (slots_in d) (streams_in d)
  sound_open = entries_open.sound

  -- every field, from what is held
  filled_open : d ≡ filled_desk true (port_in d) (slots_in d) (streams_in d) (stairs (gate_in d) (slots_in d))
  unfolding desk_of
  filled_open = f.canonical ∙ ap desk_of holds_open

  chain_open : Chain 0 (slots_in d) (gate_in d).cycle
  chain_open = gate_chain (port_in d) (streams_in d) (slots_in d) sound_open.chain

  far_row : d.far ≡ filled 993 0 (map (λ x. x.far) (stairs (gate_in d) (slots_in d)))
  unfolding filled_desk table_of
  far_row = ap (λ (x : Desk). x.far) filled_open

  tot_row : d.tot ≡ filled 993 0 (map (λ x. x.total) (stairs (gate_in d) (slots_in d)))
  unfolding filled_desk table_of
  tot_row = ap (λ (x : Desk). x.tot) filled_open

  pub open_fits : OpenFits d
  unfolding filled_desk table_of
  open_fits =
      let fewer = runs_few (gate_in d) (slots_in d) chain_open in
      let few : length (runs (gate_in d) (slots_in d)) ≤ 32 =
      omega (arith, entries_open.slots_count, entries_open.slots_few) in
      let count = ap (λ (x : Desk). x.nstairs) filled_open in
      record {
        holds = holds_open;
        sound = sound_open;
        streams_count = entries_open.streams_count;
        few_streams = entries_open.streams_few;
        table = ap table_in filled_open;
        count = count;
        stored = stairs_held (gate_in d) (slots_in d) _ _ _ far_row tot_row count;
        table_fits =
            subst (λ (n : ℕ). TableFits n d.far d.tot d.nstairs) (same_cycle d)
            (stairs_fit_table (gate_in d) (slots_in d) _ _ _ far_row tot_row count sound_open.some_free few);
      }

  -- demand 3, of every fit desk that is open
  pub fit_demand_three : DemandThreeHolds d
  unfolding ask_stairs ask_interference unless
  fit_demand_three =
      let h = open_fits in
      let figure : DemandThree (gate_in d) (slots_in d) (figure_in d) =
      subst
      (λ (n : ℕ). DemandThree (gate_in d) (slots_in d) (by_stairs n (all_in d.tot d.nstairs) (stored_stairs d)))
      (same_cycle d)
      (demand_three (gate_in d) (slots_in d) _ _ _ h.stored h.count sound_open.some_free) in
      record {
        stored = h.stored;
        stairway = rw h.stored (slots_stairway (gate_in d) (slots_in d));
        windows = figure;
        stairs_answered = ap ask_stairs holds_open ∙ ap accepted (sym h.stored);
        figure_answered =
            λ t l. ap (ask_interference t) holds_open ∙ rw (le-ltb horizon t l) (ap accepted (sym (figure.exact t)));
      }
