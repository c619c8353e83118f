-- The gate numbers in force are in range, and the slots held lie in a chain.
-- Assumes nothing.
use mathlib.Core.Path.{◌≡◌}
use mathlib.Core.Bool.{true}
use mathlib.Core.List.{List}
use native.Mathlib.Omega.{arith}
use Rattle.meaning.specs.declared.Port.{Port}
use Rattle.meaning.specs.declared.Stream.{Stream}
use Rattle.meaning.specs.Ranges.{port_ranges, in_range}
use Rattle.meaning.specs.Runs.{gate_of}
use Rattle.meaning.proofs.InRange.{port_in_lem}
use Rattle.meaning.proofs.Sounds.{gate_chain}
use Rattle.gate.specs.Rows.{GateFits, SlotsFit}
use Rattle.entries.specs.declared.Entries.{Entries}
use Rattle.entries.specs.Entries.{port_in, slots_in, streams_in, gate_in}
use Rattle.entries.proofs.Opened.{Open}

module _ (p : Port) (js : List Stream) where
  pub gate_fits : in_range (port_ranges p) ≡ true → GateFits (gate_of p js)
  unfolding gate_of
  gate_fits r =
      let b = (port_in_lem p).0 r in
      record {
        cycle_least = omega arith;
        cycle_most = omega arith;
        guard_most = omega arith;
        header_most = omega arith;
      }

pub held_fit : (e : Entries) → Open e → SlotsFit (gate_in e) (slots_in e)
held_fit e h = record {
  few = omega (arith, h.slots_count, h.slots_few);
  gate = gate_fits (port_in e) (streams_in e) h.sound.port_in;
  chain = gate_chain (port_in e) (streams_in e) (slots_in e) h.sound.chain;
}
