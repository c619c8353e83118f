-- The caller's numbers as document 01's records, and what a test of their ranges hands back.
use Rattle.std.specs.Prelude.{Bool, cond, List, ℕ, Result, Ok, Err}
use Rattle.meaning.specs.declared.Port.{Port}
use Rattle.meaning.specs.declared.Slot.{Slot}
use Rattle.meaning.specs.declared.Stream.{Stream}
use Rattle.meaning.specs.declared.Refusal.{Refusal}
use Rattle.meaning.specs.declared.Refusal.TheVariants.{OutOfRange}
use Rattle.meaning.specs.Ranges.{in_range}
use Rattle.ranges.specs.declared.PortNumbers.{PortNumbers}
use Rattle.ranges.specs.declared.StreamNumbers.{StreamNumbers}

abbrev pub port_of : PortNumbers → Port
port_of p = record { rate = p.rate; cycle = p.cycle; guard = p.guard; header = p.header }

abbrev pub slot_of : ℕ → ℕ → Slot
slot_of start end = record { start = start; end = end }

abbrev pub stream_of : StreamNumbers → Stream
stream_of j =
    record {
      id = j.id;
      priority = j.priority;
      octets = j.octets;
      period = j.period;
      jitter = j.jitter;
      deadline = j.deadline;
    }

-- a where it is in range, by the tests of its ranges
abbrev pub tested : {A : Type 0} → List Bool → A → Result A Refusal
tested tests a = cond (in_range tests) (Ok a) (Err OutOfRange)
