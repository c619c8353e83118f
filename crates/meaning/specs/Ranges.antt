-- Document 01, "Ranges": a row of tests for each field, in field order; a field is in range where each of them holds.
use Rattle.std.specs.Prelude.{Bool, ◌&&◌, List, [], ◌∷◌, ℕ, leb, ltb}
use Rattle.laws.specs.Lists.{every}
use Rattle.meaning.specs.declared.Port.{Port}
use Rattle.meaning.specs.declared.Slot.{Slot}
use Rattle.meaning.specs.declared.Stream.{Stream}

-- "Horizon: 100,000,000 ns."
unfoldable pub horizon : ℕ
horizon = 100_000_000

-- "At most 32 slots and 64 streams."
unfoldable pub most_slots : ℕ
most_slots = 32

unfoldable pub most_streams : ℕ
most_streams = 64

-- lo to hi, both in range
abbrev pub within : ℕ → ℕ → ℕ → Bool
within lo hi x = leb lo x && leb x hi

-- "octets: 64 to 1,522": the limit is asked of the port
unfoldable pub octet_limit : Port → ℕ
octet_limit p = 1_522

-- rate code, cycle, guard ("never 0"), header ("0 is a real value")
unfoldable pub port_ranges : Port → List Bool
port_ranges p =
    within 1 5 p.rate
    ∷ within 1_000 100_000_000 p.cycle
    ∷ within 1 10_000_000 p.guard
    ∷ within 0 10_000_000 p.header
    ∷ []

-- "0 <= start < end <= cycle": the start, and then the end
unfoldable pub slot_ranges : ℕ → Slot → List Bool
slot_ranges cycle s = leb 0 s.start ∷ (ltb s.start s.end && leb s.end cycle) ∷ []

-- id, priority, octets, period, jitter, deadline
unfoldable pub stream_ranges : ℕ → Stream → List Bool
stream_ranges limit j =
    within 0 65_535 j.id
    ∷ within 0 7 j.priority
    ∷ within 64 limit j.octets
    ∷ within 10_000 100_000_000 j.period
    ∷ within 0 100_000_000 j.jitter
    ∷ within 1 100_000_000 j.deadline
    ∷ []

-- every number of a field is in its range
abbrev pub in_range : List Bool → Bool
in_range tests = every (λ holds. holds) tests
