-- Small instances of document 01's definitions, each to be checked by hand; met first, so that a slip shows here.
-- Assumes nothing.
use mathlib.Core.Path.{◌≡◌, refl}
use mathlib.Core.Bool.{true, false}
use mathlib.Core.List.{List, [], ◌∷◌, map}
use mathlib.Core.Option.{some}
use Prim.Native.Nat.{ℕ, ◌+◌, ◌*◌}
use lib.Dec.{leb}
use Rattle.laws.specs.Lists.{keep, any, every, total, largest}
use Rattle.laws.specs.Numbers.{sum, any_below, least_up_to, largest_to}
use Rattle.meaning.specs.declared.Port.{Port}
use Rattle.meaning.specs.declared.Gate.{Gate}
use Rattle.meaning.specs.declared.Slot.{Slot}
use Rattle.meaning.specs.declared.Stream.{Stream}
use Rattle.meaning.specs.declared.Run.{Run}
use Rattle.meaning.specs.declared.Stair.{Stair}
use Rattle.meaning.specs.Ranges.{horizon, most_slots, most_streams, octet_limit, stream_ranges, in_range}
use Rattle.meaning.specs.Wire.{ten_octets, extra_octets, wire_time}
use Rattle.meaning.specs.Runs.{gate_of, dist, blocks, blocked, has_free, starts, row, runs_below, runs_of, runs}
use Rattle.meaning.specs.Interference.{len_at, all_len, count, interference_of, pairs_meeting, pairs_from, pairs}
use Rattle.meaning.specs.Interference.{covers, same, uncovered, put, stairs_of, last_total, by_stairs}
use Rattle.meaning.specs.Interference.{interference, stairs}
use Rattle.meaning.specs.Arrivals.{most_in, earliest}
use Rattle.meaning.specs.Response.{others, ahead, lower_wire, load, busy_load, wait_load, wait, response, bound_in}
use Rattle.meaning.specs.Response.{late}
use Rattle.meaning.specs.Figures.{slot, run, stair, stream₈}

-- ---- ranges

-- 100,000,000 is within the horizon, one more is not
pub horizon_edge : (leb 100_000_000 horizon ≡ true) × (leb 100_000_001 horizon ≡ false)
unfolding horizon
horizon_edge = (refl, refl)

-- "16 + 11 x slots + 20 x streams octets, at most 1,648"
pub most_held : 16 + 11 * most_slots + 20 * most_streams ≡ 1_648
unfolding most_slots most_streams
most_held = refl

-- a stream in range but for its octets, at a port
abbrev framed : ℕ → Stream
framed k = record { id = 0; priority = 7; octets = k; period = 10_000; jitter = 0; deadline = 1 }

-- "octets: 64 to 1,522", at every port
pub octets_edge : (p : Port)
    → (in_range (stream_ranges (octet_limit p) (framed 1_522)) ≡ true)
    × (in_range (stream_ranges (octet_limit p) (framed 1_523)) ≡ false)
unfolding stream_ranges octet_limit every
octets_edge p = (refl, refl)

-- ---- wire time

-- P1's other codes: 64 octets at 10 Mbit/s and 1 Gbit/s
pub wire_64 : (wire_time 1 64 ≡ 57_600) × (wire_time 3 64 ≡ 576)
unfolding wire_time ten_octets extra_octets
wire_64 = (refl, refl)

-- ---- blocked runs, on a circle of 32 cells with guard 2 and header 1

abbrev small : Gate
small = record { cycle = 32; guard = 2; header = 1 }

abbrev small_slots : List Slot
small_slots = slot 1 3 ∷ slot 9 10 ∷ slot 20 25 ∷ []

pub small_gate : (rate : ℕ) → gate_of (record { rate = rate; cycle = 32; guard = 2; header = 1 }) [] ≡ small
unfolding gate_of
small_gate rate = refl

-- forward from 7 to 18, and from 31 over the circle's end to 7
pub small_dist : (dist 32 7 18 ≡ 11) × (dist 32 31 7 ≡ 8)
small_dist = (refl, refl)

-- slot 1..3 blocks 31, 0, 1, 2, 3, and neither 30 nor 4
pub small_blocks : map (blocks small (slot 1 3)) (30 ∷ 31 ∷ 0 ∷ 3 ∷ 4 ∷ []) ≡ false ∷ true ∷ true ∷ true ∷ false ∷ []
unfolding blocks
small_blocks = refl

-- a cell that one slot of three blocks, and a cell between slots
pub small_blocked : (blocked small small_slots 18 ≡ true) × (blocked small small_slots 17 ≡ false)
unfolding blocked blocks any
small_blocked = (refl, refl)

-- slot 2..30 leaves cell 31, the last; slot 2..31 leaves none
pub small_free : (has_free small (slot 2 30 ∷ []) ≡ true) × (has_free small (slot 2 31 ∷ []) ≡ false)
unfolding has_free blocked blocks any any_below
small_free = (refl, refl)

-- three runs by rising start, the last over the circle's end
abbrev small_runs : List Run
small_runs = run 7 4 ∷ run 18 8 ∷ run 31 5 ∷ []

pub small_runs_lem : runs small small_slots ≡ small_runs
unfolding runs runs_of runs_below starts row blocked blocks any
small_runs_lem = refl

-- 2..4 blocks 0 to 4 and 7..8 blocks 5 to 8: they touch, and are one run
pub touching_runs : runs small (slot 2 4 ∷ slot 7 8 ∷ []) ≡ run 0 9 ∷ []
unfolding runs runs_of runs_below starts row blocked blocks any
touching_runs = refl

-- ---- interference, of those three runs

-- from 31: at once 5; the run at 7 is 8 later; a cycle later all 17 and the run at 31 again
pub small_count : map (count 32 small_runs 31) (0 ∷ 7 ∷ 8 ∷ 32 ∷ []) ≡ 5 ∷ 5 ∷ 9 ∷ 22 ∷ []
unfolding count len_at total sum
small_count = refl

pub small_all : all_len small_runs ≡ 17
unfolding all_len total
small_all = refl

pub small_interference : map (interference small small_slots) (0 ∷ 7 ∷ 8 ∷ 19 ∷ 32 ∷ 40 ∷ [])
    ≡ 8 ∷ 8 ∷ 9 ∷ 17 ∷ 25 ∷ 26 ∷ []
unfolding
    interference interference_of largest count len_at total sum runs runs_of runs_below starts row blocked blocks any
small_interference = refl

-- three from 7, three from 18, three from 31
pub small_pairs : pairs 32 small_runs
    ≡ stair 0 4 ∷ stair 11 12 ∷ stair 24 17 ∷ stair 0 8 ∷ stair 13 13 ∷ stair 21 17
    ∷ stair 0 5 ∷ stair 8 9 ∷ stair 19 17 ∷ []
unfolding pairs pairs_from pairs_meeting
small_pairs = refl

-- an equal distance with a larger total covers, and so does a shorter distance with an equal total; no pair covers one
-- with a shorter distance or a larger total
pub covers_edge : (covers (stair 0 8) (stair 0 5) ≡ true) × (covers (stair 19 17) (stair 21 17) ≡ true)
    × (covers (stair 8 9) (stair 0 8) ≡ false) × (covers (stair 0 8) (stair 8 9) ≡ false)
unfolding covers
covers_edge = (refl, refl, refl, refl)

abbrev small_stairs : List Stair
small_stairs = stair 0 8 ∷ stair 8 9 ∷ stair 11 12 ∷ stair 13 13 ∷ stair 19 17 ∷ []

pub small_stairs_lem : stairs small small_slots ≡ small_stairs
unfolding
    stairs stairs_of put keep uncovered every same covers pairs pairs_from pairs_meeting runs runs_of runs_below
    starts row
    blocked blocks any
small_stairs_lem = refl

-- a pair that is met from two runs is one stair
pub distinct_stairs : stairs_of (stair 0 4 ∷ stair 16 8 ∷ stair 0 4 ∷ stair 16 8 ∷ []) ≡ stair 0 4 ∷ stair 16 8 ∷ []
unfolding stairs_of put keep uncovered every same covers
distinct_stairs = refl

-- V(t) of the same lengths by the stairs
pub small_by_stairs : map (by_stairs 32 17 small_stairs) (0 ∷ 7 ∷ 8 ∷ 19 ∷ 32 ∷ 40 ∷ []) ≡ 8 ∷ 8 ∷ 9 ∷ 17 ∷ 25 ∷ 26 ∷ []
unfolding by_stairs last_total
small_by_stairs = refl

-- ---- arrivals, of P8's stream: period 20,000, jitter 30,000

pub most_in_lem : (id priority deadline : ℕ)
    → map (most_in (stream₈ id priority deadline)) (0 ∷ 9_999 ∷ 10_000 ∷ []) ≡ 2 ∷ 2 ∷ 3 ∷ []
unfolding most_in
most_in_lem id priority deadline = refl

pub earliest_of : (id priority deadline : ℕ)
    → map (earliest (stream₈ id priority deadline)) (1 ∷ 2 ∷ 3 ∷ 4 ∷ []) ≡ 0 ∷ 0 ∷ 10_000 ∷ 30_000 ∷ []
unfolding earliest
earliest_of id priority deadline = refl

-- ---- response bound, at code 2: wire times 10,000, 40,000, 20,000, 5,760 and 30,000

abbrev own : Stream
own = record { id = 1; priority = 5; octets = 117; period = 20_000; jitter = 30_000; deadline = 50_000 }

abbrev equal : Stream
equal = record { id = 2; priority = 5; octets = 492; period = 50_000; jitter = 0; deadline = 50_000 }

abbrev higher : Stream
higher = record { id = 3; priority = 6; octets = 242; period = 10_000; jitter = 0; deadline = 50_000 }

abbrev lower₁ : Stream
lower₁ = record { id = 4; priority = 4; octets = 64; period = 10_000; jitter = 0; deadline = 50_000 }

abbrev lower₂ : Stream
lower₂ = record { id = 5; priority = 0; octets = 367; period = 10_000; jitter = 0; deadline = 50_000 }

abbrev rest : List Stream
rest = equal ∷ higher ∷ lower₁ ∷ lower₂ ∷ []

pub others_of : others 2 (own ∷ rest) ≡ own ∷ higher ∷ lower₁ ∷ lower₂ ∷ []
unfolding others keep
others_of = refl

-- "equal or higher priority"
pub ahead_of : ahead own rest ≡ equal ∷ higher ∷ []
unfolding ahead keep
ahead_of = refl

-- not 40,000 of equal priority, and not 35,760 of two
pub lower_wire_lem : lower_wire 2 own rest ≡ 30_000
unfolding lower_wire keep largest wire_time ten_octets extra_octets
lower_wire_lem = refl

-- in 10,000: 3 x 10,000 of its own, 1 x 40,000, 2 x 20,000; with 30,000 before them, and 10,000 for V(10,000)
pub busy_load_lem : busy_load 2 (λ x. x) 30_000 rest own 10_000 ≡ 30_000 + 30_000 + 40_000 + 40_000 + 10_000
unfolding busy_load load ahead keep total most_in wire_time ten_octets extra_octets
busy_load_lem = refl

-- frame 3: two of its own before it, the others as above, and V(10,000 + 10,000)
pub wait_load_lem : wait_load 2 (λ x. x) 30_000 rest own 3 10_000 ≡ 30_000 + 20_000 + 40_000 + 40_000 + 20_000
unfolding wait_load load ahead keep total most_in wire_time ten_octets extra_octets
wait_load_lem = refl

-- P8 in small: wire time 8, period 16, jitter 24, busy window 32
abbrev brief : Stream
brief = record { id = 1; priority = 0; octets = 2; period = 16; jitter = 24; deadline = 16 }

pub brief_waits : map (wait 5 (λ x. 0) 0 [] brief 32) (1 ∷ 2 ∷ 3 ∷ 4 ∷ []) ≡ some 0 ∷ some 8 ∷ some 16 ∷ some 24 ∷ []
unfolding wait wait_load least_up_to load ahead keep total most_in wire_time ten_octets extra_octets
brief_waits = refl

pub brief_responses : map (response 5 (λ x. 0) 0 [] brief 32) (1 ∷ 2 ∷ 3 ∷ 4 ∷ [])
    ≡ some 8 ∷ some 16 ∷ some 16 ∷ some 8 ∷ []
unfolding response earliest wait wait_load least_up_to load ahead keep total most_in wire_time ten_octets extra_octets
brief_responses = refl

pub brief_bound : bound_in 5 (λ x. 0) 0 [] brief 32 ≡ 16
unfolding
    bound_in largest_to response earliest wait wait_load least_up_to load ahead keep total most_in wire_time ten_octets
    extra_octets
brief_bound = refl

-- a bound equal to the deadline is kept, one more is late
pub late_edge : (late own 50_000 ≡ false) × (late own 50_001 ≡ true)
late_edge = (refl, refl)
