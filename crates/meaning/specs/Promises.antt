-- What the order's demands and document 01's remarks say of the definitions: the words in which they are proved.
use Rattle.std.specs.Prelude.{◌≡◌, Bool, true, cond, ℕ, ◌+◌, ◌-◌, ◌*◌, ◌≤◌, ◌<◌, length}
use mathlib.Core.List.{List, [], ◌∷◌, get_last_d}
use Rattle.laws.specs.Lists.{Mem, RisingBy}
use Rattle.laws.specs.Numbers.{sum, Least}
use Rattle.meaning.specs.declared.Port.{Port}
use Rattle.meaning.specs.declared.Gate.{Gate}
use Rattle.meaning.specs.declared.Slot.{Slot}
use Rattle.meaning.specs.declared.Stream.{Stream}
use Rattle.meaning.specs.declared.Run.{Run}
use Rattle.meaning.specs.declared.Stair.{Stair}
use Rattle.meaning.specs.Ranges.{horizon, most_slots, most_streams, octet_limit, port_ranges, stream_ranges, in_range}
use Rattle.meaning.specs.Wire.{wire_time}
use Rattle.meaning.specs.Runs.{gate_of, blocked, has_free, runs}
use Rattle.meaning.specs.Interference.{count, all_len, interference_of, by_stairs, interference}
use Rattle.meaning.specs.Arrivals.{most_in, earliest}
use Rattle.meaning.specs.Response.{busy_load, wait_load}
use Rattle.meaning.specs.Desks.{Desk, bare, opened}

-- ---- windows

-- the blocked cells among a, a + 1, .., a + t - 1
unfoldable pub blocked_in : (ℕ → Bool) → ℕ → ℕ → ℕ
blocked_in b a t = sum t (λ k. cond (b (a + k)) 1 0)

-- demand 3: "for every arrival instant and every length [..], the blocked time in that window is at most the table's
-- figure. If anything is blocked, some run's start meets that figure exactly by document 01's count."
pub record Covering (g : Gate) (ss : List Slot) : Type 0 where
  pub at_most : (a t : ℕ) → blocked_in (blocked g ss) a t ≤ interference g ss t
  pub met : (c t : ℕ) → blocked g ss c ≡ true
      → (r : Run) × Mem r (runs g ss) × (count g.cycle (runs g ss) r.start t ≡ interference g ss t)
  pub whole : all_len (runs g ss) ≡ blocked_in (blocked g ss) 0 g.cycle

-- ---- stairs

-- q covers p
abbrev pub Covers : Stair → Stair → Type 0
Covers q p = (q.far ≤ p.far) × (p.total ≤ q.total)

-- the stairs of some pairs, by what they do: rising in both, each one of the pairs, each pair covered by a member
pub record IsStairs (ps st : List Stair) : Type 0 where
  pub far_rises : RisingBy (λ x. x.far) st
  pub total_rises : RisingBy (λ x. x.total) st
  pub among : (p : Stair) → Mem p st → Mem p ps
  pub covering : (p : Stair) → Mem p ps → (q : Stair) × Mem q st × Covers q p

-- demand 3, of a circle of n cells with these runs: "they rise strictly in length and in interference, none covers
-- another, and each is met from the start of some blocked run"; document 01: their number, and V(t) by the last reached
pub record Stairway (n : ℕ) (rs : List Run) (st : List Stair) : Type 0 where
  pub far_rises : RisingBy (λ x. x.far) st
  pub total_rises : RisingBy (λ x. x.total) st
  pub none_covers : (x y : Stair) → Mem x st → Mem y st → Covers y x → y ≡ x
  pub met : (x : Stair) → Mem x st → (r : Run) × Mem r rs × (count n rs r.start x.far ≡ x.total)
  pub few : 1 ≤ length rs → length st ≤ length rs * (length rs - 1) + 1
  pub none : length rs ≡ 0 → st ≡ []
  pub last_is_all : (get_last_d st (record { far = 0; total = 0 })).total ≡ all_len rs
  pub gives : (t : ℕ) → interference_of n rs t ≡ by_stairs n (all_len rs) st t

-- ---- slots in a chain

-- slots by rising start, none empty, none overlapping, from lo to hi
abbrev pub Chain : ℕ → List Slot → ℕ → Type 0
Chain lo [] hi = lo ≤ hi
Chain lo (s ∷ ss) hi = (lo ≤ s.start) × (s.start < s.end) × Chain s.end ss hi

-- the gap behind each slot of a chain, up to where the circle closes
unfoldable pub gaps_up_to : ℕ → List Slot → List ℕ
gaps_up_to close [] = []
gaps_up_to close (s ∷ []) = (close - s.end) ∷ []
gaps_up_to close (s ∷ (t ∷ ss)) = (t.start - s.end) ∷ gaps_up_to close (t ∷ ss)

-- the gaps around the circle: behind the last slot the first follows, a cycle later
unfoldable pub gaps : ℕ → List Slot → List ℕ
gaps cycle [] = []
gaps cycle (s ∷ ss) = gaps_up_to (s.start + cycle) (s ∷ ss)

-- ---- bounds

-- r is the bound of stream i in document 01's words: least numbers, a response for each frame, the largest of them
pub record IsBound (rate : ℕ) (v : ℕ → ℕ) (L : ℕ) (rest : List Stream) (i : Stream) (r : ℕ) : Type 0 where
  pub b : ℕ
  pub ends : b ≤ horizon
  pub busy : Least (busy_load rate v L rest i) b
  pub each : (q : ℕ) → 1 ≤ q → q ≤ most_in i b
      → (w : ℕ) × Least (wait_load rate v L rest i q) w × (w + wire_time rate i.octets - earliest i q ≤ r)
  pub reached : (q w : ℕ) × (1 ≤ q) × (q ≤ most_in i b) × Least (wait_load rate v L rest i q) w
      × (w + wire_time rate i.octets - earliest i q ≡ r)

-- ---- desks

-- what every call keeps of an open desk
pub record Sound (p : Port) (ss : List Slot) (js : List Stream) : Type 0 where
  pub port_in : in_range (port_ranges p) ≡ true
  pub few_slots : length ss ≤ most_slots
  pub chain : Chain 0 ss p.cycle
  pub some_free : has_free (gate_of p js) ss ≡ true
  pub few_streams : length js ≤ most_streams
  pub streams_in : (j : Stream) → Mem j js → in_range (stream_ranges (octet_limit p) j) ≡ true
  pub ids_rise : RisingBy (λ j. j.id) js

abbrev pub SoundDesk : Desk → Type 0
SoundDesk bare = Unit {0}
SoundDesk (opened p ss js) = Sound p ss js
