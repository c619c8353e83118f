-- Rows of numbers that stand for streams: their load, and how far their frames are counted.
use Rattle.std.specs.Prelude.{◌≡◌, cond, List, ℕ, ◌+◌, ◌*◌, ◌≤◌, ◌<◌, get_or, leb}
use Rattle.laws.specs.Numbers.{sum}
use Rattle.meaning.specs.declared.Stream.{Stream}
use Rattle.meaning.specs.Arrivals.{most_in}
use Rattle.meaning.proofs.Later.{CountedTo}
use Rattle.arrivals.specs.declared.counts.Counts.{Counts}

-- ---- streams

-- a stream of which only the period and the jitter are looked at
abbrev pub row_stream : ℕ → ℕ → Stream
row_stream period jitter =
    record { id = 0; priority = 0; octets = 0; period = period; jitter = jitter; deadline = 0 }

-- stream k of a row of periods and a row of jitters
abbrev pub stream_at : List ℕ → List ℕ → ℕ → Stream
stream_at per jit k = row_stream (get_or per k 0) (get_or jit k 0)

-- "sum of N_j(x) x C_j" over the first n streams of the rows
unfoldable pub row_load : (per jit cost : List ℕ) (n : ℕ) → ℕ → ℕ
row_load per jit cost n x = sum n (λ k. most_in (stream_at per jit k) x * get_or cost k 0)

-- the first n numbers of a row are in the range lo to hi
abbrev pub RowIn : (lo hi : ℕ) → List ℕ → ℕ → Type 0
RowIn lo hi row n = (k : ℕ) → k < n → (lo ≤ get_or row k 0) × (get_or row k 0 ≤ hi)

-- products with these numbers, by 2^45, are never more than the divisions by the periods
abbrev pub Inverses : (inv per : List ℕ) (n : ℕ) → Type 0
Inverses inv per n = (k : ℕ) → k < n → get_or inv k 0 * get_or per k 0 ≤ 35_184_372_088_832

-- rows whose first n streams have their numbers in range
pub record RowsFit (per jit cost : List ℕ) (n : ℕ) : Type 0 where
  pub few : n ≤ 64
  pub periods : RowIn 10_000 100_000_000 per n
  pub jitters : RowIn 0 100_000_000 jit n
  pub costs : RowIn 0 2_000_000 cost n

-- ---- frames counted one by one

-- no next instant of the first n streams is before z
abbrev pub Low : List ℕ → ℕ → ℕ → Type 0
Low next n z = (k : ℕ) → k < n → z ≤ get_or next k 0

-- of each of the first n streams so many frames are counted, all of which can have come by x: when the next one comes
-- stands in the row, the load is the wire time of those counted, and no next instant is before the least
pub record RowsCounted (per jit cost : List ℕ) (n : ℕ) (seen : Counts) (x : ℕ) : Type 0 where
  pub taken : ℕ → ℕ
  pub each : (k : ℕ) → k < n → CountedTo (stream_at per jit k) x (taken k) (get_or seen.next k 0)
  pub tally : seen.load ≡ sum n (λ k. taken k * get_or cost k 0)
  pub low : Low seen.next n seen.least

-- a next instant that has come by x moves on by a period
abbrev pub stepped : ℕ → ℕ → ℕ → ℕ
stepped x a period = cond (leb a x) (a + period) a

-- and adds a wire time
abbrev pub gained : ℕ → ℕ → ℕ → ℕ
gained x a cost = cond (leb a x) cost 0
