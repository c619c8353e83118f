-- The numbers of the stream asked about, and what a wait and a busy window ask for over rows of streams.
use Rattle.std.specs.Prelude.{List, ℕ, ◌+◌, ◌*◌, ◌≤◌}
use Rattle.meaning.specs.Arrivals.{most_in}
use Rattle.meaning.specs.declared.Stream.{Stream}
use Rattle.arrivals.specs.Rows.{row_stream, row_load}

-- ---- the stream asked about

-- the numbers of the code's struct Own, without its invariant
pub record Asked : Type 0 where
  pub lower : ℕ
  pub wire : ℕ
  pub period : ℕ
  pub jitter : ℕ

abbrev pub asked : (lower wire period jitter : ℕ) → Asked
asked lower wire period jitter = record { lower = lower; wire = wire; period = period; jitter = jitter }

-- numbers in range, of the stream asked about
pub record OwnFits (own : Asked) : Type 0 where
  pub lower_most : own.lower ≤ 2_000_000
  pub wire_least : 1 ≤ own.wire
  pub wire_most : own.wire ≤ 2_000_000
  pub period_least : 10_000 ≤ own.period
  pub period_most : own.period ≤ 100_000_000
  pub jitter_most : own.jitter ≤ 100_000_000

-- it as a stream, and without jitter and lower priorities
abbrev pub own_stream : Asked → Stream
own_stream own = row_stream own.period own.jitter

abbrev pub calm_own : Asked → Asked
calm_own own = asked 0 own.wire own.period 0

-- ---- what is asked for

-- base, the load of the rows in x, and the interference of x and off
unfoldable pub row_demand : (v : ℕ → ℕ) (per jit cost : List ℕ) (n base off : ℕ) → ℕ → ℕ
row_demand v per jit cost n base off x = base + row_load per jit cost n x + v (x + off)

-- L, the frames of own in x, the load of the rows, and the interference of x
unfoldable pub row_busy : (v : ℕ → ℕ) (per jit cost : List ℕ) (n : ℕ) (own : Asked) → ℕ → ℕ
row_busy v per jit cost n own x =
    own.lower + (most_in (own_stream own) x * own.wire + row_load per jit cost n x) + v x
