-- What is asked about a stream, and what is answered.
use Rattle.std.specs.Prelude.{◌≡◌, ◌⊎◌, List, ℕ, ◌+◌, ◌≤◌, length, Option, Some, None}
use Rattle.std.proofs.Math.Option as math
use Rattle.laws.specs.Lists.{Mem}
use Rattle.laws.specs.Numbers.{Mono}
use Rattle.meaning.specs.declared.Stream.{Stream}
use Rattle.meaning.specs.Arrivals.{most_in}
use Rattle.meaning.specs.Response.{bound}
use Rattle.search.specs.Asked.{Asked, own_stream, calm_own, row_busy}
use Rattle.frames.specs.Windows.{Beside}

-- ---- the answer

-- the bound of a stream; none is an endless stream
unfoldable pub response_of : math.Option ℕ → Option ℕ
response_of math.none = None
response_of (math.some r) = Some r

-- ---- what a question asks of its numbers

-- a stream whose numbers are in range, whatever the octet limit
pub record StreamFits (j : Stream) : Type 0 where
  pub octets_most : j.octets ≤ 2_000
  pub period_least : 10_000 ≤ j.period
  pub period_most : j.period ≤ 100_000_000
  pub jitter_most : j.jitter ≤ 100_000_000

-- of v, as it is read from stairs, and of all blocked cells: v grows and spreads; streams in range, a rate code
pub record Asks (rate : ℕ) (v : ℕ → ℕ) (all : ℕ) (streams : List Stream) (own : Stream) : Type 0 where
  pub all_most : all ≤ 100_000_000
  pub v_grows : Mono v
  pub v_spreads : (x y : ℕ) → v (x + y) ≤ v x + v y
  pub few : length streams ≤ 64
  pub rate_least : 1 ≤ rate
  pub rate_most : rate ≤ 5
  pub streams_fit : (j : Stream) → Mem j streams → StreamFits j
  pub own_fits : StreamFits own

-- ---- what is computed from rows of numbers

-- how many frames are enough of those that a busy window has: all, or, where z closes the calm window, one and as
-- many as can come later in z
abbrev pub EnoughOf : (v : ℕ → ℕ) (per calm cost : List ℕ) (n : ℕ) (o : Asked) (all r : ℕ) → Type 0
EnoughOf v per calm cost n o all r =
    (r ≡ all)
    ⊎ ((z : ℕ) × (row_busy v per calm cost n (calm_own o) z ≤ z) × (most_in (own_stream (calm_own o)) z + 1 ≤ r))

-- r is the response bound, whichever streams the numbers stand for
abbrev pub BoundFor : (v : ℕ → ℕ) (o : Asked) (per jit cost : List ℕ) (n : ℕ) → Option ℕ → Type 0
BoundFor v o per jit cost n r =
    (s : Beside o per jit cost n) → r ≡ response_of (bound s.rate v o.lower s.rest s.own)

-- numbers from which that can be computed
pub record RowsAsk (v : ℕ → ℕ) (all : ℕ) (o : Asked) (per jit cost : List ℕ) (n : ℕ) : Type 0 where
  pub all_most : all ≤ 100_000_000
  pub v_grows : Mono v
  pub v_spreads : (x y : ℕ) → v (x + y) ≤ v x + v y
  pub beside : Beside o per jit cost n
