-- Least numbers that close over rows of streams, as the code has them: lent stairs, rows, and the stream asked about.
use Rattle.std.specs.Prelude.{ℕ, ◌≤◌, length, Option, MatchOption}
use Rattle.laws.specs.Numbers.{Least, Mono}
use Rattle.laws.proofs.Leasts.{Under}
use Rattle.meaning.specs.declared.Stream.{Stream}
use Rattle.table.specs.Lookup.{all_in, stairs_v}
use Rattle.table.specs.declared.Stairs.{Stairs}
use Rattle.arrivals.specs.declared.rows.Rows.{Rows}
use Rattle.search.specs.Asked.{Asked, asked, own_stream, row_demand, row_busy}
use Rattle.search.specs.declared.own.Own.{Own}

-- ---- interference

-- V(t), as it is read from stairs, and all blocked cells
abbrev pub table_of : Stairs → ℕ → ℕ
table_of s = stairs_v s.cycle s.far.now s.tot.now

abbrev pub all_of : Stairs → ℕ
all_of s = all_in s.tot.now (length s.tot.now)

-- stairs whose V grows, from a number that is no longer than the horizon
pub record TableBounds (s : Stairs) : Type 0 where
  pub all_most : all_of s ≤ 100_000_000
  pub first_most : table_of s 0 ≤ 100_000_000
  pub grows : Mono (table_of s)

-- ---- what the code's structs stand for

-- the numbers of the stream asked about, and it as a stream
abbrev pub asked_of : Own → Asked
asked_of o = asked o.lower o.wire o.period o.jitter

abbrev pub asked_stream : Own → Stream
asked_stream o = own_stream (asked_of o)

-- what a wait asks for, and what a busy window of own does
abbrev pub demand : Stairs → Rows → (base off : ℕ) → ℕ → ℕ
demand s r base off = row_demand (table_of s) r.per r.jit r.cost r.n base off

abbrev pub busy : Stairs → Rows → Own → ℕ → ℕ
busy s r o = row_busy (table_of s) r.per r.jit r.cost r.n (asked_of o)

-- ---- answers of a search

-- no number up to the horizon closes
abbrev pub NoneCloses : (ℕ → ℕ) → Type 0
NoneCloses f = (x : ℕ) → x ≤ 100_000_000 → ¬ (f x ≤ x)

-- the least number that closes, no longer than the horizon; none where no number up to the horizon closes
abbrev pub Settled : (f : ℕ → ℕ) → Option ℕ → Type 0
Settled f r = MatchOption r (NoneCloses f) (λ w. Least f w × (w ≤ 100_000_000))

-- a number up to the horizon that none which closes is below; none where no number up to the horizon closes
abbrev pub Hastened : (f : ℕ → ℕ) → Option ℕ → Type 0
Hastened f r = MatchOption r (NoneCloses f) (λ w. Under f w × (w ≤ 100_000_000))

-- some number up to the horizon closes
abbrev pub Closes : (ℕ → ℕ) → Type 0
Closes f = (x : ℕ) × (f x ≤ x) × (x ≤ 100_000_000)
