-- A stream and others beside it, as rows of numbers: its busy window, and the largest response in that.
use Rattle.std.specs.Prelude.{◌≡◌, List, map, ℕ, ◌+◌, ◌≤◌, ◌<◌, length, take}
use Rattle.laws.specs.Lists.{Mem}
use Rattle.laws.specs.Numbers.{Least}
use Rattle.meaning.specs.declared.Stream.{Stream}
use Rattle.meaning.specs.Wire.{wire_time}
use Rattle.meaning.specs.Arrivals.{most_in}
use Rattle.meaning.specs.Response.{ahead, busy_load}
use Rattle.meaning.proofs.FewFrames.{worst_of}
use Rattle.search.specs.Asked.{Asked}

-- ---- the streams that rows of numbers stand for

-- the first n numbers of the rows are the periods, the jitters and the wire times of these streams
pub record RowsOf (rate : ℕ) (js : List Stream) (per jit cost : List ℕ) (n : ℕ) : Type 0 where
  pub many : n ≡ length js
  pub periods : take n per ≡ map (λ j. j.period) js
  pub jitters : take n jit ≡ map (λ j. j.jitter) js
  pub costs : take n cost ≡ map (λ j. wire_time rate j.octets) js

-- the stream asked about, and others beside it: the rows stand for those of equal or higher priority
pub record Beside (o : Asked) (per jit cost : List ℕ) (n : ℕ) : Type 0 where
  pub rate : ℕ
  pub own : Stream
  pub rest : List Stream
  pub wire_is : o.wire ≡ wire_time rate own.octets
  pub period_is : o.period ≡ own.period
  pub jitter_is : o.jitter ≡ own.jitter
  pub rows : RowsOf rate (ahead own rest) per jit cost n
  pub some_period : (j : Stream) → Mem j rest → 0 < j.period

-- and its busy window, with that many frames from the last that can come at 0 on
pub record BesideIn (v : ℕ → ℕ) (o : Asked) (per jit cost : List ℕ) (n frames : ℕ) : Type 0 where
  pub beside : Beside o per jit cost n
  pub b : ℕ
  pub busy : Least (busy_load beside.rate v o.lower beside.rest beside.own) b
  pub ends : b ≤ 100_000_000
  pub inside : most_in beside.own 0 + frames ≤ most_in beside.own b + 1

-- ---- what is computed from them

-- r is the largest response of that many frames, whichever streams the numbers stand for
abbrev pub WorstFor : (v : ℕ → ℕ) (o : Asked) (per jit cost : List ℕ) (n frames r : ℕ) → Type 0
WorstFor v o per jit cost n frames r =
    (s : BesideIn v o per jit cost n frames)
    → r ≡ worst_of s.beside.rate v o.lower s.beside.rest s.beside.own s.b (most_in s.beside.own 0)
    frames
