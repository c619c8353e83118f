-- The streams that rows of numbers stand for: their loads are those of the rows.
-- Assumes nothing.
use mathlib.Core.Path.{◌≡◌, refl, sym, ap, ap₂, ◌∙◌, fun_ext}
use mathlib.Core.List.{List, [], ◌∷◌, map}
use Prim.Native.Nat.{ℕ, zero, suc, ◌+◌, ◌-◌, ◌*◌, ◌<◌}
use native.Mathlib.Nat.{le_of_suc-le-suc, not-suc-le-zero}
use native.Mathlib.Omega.{arith}
use lib.ListN.{length, get_or, take}
use lib.Seq.{get_or-take}
use Rattle.laws.specs.Lists.{total}
use Rattle.laws.specs.Numbers.{sum}
use Rattle.laws.proofs.Sums.{sum_ext, sum_front}
use Rattle.meaning.specs.declared.Stream.{Stream}
use Rattle.meaning.specs.Wire.{wire_time}
use Rattle.meaning.specs.Arrivals.{most_in, earliest}
use Rattle.meaning.specs.Response.{ahead, load, busy_load, wait_load}
use Rattle.meaning.proofs.Later.{later_in, later_load}
use Rattle.meaning.proofs.FewFrames.{calm_load}
use Rattle.arrivals.specs.Rows.{row_stream, stream_at, row_load, RowIn}
use Rattle.search.specs.Asked.{Asked, own_stream, calm_own, row_demand, row_busy}
use Rattle.frames.specs.Windows.{RowsOf, Beside}
use Rattle.arrivals.proofs.Arriving.{arrivals_alike, later_computed}

-- a total is the sum over the places
pub total_places : {A : Type 0} (f : A → ℕ) (d : A) (xs : List A) → total f xs
    ≡ sum (length xs) (λ k. f (get_or xs k d))
unfolding total sum
total_places f d [] = refl
total_places f d (x ∷ xs) = omega (arith, total_places f d xs, sum_front (length xs) (λ k. f (get_or (x ∷ xs) k d)))

-- what is mapped, at a place of the list
pub map_at : {A : Type 0} (f : A → ℕ) (xs : List A) (k : ℕ) (d : A) → k < length xs
    → get_or (map f xs) k 0 ≡ f (get_or xs k d)
map_at f [] k d h = absurd (not-suc-le-zero h)
map_at f (x ∷ xs) zero d h = refl
map_at f (x ∷ xs) (suc k) d h = map_at f xs k d (le_of_suc-le-suc h)

-- a row that begins with f of each, at a place
pub row_at : {A : Type 0} (f : A → ℕ) (n : ℕ) (row : List ℕ) (xs : List A) (d : A) → take n row ≡ map f xs
    → n ≡ length xs → (k : ℕ) → k < n → get_or row k 0 ≡ f (get_or xs k d)
row_at f n row xs d e many k h =
    sym (get_or-take n row k 0 h) ∙ ap (λ (l : List ℕ). get_or l k 0) e ∙ map_at f xs k d (omega arith)

module _ (rate : ℕ) (js : List Stream) (per jit cost : List ℕ) (n : ℕ) (of : RowsOf rate js per jit cost n) where
  -- stream k
  abbrev at : ℕ → Stream
  at k = get_or js k (row_stream 0 0)

  -- a sum over the rows is a total over the streams
  rows_total : (f : Stream → ℕ) (g : ℕ → ℕ)
      → ((k : ℕ) → k < n → g k * get_or cost k 0 ≡ f (at k) * wire_time rate (at k).octets)
      → sum n (λ k. g k * get_or cost k 0) ≡ total (λ j. f j * wire_time rate j.octets) js
  rows_total f g same =
      sum_ext n _ _ same
      ∙ ap (λ (i : ℕ). sum i (λ k. f (at k) * wire_time rate (at k).octets)) of.many
      ∙ sym (total_places (λ j. f j * wire_time rate j.octets) (row_stream 0 0) js)

  cost_at : (k : ℕ) → k < n → get_or cost k 0 ≡ wire_time rate (at k).octets
  cost_at = row_at (λ j. wire_time rate j.octets) n cost js (row_stream 0 0) of.costs of.many

  period_at : (k : ℕ) → k < n → get_or per k 0 ≡ (at k).period
  period_at = row_at (λ j. j.period) n per js (row_stream 0 0) of.periods of.many

  pub rows_load : (x : ℕ) → row_load per jit cost n x ≡ load rate js x
  unfolding row_load load
  rows_load x =
      rows_total (λ j. most_in j x) (λ k. most_in (stream_at per jit k) x)
      (λ k h. ap₂ (λ (a b : ℕ). a * b)
      ((arrivals_alike (stream_at per jit k) (at k) (period_at k h)
      (row_at (λ j. j.jitter) n jit js (row_stream 0 0) of.jitters of.many k h)).0 x) (cost_at k h))

  -- without jitter it is what can come later
  pub rows_later : (calm : List ℕ) → RowIn 0 0 calm n → (x : ℕ) → row_load per calm cost n x ≡ later_load rate js x
  unfolding row_load later_load
  rows_later calm none x =
      rows_total (λ j. later_in j x) (λ k. most_in (stream_at per calm k) x)
      (λ k h. ap₂ (λ (a b : ℕ). a * b)
      ((arrivals_alike (stream_at per calm k) (row_stream (at k).period 0) (period_at k h)
      (omega (arith, none k h))).0 x
      ∙ later_computed (at k) x) (cost_at k h))

-- the stream asked about, beside those of the rows
module _ (o : Asked) (per jit cost : List ℕ) (n : ℕ) (s : Beside o per jit cost n) where
  pub most_own : (x : ℕ) → most_in (own_stream o) x ≡ most_in s.own x
  most_own = (arrivals_alike (own_stream o) s.own s.period_is s.jitter_is).0

  pub early_own : (q : ℕ) → earliest (own_stream o) q ≡ earliest s.own q
  early_own = (arrivals_alike (own_stream o) s.own s.period_is s.jitter_is).1

  pub later_own : (z : ℕ) → most_in (own_stream (calm_own o)) z ≡ later_in s.own z
  later_own z =
      (arrivals_alike (own_stream (calm_own o)) (row_stream s.own.period 0) s.period_is refl).0 z
      ∙ later_computed s.own z

  others : (x : ℕ) → row_load per jit cost n x ≡ load s.rate (ahead s.own s.rest) x
  others = rows_load s.rate (ahead s.own s.rest) per jit cost n s.rows

  module _ (v : ℕ → ℕ) where
    -- its busy window
    pub busy_rows : row_busy v per jit cost n o ≡ busy_load s.rate v o.lower s.rest s.own
    unfolding row_busy busy_load
    busy_rows =
        fun_ext
        (λ x. ap₂ (λ (a b : ℕ). o.lower + (a + b) + v x)
        (ap₂ (λ (a b : ℕ). a * b) (most_own x) s.wire_is) (others x))

    -- the wait of its frame q
    pub wait_rows : (q base : ℕ) → base ≡ o.lower + (q - 1) * o.wire
        → row_demand v per jit cost n base o.wire ≡ wait_load s.rate v o.lower s.rest s.own q
    unfolding row_demand wait_load
    wait_rows q base e =
        let sent = ap (λ (a : ℕ). o.lower + (q - 1) * a) s.wire_is in
        fun_ext (λ x. omega (arith, others x, ap (λ (a : ℕ). v (x + a)) s.wire_is))

    -- its calm window
    pub calm_rows : (calm : List ℕ) → RowIn 0 0 calm n → (z : ℕ)
        → row_busy v per calm cost n (calm_own o) z ≡ calm_load s.rate v s.rest s.own z
    unfolding row_busy calm_load
    calm_rows calm none z =
        omega (
          arith,
          ap₂ (λ (a b : ℕ). a * b) (later_own z) s.wire_is,
          rows_later s.rate (ahead s.own s.rest) per jit
              cost n s.rows calm none z,
        )
