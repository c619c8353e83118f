-- A question about a stream, once the streams beside it are unpacked.
-- Assumes nothing.
use mathlib.Core.Path.{◌≡◌, refl, sym, ap, ◌∙◌, subst}
use mathlib.Core.List.{List, map}
use Prim.Native.Nat.{ℕ, ◌≤◌, zero-le}
use native.Mathlib.Omega.{arith}
use lib.ListN.{length, take, length-map}
use lib.Dec.{leb, ltb}
use Rattle.std.specs.Prelude.{Option}
use Rattle.laws.specs.Lists.{Mem, without, filled}
use Rattle.laws.proofs.Lists.{largest_le}
use Rattle.laws.proofs.Keeping.{keep_mem, keep_shorter}
use Rattle.laws.proofs.Rows.{filled_take}
use Rattle.laws.proofs.Without.{mem_get, mem_without, without_shorter}
use Rattle.meaning.specs.declared.Stream.{Stream}
use Rattle.meaning.specs.Wire.{wire_time}
use Rattle.meaning.specs.Response.{ahead, lower_wire, bound}
use Rattle.meaning.proofs.Wires.{wire_pos}
use Rattle.ahead.specs.declared.Ahead.{Ahead}
use Rattle.ahead.specs.Unpacked.{ahead_of}
use Rattle.ahead.proofs.Rated.{wire_fits}
use Rattle.arrivals.specs.Rows.{row_stream, RowIn, RowsFit}
use Rattle.search.specs.Asked.{Asked, asked, OwnFits}
use Rattle.frames.specs.Windows.{RowsOf, Beside}
use Rattle.frames.proofs.RowStreams.{row_at}
use Rattle.bound.specs.Answers.{response_of, StreamFits, Asks, BoundFor, RowsAsk}

-- rows of the numbers of a list of streams
module _ (js : List Stream) where
  row_of : (f : Stream → ℕ) → take (length js) (filled 64 0 (map f js)) ≡ map f js
  row_of f =
      ap (λ (k : ℕ). take k (filled 64 0 (map f js))) (sym (length-map js f)) ∙ filled_take 64 0 (map f js)

  row_in : (f : Stream → ℕ) (lo hi : ℕ) → ((j : Stream) → Mem j js → (lo ≤ f j) × (f j ≤ hi))
      → RowIn lo hi (filled 64 0 (map f js)) (length js)
  row_in f lo hi each k h =
      let e = row_at f (length js) (filled 64 0 (map f js)) js (row_stream 0 0) (row_of f) refl k h in
      let fits = each _ (mem_get js k (row_stream 0 0) h) in
      (omega arith, omega arith)

module _ (rate : ℕ) (v : ℕ → ℕ) (all : ℕ) (streams : List Stream) (own : Stream) (leave : ℕ)
    (ask : Asks rate v all streams own) where
  abbrev rest : List Stream
  rest = without leave streams

  rest_fits : (j : Stream) → Mem j rest → StreamFits j
  rest_fits j h = ask.streams_fit j (mem_without leave streams j h)

  ahead_fits : (j : Stream) → Mem j (ahead own rest) → StreamFits j
  unfolding ahead
  ahead_fits j h = rest_fits j ((keep_mem _ rest j).0 h).0

  few_ahead : length (ahead own rest) ≤ 64
  unfolding ahead
  few_ahead =
      omega (
        arith,
        ask.few,
        keep_shorter (λ j. leb own.priority j.priority) rest,
        without_shorter leave streams,
      )

  lower_few : lower_wire rate own rest ≤ 2_000_000
  unfolding lower_wire
  lower_few =
      largest_le _ _ 2_000_000
      (λ j h. wire_fits rate j.octets (rest_fits j
      ((keep_mem (λ i. ltb i.priority own.priority) rest j).0 h).0).octets_most)

  module _ (a : Ahead) (q : a ≡ ahead_of rate own rest) where
    lower_is : a.lower ≡ lower_wire rate own rest
    unfolding ahead_of
    lower_is = ap (λ (x : Ahead). x.lower) q

    rows_of : RowsOf rate (ahead own rest) a.per a.jit a.cost a.n
    unfolding ahead_of
    rows_of =
        subst (λ (x : Ahead). RowsOf rate (ahead own rest) x.per x.jit x.cost x.n) (sym q)
        (record {
          many = refl;
          periods = row_of (ahead own rest) (λ j. j.period);
          jitters = row_of (ahead own rest) (λ j. j.jitter);
          costs = row_of (ahead own rest) (λ j. wire_time rate j.octets);
        })

    pub rows_fit : RowsFit a.per a.jit a.cost a.n
    unfolding ahead_of
    rows_fit =
        subst (λ (x : Ahead). RowsFit x.per x.jit x.cost x.n) (sym q)
        (record {
          few = few_ahead;
          periods =
              row_in (ahead own rest) (λ j. j.period) 10_000 100_000_000
              (λ j h. ((ahead_fits j h).period_least, (ahead_fits j h).period_most));
          jitters =
              row_in (ahead own rest) (λ j. j.jitter) 0 100_000_000 (λ j h. (zero-le, (ahead_fits j h).jitter_most));
          costs =
              row_in (ahead own rest) (λ j. wire_time rate j.octets) 0 2_000_000
              (λ j h. (zero-le, wire_fits rate j.octets (ahead_fits j h).octets_most));
        })

    module _ (c : ℕ) (e : c ≡ wire_time rate own.octets) where
      -- the numbers of the stream asked about, in range
      abbrev o : Asked
      o = asked a.lower c own.period own.jitter

      pub own_fits : OwnFits o
      own_fits =
          record {
            lower_most = omega (arith, lower_is, lower_few);
            wire_least = omega (arith, wire_pos rate own.octets ask.rate_least ask.rate_most);
            wire_most = omega (arith, wire_fits rate own.octets ask.own_fits.octets_most);
            period_least = ask.own_fits.period_least;
            period_most = ask.own_fits.period_most;
            jitter_most = ask.own_fits.jitter_most;
          }

      beside : Beside o a.per a.jit a.cost a.n
      beside =
          record {
            rate = rate;
            own = own;
            rest = rest;
            wire_is = e;
            period_is = refl;
            jitter_is = refl;
            rows = rows_of;
            some_period = λ j h. omega (arith, (rest_fits j h).period_least);
          }

      -- what is asked of the rows is met
      pub rows_asked : RowsAsk v all o a.per a.jit a.cost a.n
      rows_asked =
          record { all_most = ask.all_most; v_grows = ask.v_grows; v_spreads = ask.v_spreads; beside = beside }

      -- and what is answered of them is the answer
      pub rows_answered : (r : Option ℕ) → BoundFor v o a.per a.jit a.cost a.n r
          → r ≡ response_of (bound rate v (lower_wire rate own rest) rest own)
      unfolding beside
      rows_answered r for =
          for beside ∙ ap (λ (l : ℕ). response_of (bound rate v l rest own)) lower_is
