-- From a busy window and the largest response of the frames that are enough to the response bound.
-- Assumes nothing.
use mathlib.Core.Path.{◌≡◌, sym, ap, ◌∙◌}
use mathlib.Core.Logic.{inl, inr}
use mathlib.Core.List.{List}
use Prim.Native.Nat.{ℕ, ◌+◌, ◌-◌, ◌≤◌, ◌<◌, zero-le}
use native.Mathlib.Omega.{arith}
use lib.ListN.{replicate, get_or-replicate}
use Rattle.laws.specs.Numbers.{Least, Mono}
use Rattle.meaning.specs.Ranges.{horizon}
use Rattle.meaning.specs.Arrivals.{most_in}
use Rattle.meaning.specs.Response.{busy_load}
use Rattle.meaning.proofs.Arrivals.{counted, most_grows}
use Rattle.meaning.proofs.Responses.{endless_iff, bound_some}
use Rattle.meaning.proofs.FewFrames.{Enough, few_frames}
use Rattle.std.specs.Prelude.{Some, None}
use Rattle.arrivals.specs.Rows.{RowIn, RowsFit}
use Rattle.search.specs.Asked.{Asked, OwnFits, own_stream, row_busy}
use Rattle.search.specs.Searches.{NoneCloses}
use Rattle.frames.specs.Windows.{Beside, BesideIn, WorstFor}
use Rattle.bound.specs.Answers.{response_of, EnoughOf, BoundFor}
use Rattle.frames.proofs.RowStreams.{most_own, later_own, busy_rows, calm_rows}

-- ---- a row without jitter

pub zeros_in : (n : ℕ) → n ≤ 64 → RowIn 0 0 (replicate 64 0) n
zeros_in n h k l = (zero-le, omega (arith, get_or-replicate {A = ℕ} 64 k 0 0 (omega arith)))

pub calm_fits : (per jit cost calm : List ℕ) (n : ℕ) → RowsFit per jit cost n → RowIn 0 0 calm n
    → RowsFit per calm cost n
calm_fits per jit cost calm n fit none =
    record {
      few = fit.few;
      periods = fit.periods;
      jitters = λ k h. (zero-le, omega (arith, (none k h).1));
      costs = fit.costs;
    }

-- ---- the answer

module _ (v : ℕ → ℕ) (o : Asked) (per jit cost : List ℕ) (n : ℕ) where
  -- V(0) is over the horizon
  pub endless_first : Mono v → 100_000_000 < v 0 → BoundFor v o per jit cost n None
  unfolding response_of horizon busy_load
  endless_first v_grows h s =
      ap response_of
      (sym ((endless_iff s.rate v o.lower s.rest s.own).1
      (λ x soon closed. omega (arith, v_grows 0 x zero-le))))

  -- no busy window up to the horizon
  pub endless_window : NoneCloses (row_busy v per jit cost n o) → BoundFor v o per jit cost n None
  unfolding response_of horizon
  endless_window none s =
      ap response_of
      (sym ((endless_iff s.rate v o.lower s.rest s.own).1
      (λ x soon. rw (busy_rows o per jit cost n s v) at (none x soon))))

  module _ (b : ℕ) (busy : Least (row_busy v per jit cost n o) b) (soon : b ≤ 100_000_000) (fits : OwnFits o)
      (all few : ℕ) (all_is : all ≡ most_in (own_stream o) b + 1 - most_in (own_stream o) 0)
      (some-few : few ≤ all) where
    module _ (s : Beside o per jit cost n) where
      own_pos : 0 < s.own.period
      own_pos = omega (arith, s.period_is, fits.period_least)

      window_least : Least (busy_load s.rate v o.lower s.rest s.own) b
      window_least = rw (busy_rows o per jit cost n s v) at busy

      -- all frames from the last that can come at 0 on
      all_frames : most_in s.own 0 + all ≡ most_in s.own b + 1
      all_frames =
          omega (
            arith,
            all_is,
            most_own o per jit cost n s 0,
            most_own o per jit cost n s b,
            most_grows (counted s.own own_pos) 0 b zero-le,
          )

      pub beside_in : BesideIn v o per jit cost n few
      beside_in =
          record { beside = s; b = b; busy = window_least; ends = soon; inside = omega (arith, all_frames) }

      enough : (calm : List ℕ) → RowIn 0 0 calm n → EnoughOf v per calm cost n o all few
          → Enough s.rate v o.lower s.rest s.own b few
      enough calm none (inl e) = inl (omega (arith, all_frames))
      enough calm none (inr (z, closes, more)) =
          inr (
            z,
            rw (calm_rows o per jit cost n s v calm none z) at closes,
            rw (later_own o per jit cost n s z) at more,
          )

    -- the largest response of the frames that are enough is the bound
    pub bound_within : ((x y : ℕ) → v (x + y) ≤ v x + v y) → (calm : List ℕ) → RowIn 0 0 calm n
        → EnoughOf v per calm cost n o all few → (r : ℕ) → WorstFor v o per jit cost n few r
        → BoundFor v o per jit cost n (Some r)
    unfolding response_of horizon beside_in
    bound_within spreads calm none fewer r worst s =
        let inside = beside_in s in
        let same =
        worst inside
        ∙ few_frames s.rate v o.lower s.rest s.own s.some_period (own_pos s) spreads b few
        (window_least s) inside.inside (enough s calm none fewer) in
        ap Some same
        ∙ ap response_of (sym (bound_some s.rate v o.lower s.rest s.own b (window_least s) soon))
