-- The frames of a busy window, one by one: what is known of each, and the largest response so far.
-- Assumes nothing.
use mathlib.Core.Path.{◌≡◌, sym, ap, ap₂, ◌∙◌, subst}
use mathlib.Core.List.{List}
use Prim.Native.Nat.{ℕ, ◌+◌, ◌-◌, ◌*◌, max, ◌≤◌, ◌<◌, zero-le}
use native.Mathlib.Nat.{le_refl, add-zero}
use native.Mathlib.Omega.{arith}
use borrow.Author.Tests.{le-leb}
use Rattle.laws.specs.Numbers.{Least, Mono}
use Rattle.laws.proofs.Leasts.{Under}
use Rattle.meaning.specs.declared.Stream.{Stream}
use Rattle.meaning.specs.Wire.{wire_time}
use Rattle.meaning.specs.Arrivals.{most_in, earliest}
use Rattle.meaning.specs.Response.{wait_load}
use Rattle.meaning.proofs.Arrivals.{counted, most_grows, most_one}
use Rattle.meaning.proofs.Responses.{wait_room, wait_under, wait_inside, wait_arrived}
use Rattle.meaning.proofs.Later.{next_of, early_zero, early_next, early_soon}
use Rattle.meaning.proofs.FewFrames.{worst_of, worst_none, worst_more}
use Rattle.meaning.proofs.Demands.{wait_cold, wait_warm}
use Rattle.arrivals.specs.Rows.{stepped}
use Rattle.search.specs.Asked.{Asked, OwnFits, own_stream, row_demand}
use Rattle.search.specs.Searches.{Closes}
use Rattle.frames.specs.Windows.{BesideIn}
use Rattle.frames.proofs.RowStreams.{most_own, early_own, wait_rows}

-- ---- the numbers that go with a frame

-- the last frame that can come at 0
abbrev pub first : Asked → ℕ
first o = most_in (own_stream o) 0

-- of the frame that is k behind it: what it waits for besides the load, when it can come, and when the next one can
pub record FrameNumbers (o : Asked) (k base come later : ℕ) : Type 0 where
  pub base_is : base ≡ o.lower + (first o + k - 1) * o.wire
  pub come_is : come ≡ earliest (own_stream o) (first o + k)
  pub later_is : later ≡ earliest (own_stream o) (first o + k + 1)
  pub past_zero : 0 < later

module _ (o : Asked) (fits : OwnFits o) where
  stream_pos : 0 < o.period
  stream_pos = omega (arith, fits.period_least)

  first_some : 1 ≤ first o
  first_some = most_one (counted (own_stream o) stream_pos) 0

  pub numbers_start : (base later : ℕ) → base ≡ o.lower + (first o - 1) * o.wire → later ≡ next_of (own_stream o) 0
      → 0 < later → FrameNumbers o 0 base 0 later
  unfolding next_of
  numbers_start base later eb el past =
      let none : first o + 0 ≡ first o = add-zero (first o) in
      let zero = early_zero (own_stream o) stream_pos (first o) first_some (le_refl (first o)) in
      record {
        base_is = eb ∙ ap (λ (q : ℕ). o.lower + (q - 1) * o.wire) (sym none);
        come_is = sym (ap (earliest (own_stream o)) none ∙ zero);
        later_is = el ∙ ap (λ (q : ℕ). earliest (own_stream o) (q + 1)) (sym none);
        past_zero = past;
      }

  module _ (k base come later : ℕ) (f : FrameNumbers o k base come later) where
    numbers_on : FrameNumbers o (k + 1) (base + o.wire) later (stepped later later o.period)
    numbers_on =
        let next : first o + k + 1 ≡ first o + (k + 1) = omega arith in
        let more : first o + k - 1 + 1 ≡ first o + (k + 1) - 1 = omega (arith, first_some) in
        let on : later + o.period ≡ stepped later later o.period = rw (le-leb later later (le_refl later)) in
        let past : 0 < earliest (own_stream o) (first o + k + 1) = omega (arith, f.later_is, f.past_zero) in
        let further = early_next (own_stream o) (first o + k + 1) past in
        record {
          base_is = omega (arith, f.base_is, ap (λ (q : ℕ). q * o.wire) more);
          come_is = f.later_is ∙ ap (earliest (own_stream o)) next;
          later_is = omega (arith, f.later_is, ap (λ (q : ℕ). earliest (own_stream o) (q + 1)) next);
          past_zero = omega (arith, f.past_zero);
        }

    pub numbers_next : (on : ℕ) → on ≡ stepped later later o.period
        → FrameNumbers o (k + 1) (base + o.wire) later on
    numbers_next on e = rw e numbers_on

    -- the next frame can come a period later at most
    pub later_soon : later ≤ come + o.period
    later_soon = omega (arith, f.come_is, f.later_is, early_soon (own_stream o) (first o + k))

-- ---- the frames of a busy window

-- k frames are done: best is the largest response of them, and the search for the wait of the next one is at w
pub record FramesDone (v : ℕ → ℕ) (o : Asked) (per jit cost : List ℕ) (n frames k w best : ℕ) : Type 0 where
  pub best_is : (s : BesideIn v o per jit cost n frames)
      → best ≡ worst_of s.beside.rate v o.lower s.beside.rest s.beside.own s.b
      (most_in s.beside.own 0) k
  pub under : (s : BesideIn v o per jit cost n frames)
      → Under (wait_load s.beside.rate v o.lower s.beside.rest s.beside.own
      (most_in s.beside.own 0 + k)) w

module _ (v : ℕ → ℕ) (v_grows : Mono v) (o : Asked) (fits : OwnFits o) (per jit cost : List ℕ) (n frames : ℕ) where
  abbrev L : ℕ
  L = o.lower

  module _ (s : BesideIn v o per jit cost n frames) where
    abbrev rate : ℕ
    rate = s.beside.rate

    abbrev own : Stream
    own = s.beside.own

    abbrev rest : List Stream
    rest = s.beside.rest

    abbrev C : ℕ
    C = wire_time rate own.octets

    own_pos : 0 < own.period
    own_pos = omega (arith, s.beside.period_is, fits.period_least)

    first_is : first o ≡ most_in own 0
    first_is = most_own o per jit cost n s.beside 0

    -- the wait of the frame that is k behind the first, over the rows
    waits : (k base come later : ℕ) → FrameNumbers o k base come later
        → row_demand v per jit cost n base o.wire ≡ wait_load rate v L rest own (most_in own 0 + k)
    waits k base come later f =
        wait_rows o per jit cost n s.beside v (most_in own 0 + k) base
        (f.base_is ∙ ap (λ (q : ℕ). L + (q + k - 1) * o.wire) first_is)

    same_start : (base : ℕ) → base ≡ L + (first o - 1) * o.wire → base ≡ L + (most_in own 0 - 1) * C
    same_start base e = e ∙ ap₂ (λ (q a : ℕ). L + (q - 1) * a) first_is s.beside.wire_is

    -- the search for the wait of the first frame starts inside the window
    pub cold_start : (base : ℕ) → base ≡ L + (first o - 1) * o.wire → base + o.wire ≤ 100_000_000
    cold_start base e =
        let one = most_one (counted own own_pos) 0 in
        let inside = most_grows (counted own own_pos) 0 s.b zero-le in
        let under =
        wait_under rate v L rest own s.beside.some_period s.b (most_in own 0) (L + (most_in own 0 - 1) * C)
        s.busy one inside (wait_cold rate v L rest own (most_in own 0)) in
        omega (arith, same_start base e, under, s.ends, s.beside.wire_is)

    cold_under : (base : ℕ) → base ≡ L + (first o - 1) * o.wire
        → Under (wait_load rate v L rest own (most_in own 0 + 0)) base
    cold_under base e =
        let none : most_in own 0 ≡ most_in own 0 + 0 = sym (add-zero (most_in own 0)) in
        let same = same_start base e ∙ ap (λ (q : ℕ). L + (q - 1) * C) none in
        subst (λ (x : ℕ). Under (wait_load rate v L rest own (most_in own 0 + 0)) x) (sym same)
        (wait_cold rate v L rest own (most_in own 0 + 0))

    -- a frame of the window
    module _ (k base come later : ℕ) (f : FrameNumbers o k base come later) (h : k < frames) where
      abbrev q : ℕ
      q = most_in own 0 + k

      inside : (1 ≤ q) × (q ≤ most_in own s.b)
      inside = (omega (arith, most_one (counted own own_pos) 0), omega (arith, s.inside))

      come_is : come ≡ earliest own q
      come_is =
          f.come_is ∙ ap (λ (a : ℕ). earliest (own_stream o) (a + k)) first_is ∙ early_own o per jit cost n
          s.beside q

      -- some number up to the horizon closes its wait
      pub frame_closes : Closes (row_demand v per jit cost n base o.wire)
      frame_closes =
          let (room, closed) =
          wait_room rate v L rest own s.beside.some_period s.b q s.busy inside.0 inside.1 in
          rw (waits k base come later f) (s.b - C, closed, omega (arith, s.ends))

      pub frame_under : (w best : ℕ) → FramesDone v o per jit cost n frames k w best
          → Under (row_demand v per jit cost n base o.wire) w
      frame_under w best done = rw (waits k base come later f) (done.under s)

      module _ (w : ℕ) (lw : Least (row_demand v per jit cost n base o.wire) w) where
        waited : Least (wait_load rate v L rest own q) w
        waited = rw (waits k base come later f) at lw

        -- it is sent inside the window, and waits until it has come
        pub frame_sent : (w + o.wire ≤ 100_000_000) × (come ≤ w)
        frame_sent =
            let in_time =
            wait_inside rate v L rest own s.beside.some_period s.b q w s.busy inside.0 inside.1 waited
            in
            let arrived =
            wait_arrived rate v L rest own s.beside.some_period v_grows own_pos
            (omega (arith, s.beside.wire_is, fits.wire_least)) s.b q w s.busy inside.0 inside.1 waited in
            (omega (arith, in_time, s.ends, s.beside.wire_is), omega (arith, arrived, come_is))

        -- the largest response with it, and where the search for the next wait starts
        frame_next : (best : ℕ) → best ≡ worst_of rate v L rest own s.b (most_in own 0) k
            → (max best (w + o.wire - come) ≡ worst_of rate v L rest own s.b (most_in own 0) (k + 1))
            × Under (wait_load rate v L rest own (most_in own 0 + (k + 1))) (w + o.wire)
        frame_next best e =
            let more =
            worst_more rate v L rest own s.beside.some_period s.b (most_in own 0) k w s.busy
            (most_one (counted own own_pos) 0) inside.1 waited in
            let warm = wait_warm rate v L rest own s.beside.some_period v_grows q w inside.0 waited in
            let next : most_in own 0 + (k + 1) ≡ q + 1 = omega arith in (
              ap₂ max e (ap₂ (λ (a d : ℕ). w + a - d) s.beside.wire_is come_is) ∙ sym more,
              subst (λ (x : ℕ). Under (wait_load rate v L rest own (most_in own 0 + (k + 1))) (w + x))
                  (sym s.beside.wire_is) (rw next warm),
            )

  -- none is done
  pub frames_start : (base : ℕ) → base ≡ L + (first o - 1) * o.wire → FramesDone v o per jit cost n frames 0 base 0
  frames_start base e =
      record {
        best_is = λ s.
            sym (worst_none s.beside.rate v L s.beside.rest s.beside.own s.b
            (most_in s.beside.own 0));
        under = λ s. cold_under s base e;
      }

  -- one frame more, which waits w
  pub frames_next : (k base come later w u best w' best' : ℕ) → FrameNumbers o k base come later → k < frames
      → Least (row_demand v per jit cost n base o.wire) w → FramesDone v o per jit cost n frames k u best
      → w' ≡ w + o.wire → best' ≡ max best (w + o.wire - come)
      → FramesDone v o per jit cost n frames (k + 1) w' best'
  frames_next k base come later w u best w' best' f h lw done ew eb =
      record {
        best_is = λ s. eb ∙ (frame_next s k base come later f h w lw best (done.best_is s)).0;
        under = λ s. rw ew (frame_next s k base come later f h w lw best (done.best_is s)).1;
      }
