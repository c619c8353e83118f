-- Busy window, waits and calm window as one demand, and the numbers from which a search for the least may start.
-- Assumes nothing.
use mathlib.Core.Path.{◌≡◌, refl, ap, fun_ext}
use mathlib.Core.List.{List, ◌∷◌, map}
use mathlib.Core.Option.{none, some}
use Prim.Native.Nat.{ℕ, ◌+◌, ◌-◌, ◌*◌, ◌≤◌, ◌<◌}
use native.Mathlib.Nat.{le_refl, le_trans, add-zero}
use native.Mathlib.Omega.{arith}
use Rattle.laws.specs.Lists.{total, Mem}
use Rattle.laws.specs.Numbers.{Least, Mono}
use Rattle.laws.proofs.Leasts.{least_found, Under, under_step, under_least, under_over}
use Rattle.meaning.specs.declared.Stream.{Stream}
use Rattle.meaning.specs.Ranges.{horizon}
use Rattle.meaning.specs.Wire.{wire_time}
use Rattle.meaning.specs.Response.{ahead, load, busy_load, window, wait_load, bound}
use Rattle.meaning.proofs.Responses.{load_mono, window_some, window_none, endless_iff, busy_mono, wait_later}
use Rattle.meaning.proofs.Later.{steady, later_steady, load_steady}
use Rattle.meaning.proofs.FewFrames.{calm_load}

module _ (rate : ℕ) (v : ℕ → ℕ) where
  -- base, the load of js in x, and the interference of x and off
  unfoldable pub demand : List Stream → ℕ → ℕ → ℕ → ℕ
  demand js base off x = base + load rate js x + v (x + off)

  pub demand_mono : (js : List Stream) → ((j : Stream) → Mem j js → 0 < j.period) → Mono v
      → (base off : ℕ) → Mono (demand js base off)
  unfolding demand
  demand_mono js pos v-mono base off x y h =
      omega (arith, load_mono rate js pos x y h, v-mono (x + off) (y + off) (omega arith))

  -- no less than base closes
  pub demand_base : (js : List Stream) (base off : ℕ) → Under (demand js base off) base
  unfolding demand
  demand_base js base off = record { under = λ x c. omega arith }

  -- the calm window is that of the steady streams
  pub calm_demand : (rest : List Stream) (i : Stream)
      → calm_load rate v rest i ≡ demand (map steady (i ∷ ahead i rest)) 0 0
  unfolding calm_load demand load total steady
  calm_demand rest i = fun_ext same
    where
      same : (z : ℕ) → calm_load rate v rest i z ≡ demand (map steady (i ∷ ahead i rest)) 0 0 z
      same z =
          let own = ap (λ (k : ℕ). k * wire_time rate i.octets) (later_steady i z) in
          omega (arith, load_steady rate (ahead i rest) z, ap v (add-zero z))

module _ (rate : ℕ) (v : ℕ → ℕ) (L : ℕ) (rest : List Stream) (i : Stream) where
  abbrev C : ℕ
  C = wire_time rate i.octets

  abbrev busy : ℕ → ℕ
  busy = busy_load rate v L rest i

  abbrev waits : ℕ → ℕ → ℕ
  waits = wait_load rate v L rest i

  pub busy_demand : busy ≡ demand rate v (i ∷ ahead i rest) L 0
  unfolding busy_load demand load total
  busy_demand = fun_ext (λ x. rw (add-zero x))

  pub wait_demand : (q : ℕ) → waits q ≡ demand rate v (ahead i rest) (L + (q - 1) * C) C
  unfolding wait_load demand
  wait_demand q = refl

  -- ---- the busy window from below: from 0, or from any number under it

  -- a search that has come to y finds the window where y closes, and finds that there is none past the horizon
  pub window_found : (y : ℕ) → Under busy y → busy y ≤ y → y ≤ horizon → window rate v L rest i ≡ some y
  window_found y u c h = (window_some rate v L rest i y).1 (under_least u c, h)

  pub window_over : (y : ℕ) → Under busy y → horizon < y → window rate v L rest i ≡ none
  window_over y u h = (window_none rate v L rest i).1 (under_over u h)

  pub endless_over : (y : ℕ) → Under busy y → horizon < y → bound rate v L rest i ≡ none
  endless_over y u h = (endless_iff rate v L rest i).1 (under_over u h)

  -- ---- the wait of a frame from below

  -- cold: what the frames before it take
  pub wait_cold : (q : ℕ) → Under (waits q) (L + (q - 1) * C)
  unfolding wait_load
  wait_cold q = record { under = λ x c. omega arith }

  module _ (rest-pos : (j : Stream) → Mem j rest → 0 < j.period) (v-mono : Mono v) where
    -- where y does not close, the search goes on from the load of y
    pub busy_step : 0 < i.period → (y : ℕ) → Under busy y → Under busy (busy y)
    busy_step own_pos y u = under_step (busy_mono rate v L rest i rest-pos v-mono own_pos) u

    -- warm: the wait of the frame before it, and C
    pub wait_warm : (q w : ℕ) → 1 ≤ q → Least (waits q) w → Under (waits (q + 1)) (w + C)
    wait_warm q w lo lw = record { under = under }
      where
        under : (x : ℕ) → waits (q + 1) x ≤ x → w + C ≤ x
        under x c =
            let (u, e, lu) = least_found (waits (q + 1)) x x (le_refl x) c in
            le_trans (wait_later rate v L rest i rest-pos v-mono q w u lo lw lu) (lu.first x c)
