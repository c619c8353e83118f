-- The response bound: what document 01 says of windows, waits and responses, and that it describes one bound.
-- Assumes nothing.
use mathlib.Core.Path.{◌≡◌, refl, sym, ap, ◌∙◌}
use mathlib.Core.Logic.Iff
use mathlib.Core.Logic.{◌↔◌, ◌⊎◌, inl, inr, by_cases}
use mathlib.Core.List.{List}
use mathlib.Core.Option.{Option, none, some, map, get_or, map-eq-none_iff, map-eq-some_iff}
use Prim.Native.Nat.{ℕ, ◌+◌, ◌-◌, ◌*◌, ◌≤◌, ◌<◌}
use native.Mathlib.Nat.{le_antisymm, mul-le-mul_right}
use native.Mathlib.Decide.{dec_le}
use native.Mathlib.Omega.{arith}
use Rattle.laws.specs.Lists.{Mem}
use Rattle.laws.specs.Numbers.{largest_to, least_up_to, Least, Mono}
use Rattle.laws.proofs.Lists.{total_le}
use Rattle.laws.proofs.Keeping.{keep_mem}
use Rattle.laws.proofs.Leasts.{least_unique, least_some, least_none, least_found, Under, largest_to_ge, largest_to_met}
use Rattle.meaning.specs.declared.Stream.{Stream}
use Rattle.meaning.specs.Ranges.{horizon}
use Rattle.meaning.specs.Wire.{wire_time}
use Rattle.meaning.specs.Arrivals.{most_in, earliest}
use Rattle.meaning.specs.Response.{ahead, load, busy_load, window, wait_load, wait, response, bound_in, bound}
use Rattle.meaning.specs.Promises.{IsBound}
use Rattle.meaning.proofs.Arrivals.{counted, most_grows, most_one}

-- a longer stretch holds no less load
pub load_mono : (rate : ℕ) (js : List Stream) → ((j : Stream) → Mem j js → 0 < j.period) → Mono (load rate js)
unfolding load
load_mono rate js pos x y h =
    total_le _ _ js (λ j m. mul-le-mul_right (wire_time rate j.octets) (most_grows (counted j (pos j m)) x y h))

module _ {rate : ℕ} {v : ℕ → ℕ} {L : ℕ} {rest : List Stream} {i : Stream} where
  bound_under : {r s : ℕ} → IsBound rate v L rest i r → IsBound rate v L rest i s → r ≤ s
  bound_under h k =
      let (q, w, lo, hi, lw, e) = h.reached in
      let same : h.b ≡ k.b = least_unique h.busy k.busy in
      let (u, lu, l) = k.each q lo (omega (arith, ap (most_in i) same)) in
      omega (arith, least_unique lw lu)

  -- no second bound fits
  pub bound_unique : {r s : ℕ} → IsBound rate v L rest i r → IsBound rate v L rest i s → r ≡ s
  bound_unique h k = le_antisymm (bound_under h k) (bound_under k h)

  -- an endless stream has no bound
  pub never_both : {r : ℕ} → IsBound rate v L rest i r → ¬ ((x : ℕ) → x ≤ horizon → ¬ (busy_load rate v L rest i x ≤ x))
  never_both h endless = endless h.b h.ends h.busy.closes

module _ (rate : ℕ) (v : ℕ → ℕ) (L : ℕ) (rest : List Stream) (i : Stream) where
  -- the stream's wire time
  abbrev C : ℕ
  C = wire_time rate i.octets

  -- the load whose least closing number is the busy window; and, for frame q, the one of the frame's wait
  abbrev busy : ℕ → ℕ
  busy = busy_load rate v L rest i

  abbrev waits : ℕ → ℕ → ℕ
  waits = wait_load rate v L rest i

  -- no such x up to the horizon exists
  abbrev Endless : Type 0
  Endless = (x : ℕ) → x ≤ horizon → ¬ (busy x ≤ x)

  -- the one place that opens the window: below here nothing unfolds a search as far as the horizon
  window_is : window rate v L rest i ≡ least_up_to busy horizon
  unfolding window
  window_is = refl

  pub window_some : (b : ℕ) → window rate v L rest i ≡ some b ↔ (Least busy b × (b ≤ horizon))
  window_some b = rw window_is (least_some busy horizon b)

  pub window_none : window rate v L rest i ≡ none ↔ Endless
  window_none = rw window_is (least_none busy horizon)

  -- where the busy window ends by the horizon, the bound is the largest response in it
  pub bound_some : (b : ℕ) → Least busy b → b ≤ horizon → bound rate v L rest i ≡ some (bound_in rate v L rest i b)
  unfolding bound
  bound_some b lb h = rw ((window_some b).1 (lb, h))

  -- "If no such x up to the horizon exists, the stream is endless."
  pub endless_iff : bound rate v L rest i ≡ none ↔ Endless
  unfolding bound
  endless_iff = Iff.trans (map-eq-none_iff _ _) window_none

  module _ (rest-pos : (j : Stream) → Mem j rest → 0 < j.period) where
    other_mono : Mono (load rate (ahead i rest))
    unfolding ahead
    other_mono = load_mono rate _ (λ j m. rest-pos j ((keep_mem _ rest j).0 m).0)

    -- b - C closes the wait of each frame of the window
    pub wait_room : (b q : ℕ) → Least busy b → 1 ≤ q → q ≤ most_in i b → (C ≤ b) × (waits q (b - C) ≤ b - C)
    unfolding busy_load wait_load
    wait_room b q lb lo hi =
        let frames = mul-le-mul_right {m = q - 1 + 1} {n = most_in i b} C (omega arith) in
        let fits : C ≤ b = omega (arith, lb.closes) in
        let back : b - C + C ≡ b = omega arith in
        (fits, omega (arith, lb.closes, other_mono (b - C) b (omega arith), ap v back))

    -- what lies under the wait of such a frame, and C more, ends in the window
    pub wait_under : (b q y : ℕ) → Least busy b → 1 ≤ q → q ≤ most_in i b → Under (waits q) y → y + C ≤ b
    wait_under b q y lb lo hi u =
        let (fits, closed) = wait_room b q lb lo hi in
        omega (arith, u.under (b - C) closed)

    -- "Then w + C <= b"
    pub wait_inside : (b q w : ℕ) → Least busy b → 1 ≤ q → q ≤ most_in i b → Least (waits q) w → w + C ≤ b
    wait_inside b q w lb lo hi lw = wait_under b q w lb lo hi (record { under = lw.first })

    -- each frame of the window has its wait
    wait_found : (b q : ℕ) → Least busy b → 1 ≤ q → q ≤ most_in i b
        → (w : ℕ) × (wait rate v L rest i b q ≡ some w) × Least (waits q) w
    unfolding wait
    wait_found b q lb lo hi =
        let (fits, closed) = wait_room b q lb lo hi in
        least_found (waits q) b (b - C) (omega arith) closed

    -- "The response is w + C less that arrival."
    pub response_some : (b q w : ℕ) → Least busy b → 1 ≤ q → q ≤ most_in i b → Least (waits q) w
        → response rate v L rest i b q ≡ some (w + C - earliest i q)
    unfolding response
    response_some b q w lb lo hi lw =
        let (u, e, lu) = wait_found b q lb lo hi in
        rw (e, least_unique lu lw)

    -- so that a bound fits into 32 bits
    pub bound_at_most : {r : ℕ} → IsBound rate v L rest i r → r ≤ horizon
    bound_at_most h =
        let (q, w, lo, hi, lw, e) = h.reached in
        omega (arith, h.ends, wait_inside h.b q w h.busy lo hi lw)

    module _ (own_pos : 0 < i.period) where
      bound_found : (b : ℕ) → Least busy b → b ≤ horizon → IsBound rate v L rest i (bound_in rate v L rest i b)
      unfolding bound_in
      bound_found b lb h =
          record { b = b; ends = h; busy = lb; each = each; reached = reached }
        where
          answer : ℕ → ℕ
          answer q = get_or (response rate v L rest i b q) 0

          answered : (q : ℕ) → 1 ≤ q → q ≤ most_in i b → (w : ℕ) × Least (waits q) w × (answer q ≡ w + C - earliest i q)
          answered q lo hi =
              let (w, e, lw) = wait_found b q lb lo hi in
              (w, lw, rw (response_some b q w lb lo hi lw))

          each : (q : ℕ) → 1 ≤ q → q ≤ most_in i b
              → (w : ℕ) × Least (waits q) w × (w + C - earliest i q ≤ largest_to (most_in i b) answer)
          each q lo hi =
              let (w, lw, e) = answered q lo hi in
              (w, lw, omega (arith, largest_to_ge (most_in i b) answer q lo hi))

          reached : (q w : ℕ) × (1 ≤ q) × (q ≤ most_in i b) × Least (waits q) w
              × (w + C - earliest i q ≡ largest_to (most_in i b) answer)
          reached =
              let (q, lo, hi, e) = largest_to_met (most_in i b) answer (most_one (counted i own_pos) b) in
              let (w, lw, d) = answered q lo hi in
              (q, w, lo, hi, lw, sym (e ∙ d))

      -- the bound is the one that document 01 describes
      pub bound_iff : (r : ℕ) → bound rate v L rest i ≡ some r ↔ IsBound rate v L rest i r
      unfolding bound
      bound_iff r = (to, from)
        where
          to : map (bound_in rate v L rest i) (window rate v L rest i) ≡ some r → IsBound rate v L rest i r
          to e =
              let (b, found, same) = (map-eq-some_iff (bound_in rate v L rest i) (window rate v L rest i)).0 e in
              let (lb, h) = (window_some b).0 found in
              rw same at (bound_found b lb h)

          from : IsBound rate v L rest i r → bound rate v L rest i ≡ some r
          from k =
              bound_some k.b k.busy k.ends
              ∙ ap {B = Option ℕ} some (bound_unique (bound_found k.b k.busy k.ends) k)

      -- a stream has a bound, or it is endless
      pub bounded_or_endless : ((r : ℕ) × IsBound rate v L rest i r) ⊎ Endless
      bounded_or_endless = go (bound rate v L rest i) refl
        where
          go : (o : Option ℕ) → bound rate v L rest i ≡ o → ((r : ℕ) × IsBound rate v L rest i r) ⊎ Endless
          go none e = inr (endless_iff.0 e)
          go (some r) e = inl (r, (bound_iff r).0 e)

    module _ (v-mono : Mono v) where
      pub wait_mono : (q : ℕ) → Mono (waits q)
      unfolding wait_load
      wait_mono q x y h = omega (arith, other_mono x y h, v-mono (x + C) (y + C) (omega arith))

      -- the next frame waits at least until this one is sent
      pub wait_later : (q w u : ℕ) → 1 ≤ q → Least (waits q) w → Least (waits (q + 1)) u → w + C ≤ u
      unfolding wait_load
      wait_later q w u lo lw lu =
          let next : q - 1 + 1 ≡ q + 1 - 1 = omega arith in
          let more = ap (λ (k : ℕ). k * C) next in
          let fits : C ≤ u = omega (arith, lu.closes) in
          let back : u - C + C ≡ u = omega arith in
          let before = other_mono (u - C) u (omega arith) in
          let after = v-mono u (u + C) (omega arith) in
          let closed : waits q (u - C) ≤ u - C = omega (arith, lu.closes, ap v back) in
          omega (arith, lw.first (u - C) closed)

      module _ (own_pos : 0 < i.period) where
        pub busy_mono : Mono busy
        unfolding busy_load
        busy_mono x y h =
            omega
            (arith, other_mono x y h, v-mono x y h, mul-le-mul_right C (most_grows (counted i own_pos) x y h))

        module _ (C-pos : 0 < C) where
          -- "and w is at least the earliest arrival"
          pub wait_arrived : (b q w : ℕ) → Least busy b → 1 ≤ q → q ≤ most_in i b → Least (waits q) w → earliest i q ≤ w
          unfolding busy_load wait_load
          wait_arrived b q w lb lo hi lw =
              by_cases (dec_le q (most_in i w)) ((counted i own_pos).iff q w lo).0 (λ h. absurd (soon (omega arith)))
            where
              soon : most_in i w ≤ q - 1 → ⊥
              soon n =
                  let after = v-mono w (w + C) (omega arith) in
                  let closed : busy w ≤ w = omega (arith, lw.closes, mul-le-mul_right C n) in
                  omega (arith, lb.first w closed, wait_inside b q w lb lo hi lw)

          -- each frame of the window has its wait, inside the window and not before the frame
          pub frame_waits : (b q : ℕ) → Least busy b → 1 ≤ q → q ≤ most_in i b
              → (w : ℕ) × (wait rate v L rest i b q ≡ some w) × Least (waits q) w × (w + C ≤ b) × (earliest i q ≤ w)
          frame_waits b q lb lo hi =
              let (w, e, lw) = wait_found b q lb lo hi in
              (w, e, lw, wait_inside b q w lb lo hi lw, wait_arrived b q w lb lo hi lw)
