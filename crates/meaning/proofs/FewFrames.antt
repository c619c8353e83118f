-- Which frames of a busy window can have the largest response: the last that can come at 0, and some after it.
-- Assumes nothing.
use mathlib.Core.Path.{◌≡◌, refl, ap, ◌∙◌}
use mathlib.Core.Logic.{◌⊎◌, ⊎_elim, by_cases}
use mathlib.Core.List.{List}
use mathlib.Core.Option.{get_or}
use Prim.Native.Nat.{ℕ, zero, suc, ◌+◌, ◌-◌, ◌*◌, max, ◌≤◌, ◌<◌, zero-le}
use native.Mathlib.Nat.{le_refl, le_trans, le_antisymm, add-mul, mul-le-mul_right}
use native.Mathlib.Numerals.{add-one}
use native.Mathlib.Decide.{dec_le, dec_lt}
use native.Mathlib.Omega.{arith}
use Rattle.laws.specs.Lists.{Mem}
use Rattle.laws.specs.Numbers.{largest_to, Least}
use Rattle.laws.proofs.Keeping.{keep_mem}
use Rattle.laws.proofs.Leasts.{least_found, largest_to_ge, largest_to_le}
use Rattle.meaning.specs.declared.Stream.{Stream}
use Rattle.meaning.specs.Wire.{wire_time}
use Rattle.meaning.specs.Arrivals.{most_in, earliest}
use Rattle.meaning.specs.Response.{ahead, busy_load, wait_load, response, bound_in}
use Rattle.meaning.proofs.Arrivals.{counted, most_grows, most_one}
use Rattle.meaning.proofs.Responses.{wait_room, response_some}
use Rattle.meaning.proofs.Later.{later_in, early_apart, later_one, later_reaches, early_zero, early_past}
use Rattle.meaning.proofs.Later.{later_load, load_later}

-- ---- the largest of f first, f (first + 1), .., count of them

unfoldable pub largest_from : ℕ → ℕ → (ℕ → ℕ) → ℕ
largest_from first count f = largest_to count (λ k. f (first + k - 1))

largest_from_more : (first n : ℕ) (f : ℕ → ℕ)
    → largest_from first (n + 1) f ≡ max (largest_from first n f) (f (first + n))
unfolding largest_from largest_to
largest_from_more first n f =
    let last : first + suc n - 1 ≡ first + n = omega arith in
    rw (add-one n) (ap (λ (q : ℕ). max (largest_to n (λ k. f (first + k - 1))) (f q)) last)

largest_from_ge : (first n : ℕ) (f : ℕ → ℕ) (q : ℕ) → first ≤ q → q < first + n → f q ≤ largest_from first n f
unfolding largest_from
largest_from_ge first n f q lo hi =
    let place : first + (q - first + 1) - 1 ≡ q = omega arith in
    omega (arith, largest_to_ge n (λ k. f (first + k - 1)) (q - first + 1) (omega arith) (omega arith), ap f place)

largest_from_le : (first n : ℕ) (f : ℕ → ℕ) (top : ℕ) → ((q : ℕ) → first ≤ q → q < first + n → f q ≤ top)
    → largest_from first n f ≤ top
unfolding largest_from
largest_from_le first n f top h =
    largest_to_le n (λ k. f (first + k - 1)) top (λ k lo hi. h (first + k - 1) (omega arith) (omega arith))

-- ---- the calm window

module _ (rate : ℕ) (v : ℕ → ℕ) (rest : List Stream) (i : Stream) where
  -- what z ns more can bring, i included, and the interference of z: the busy window's load without L and jitter
  unfoldable pub calm_load : ℕ → ℕ
  calm_load z = later_in i z * wire_time rate i.octets + later_load rate (ahead i rest) z + v z

-- ---- frames

module _ (rate : ℕ) (v : ℕ → ℕ) (L : ℕ) (rest : List Stream) (i : Stream) where
  abbrev C : ℕ
  C = wire_time rate i.octets

  abbrev busy : ℕ → ℕ
  busy = busy_load rate v L rest i

  abbrev waits : ℕ → ℕ → ℕ
  waits = wait_load rate v L rest i

  -- the response of frame q in the busy window b, 0 where it has none
  unfoldable pub answer_of : ℕ → ℕ → ℕ
  answer_of b q = get_or (response rate v L rest i b q) 0

  -- the largest response of count frames from frame first on
  unfoldable pub worst_of : ℕ → ℕ → ℕ → ℕ
  worst_of b first count = largest_from first count (answer_of b)

  -- how many frames are enough, from the last that can come at 0 on: all of the window, or, where z closes the calm
  -- window, that one and laterIn z after it
  abbrev pub Enough : ℕ → ℕ → Type 0
  Enough b count =
      (most_in i 0 + count ≡ most_in i b + 1) ⊎ ((z : ℕ) × (calm_load rate v rest i z ≤ z) × (later_in i z + 1 ≤ count))

  pub worst_none : (b first : ℕ) → worst_of b first 0 ≡ 0
  unfolding worst_of largest_from largest_to
  worst_none b first = refl

  pub worst_ge : (b first count q : ℕ) → first ≤ q → q < first + count → answer_of b q ≤ worst_of b first count
  unfolding worst_of
  worst_ge b first count q = largest_from_ge first count (answer_of b) q

  module _ (rest-pos : (j : Stream) → Mem j rest → 0 < j.period) where
    ahead_pos : (j : Stream) → Mem j (ahead i rest) → 0 < j.period
    unfolding ahead
    ahead_pos j m = rest-pos j ((keep_mem _ rest j).0 m).0

    -- "The response is w + C less that arrival."
    pub answer_is : (b q w : ℕ) → Least busy b → 1 ≤ q → q ≤ most_in i b → Least (waits q) w
        → answer_of b q ≡ w + C - earliest i q
    unfolding answer_of
    answer_is b q w lb lo hi lw = rw (response_some rate v L rest i rest-pos b q w lb lo hi lw)

    answered : (b q : ℕ) → Least busy b → 1 ≤ q → q ≤ most_in i b
        → (w : ℕ) × Least (waits q) w × (answer_of b q ≡ w + C - earliest i q)
    answered b q lb lo hi =
        let (fits, closed) = wait_room rate v L rest i rest-pos b q lb lo hi in
        let (w, e, lw) = least_found (waits q) b (b - C) (omega arith) closed in
        (w, lw, answer_is b q w lb lo hi lw)

    -- one frame more, which waits w
    pub worst_more : (b first n w : ℕ) → Least busy b → 1 ≤ first → first + n ≤ most_in i b
        → Least (waits (first + n)) w
        → worst_of b first (n + 1) ≡ max (worst_of b first n) (w + C - earliest i (first + n))
    unfolding worst_of
    worst_more b first n w lb lo hi lw =
        largest_from_more first n (answer_of b)
        ∙ ap (max (largest_from first n (answer_of b))) (answer_is b (first + n) w lb (omega arith) hi lw)

    wait_rises : (p q w u : ℕ) → p ≤ q → Least (waits p) w → Least (waits q) u → w ≤ u
    unfolding wait_load
    wait_rises p q w u h lw lu =
        lw.first u (omega (arith, lu.closes, mul-le-mul_right {m = p - 1} {n = q - 1} C (omega arith)))

    module _ (own_pos : 0 < i.period) where
      -- of the frames that can come at 0 only the last, frame mostIn i 0, can be worst
      pub answer_first : (b q : ℕ) → Least busy b → 1 ≤ q → q ≤ most_in i 0 → answer_of b q ≤ answer_of b (most_in i 0)
      answer_first b q lb lo hi =
          let inside = most_grows (counted i own_pos) 0 b zero-le in
          let (w, lw, e) = answered b q lb lo (omega arith) in
          let (u, lu, d) = answered b (most_in i 0) lb (omega arith) inside in
          let last = early_zero i own_pos (most_in i 0) (omega arith) (le_refl (most_in i 0)) in
          omega (arith, wait_rises q (most_in i 0) w u hi lw lu, early_zero i own_pos q lo hi)

      module _ (v_spreads : (x y : ℕ) → v (x + y) ≤ v x + v y) where
        -- where z closes the calm window, laterIn z frames on the wait is longer by z at most
        wait_on : (z q w u : ℕ) → calm_load rate v rest i z ≤ z → 1 ≤ q → Least (waits q) w
            → Least (waits (q + later_in i z)) u → u ≤ w + z
        unfolding wait_load calm_load
        wait_on z q w u calm lo lw lu =
            let m : ℕ = later_in i z in
            let on : q + m - 1 ≡ q - 1 + m = omega arith in
            let sent = ap (λ (k : ℕ). k * C) on ∙ add-mul (q - 1) m C in
            let order : w + z + C ≡ w + C + z = omega arith in
            let blocked = v_spreads (w + C) z in
            let more = load_later rate (ahead i rest) ahead_pos w z in
            lu.first (w + z) (omega (arith, lw.closes, ap v order))

        -- so that laterIn z frames after one that cannot come at 0, the response is no larger
        pub answer_on : (b z q : ℕ) → Least busy b → calm_load rate v rest i z ≤ z → most_in i 0 < q
            → q + later_in i z ≤ most_in i b → answer_of b (q + later_in i z) ≤ answer_of b q
        answer_on b z q lb calm lo hi =
            let (w, lw, e) = answered b q lb (omega arith) (omega arith) in
            let (u, lu, d) = answered b (q + later_in i z) lb (omega arith) hi in
            let apart = early_apart i q (later_in i z) (early_past i own_pos q lo) in
            omega (arith, wait_on z q w u calm (omega arith) lw lu, later_reaches i own_pos z)

        module _ (b count : ℕ) (lb : Least busy b) (inside : most_in i 0 + count ≤ most_in i b + 1)
            (enough : Enough b count) where
          abbrev first : ℕ
          first = most_in i 0

          count_some : 1 ≤ count
          count_some =
              ⊎_elim (λ e. omega (arith, most_grows (counted i own_pos) 0 b zero-le))
              (λ (z, calm, more). omega arith) enough

          -- no frame of the window has a larger response than all of those
          worst_covers : (fuel q : ℕ) → q < fuel → 1 ≤ q → q ≤ most_in i b → answer_of b q ≤ worst_of b first count
          worst_covers zero q below lo hi = absurd (omega arith)
          worst_covers (suc fuel) q below lo hi =
              by_cases (dec_le q first) early
              (λ h. by_cases (dec_lt q (first + count)) (worst_ge b first count q (omega arith))
              (λ l. ⊎_elim (λ e. absurd (omega arith)) (beyond (worst_covers fuel) l) enough))
            where
              early : q ≤ first → answer_of b q ≤ worst_of b first count
              early h =
                  le_trans (answer_first b q lb lo h)
                  (worst_ge b first count first (le_refl first) (omega (arith, count_some)))

              beyond : ((p : ℕ) → p < fuel → 1 ≤ p → p ≤ most_in i b → answer_of b p ≤ worst_of b first count)
                  → ¬ (q < first + count) → (z : ℕ) × (calm_load rate v rest i z ≤ z) × (later_in i z + 1 ≤ count)
                  → answer_of b q ≤ worst_of b first count
              beyond ih l (z, calm, more) =
                  let p : ℕ = q - later_in i z in
                  let back : p + later_in i z ≡ q = omega arith in
                  let one = later_one i z in
                  let sooner = ih p (omega arith) (omega arith) (omega arith) in
                  omega (arith, answer_on b z p lb calm (omega arith) (omega arith), ap (answer_of b) back)

          -- the largest response of those frames is the largest of the window
          pub few_frames : worst_of b (most_in i 0) count ≡ bound_in rate v L rest i b
          unfolding worst_of bound_in answer_of
          few_frames =
              let one = most_one (counted i own_pos) 0 in
              le_antisymm
              (largest_from_le first count (answer_of b) (bound_in rate v L rest i b)
              (λ q lo hi. largest_to_ge (most_in i b) (answer_of b) q (omega arith) (omega arith)))
              (largest_to_le (most_in i b) (answer_of b) (worst_of b first count)
              (λ q lo hi. worst_covers (q + 1) q (omega arith) lo hi))
