-- How a stream's frames come later: how far apart, how many more in a longer stretch, and when the next one.
-- Assumes nothing.
use mathlib.Core.Path.{◌≡◌, refl, sym, ap, ◌∙◌}
use mathlib.Core.Logic.{◌↔◌, by_cases}
use mathlib.Core.List.Memᴰ
use mathlib.Core.List.{List, [], ◌∷◌, map}
use Prim.Native.Nat.{ℕ, zero, suc, ◌+◌, ◌-◌, ◌*◌, ◌/◌, ◌≤◌, ◌<◌, zero-le}
use native.Mathlib.Nat.{le_refl, le_trans, le_antisymm, add-zero, add-mul, mul-le-mul_right}
use native.Mathlib.Nat.{div-mul-le_self, le-div_iff_mul-le, div-lt_iff_lt-mul}
use native.Mathlib.Decide.{dec_le}
use native.Mathlib.Omega.{arith}
use Rattle.laws.specs.Lists.{total, Mem}
use Rattle.laws.specs.Numbers.{Mono}
use Rattle.laws.proofs.Lists.{mem_head, total_ext}
use Rattle.laws.proofs.Joining.{total_map}
use Rattle.meaning.specs.declared.Stream.{Stream}
use Rattle.meaning.specs.Wire.{wire_time}
use Rattle.meaning.specs.Arrivals.{most_in, earliest}
use Rattle.meaning.specs.Response.{load}
use Rattle.meaning.proofs.Arrivals.{counted, most_grows, most_one}

-- ---- names

-- how far frames lie apart whose earliest arrival is past 0
unfoldable pub gap_of : Stream → ℕ
gap_of j = j.period

-- how many more frames a stretch can hold that is y longer
unfoldable pub later_in : Stream → ℕ → ℕ
later_in j y = y / gap_of j + 1

-- the stream that brings a frame in every gap, without jitter
unfoldable pub steady : Stream → Stream
steady j =
    record {
      id = j.id;
      priority = j.priority;
      octets = j.octets;
      period = gap_of j;
      jitter = 0;
      deadline = j.deadline;
    }

-- the instant at which j can have one frame more than in x
unfoldable pub next_of : Stream → ℕ → ℕ
next_of j x = earliest j (most_in j x + 1)

-- k frames of j are counted, all of them can have come by x, and the next one comes at a
pub record CountedTo (j : Stream) (x k a : ℕ) : Type 0 where
  pub in_time : k ≤ most_in j x
  pub next : a ≡ earliest j (k + 1)
  pub past_zero : 0 < a

-- ---- all that is taken from the formulas; what follows below uses these laws and `counted`

pub gap_pos : (j : Stream) → 0 < j.period → 0 < gap_of j
unfolding gap_of
gap_pos j pos = pos

periods_on : (q m t : ℕ) → 1 ≤ q → (q + m - 1) * t ≡ (q - 1) * t + m * t
periods_on q m t h = ap (λ (k : ℕ). k * t) (omega arith) ∙ add-mul (q - 1) m t

-- m frames on, a frame past 0 comes m gaps later at least
pub early_apart : (j : Stream) (q m : ℕ) → 0 < earliest j q → earliest j q + m * gap_of j ≤ earliest j (q + m)
unfolding earliest gap_of
early_apart j zero m h = absurd (omega arith)
early_apart j (suc q) m h = omega (arith, periods_on (suc q) m j.period (omega arith))

-- the next frame comes a period later at most
pub early_soon : (j : Stream) (q : ℕ) → earliest j (q + 1) ≤ earliest j q + j.period
unfolding earliest
early_soon j zero = omega arith
early_soon j (suc q) = omega (arith, periods_on (suc q) 1 j.period (omega arith))

-- and exactly a period later where this one is past 0
pub early_next : (j : Stream) (q : ℕ) → 0 < earliest j q → earliest j (q + 1) ≡ earliest j q + j.period
unfolding earliest
early_next j zero h = absurd (omega arith)
early_next j (suc q) h = omega (arith, periods_on (suc q) 1 j.period (omega arith))

-- N without jitter, at the pace of the gaps
pub later_steady : (j : Stream) (y : ℕ) → later_in j y ≡ most_in (steady j) y
unfolding later_in most_in steady
later_steady j y = ap (λ (x : ℕ). x / gap_of j + 1) (sym (add-zero y))

-- ---- how fast a count can grow

pub later_one : (j : Stream) (y : ℕ) → 1 ≤ later_in j y
unfolding later_in
later_one j y = omega arith

module _ (j : Stream) (pos : 0 < j.period) where
  pub later_grows : Mono (later_in j)
  unfolding later_in
  later_grows x y h =
      let (to, from) = le-div_iff_mul-le {k = gap_of j} {x = x / gap_of j} {y = y} (gap_pos j pos) in
      omega (arith, from (le_trans (div-mul-le_self x (gap_of j)) h))

  -- so many gaps are longer than y
  pub later_reaches : (y : ℕ) → y < later_in j y * gap_of j
  unfolding later_in
  later_reaches y = (div-lt_iff_lt-mul {k = gap_of j} {x = y} {y = y / gap_of j + 1} (gap_pos j pos)).0 (omega arith)

  -- at most k frames are in x exactly where frame k + 1 comes after x
  pub most_below : (k x : ℕ) → (most_in j x ≤ k) ↔ (x < earliest j (k + 1))
  most_below k x = (
    λ h. by_cases (dec_le (earliest j (k + 1)) x) (λ l. absurd (omega (arith, among.1 l))) (λ l. omega arith),
    λ h. by_cases (dec_le (k + 1) (most_in j x)) (λ l. absurd (omega (arith, among.0 l))) (λ l. omega arith),
  )
    where
      among : (k + 1 ≤ most_in j x) ↔ (earliest j (k + 1) ≤ x)
      among = (counted j pos).iff (k + 1) x (omega arith)

  -- exactly k are in x where frame k can have come and frame k + 1 cannot
  pub most_is : (k x : ℕ) → 1 ≤ k → (most_in j x ≡ k) ↔ ((earliest j k ≤ x) × (x < earliest j (k + 1)))
  most_is k x lo =
      let (to, from) = (counted j pos).iff k x lo in (
        λ e. (to (omega arith), (most_below k x).0 (omega arith)),
        λ (come, ahead). le_antisymm ((most_below k x).1 ahead) (from come),
      )

  -- the frames that can come at 0 are those up to mostIn j 0
  pub early_zero : (q : ℕ) → 1 ≤ q → q ≤ most_in j 0 → earliest j q ≡ 0
  early_zero q lo hi = omega (arith, ((counted j pos).iff q 0 lo).0 hi)

  pub early_past : (q : ℕ) → most_in j 0 < q → 0 < earliest j q
  early_past q h =
      let back : q - 1 + 1 ≡ q = omega arith in
      omega (arith, (most_below (q - 1) 0).0 (omega arith), ap (earliest j) back)

  -- a stretch that is y longer holds at most laterIn y more
  pub most_later : (x y : ℕ) → most_in j (x + y) ≤ most_in j x + later_in j y
  most_later x y =
      let k : ℕ = most_in j x + 1 in
      let after : x < earliest j k = (most_below (most_in j x) x).0 (le_refl (most_in j x)) in
      let order : k + later_in j y ≡ most_in j x + later_in j y + 1 = omega arith in
      let apart = early_apart j k (later_in j y) (omega arith) in
      (most_below (most_in j x + later_in j y) (x + y)).1 (omega (arith, later_reaches y, ap (earliest j) order))

  -- ---- the next frame

  pub next_after : (x : ℕ) → x < next_of j x
  unfolding next_of
  next_after x = (most_below (most_in j x) x).0 (le_refl (most_in j x))

  pub next_soon : (x : ℕ) → next_of j x ≤ x + j.period
  unfolding next_of
  next_soon x =
      let known = counted j pos in
      omega
      (arith, early_soon j (most_in j x), (known.iff (most_in j x) x (most_one known x)).0 (le_refl (most_in j x)))

  -- until then the count stays
  pub most_still : (x y : ℕ) → x ≤ y → y < next_of j x → most_in j y ≡ most_in j x
  unfolding next_of
  most_still x y h l = le_antisymm ((most_below (most_in j x) y).1 l) (most_grows (counted j pos) x y h)

  -- then it is one more
  pub most_steps : (x : ℕ) → most_in j (next_of j x) ≡ most_in j x + 1
  unfolding next_of
  most_steps x =
      let k : ℕ = most_in j x + 1 in
      let past = early_apart j k 1 (omega (arith, next_after x)) in
      (most_is k (earliest j k) (omega arith)).1 (le_refl (earliest j k), omega (arith, gap_pos j pos))

  -- ---- frames counted one by one

  pub counted_at : (x : ℕ) → CountedTo j x (most_in j x) (next_of j x)
  unfolding next_of
  counted_at x = record { in_time = le_refl (most_in j x); next = refl; past_zero = omega (arith, next_after x) }

  pub counted_on : {x y k a : ℕ} → x ≤ y → CountedTo j x k a → CountedTo j y k a
  counted_on {x} {y} h c =
      record {
        in_time = le_trans c.in_time (most_grows (counted j pos) x y h);
        next = c.next;
        past_zero = c.past_zero;
      }

  -- where the next one has come, it is counted too
  pub counted_more : {x k a : ℕ} → a ≤ x → CountedTo j x k a → CountedTo j x (k + 1) (a + j.period)
  counted_more {x} {k} {a} h c =
      let past : 0 < earliest j (k + 1) = omega (arith, c.next, c.past_zero) in
      record {
        in_time = ((counted j pos).iff (k + 1) x (omega arith)).1 (omega (arith, c.next));
        next = omega (arith, c.next, early_next j (k + 1) past);
        past_zero = omega (arith, c.past_zero);
      }

  -- where it has not, all are counted
  pub counted_all : {x k a : ℕ} → x < a → CountedTo j x k a → most_in j x ≡ k
  counted_all {x} {k} h c = le_antisymm ((most_below k x).1 (omega (arith, c.next))) c.in_time

-- ---- the load of many streams

total_under : {A : Type 0} (f g h : A → ℕ) (xs : List A) → ((x : A) → Mem x xs → f x ≤ g x + h x)
    → total f xs ≤ total g xs + total h xs
unfolding total
total_under f g h [] e = zero-le
total_under f g h (x ∷ xs) e =
    omega (arith, e x (mem_head x xs), total_under f g h xs (λ y m. e y (Memᴰ.tail m)))

-- what y ns more can bring
unfoldable pub later_load : ℕ → List Stream → ℕ → ℕ
later_load rate js y = total (λ j. later_in j y * wire_time rate j.octets) js

-- it is the load of the steady streams
pub load_steady : (rate : ℕ) (js : List Stream) (y : ℕ) → load rate (map steady js) y ≡ later_load rate js y
unfolding load later_load steady
load_steady rate js y =
    total_map (λ j. most_in j y * wire_time rate j.octets) steady js
    ∙ total_ext _ _ js (λ j m. ap (λ (k : ℕ). k * wire_time rate j.octets) (sym (later_steady j y)))

pub steady_pos : (js : List Stream) → ((j : Stream) → Mem j js → 0 < j.period)
    → (j : Stream) → Mem j (map steady js) → 0 < j.period
unfolding steady
steady_pos js pos j m =
    let (k, mk, e) = Memᴰ.of_map steady js m in
    omega (arith, gap_pos k (pos k mk), ap (λ (s : Stream). s.period) e)

module _ (rate : ℕ) (js : List Stream) (pos : (j : Stream) → Mem j js → 0 < j.period) where
  pub load_later : (x y : ℕ) → load rate js (x + y) ≤ load rate js x + later_load rate js y
  unfolding load later_load
  load_later x y =
      total_under _ _ _ js
      (λ j m. let c : ℕ = wire_time rate j.octets in omega (arith, mul-le-mul_right c (most_later j (pos j m) x y)))

  -- until the next frame of any of them the load stays
  pub load_still : (x y : ℕ) → x ≤ y → ((j : Stream) → Mem j js → y < next_of j x) → load rate js y ≡ load rate js x
  unfolding load
  load_still x y h l =
      total_ext _ _ js
      (λ j m. ap (λ (k : ℕ). k * wire_time rate j.octets) (most_still j (pos j m) x y h (l j m)))
