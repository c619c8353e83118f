-- Frames counted one by one over rows of streams: a count from the start, a pass, and all that are in x.
-- Assumes nothing.
use mathlib.Core.Path.{◌≡◌, refl, sym, ap, ap₂, ◌∙◌}
use mathlib.Core.Bool.{Bool, true, false, cond}
use mathlib.Core.List.{List, ◌++◌}
use Prim.Native.Nat.{ℕ, suc, ◌+◌, ◌*◌, ◌≤◌, ◌<◌, min, zero-le}
use native.Mathlib.Nat.{add-zero, le_refl, le_trans, mul-le-mul, mul-le-mul_right}
use native.Mathlib.Omega.{arith}
use lib.ListN.{length, get_or, set, take, drop}
use lib.Seq.{get_or-set_other}
use lib.Dec.{leb}
use mir.Syntax.{w64}
use mir.Val.{Fits}
use borrow.Author.Tests.{leb-true, leb-false}
use Rattle.laws.specs.Numbers.{sum}
use Rattle.laws.proofs.Sums.{sum_ext, sum_add}
use Rattle.meaning.specs.Arrivals.{most_in}
use Rattle.meaning.proofs.Later.{CountedTo, next_of, counted_at, counted_on, counted_more, counted_all}
use Rattle.arrivals.specs.declared.counts.Counts.{Counts}
use Rattle.arrivals.specs.Rows.{stream_at, row_load, RowsFit, Low, RowsCounted, stepped, gained}
use Rattle.arrivals.proofs.Places.{sum_more, sum_few, set_below, back_front, back_rest}
use Rattle.std.proofs.lemmas.List.{get_or-take}
use Rattle.arrivals.proofs.Arriving.{frames_few}

-- ---- a pass, as far as it has come

-- one pass over the first i streams, from the next instants old to the next instants new: add is the wire time of what
-- has come by x, and least the least of the new instants
pub record Passed (old per cost : List ℕ) (x i : ℕ) (new : List ℕ) (add least : ℕ) : Type 0 where
  pub done : (k : ℕ) → k < i → get_or new k 0 ≡ stepped x (get_or old k 0) (get_or per k 0)
  pub left : (k : ℕ) → i ≤ k → get_or new k 0 ≡ get_or old k 0
  pub tally : add ≡ sum i (λ k. gained x (get_or old k 0) (get_or cost k 0))
  pub few : add ≤ i * 2_000_000
  pub low : Low new i least
  pub high : (z : ℕ) → z ≤ 4_294_967_295 → Low new i z → z ≤ least

pub pass_starts : (old per cost : List ℕ) (x : ℕ) → Passed old per cost x 0 old 0 4_294_967_295
unfolding sum
pass_starts old per cost x =
    record {
      done = λ k h. absurd (omega arith);
      left = λ k h. refl;
      tally = refl;
      few = zero-le;
      low = λ k h. absurd (omega arith);
      high = λ z h l. h;
    }

-- one stream more: its next instant s, the wire time g that it adds, and the least l of the instants so far and s
module _ (old per cost : List ℕ) (x i : ℕ) (new : List ℕ) (add least s g l : ℕ) where
  pub pass_more : Passed old per cost x i new add least → i < length new
      → s ≡ stepped x (get_or new i 0) (get_or per i 0) → g ≡ gained x (get_or new i 0) (get_or cost i 0)
      → g ≤ 2_000_000 → l ≡ min least s → Passed old per cost x (i + 1) (set new i s) (add + g) l
  pass_more p inside es eg few el =
      record {
        done = set_below (λ k a. a ≡ stepped x (get_or old k 0) (get_or per k 0)) new i s inside p.done (rw here at es);
        left = λ k h. get_or-set_other new i k s 0 (λ e. absurd (omega arith)) ∙ p.left k (omega arith);
        tally = rw (sum_more i) (omega (arith, p.tally, rw here at eg));
        few = omega (arith, p.few);
        low = set_below (λ k a. l ≤ a) new i s inside (λ k h. omega (arith, p.low k h)) (omega arith);
        high =
            λ z h low. omega (
              arith,
              p.high z h (λ k q. rw (other k q) at (low k (omega arith))),
              rw same at (low i (omega arith)),
            );
      }
    where
      here : get_or new i 0 ≡ get_or old i 0
      here = p.left i (le_refl i)

      same : get_or (set new i s) i 0 ≡ s
      same =
          set_below (λ k a. k ≡ i → a ≡ s) new i s inside (λ k h e. absurd (omega arith)) (λ e. refl) i (omega arith)
          refl

      other : (k : ℕ) → k < i → get_or (set new i s) k 0 ≡ get_or new k 0
      other k h = get_or-set_other new i k s 0 (λ e. absurd (omega arith))

-- the first n next instants, lent to the pass, are back
pass_back : (old per cost : List ℕ) (x n : ℕ) (items : List ℕ) (add least : ℕ) → length items ≡ n
    → Passed (take n old) per cost x n items add least → Passed old per cost x n (items ++ drop n old) add least
pass_back old per cost x n items add least e p =
    record {
      done = λ k h. front k h ∙ rw (lent k h) at (p.done k h);
      left = back_rest old items n e;
      tally = p.tally ∙ sum_ext n _ _ (λ k h. ap (λ (a : ℕ). gained x a (get_or cost k 0)) (lent k h));
      few = p.few;
      low = λ k h. rw (front k h) (p.low k h);
      high = λ z h low. p.high z h (λ k q. rw (front k q) at (low k q));
    }
  where
    front : (k : ℕ) → k < n → get_or (items ++ drop n old) k 0 ≡ get_or items k 0
    front = back_front old items n e

    lent : (k : ℕ) → k < n → get_or (take n old) k 0 ≡ get_or old k 0
    lent k h = get_or-take n old k 0 h

-- ---- a count from the start, as far as it has come

-- the frames of the first i streams counted at x
abbrev pub CountedAt : (per jit cost : List ℕ) (x i : ℕ) (next : List ℕ) (load least : ℕ) → Type 0
CountedAt per jit cost x i next load least =
    ((k : ℕ) → k < i → get_or next k 0 ≡ next_of (stream_at per jit k) x)
    × (load ≡ row_load per jit cost i x) × Low next i least × (x < least)

module _ (per jit cost : List ℕ) (x : ℕ) where
  pub count_starts : (next : List ℕ) (least : ℕ) → x < least → CountedAt per jit cost x 0 next 0 least
  unfolding row_load sum
  count_starts next least past = (λ k h. absurd (omega arith), refl, λ k h. absurd (omega arith), past)

  -- one stream more: its next instant s, the wire time g of its frames, and the least l of the instants so far and s
  pub count_more : (i : ℕ) (next : List ℕ) (load least s g l : ℕ)
      → CountedAt per jit cost x i next load least → i < length next
      → s ≡ next_of (stream_at per jit i) x → x < s → g ≡ most_in (stream_at per jit i) x * get_or cost i 0
      → l ≡ min least s → CountedAt per jit cost x (i + 1) (set next i s) (load + g) l
  unfolding row_load
  count_more i next load least s g l (nexts, tally, low, past) inside es after eg el = (
    set_below (λ k a. a ≡ next_of (stream_at per jit k) x) next i s inside nexts es,
    rw (sum_more i) (omega (arith, tally, eg)),
    set_below (λ k a. l ≤ a) next i s inside (λ k h. omega (arith, low k h)) (omega arith),
    omega arith,
  )

-- the first n next instants, lent to the count, are back
pub count_back : (per jit cost : List ℕ) (x n : ℕ) (row items : List ℕ) (load least : ℕ) → length items ≡ n
    → CountedAt per jit cost x n items load least → CountedAt per jit cost x n (items ++ drop n row) load least
count_back per jit cost x n row items load least e (nexts, tally, low, past) =
    let front = back_front row items n e in
    (λ k h. front k h ∙ nexts k h, tally, λ k h. rw (front k h) (low k h), past)

-- what one stream more has at least, beside what those before it have at least
pub row_load_under : (per jit cost : List ℕ) (x i load f : ℕ) → load ≤ row_load per jit cost i x
    → f ≤ most_in (stream_at per jit i) x → load + f * get_or cost i 0 ≤ row_load per jit cost (i + 1) x
unfolding row_load
row_load_under per jit cost x i load f h few =
    rw (sum_more i) (omega (arith, h, mul-le-mul_right (get_or cost i 0) few))

-- ---- the frames counted of rows in range

module _ (per jit cost : List ℕ) (n : ℕ) (fit : RowsFit per jit cost n) where
  row_pos : (k : ℕ) → k < n → 0 < get_or per k 0
  row_pos k h = omega (arith, fit.periods k h)

  -- at most 20,001 frames of each, and at most 2,000,000 ns a frame
  frames_cost : (x k taken : ℕ) → x ≤ 100_000_000 → k < n → taken ≤ most_in (stream_at per jit k) x
      → taken * get_or cost k 0 ≤ 40_002_000_000
  frames_cost x k taken soon h few =
      mul-le-mul {n₁ = taken} {m₁ = get_or cost k 0} {n₂ = 20_001} {m₂ = 2_000_000}
      (le_trans few (frames_few x (get_or per k 0) (get_or jit k 0) soon (fit.periods k h).0 (fit.jitters k h).1))
      (fit.costs k h).1

  row_load_few : (x i : ℕ) → x ≤ 100_000_000 → i ≤ n → row_load per jit cost i x ≤ i * 40_002_000_000
  unfolding row_load
  row_load_few x i soon h = sum_few i 40_002_000_000 _ (λ k l. frames_cost x k _ soon (omega arith) (le_refl _))

  -- there is room in 64 bits for the frames of one stream more
  pub load_room : (x i load more : ℕ) → x ≤ 100_000_000 → i < n → load ≡ row_load per jit cost i x
      → more ≤ 60_000_000_000 → Fits w64 (load + more)
  load_room x i load more soon h e few = omega (arith, fit.few, row_load_few x i soon (omega arith))

  -- a count that is complete
  pub count_ends : (x : ℕ) (seen : Counts) → CountedAt per jit cost x n seen.next seen.load seen.least
      → RowsCounted per jit cost n seen x × (x < seen.least)
  unfolding row_load
  count_ends x seen (nexts, tally, low, past) = (
    record {
      taken = λ k. most_in (stream_at per jit k) x;
      each = λ k h. rw (nexts k h) (counted_at (stream_at per jit k) (row_pos k h) x);
      tally = tally;
      low = low;
    },
    past,
  )

  module _ (seen : Counts) (x : ℕ) (u : RowsCounted per jit cost n seen x) where
    pub rows_few : x ≤ 100_000_000 → seen.load ≤ n * 40_002_000_000
    rows_few soon =
        le_trans (omega (arith, u.tally))
        (sum_few n 40_002_000_000 _ (λ k h. frames_cost x k (u.taken k) soon h (u.each k h).in_time))

    pub rows_on : (y : ℕ) → x ≤ y → RowsCounted per jit cost n seen y
    rows_on y h =
        record {
          taken = u.taken;
          each = λ k l. counted_on (stream_at per jit k) (row_pos k l) h (u.each k l);
          tally = u.tally;
          low = u.low;
        }

    -- where no next instant has come, all frames in x are counted
    pub rows_all : x < seen.least → seen.load ≡ row_load per jit cost n x
    unfolding row_load
    rows_all h =
        u.tally
        ∙ sum_ext n _ _
        (λ k l. ap (λ (q : ℕ). q * get_or cost k 0)
        (sym (counted_all (stream_at per jit k) (row_pos k l) (le_trans h (u.low k l)) (u.each k l))))

    module _ (new : List ℕ) (add lower : ℕ) (p : Passed seen.next per cost x n new add lower) where
      -- a pass counts one frame more of each stream whose next frame has come
      rows_pass : (shortest : ℕ)
          → RowsCounted per jit cost n
          (record { next = new; load = seen.load + add; least = lower; shortest = shortest }) x
      rows_pass shortest =
          record {
            taken = more;
            each = λ k h. rw (p.done k h) (each k h (leb (get_or seen.next k 0) x) refl);
            tally =
                ap₂ (λ (a b : ℕ). a + b) u.tally p.tally
                ∙ sym
                (sum_add n (λ k. u.taken k * get_or cost k 0) (λ k. gained x (get_or seen.next k 0) (get_or cost k 0)))
                ∙ sum_ext n _ _ (λ k h. tally k (leb (get_or seen.next k 0) x));
            low = p.low;
          }
        where
          more : ℕ → ℕ
          more k = u.taken k + cond (leb (get_or seen.next k 0) x) 1 0

          each : (k : ℕ) → k < n → (b : Bool) → leb (get_or seen.next k 0) x ≡ b
              → CountedTo (stream_at per jit k) x (u.taken k + cond b 1 0)
              (cond b (get_or seen.next k 0 + get_or per k 0) (get_or seen.next k 0))
          each k h true e = counted_more (stream_at per jit k) (row_pos k h) (leb-true (get_or seen.next k 0) x e)
              (u.each k h)
          each k h false e = rw (add-zero (u.taken k)) (u.each k h)

          tally : (k : ℕ) (b : Bool)
              → u.taken k * get_or cost k 0 + cond b (get_or cost k 0) 0 ≡ (u.taken k + cond b 1 0) * get_or cost k 0
          tally k true = omega arith
          tally k false = omega arith

      -- and the least next instant rises
      pass_rises : seen.least ≤ x → x ≤ 100_000_000 → seen.least < lower
      pass_rises h soon =
          p.high (suc seen.least) (omega arith) (λ k q. rw (p.done k q) (later k q (leb (get_or seen.next k 0) x) refl))
        where
          later : (k : ℕ) → k < n → (b : Bool) → leb (get_or seen.next k 0) x ≡ b
              → seen.least < cond b (get_or seen.next k 0 + get_or per k 0) (get_or seen.next k 0)
          later k q true e = omega (arith, u.low k q, row_pos k q)
          later k q false e = omega (arith, leb-false (get_or seen.next k 0) x e)

    -- what a pass over the next instants that it is lent ends with
    pub pass_ends : (items : List ℕ) (add lower shortest : ℕ) → length items ≡ n
        → Passed (take n seen.next) per cost x n items add lower → seen.least ≤ x → x ≤ 100_000_000
        → RowsCounted per jit cost n
        (record { next = items ++ drop n seen.next; load = seen.load + add; least = lower; shortest = shortest }) x
        × (seen.least < lower)
    pass_ends items add lower shortest e p h soon =
        let q = pass_back seen.next per cost x n items add lower e p in
        (rows_pass _ add lower q shortest, pass_rises _ add lower q h soon)
