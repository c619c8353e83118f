-- Demand 3: no window holds more blocked cells than the interference of its length says.
-- Assumes nothing.
use mathlib.Core.Path.{◌≡◌, refl, sym, ap, ap₂, ◌∙◌}
use mathlib.Core.Logic.{◌⊎◌, inl, inr, ⊎_elim, by_cases}
use mathlib.Core.Bool.{Bool, true, false, not, cond, ◌&&◌, true≢false}
use mathlib.Core.List.{List, [], ◌∷◌}
use mathlib.Mathlib.Data.Bool.Basic.{dichotomy}
use Prim.Native.Nat.{ℕ, zero, suc, ◌+◌, ◌-◌, ◌%◌, ◌≤◌, ◌<◌, zero-le}
use native.Mathlib.Nat.{le_refl, le_trans, not-suc-le-zero, zero-add, add-zero, add-suc, suc-add, add_right_comm}
use native.Mathlib.Nat.{mod-lt, mod-add-mod}
use native.Mathlib.Decide.{ℕ_discrete}
use native.Mathlib.Omega.{arith}
use lib.Dec.{eqb}
use borrow.Author.Tests.{eq-eqb, ne_eqb, lt-ltb}
use Rattle.laws.specs.Lists.{total, Mem}
use Rattle.laws.specs.Numbers.{sum}
use Rattle.laws.proofs.Sums.{sum_ext, sum_le, sum_mono, sum_zero, sum_ones, sum_shift, sum_one}
use Rattle.laws.proofs.Circle.{at_dist, per_mod}
use Rattle.laws.proofs.Lists.{mem_none, total_append, largest_ge, largest_met}
use Rattle.meaning.specs.declared.Gate.{Gate}
use Rattle.meaning.specs.declared.Slot.{Slot}
use Rattle.meaning.specs.declared.Run.{Run}
use Rattle.meaning.specs.Runs.{dist, blocked, has_free, starts, row, runs_below, runs_of, runs}
use Rattle.meaning.specs.Interference.{len_at, all_len, count, interference_of, interference}
use Rattle.meaning.specs.Promises.{blocked_in, Covering}
use Rattle.meaning.proofs.Counts.{sum_len_at}
use Rattle.meaning.proofs.Cells.{blocked_per, free_cell, Repeats, starts_true, starts_per, row_true, row_false}
use Rattle.meaning.proofs.Cells.{run_if, runs_iff, runs_below_lem}

-- ---- rows of blocked cells

-- a row ends at a free cell
row_stop : (b : ℕ → Bool) (k c j : ℕ) → j < k → b (c + j) ≡ false → row b k c ≤ j
unfolding row
row_stop b zero c j l e = zero-le
row_stop b (suc k) c zero l e = omega (arith, row_false b k c (ap b (sym (add-zero c)) ∙ e))
row_stop b (suc k) c (suc j) l e =
    let ih = row_stop b k (suc c) j (omega arith) (ap b (omega arith) ∙ e) in
    ⊎_elim (λ (off : b c ≡ false). omega (arith, row_false b k c off))
    (λ (on : b c ≡ true). omega (arith, row_true b k c on)) (dichotomy (b c))

-- a row that has ended is no longer among more cells
row_more : (b : ℕ → Bool) (k c : ℕ) → row b k c < k → row b (suc k) c ≡ row b k c
row_more b zero c h = absurd (not-suc-le-zero h)
row_more b (suc k) c h =
    ⊎_elim (λ (off : b c ≡ false). row_false b (suc k) c off ∙ sym (row_false b k c off))
    (λ (on : b c ≡ true).
    omega (arith, row_true b (suc k) c on, row_true b k c on, row_more b k (suc c) (omega (arith, row_true b k c on))))
    (dichotomy (b c))

-- a row repeats as its cells do
row_per : (n : ℕ) (b : ℕ → Bool) → Repeats n b → (k c : ℕ) → row b k (c + n) ≡ row b k c
unfolding row
row_per n b per zero c = refl
row_per n b per (suc k) c =
    let ih = ap (row b k) (sym (suc-add c n)) ∙ row_per n b per k (suc c) in
    ⊎_elim (λ (off : b c ≡ false). row_false b k (c + n) (per c ∙ off) ∙ sym (row_false b k c off))
    (λ (on : b c ≡ true). row_true b k (c + n) (per c ∙ on) ∙ ap suc ih ∙ sym (row_true b k c on)) (dichotomy (b c))

-- ---- the length of the run at a cell

-- the length of the run that starts at c, 0 where none starts there
unfoldable len_from : ℕ → (ℕ → Bool) → ℕ → ℕ
len_from n b c = cond (starts n b c) (row b n c) 0

len_at_one : (n : ℕ) (b : ℕ → Bool) (k c : ℕ)
    → len_at (run_if (starts n b k) n b k) c ≡ cond (eqb k c) (len_from n b c) 0
unfolding len_at total len_from
len_at_one n b k c =
    by_cases (ℕ_discrete k c)
    (λ at. rw (eq-eqb k c at) (here (starts n b k) at ∙ ap (len_from n b) at))
    (λ ne. rw (ne_eqb k c ne) (away (starts n b k) ne))
  where
    here : (x : Bool) → k ≡ c → len_at (run_if x n b k) c ≡ cond x (row b n k) 0
    here true at = rw (eq-eqb c k (sym at)) (add-zero (row b n k))
    here false at = refl

    away : (x : Bool) → ¬ (k ≡ c) → len_at (run_if x n b k) c ≡ 0
    away true ne = rw (ne_eqb c k (λ e. ne (sym e)))
    away false ne = refl

len_at_below : (n : ℕ) (b : ℕ → Bool) (k c : ℕ)
    → len_at (runs_below n b k) c ≡ sum k (λ j. cond (eqb j c) (len_from n b c) 0)
unfolding runs_below len_at total sum
len_at_below n b zero c = refl
len_at_below n b (suc k) c =
    total_append _ (runs_below n b k) _ ∙ ap₂ (λ (x y : ℕ). x + y) (len_at_below n b k c) (len_at_one n b k c)

len_at_runs : (n : ℕ) (b : ℕ → Bool) (c : ℕ) → c < n → len_at (runs_of n b) c ≡ len_from n b c
unfolding runs_of
len_at_runs n b c h = len_at_below n b n c ∙ sum_one n c (len_from n b c) ∙ rw (lt-ltb c n h)

-- ---- windows

-- what a cell counts
abbrev one_if : Bool → ℕ
one_if x = cond x 1 0

one_if_le : (x : Bool) → one_if x ≤ 1
one_if_le true = le_refl 1
one_if_le false = zero-le

blocked_in_le : (b : ℕ → Bool) (a t : ℕ) → blocked_in b a t ≤ t
unfolding blocked_in
blocked_in_le b a t = omega (
  arith,
  sum_le t (λ k. one_if (b (a + k))) (λ k. 1) (λ k l. one_if_le (b (a + k))),
  sum_ones t,
)

blocked_in_none : (b : ℕ → Bool) (a t : ℕ) → ((j : ℕ) → j < t → b (a + j) ≡ false) → blocked_in b a t ≡ 0
unfolding blocked_in
blocked_in_none b a t h = sum_ext t _ (λ k. 0) (λ k l. ap one_if (h k l)) ∙ sum_zero t

blocked_in_per : (n : ℕ) (b : ℕ → Bool) → Repeats n b → (a t : ℕ) → blocked_in b (a + n) t ≡ blocked_in b a t
unfolding blocked_in
blocked_in_per n b per a t = sum_ext t _ _ (λ k l. ap one_if (ap b (add_right_comm a n k) ∙ per (a + k)))

-- moving the window's start by one
slide : (b : ℕ → Bool) (a t : ℕ) → blocked_in b a t + one_if (b (a + t)) ≡ one_if (b a) + blocked_in b (suc a) t
unfolding blocked_in
slide b a t = omega (arith, sum_shift t (λ k. one_if (b (a + k))), ap (λ (x : ℕ). one_if (b x)) (add-zero a), moved)
  where
    moved : sum t (λ k. one_if (b (suc a + k))) ≡ sum t (λ k. one_if (b (a + suc k)))
    moved = sum_ext t _ _ (λ k l. ap (λ (x : ℕ). one_if (b x)) (suc-add a k ∙ sym (add-suc a k)))

-- a run's start from which a window of t cells holds no fewer blocked cells than from a
abbrev pub NoFewer : ℕ → (ℕ → Bool) → ℕ → ℕ → Type 0
NoFewer n b a t = (s : ℕ) × (starts n b s ≡ true) × (blocked_in b a t ≤ blocked_in b s t)

-- ---- a circle of suc m cells with a free cell f

module _ (m : ℕ) (b : ℕ → Bool) (per : Repeats (suc m) b) (f : ℕ) (hf : f < suc m) (free : b f ≡ false) where
  -- a free cell is met within one round
  reach : (c : ℕ) → (j : ℕ) × (j < suc m) × (b (c + j) ≡ false)
  reach c = (d, mod-lt _ (omega arith), sym (per_mod (suc m) b per (c + d)) ∙ ap b at ∙ free)
    where
      d : ℕ
      d = dist (suc m) (c % suc m) f

      at : (c + d) % suc m ≡ f
      at =
          sym (mod-add-mod c (suc m) d)
          ∙ (at_dist (suc m) (c % suc m) f d (mod-lt c (omega arith)) hf (mod-lt _ (omega arith))).1 refl

  -- so a row ends within one round, and from the next cell on it is one shorter
  row_next : (c : ℕ) → b c ≡ true → row b (suc m) c ≡ suc (row b (suc m) (suc c))
  row_next c e = row_true b m c e ∙ ap suc (sym (row_more b m (suc c) (short (reach c))))
    where
      short : (j : ℕ) × (j < suc m) × (b (c + j) ≡ false) → row b m (suc c) < m
      short (zero, l, off) = absurd (true≢false (sym e ∙ ap b (sym (add-zero c)) ∙ off))
      short (suc j, l, off) = omega (arith, row_stop b m (suc c) j (omega arith) (ap b (omega arith) ∙ off))

  before : (c : ℕ) → b (suc c + (suc m - 1)) ≡ b c
  before c = ap b (omega arith) ∙ per c

  starts_next : (c : ℕ) → b c ≡ false → b (suc c) ≡ true → starts (suc m) b (suc c) ≡ true
  starts_next c off on = (starts_true (suc m) b (suc c)).1 (on, before c ∙ off)

  -- forward from a free cell: to the next run's start, where one of the k cells from it on is blocked
  forward : (t k a : ℕ) → b a ≡ false → NoFewer (suc m) b a t ⊎ ((j : ℕ) → j < k → b (a + j) ≡ false)
  forward t zero a e = inr (λ j l. absurd (not-suc-le-zero l))
  forward t (suc k) a e =
      ⊎_elim (λ (off : b (suc a) ≡ false). next (forward t k (suc a) off))
      (λ (on : b (suc a) ≡ true). inl (suc a, starts_next a e on, step)) (dichotomy (b (suc a)))
    where
      step : blocked_in b a t ≤ blocked_in b (suc a) t
      step = omega (arith, slide b a t, ap one_if e)

      next : NoFewer (suc m) b (suc a) t ⊎ ((j : ℕ) → j < k → b (suc a + j) ≡ false)
          → NoFewer (suc m) b a t ⊎ ((j : ℕ) → j < suc k → b (a + j) ≡ false)
      next (inl (s, h, l)) = inl (s, h, le_trans step l)
      next (inr h) = inr all
        where
          all : (j : ℕ) → j < suc k → b (a + j) ≡ false
          all zero l = ap b (add-zero a) ∙ e
          all (suc j) l = ap b (omega arith) ∙ h j (omega arith)

  -- back from a blocked cell to its run's start
  pub back : (t k : ℕ) → b (f + k) ≡ true → NoFewer (suc m) b (f + k) t
  back t zero e = absurd (true≢false (sym e ∙ ap b (add-zero f) ∙ free))
  back t (suc k) e =
      rw (add-suc f k)
      (⊎_elim here (λ (on : b (f + k) ≡ true). further on (back t k on)) (dichotomy (b (f + k))))
    where
      here : b (f + k) ≡ false → NoFewer (suc m) b (suc (f + k)) t
      here off = (suc (f + k), starts_next (f + k) off (ap b (sym (add-suc f k)) ∙ e), le_refl _)

      further : b (f + k) ≡ true → NoFewer (suc m) b (f + k) t → NoFewer (suc m) b (suc (f + k)) t
      further on (s, h, l) = (s, h, omega (arith, slide b (f + k) t, ap one_if on, one_if_le (b (f + k + t))))

  -- a blocked cell, one round on, lies behind the free one
  behind : (a : ℕ) → b a ≡ true → (k : ℕ) × (f + k ≡ a + suc m) × (b (f + k) ≡ true)
  behind a e = let q : f + (a + suc m - f) ≡ a + suc m = omega arith in (a + suc m - f, q, ap b q ∙ per a ∙ e)

  -- what is still to come, at x, of a run that started before x
  owed : ℕ → ℕ
  owed x = cond (b (x + (suc m - 1))) (row b (suc m) x) 0

  -- a run is owed where it starts, and each blocked cell pays one
  pay : (x : ℕ) → len_from (suc m) b x + owed x ≡ one_if (b x) + owed (suc x)
  unfolding len_from owed starts
  pay x = rw (before x) (go (b x) refl (b (x + (suc m - 1))))
    where
      go : (u : Bool) → b x ≡ u → (v : Bool)
          → cond (u && not v) (row b (suc m) x) 0 + cond v (row b (suc m) x) 0
          ≡ one_if u + cond u (row b (suc m) (suc x)) 0
      go true e true = omega (arith, row_next x e)
      go true e false = omega (arith, row_next x e)
      go false e true = omega (arith, row_false b m x e)
      go false e false = refl

  paid : (s t : ℕ) → sum t (λ k. len_from (suc m) b (s + k)) + owed s ≡ blocked_in b s t + owed (s + t)
  unfolding sum blocked_in
  paid s zero = ap (λ (x : ℕ). 0 + owed x) (sym (add-zero s))
  paid s (suc t) = rw (add-suc s t) (omega (arith, paid s t, pay (s + t)))

  -- from a run's start: no more blocked cells than the runs' whole lengths
  from_start : (s t : ℕ) → starts (suc m) b s ≡ true
      → blocked_in b s t ≤ sum (suc t) (λ k. len_from (suc m) b (s + k))
  unfolding owed
  from_start s t e =
      let none : owed s ≡ 0 = rw ((starts_true (suc m) b s).0 e).1 in
      omega (arith, paid s t, sum_mono t (suc t) (λ k. len_from (suc m) b (s + k)) (omega arith))

  len_from_per : (c : ℕ) → len_from (suc m) b (c + suc m) ≡ len_from (suc m) b c
  unfolding len_from
  len_from_per c =
      ap₂ (λ (x : Bool) (y : ℕ). cond x y 0) (starts_per (suc m) b per c) (row_per (suc m) b per (suc m) c)

  -- the count from a cell is the sum of the lengths at the cells from it on
  count_cells : (s t : ℕ)
      → count (suc m) (runs_of (suc m) b) (s % suc m) t ≡ sum (suc t) (λ k. len_from (suc m) b (s + k))
  unfolding count
  count_cells s t = sum_ext (suc t) _ _ (λ k l. each k)
    where
      each : (k : ℕ) → len_at (runs_of (suc m) b) ((s % suc m + k) % suc m) ≡ len_from (suc m) b (s + k)
      each k =
          ap (len_at (runs_of (suc m) b)) (mod-add-mod s (suc m) k)
          ∙ len_at_runs (suc m) b ((s + k) % suc m) (mod-lt (s + k) (omega arith))
          ∙ per_mod (suc m) (len_from (suc m) b) len_from_per (s + k)

  -- the run that starts at s, which may lie rounds ahead
  run_at : (s : ℕ) → starts (suc m) b s ≡ true → (r : Run) × Mem r (runs_of (suc m) b) × (r.start ≡ s % suc m)
  run_at s e =
      let r : Run = record { start = s % suc m; len = row b (suc m) (s % suc m) } in
      let at = per_mod (suc m) (starts (suc m) b) (starts_per (suc m) b per) s ∙ e in
      (r, (runs_iff (suc m) b r).1 (mod-lt s (omega arith), at, refl), refl)

  at_start : (s t : ℕ) → starts (suc m) b s ≡ true → blocked_in b s t ≤ interference_of (suc m) (runs_of (suc m) b) t
  unfolding interference_of
  at_start s t e =
      let (r, mem, at) = run_at s e in
      let counted : ℕ → ℕ = λ x. count (suc m) (runs_of (suc m) b) x t in
      omega (
        arith,
        largest_ge (λ q. counted q.start) (runs_of (suc m) b) r mem,
        ap counted at,
        count_cells s t,
        from_start s t e,
      )

  window_at_most : (a t : ℕ) → blocked_in b a t ≤ interference_of (suc m) (runs_of (suc m) b) t
  window_at_most a t = ⊎_elim (λ (off : b a ≡ false). ahead (forward t t a off)) behind_it (dichotomy (b a))
    where
      ahead : NoFewer (suc m) b a t ⊎ ((j : ℕ) → j < t → b (a + j) ≡ false)
          → blocked_in b a t ≤ interference_of (suc m) (runs_of (suc m) b) t
      ahead (inl (s, h, l)) = le_trans l (at_start s t h)
      ahead (inr h) = omega (arith, blocked_in_none b a t h)

      behind_it : b a ≡ true → blocked_in b a t ≤ interference_of (suc m) (runs_of (suc m) b) t
      behind_it on =
          let (k, q, e) = behind a on in
          let (s, h, l) = back t k e in
          let same = ap (λ (x : ℕ). blocked_in b x t) q ∙ blocked_in_per (suc m) b per a t in
          omega (arith, at_start s t h)

  blocked_has_run : (a : ℕ) → b a ≡ true → (r : Run) × Mem r (runs_of (suc m) b)
  blocked_has_run a e =
      let (k, q, on) = behind a e in
      let (s, h, l) = back 0 k on in
      let (r, mem, at) = run_at s h in
      (r, mem)

  owed_round : owed (0 + suc m) ≡ owed 0
  unfolding owed
  owed_round =
      ap₂ (λ (x : Bool) (y : ℕ). cond x y 0)
      (ap b (add_right_comm 0 (suc m) (suc m - 1)) ∙ per (0 + (suc m - 1))) (row_per (suc m) b per (suc m) 0)

  all_blocked : all_len (runs_of (suc m) b) ≡ blocked_in b 0 (suc m)
  all_blocked =
      sym (sum_len_at (suc m) (runs_of (suc m) b) (runs_below_lem (suc m) b))
      ∙ sum_ext (suc m) _ _ (λ k l. len_at_runs (suc m) b k l ∙ ap (len_from (suc m) b) (sym (zero-add k)))
      ∙ omega (arith, paid 0 (suc m), owed_round)

-- ---- every circle with a free cell

-- what holds of such a circle of n cells
pub record CoveredCells (n : ℕ) (b : ℕ → Bool) : Type 0 where
  pub at_most : (a t : ℕ) → blocked_in b a t ≤ interference_of n (runs_of n b) t
  pub some_run : (a : ℕ) → b a ≡ true → (r : Run) × Mem r (runs_of n b)
  pub whole : all_len (runs_of n b) ≡ blocked_in b 0 n

pub cells_covered : (n : ℕ) (b : ℕ → Bool) → Repeats n b → (f : ℕ) → f < n → b f ≡ false → CoveredCells n b
cells_covered zero b per f hf free = absurd (not-suc-le-zero hf)
cells_covered (suc m) b per f hf free =
    record {
      at_most = window_at_most m b per f hf free;
      some_run = blocked_has_run m b per f hf free;
      whole = all_blocked m b per f hf free;
    }

-- where there is a run, the largest count is met from the start of one
interference_met : (n : ℕ) (rs : List Run) (t : ℕ) (r : Run) → Mem r rs
    → (q : Run) × Mem q rs × (count n rs q.start t ≡ interference_of n rs t)
unfolding interference_of
interference_met n [] t r m = mem_none m
interference_met n (x ∷ rs) t r m =
    let (q, mq, e) = largest_met (λ q. count n (x ∷ rs) q.start t) x rs in
    (q, mq, sym e)

-- demand 3
pub covering : (g : Gate) (ss : List Slot) → has_free g ss ≡ true → Covering g ss
unfolding runs interference
covering g ss e =
    let (f, hf, free) = (free_cell g ss).0 e in
    let cells = cells_covered g.cycle (blocked g ss) (blocked_per g ss) f hf free in
    record {
      at_most = cells.at_most;
      met = λ c t on. let (r, m) = cells.some_run c on in interference_met g.cycle (runs g ss) t r m;
      whole = cells.whole;
    }

pub all_at_most_cycle : (g : Gate) (ss : List Slot) → has_free g ss ≡ true → all_len (runs g ss) ≤ g.cycle
all_at_most_cycle g ss e = omega (arith, (covering g ss e).whole, blocked_in_le (blocked g ss) 0 g.cycle)
