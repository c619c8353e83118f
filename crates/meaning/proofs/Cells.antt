-- The cells of a circle: they repeat, some are free, and the runs are what document 01 says of them.
-- Assumes nothing.
use mathlib.Core.Path.{◌≡◌, refl, sym, ap, ap₂, ◌∙◌}
use mathlib.Core.Logic.{◌↔◌, ⊎_elim, by_cases}
use mathlib.Core.Bool.{Bool, true, false, not, cond, ◌&&◌}
use mathlib.Core.List.Memᴰ
use mathlib.Core.List.{List, [], ◌∷◌}
use Prim.Native.Nat.{ℕ, zero, suc, ◌+◌, ◌-◌, ◌%◌, ◌≤◌, ◌<◌}
use native.Mathlib.Nat.{mod-le, mod-add-mod, add-mod_right, add_right_comm, not-suc-le-zero}
use native.Mathlib.Decide.{ℕ_discrete}
use native.Mathlib.Omega.{arith}
use lib.Dec.{ltb}
use borrow.Author.Tests.{ltb-true, lt-ltb, not-true}
use Rattle.laws.specs.Lists.{any, Mem, RisingBy}
use Rattle.laws.proofs.Lists.{and-true, any_false, mem_none, rising_unique}
use Rattle.laws.proofs.Keeping.{rising_append}
use Rattle.laws.proofs.Numbers.{any_below_true}
use Rattle.meaning.specs.declared.Gate.{Gate}
use Rattle.meaning.specs.declared.Slot.{Slot}
use Rattle.meaning.specs.declared.Run.{Run}
use Rattle.meaning.specs.Runs.{dist, blocks, blocked, has_free, starts, row, runs_below, runs_of}
use Rattle.meaning.proofs.Counts.{Below}

-- ---- blocked cells and free ones

blocks_per : (g : Gate) (s : Slot) (c : ℕ) → blocks g s (c + g.cycle) ≡ blocks g s c
unfolding blocks
blocks_per g s c =
    ap (λ (d : ℕ). ltb d (s.end - s.start + g.guard + g.header))
    (ap (λ (x : ℕ). x % g.cycle) (omega arith) ∙ add-mod_right (c + g.guard + (g.cycle - s.start)) g.cycle)

-- cell c and cell c + cycle are one cell
pub blocked_per : (g : Gate) (ss : List Slot) (c : ℕ) → blocked g ss (c + g.cycle) ≡ blocked g ss c
unfolding blocked
blocked_per g ss c = λ i. any (λ s. blocks_per g s c i) ss

pub free_cell : (g : Gate) (ss : List Slot)
    → has_free g ss ≡ true ↔ ((f : ℕ) × (f < g.cycle) × (blocked g ss f ≡ false))
unfolding has_free
free_cell g ss =
    let below = any_below_true g.cycle (λ c. not (blocked g ss c)) in
    (λ e. let (f, h, q) = below.0 e in (f, h, not-true (blocked g ss f) q), λ (f, h, q). below.1 (f, h, ap not q))

pub no_slots_free : (g : Gate) → 0 < g.cycle → has_free g [] ≡ true
unfolding blocked any
no_slots_free g h = (free_cell g []).1 (0, h, refl)

-- a cell that is free of some slots is free of fewer
pub fewer_slots_free : (g : Gate) (ss ts : List Slot) → ((s : Slot) → Mem s ts → Mem s ss)
    → has_free g ss ≡ true → has_free g ts ≡ true
unfolding blocked
fewer_slots_free g ss ts among e =
    let (f, h, q) = (free_cell g ss).0 e in
    let each = (any_false (λ s. blocks g s f) ss).0 q in
    (free_cell g ts).1 (f, h, (any_false (λ s. blocks g s f) ts).1 (λ s m. each s (among s m)))

-- A slot blocks cell c exactly where c, after some whole rounds, lies from start - guard up to, not including,
-- end + header. The place y has the guard added to it, so that it is not negative.
pub blocks_literal : (g : Gate) (s : Slot) (c : ℕ) → s.start < s.end → s.end ≤ g.cycle
    → (blocks g s c ≡ true)
    ↔ ((y : ℕ) × (s.start ≤ y) × (y < s.end + g.header + g.guard) × (y % g.cycle ≡ (c + g.guard) % g.cycle))
unfolding blocks
blocks_literal g s c h l = (to, from)
  where
    n : ℕ
    n = g.cycle

    at : ℕ
    at = c + g.guard

    to : ltb (dist n s.start at) (s.end - s.start + g.guard + g.header) ≡ true
        → (y : ℕ) × (s.start ≤ y) × (y < s.end + g.header + g.guard) × (y % n ≡ at % n)
    to e =
        let k = ltb-true (dist n s.start at) _ e in (
          dist n s.start at + s.start,
          omega arith,
          omega arith,
          mod-add-mod (at + (n - s.start)) n s.start ∙ ap (λ (x : ℕ). x % n) (omega arith) ∙ add-mod_right at n,
        )

    apart : (y : ℕ) → s.start ≤ y → y % n ≡ at % n → dist n s.start at ≡ (y - s.start) % n
    apart y a e =
        sym (mod-add-mod at n (n - s.start)) ∙ ap (λ (x : ℕ). (x + (n - s.start)) % n) (sym e)
        ∙ mod-add-mod y n (n - s.start) ∙ ap (λ (x : ℕ). x % n) (omega arith) ∙ add-mod_right (y - s.start) n

    from : (y : ℕ) × (s.start ≤ y) × (y < s.end + g.header + g.guard) × (y % n ≡ at % n)
        → ltb (dist n s.start at) (s.end - s.start + g.guard + g.header) ≡ true
    from (y, a, b, e) = lt-ltb (dist n s.start at) _ (omega (arith, apart y a e, mod-le (y - s.start) n))

-- ---- where a run starts, and how long it is

-- b repeats every n cells
abbrev pub Repeats : ℕ → (ℕ → Bool) → Type 0
Repeats n b = (c : ℕ) → b (c + n) ≡ b c

module _ (n : ℕ) (b : ℕ → Bool) where
  -- at a blocked cell whose predecessor is free
  pub starts_true : (c : ℕ) → starts n b c ≡ true ↔ ((b c ≡ true) × (b (c + (n - 1)) ≡ false))
  unfolding starts
  starts_true c = (to, λ (on, off). rw (on, off))
    where
      to : (b c && not (b (c + (n - 1)))) ≡ true → (b c ≡ true) × (b (c + (n - 1)) ≡ false)
      to e = let (on, off) = and-true (b c) (not (b (c + (n - 1)))) e in (on, not-true (b (c + (n - 1))) off)

  -- where the cells repeat, so do the starts
  pub starts_per : Repeats n b → (c : ℕ) → starts n b (c + n) ≡ starts n b c
  unfolding starts
  starts_per per c =
      ap₂ (λ (x y : Bool). x && not y) (per c) (ap b (add_right_comm c n (n - 1)) ∙ per (c + (n - 1)))

pub row_true : (b : ℕ → Bool) (k c : ℕ) → b c ≡ true → row b (suc k) c ≡ suc (row b k (suc c))
unfolding row
row_true b k c e = rw (e, row)

pub row_false : (b : ℕ → Bool) (k c : ℕ) → b c ≡ false → row b (suc k) c ≡ 0
unfolding row
row_false b k c e = rw (e, row)

-- ---- the runs of a circle

-- r is a run of the circle
abbrev pub IsRun : ℕ → (ℕ → Bool) → Run → Type 0
IsRun n b r = (r.start < n) × (starts n b r.start ≡ true) × (r.len ≡ row b n r.start)

-- the run from cell k on, where one starts
abbrev pub run_if : Bool → ℕ → (ℕ → Bool) → ℕ → List Run
run_if x n b k = cond x (record { start = k; len = row b n k } ∷ []) []

module _ (n : ℕ) (b : ℕ → Bool) where
  at_iff : (k : ℕ) (r : Run)
      → Mem r (run_if (starts n b k) n b k)
      ↔ ((r.start ≡ k) × (starts n b r.start ≡ true) × (r.len ≡ row b n r.start))
  at_iff k r = (to (starts n b k) refl, from)
    where
      to : (x : Bool) → starts n b k ≡ x → Mem r (run_if x n b k)
          → (r.start ≡ k) × (starts n b r.start ≡ true) × (r.len ≡ row b n r.start)
      to false e m = mem_none m
      to true e m =
          let q = Memᴰ.eq_of_singleton m in
          let at : r.start ≡ k = ap (λ (x : Run). x.start) q in
          (at, ap (starts n b) at ∙ e, ap (λ (x : Run). x.len) q ∙ ap (row b n) (sym at))

      from : (r.start ≡ k) × (starts n b r.start ≡ true) × (r.len ≡ row b n r.start)
          → Mem r (run_if (starts n b k) n b k)
      from (at, e, l) =
          rw (sym (ap (starts n b) at) ∙ e)
          (Memᴰ.head (λ i. record { start = at i; len = (l ∙ ap (row b n) at) i }))

  below_iff : (k : ℕ) (r : Run)
      → Mem r (runs_below n b k) ↔ ((r.start < k) × (starts n b r.start ≡ true) × (r.len ≡ row b n r.start))
  unfolding runs_below
  below_iff zero r = (λ m. mem_none m, λ h. absurd (not-suc-le-zero h.0))
  below_iff (suc k) r = (
    λ m.
        ⊎_elim (λ (j : Mem r (runs_below n b k)). let h = (below_iff k r).0 j in (omega arith, h.1, h.2))
        (λ (j : Mem r (run_if (starts n b k) n b k)). let h = (at_iff k r).0 j in (omega arith, h.1, h.2))
        (Memᴰ.append_cases (runs_below n b k) m),
    λ (h, e, l).
        by_cases (ℕ_discrete r.start k)
        (λ at. Memᴰ.append_right (runs_below n b k) ((at_iff k r).1 (at, e, l)))
        (λ ne. Memᴰ.append_left (run_if (starts n b k) n b k) ((below_iff k r).1 (omega arith, e, l))),
  )

  -- the list holds the runs and nothing else
  pub runs_iff : (r : Run) → Mem r (runs_of n b) ↔ IsRun n b r
  unfolding runs_of
  runs_iff r = below_iff n r

  pub runs_below_lem : Below n (runs_of n b)
  runs_below_lem r m = ((runs_iff r).0 m).0

  pub runs_long : (r : Run) → Mem r (runs_of n b) → 0 < r.len
  runs_long r m =
      let (h, e, l) = (runs_iff r).0 m in
      omega (arith, row_long n r.start h ((starts_true n b r.start).0 e).0)
    where
      row_long : (k c : ℕ) → c < k → b c ≡ true → 0 < row b k c
      row_long zero c h e = absurd (not-suc-le-zero h)
      row_long (suc k) c h e = omega (arith, row_true b k c e)

  one_rises : (x : Bool) (k : ℕ) → RisingBy (λ (r : Run). r.start) (run_if x n b k)
  one_rises true k = (λ r m. mem_none m, tt)
  one_rises false k = tt

  below_rise : (k : ℕ) → RisingBy (λ r. r.start) (runs_below n b k)
  unfolding runs_below
  below_rise zero = tt
  below_rise (suc k) =
      rising_append (λ r. r.start) (runs_below n b k) (run_if (starts n b k) n b k) (below_rise k)
      (one_rises (starts n b k) k) (λ r q i j. omega (arith, (below_iff k r).0 i, (at_iff k q).0 j))

  pub runs_rise : RisingBy (λ r. r.start) (runs_of n b)
  unfolding runs_of
  runs_rise = below_rise n

  -- no other list by rising start does
  pub runs_unique : (rs : List Run) → RisingBy (λ r. r.start) rs → ((r : Run) → Mem r rs ↔ IsRun n b r)
      → rs ≡ runs_of n b
  runs_unique rs h each =
      rising_unique (λ r. r.start) rs (runs_of n b) h runs_rise (λ r m. (runs_iff r).1 ((each r).0 m))
      (λ r m. (each r).1 ((runs_iff r).0 m))
