-- Slots in a chain: a cell is free where a gap is wide enough, and there are no more runs than slots.
-- Assumes nothing.
use mathlib.Core.Path.{◌≡◌, refl, ap, ◌∙◌}
use mathlib.Core.Logic.{◌↔◌, ◌⊎◌, inl, inr, ⊎_elim}
use mathlib.Core.Bool.{Bool, true, false, cond}
use mathlib.Core.List.Memᴰ
use mathlib.Core.List.{List, [], ◌∷◌, ◌++◌, append_assoc, append-nil, map-append}
use Prim.Native.Nat.{ℕ, suc, ◌+◌, ◌-◌, ◌*◌, ◌%◌, ◌≤◌, ◌<◌, zero-le}
use native.Mathlib.Nat.{le_refl, mod-lt, le-mul_of_pos_right, mul-mod_left}
use native.Mathlib.Omega.{arith}
use lib.ListN.{length, length-append}
use lib.Dec.{ltb}
use Rattle.laws.specs.Lists.{Mem}
use Rattle.laws.proofs.Lists.{mem_head, mem_none}
use Rattle.laws.proofs.Circle.{per_mod}
use Rattle.meaning.specs.declared.Gate.{Gate}
use Rattle.meaning.specs.declared.Slot.{Slot}
use Rattle.meaning.specs.declared.Run.{Run}
use Rattle.meaning.specs.Runs.{dist, blocked, has_free, runs_of, runs}
use Rattle.meaning.specs.Promises.{Chain, gaps_up_to, gaps}
use Rattle.meaning.proofs.Cells.{blocked_per, free_cell, starts_true, runs_iff}
use Rattle.meaning.proofs.Windows.{covering}
use Rattle.meaning.proofs.Chains.{later, last_end, chain_mem, last_append}
use Rattle.meaning.proofs.ChainCells.{reach_of, blocked_true, behind}
use Rattle.meaning.proofs.ChainRuns.{broken, run_of, run_at, chain_from, chain_runs, run_at_iff, found_iff}
use Rattle.meaning.proofs.ChainRuns.{chain_runs_lem}

-- ---- free cells and runs

-- every slot blocks a cell
slot_blocks : (g : Gate) (s : Slot) (ss : List Slot) → Chain 0 (s ∷ ss) g.cycle
    → (c : ℕ) × (blocked g (s ∷ ss) c ≡ true)
slot_blocks g s ss ok = (c, (blocked_true g (s ∷ ss) c).1 (s, mem_head s ss, omega (arith, at_start, ok.1)))
  where
    c : ℕ
    c = s.start + (g.guard * g.cycle - g.guard)

    b : (0 ≤ s.start) × (s.start < s.end) × (s.end ≤ g.cycle)
    b = chain_mem 0 (s ∷ ss) g.cycle ok s (mem_head s ss)

    at_start : dist g.cycle s.start (c + g.guard) ≡ 0
    at_start =
        let pos : 0 < g.cycle = omega (arith, b) in
        ap (λ (x : ℕ). x % g.cycle) (omega (arith, b, le-mul_of_pos_right g.guard pos))
        ∙ mul-mod_left (g.guard + 1) g.cycle

-- with a slot, some cell is free exactly where there is a run: the cell before it
free_is_run : (g : Gate) (s : Slot) (ss : List Slot) → Chain 0 (s ∷ ss) g.cycle
    → ((r : Run) × Mem r (runs g (s ∷ ss))) ↔ (has_free g (s ∷ ss) ≡ true)
unfolding runs
free_is_run g s ss ok = (free, run)
  where
    n : ℕ
    n = g.cycle

    b : ℕ → Bool
    b = blocked g (s ∷ ss)

    free : (r : Run) × Mem r (runs_of n b) → has_free g (s ∷ ss) ≡ true
    free (r, m) =
        let (h, e, l) = (runs_iff n b r).0 m in
        let off = per_mod n b (blocked_per g (s ∷ ss)) (r.start + (n - 1)) ∙ ((starts_true n b r.start).0 e).1 in
        (free_cell g (s ∷ ss)).1 ((r.start + (n - 1)) % n, mod-lt _ (omega arith), off)

    run : has_free g (s ∷ ss) ≡ true → (r : Run) × Mem r (runs_of n b)
    run e =
        let (c, on) = slot_blocks g s ss ok in
        let (r, m, q) = (covering g (s ∷ ss) e).met c 0 on in
        (r, m)

-- the same, of the runs by gaps
pub free_has_run : (g : Gate) (s : Slot) (post : List Slot) → Chain 0 (s ∷ post) g.cycle
    → ((r : Run) × Mem r (chain_runs g (s ∷ post))) ↔ (has_free g (s ∷ post) ≡ true)
free_has_run g s post ok = rw (chain_runs_lem g (s ∷ post) ok) (free_is_run g s post ok)

-- ---- free cells and gaps

-- some gap is wider than k
abbrev Wide : ℕ → List ℕ → Type 0
Wide k xs = (x : ℕ) × Mem x xs × (k < x)

-- around the circle the last slot before the gap ends last
pub gap_last : (g : Gate) (e : ℕ) (pre : List Slot) (y : Slot) (post : List Slot)
    → last_end e (behind g (pre ++ y ∷ []) post) ≡ y.end + g.cycle
unfolding last_end
gap_last g e pre y post =
    rw (map-append (later g.cycle) pre (y ∷ []), ← append_assoc)
    (last_append e (behind g pre post) (later g.cycle y) [])

-- behind y, some gap is wide exactly where a run is found, or the gap up to the close is wide
gap_found : (g : Gate) (close : ℕ) (pre : List Slot) (y : Slot) (post : List Slot)
    → Wide (reach_of g) (gaps_up_to close (y ∷ post))
    ↔ (((r : Run) × Mem r (chain_from g (pre ++ y ∷ []) post)) ⊎ (last_end y.end post + reach_of g < close))
unfolding gaps_up_to chain_from last_end
gap_found g close pre y [] = (
  λ (x, m, h). let e = Memᴰ.eq_of_singleton m in inr (omega arith),
  ⊎_elim (λ (r, m). mem_none m) (λ h. (close - y.end, mem_head (close - y.end) [], omega arith)),
)
gap_found g close pre y (t ∷ post) =
    let on = pre ++ y ∷ [] in
    let end = gap_last g t.end pre y post in
    let first = run_at_iff g on t post in
    let rest = gap_found g close on t post in (
      λ (x, m, h).
          ⊎_elim
          (λ (e : x ≡ t.start - y.end). inl (run_of g on t post, Memᴰ.append_left _ ((first _).1 (omega arith, refl))))
          (λ (k : Mem x (gaps_up_to close (t ∷ post))).
          ⊎_elim (λ (r, j). inl (r, Memᴰ.append_right (run_at g on t post) j)) inr (rest.0 (x, k, h)))
          (Memᴰ.cases_cons m),
      ⊎_elim
          (λ (r, m).
          ⊎_elim
          (λ (j : Mem r (run_at g on t post)).
          let (gap, e) = (first r).0 j in (t.start - y.end, mem_head _ _, omega arith))
          (λ (j : Mem r (chain_from g (on ++ t ∷ []) post)).
          let (x, k, h) = rest.1 (inl (r, j)) in (x, Memᴰ.tail k, h))
          (Memᴰ.append_cases (run_at g on t post) m))
          (λ l. let (x, k, h) = rest.1 (inr l) in (x, Memᴰ.tail k, h)),
    )

-- some cell is free exactly where some gap is over guard + header
pub free_by_gap : (g : Gate) (s : Slot) (ss : List Slot) → Chain 0 (s ∷ ss) g.cycle
    → has_free g (s ∷ ss) ≡ true ↔ ((x : ℕ) × Mem x (gaps g.cycle (s ∷ ss)) × (g.guard + g.header < x))
unfolding gaps chain_from runs
free_by_gap g s ss ok =
    let free = free_is_run g s ss ok in
    let found = found_iff g (s ∷ ss) ok in
    let run = runs_iff g.cycle (blocked g (s ∷ ss)) in
    let first = run_at_iff g [] s ss in
    let wide = gap_found g (s.start + g.cycle) [] s ss in (
      λ e.
          let (r, m) = free.1 e in
          ⊎_elim (λ (j : Mem r (run_at g [] s ss)). wide.1 (inr (rw append-nil at ((first r).0 j).0)))
          (λ (j : Mem r (chain_from g (s ∷ []) ss)). wide.1 (inl (r, j)))
          (Memᴰ.append_cases (run_at g [] s ss) ((found r).1 ((run r).0 m))),
      λ w.
          let (r, m) : (r : Run) × Mem r (chain_from g [] (s ∷ ss)) =
          ⊎_elim (λ (r, j). (r, Memᴰ.append_right (run_at g [] s ss) j))
          (λ l. (run_of g [] s ss, Memᴰ.append_left _ ((first _).1 (rw append-nil l, refl)))) (wide.0 w) in
          free.0 (r, (run r).1 ((found r).0 m)),
    )

-- ---- how many runs

run_at_few : (g : Gate) (pre : List Slot) (s : Slot) (post : List Slot) → length (run_at g pre s post) ≤ 1
unfolding run_at
run_at_few g pre s post = go (broken g pre s post)
  where
    go : (x : Bool) → length (cond x (run_of g pre s post ∷ []) []) ≤ 1
    go true = le_refl 1
    go false = zero-le

found_few : (g : Gate) (pre post : List Slot) → length (chain_from g pre post) ≤ length post
unfolding chain_from
found_few g pre [] = zero-le
found_few g pre (s ∷ post) =
    simp length-append (omega (arith, run_at_few g pre s post, found_few g (pre ++ s ∷ []) post))

-- no more runs than slots
pub runs_few : (g : Gate) (ss : List Slot) → Chain 0 ss g.cycle → length (runs g ss) ≤ length ss
unfolding chain_runs
runs_few g [] ok = rw (← chain_runs_lem g [] ok) zero-le
runs_few g (s ∷ post) ok = rw (← chain_runs_lem g (s ∷ post) ok) (go (ltb s.start g.guard))
  where
    go : (x : Bool)
        → length (cond x (chain_from g (s ∷ []) post ++ run_at g [] s post) (chain_from g [] (s ∷ post)))
        ≤ suc (length post)
    go true = simp length-append (omega (arith, run_at_few g [] s post, found_few g (s ∷ []) post))
    go false = found_few g [] (s ∷ post)
