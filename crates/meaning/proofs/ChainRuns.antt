-- Slots in a chain: the runs by cyclic gaps are the runs of the cells.
-- Assumes nothing.
use mathlib.Core.Path.{◌≡◌, refl, sym, ap, ◌∙◌, subst}
use mathlib.Core.Logic.{◌↔◌, ⊎_elim, by_cases}
use mathlib.Core.Bool.{Bool, true, false, cond}
use mathlib.Core.List.Memᴰ
use mathlib.Core.List.{List, [], ◌∷◌, ◌++◌, append_assoc}
use Prim.Native.Nat.{ℕ, ◌+◌, ◌-◌, ◌%◌, ◌≤◌, ◌<◌}
use native.Mathlib.Nat.{add-zero, mod-lt, mod-add-mod, add-mod_right, mod-eq_of_lt}
use native.Mathlib.Decide.{dec_lt, ℕ_discrete}
use native.Mathlib.Omega.{arith}
use lib.Dec.{ltb}
use borrow.Author.Tests.{ltb-true, ltb-false, lt-ltb}
use Rattle.laws.specs.Lists.{Mem, RisingBy}
use Rattle.laws.proofs.Lists.{mem_head, mem_none}
use Rattle.laws.proofs.Circle.{mod_once, at_dist}
use Rattle.laws.proofs.Keeping.{mem_swap, rising_append}
use Rattle.meaning.specs.declared.Gate.{Gate}
use Rattle.meaning.specs.declared.Slot.{Slot}
use Rattle.meaning.specs.declared.Run.{Run}
use Rattle.meaning.specs.Runs.{dist, blocked, starts, row, runs_of, runs}
use Rattle.meaning.specs.Promises.{Chain}
use Rattle.meaning.proofs.Cells.{IsRun, starts_true, runs_unique}
use Rattle.meaning.proofs.Chains.{last_end, chain_mem}
use Rattle.meaning.proofs.ChainCells.{reach_of, Hit, Reached, blocked_true, blocked_false, reached_mod, behind}
use Rattle.meaning.proofs.ChainCells.{Gap, stop_of, cell_of, no_gap, gap_before, guard_lt, run_starts, run_len}

-- ---- the runs by gaps: they look at slots only, never at cells

-- the gap before s is wider than the reach, counted around the circle from the slots behind s
unfoldable pub broken : Gate → List Slot → Slot → List Slot → Bool
broken g pre s post = ltb (last_end s.end (behind g pre post) + reach_of g) (s.start + g.cycle)

-- the run that starts with s, as far as slots hang together
unfoldable pub run_of : Gate → List Slot → Slot → List Slot → Run
run_of g pre s post = record { start = cell_of g s; len = stop_of g pre s post - s.start }

-- none where s hangs together with the slot before it
unfoldable pub run_at : Gate → List Slot → Slot → List Slot → List Run
run_at g pre s post = cond (broken g pre s post) (run_of g pre s post ∷ []) []

-- the runs that start with the slots post, which stand after the slots pre
unfoldable pub chain_from : Gate → List Slot → List Slot → List Run
chain_from g pre [] = []
chain_from g pre (s ∷ post) = run_at g pre s post ++ chain_from g (pre ++ s ∷ []) post

-- by rising start: the run of the first slot comes last where its guard reaches back over the cycle's end
unfoldable pub chain_runs : Gate → List Slot → List Run
chain_runs g [] = []
chain_runs g (s ∷ post) =
    cond (ltb s.start g.guard) (chain_from g (s ∷ []) post ++ run_at g [] s post) (chain_from g [] (s ∷ post))

-- ---- one slot

-- a run is found with s exactly where the gap before s is that wide
pub run_at_iff : (g : Gate) (pre : List Slot) (s : Slot) (post : List Slot) (r : Run)
    → Mem r (run_at g pre s post) ↔ (Gap g pre s post × (r ≡ run_of g pre s post))
unfolding run_at broken
run_at_iff g pre s post r = (to (broken g pre s post) refl, λ (h, e). rw (lt-ltb _ _ h) (Memᴰ.head e))
  where
    to : (x : Bool) → broken g pre s post ≡ x → Mem r (cond x (run_of g pre s post ∷ []) [])
        → Gap g pre s post × (r ≡ run_of g pre s post)
    to true e m = (ltb-true _ _ e, Memᴰ.eq_of_singleton m)
    to false e m = mem_none m

run_of_is_run : (g : Gate) (pre : List Slot) (s : Slot) (post : List Slot) → Chain 0 (pre ++ s ∷ post) g.cycle
    → Gap g pre s post → IsRun g.cycle (blocked g (pre ++ s ∷ post)) (run_of g pre s post)
unfolding run_of
run_of_is_run g pre s post ok gap = (
  mod-lt _ (omega (arith, guard_lt g pre s post ok gap)),
  run_starts g pre s post ok gap,
  sym (run_len g pre s post ok gap),
)

-- ---- every start is a slot's, with a place before it that is not in reach

start_slot : (g : Gate) (ss : List Slot) → Chain 0 ss g.cycle
    → (c : ℕ) → c < g.cycle → starts g.cycle (blocked g ss) c ≡ true
    → (z : Slot) × Mem z ss × (c ≡ cell_of g z) × ¬ Reached g ss (z.start + g.cycle - 1)
start_slot g ss ok c hc e =
    (z, m, cell, λ r. off (reached_mod g ss (z.start + n - 1) (c + (n - 1) + g.guard) (sym places) r))
  where
    n : ℕ
    n = g.cycle

    both : (blocked g ss c ≡ true) × (blocked g ss (c + (g.cycle - 1)) ≡ false)
    both = (starts_true g.cycle (blocked g ss) c).0 e

    on : Reached g ss (c + g.guard)
    on = (blocked_true g ss c).0 both.0

    off : ¬ Reached g ss (c + (g.cycle - 1) + g.guard)
    off = (blocked_false g ss (c + (g.cycle - 1))).0 both.1

    z : Slot
    z = on.0

    m : Mem z ss
    m = on.1

    bounds : (0 ≤ z.start) × (z.start < z.end) × (z.end ≤ g.cycle)
    bounds = chain_mem 0 ss g.cycle ok z m

    -- the distance from its start, here and one place before
    d : ℕ
    d = dist g.cycle z.start (c + g.guard)

    before : dist g.cycle z.start (c + (g.cycle - 1) + g.guard) ≡ (d + (g.cycle - 1)) % g.cycle
    before =
        ap (λ (x : ℕ). x % n) (omega arith) ∙ sym (mod-add-mod (c + g.guard + (n - z.start)) n (n - 1))

    wide : z.end - z.start + reach_of g ≤ (d + (g.cycle - 1)) % g.cycle
    wide = let h : ¬ Hit g z (c + (n - 1) + g.guard) = λ h. off (z, m, h) in omega (arith, before)

    d_zero : d ≡ 0
    d_zero =
        by_cases (ℕ_discrete d 0) (λ h. h)
        (λ h. absurd
        (let l = mod-lt (c + g.guard + (n - z.start)) {m = n} (omega arith) in
        let f = mod_once n (d + (n - 1)) (omega arith) (omega arith) in omega (arith, wide, on.2)))

    guard_small : g.guard < g.cycle
    guard_small = omega (arith, mod-lt (d + (n - 1)) {m = n} (omega arith), wide)

    at : (c + g.guard) % g.cycle ≡ z.start
    at =
        sym
        ((at_dist n z.start ((c + g.guard) % n) 0 (omega (arith, bounds)) (mod-lt _ (omega arith)) (omega arith)).1
        (sym (mod-add-mod (c + g.guard) n (n - z.start) ∙ d_zero)))
        ∙ rw add-zero (mod-eq_of_lt (omega (arith, bounds)))

    cell : c ≡ cell_of g z
    cell =
        sym
        (ap (λ (x : ℕ). (x + (n - g.guard)) % n) (sym at) ∙ mod-add-mod (c + g.guard) n (n - g.guard)
        ∙ ap (λ (x : ℕ). x % n) (omega (arith, guard_small)) ∙ add-mod_right c n ∙ mod-eq_of_lt hc)

    places : (c + (g.cycle - 1) + g.guard) % g.cycle ≡ (z.start + g.cycle - 1) % g.cycle
    places =
        ap (λ (x : ℕ). x % n) (omega arith) ∙ sym (mod-add-mod (c + g.guard) n (n - 1))
        ∙ ap (λ (x : ℕ). (x + (n - 1)) % n) at ∙ ap (λ (x : ℕ). x % n) (omega arith)

-- ---- all slots

-- each run found is a run of the cells; it starts with a slot, and the slots before those looked at end well before
found_is : (g : Gate) (pre post : List Slot) → Chain 0 (pre ++ post) g.cycle
    → (r : Run) → Mem r (chain_from g pre post)
    → IsRun g.cycle (blocked g (pre ++ post)) r
    × ((z : Slot) × Mem z post × (r.start ≡ cell_of g z) × ((q : Slot) → Mem q pre → q.end + reach_of g < z.start))
unfolding chain_from run_of
found_is g pre [] ok r m = mem_none m
found_is g pre (s ∷ post) ok r m =
    ⊎_elim
    (λ (j : Mem r (run_at g pre s post)).
    let (gap, e) = (run_at_iff g pre s post r).0 j in (
      subst (IsRun g.cycle (blocked g (pre ++ s ∷ post))) (sym e) (run_of_is_run g pre s post ok gap),
      (s, mem_head s post, ap (λ (x : Run). x.start) e, gap_before g pre s post ok gap),
    ))
    (λ (j : Mem r (chain_from g (pre ++ s ∷ []) post)).
    let (i, (z, k, e, f)) = found_is g (pre ++ s ∷ []) post (rw append_assoc ok) r j in
    (rw append_assoc at i, (z, Memᴰ.tail k, e, λ q l. f q (Memᴰ.append_left (s ∷ []) l))))
    (Memᴰ.append_cases (run_at g pre s post) m)

-- a slot with a place before it that is not in reach starts a run found
slot_found : (g : Gate) (pre post : List Slot) → Chain 0 (pre ++ post) g.cycle → (z : Slot) → Mem z post
    → ¬ Reached g (pre ++ post) (z.start + g.cycle - 1)
    → (r : Run) × Mem r (chain_from g pre post) × (r.start ≡ cell_of g z)
unfolding chain_from run_of
slot_found g pre [] ok z m off = mem_none m
slot_found g pre (s ∷ post) ok z m off =
    ⊎_elim
    (λ (e : z ≡ s).
    let gap =
    by_cases (dec_lt (last_end s.end (behind g pre post) + reach_of g) (s.start + g.cycle)) (λ h. h)
    (λ h. absurd (off (rw e (no_gap g pre s post ok h)))) in
    (run_of g pre s post, Memᴰ.append_left _ ((run_at_iff g pre s post _).1 (gap, refl)), ap (cell_of g) (sym e)))
    (λ (k : Mem z post).
    let (r, j, e) = slot_found g (pre ++ s ∷ []) post (rw append_assoc ok) z k (rw append_assoc off) in
    (r, Memᴰ.append_right (run_at g pre s post) j, e))
    (Memᴰ.cases_cons m)

-- all runs of the cells are found, and nothing else
pub found_iff : (g : Gate) (ss : List Slot) → Chain 0 ss g.cycle → (r : Run)
    → Mem r (chain_from g [] ss) ↔ IsRun g.cycle (blocked g ss) r
found_iff g ss ok r = (λ m. (found_is g [] ss ok r m).0, has)
  where
    has : IsRun g.cycle (blocked g ss) r → Mem r (chain_from g [] ss)
    has (h, e, l) =
        let (z, m, c, off) = start_slot g ss ok r.start h e in
        let (x, k, d) = slot_found g [] ss ok z m off in
        let same : r.start ≡ x.start = c ∙ sym d in
        let len : r.len ≡ x.len =
        l ∙ ap (row (blocked g ss) g.cycle) same ∙ sym (found_is g [] ss ok x k).0.2 in
        Memᴰ.cast (λ i. record { start = same i; len = len i }) k

-- ---- by rising start

run_at_rises : (g : Gate) (pre : List Slot) (s : Slot) (post : List Slot)
    → RisingBy (λ r. r.start) (run_at g pre s post)
unfolding run_at
run_at_rises g pre s post = go (broken g pre s post)
  where
    go : (x : Bool) → RisingBy (λ (r : Run). r.start) (cond x (run_of g pre s post ∷ []) [])
    go true = (λ q m. mem_none m, tt)
    go false = tt

cell_before : (g : Gate) (s : Slot) → g.guard ≤ s.start → s.start < g.cycle → cell_of g s + g.guard ≡ s.start
cell_before g s a b = omega (arith, mod_once g.cycle (s.start + (g.cycle - g.guard)) (omega arith) (omega arith))

-- behind a slot, runs start as far before their slots as the guard reaches
found_start : (g : Gate) (pre post : List Slot) → Chain 0 (pre ++ post) g.cycle → (q : Slot) → Mem q pre
    → (r : Run) → Mem r (chain_from g pre post)
    → (z : Slot) × Mem z post × (r.start + g.guard ≡ z.start) × (q.end < z.start) × (z.start < g.cycle)
found_start g pre post ok q mq r m =
    let (i, (z, k, e, before)) = found_is g pre post ok r m in
    let b = chain_mem 0 (pre ++ post) g.cycle ok z (Memᴰ.append_right pre k) in
    let f = before q mq in
    (z, k, omega (arith, cell_before g z (omega arith) (omega arith)), omega arith, omega arith)

found_rises : (g : Gate) (pre post : List Slot) → Chain 0 (pre ++ post) g.cycle → (q : Slot) → Mem q pre
    → RisingBy (λ r. r.start) (chain_from g pre post)
unfolding chain_from run_of
found_rises g pre [] ok q m = tt
found_rises g pre (s ∷ post) ok q m =
    rising_append (λ r. r.start) (run_at g pre s post) (chain_from g (pre ++ s ∷ []) post)
    (run_at_rises g pre s post)
    (found_rises g (pre ++ s ∷ []) post (rw append_assoc ok) q (Memᴰ.append_left (s ∷ []) m))
    (λ x y i j.
    let (gap, e) = (run_at_iff g pre s post x).0 i in
    let c = chain_mem 0 (pre ++ s ∷ post) g.cycle ok s (Memᴰ.append_right pre (mem_head s post)) in
    let a = gap_before g pre s post ok gap q m in
    let b = cell_before g s (omega arith) (omega arith) in
    let mem = Memᴰ.append_right pre (mem_head s []) in
    let (z, k, f, l, h) = found_start g (pre ++ s ∷ []) post (rw append_assoc ok) s mem y j in
    omega (arith, ap (λ (r : Run). r.start) e))

-- the runs by gaps are the runs of the cells
pub chain_runs_lem : (g : Gate) (ss : List Slot) → Chain 0 ss g.cycle → chain_runs g ss ≡ runs g ss
unfolding chain_runs chain_from run_of runs
chain_runs_lem g [] ok = runs_unique g.cycle (blocked g []) [] tt (found_iff g [] ok)
chain_runs_lem g (s ∷ post) ok = go (ltb s.start g.guard) refl
  where
    first : List Run
    first = run_at g [] s post

    rest : List Run
    rest = chain_from g (s ∷ []) post

    found : (r : Run) → Mem r (first ++ rest) ↔ IsRun g.cycle (blocked g (s ∷ post)) r
    found = found_iff g (s ∷ post) ok

    first_start_lem : (r : Run) → Mem r first → (r.start ≡ cell_of g s) × (g.guard < g.cycle)
    first_start_lem r m =
        let (gap, e) = (run_at_iff g [] s post r).0 m in
        (ap (λ (x : Run). x.start) e, guard_lt g [] s post ok gap)

    rest_start : (r : Run) → Mem r rest → (s.start < r.start + g.guard) × (r.start + g.guard < g.cycle)
    rest_start r m =
        let (z, k, e, l, h) = found_start g (s ∷ []) post ok s (mem_head s []) r m in
        (omega (arith, ok.1), omega arith)

    first_rises : RisingBy (λ r. r.start) first
    first_rises = run_at_rises g [] s post

    rest_rises : RisingBy (λ r. r.start) rest
    rest_rises = found_rises g (s ∷ []) post ok s (mem_head s [])

    go : (x : Bool) → ltb s.start g.guard ≡ x
        → cond x (rest ++ first) (first ++ rest) ≡ runs_of g.cycle (blocked g (s ∷ post))
    go true e =
        runs_unique g.cycle (blocked g (s ∷ post)) (rest ++ first)
        (rising_append (λ r. r.start) rest first rest_rises first_rises
        (λ x y i j.
        let l = ltb-true s.start g.guard e in
        let (a, b) = first_start_lem y j in
        let c = mod-eq_of_lt {n = s.start + (g.cycle - g.guard)} {m = g.cycle} (omega arith) in
        omega (arith, rest_start x i)))
        (λ r. (λ m. (found r).0 (mem_swap rest first m), λ h. mem_swap first rest ((found r).1 h)))
    go false e =
        runs_unique g.cycle (blocked g (s ∷ post)) (first ++ rest)
        (rising_append (λ r. r.start) first rest first_rises rest_rises
        (λ x y i j.
        let l = ltb-false s.start g.guard e in
        let (a, b) = first_start_lem x i in
        let c = rest_start y j in
        omega (arith, cell_before g s l (omega arith))))
        found
