-- The runs found in one walk along the slots are the blocked runs.
-- Assumes nothing.
use mathlib.Core.Path.{◌≡◌, refl, sym, ap, ◌∙◌}
use mathlib.Core.Logic.{◌↔◌}
use mathlib.Core.Bool.{Bool, true, false, not, cond, ◌||◌}
use mathlib.Core.List.{List, [], ◌∷◌, ◌++◌, append_assoc, append-nil}
use Prim.Native.Nat.{ℕ, suc, ◌+◌, ◌-◌, ◌≤◌, ◌<◌, zero-le}
use native.Mathlib.Nat.{mod-eq_of_lt}
use native.Mathlib.Omega.{arith}
use lib.ListN.{length}
use lib.Dec.{leb, ltb}
use borrow.Author.Tests.{leb-true, leb-false, le-leb, lt-leb, ltb-true, ltb-false, lt-ltb, le-ltb}
use Rattle.laws.specs.Lists.{Mem, any}
use Rattle.laws.proofs.Lists.{mem_head, mem_none}
use Rattle.laws.proofs.Circle.{mod_once}
use Rattle.laws.proofs.Keeping.{mem_swap}
use Rattle.laws.proofs.Numbers.{any_below_true}
use Rattle.meaning.specs.declared.Gate.{Gate}
use Rattle.meaning.specs.declared.Slot.{Slot}
use Rattle.meaning.specs.declared.Run.{Run}
use Rattle.meaning.specs.Runs.{blocked, has_free, runs}
use Rattle.meaning.specs.Promises.{Chain}
use Rattle.meaning.proofs.Chains.{up, last_end, hang_end, chain_split, chain_le, last_is, hang_last}
use Rattle.meaning.proofs.ChainCells.{reach_of, behind, Gap, cell_of, gap_before, guard_lt}
use Rattle.meaning.proofs.ChainRuns.{broken, run_of, run_at, chain_from, chain_runs, chain_runs_lem}
use Rattle.meaning.proofs.ChainFree.{gap_last, free_has_run}
use Rattle.gate.specs.Walks.{run_with, run_if, walked}

-- where the first slot starts, and the end of the last slot that hangs together with it
abbrev first_start : List Slot → ℕ
first_start [] = 0
first_start (s ∷ ss) = s.start

abbrev first_hang : ℕ → List Slot → ℕ
first_hang k [] = 0
first_hang k (s ∷ ss) = hang_end k s.end ss

-- ---- what hangs together, before the cycle's end and past it

-- one round later everything lies one round later
hang_up : (k n e : ℕ) (ss : List Slot) → hang_end k (e + n) (up n ss) ≡ hang_end k e ss + n
unfolding hang_end
hang_up k n e [] = refl
hang_up k n e (y ∷ ys) = go (hang_up k n y.end ys) (leb y.start (e + k)) refl
  where
    go : hang_end k (y.end + n) (up n ys) ≡ hang_end k y.end ys + n → (t : Bool) → leb y.start (e + k) ≡ t
        → cond (leb (y.start + n) (e + n + k)) (hang_end k (y.end + n) (up n ys)) (e + n)
        ≡ cond t (hang_end k y.end ys) e + n
    go ih true h = rw (le-leb (y.start + n) (e + n + k) (omega (arith, leb-true))) ih
    go ih false h = rw (lt-leb (y.start + n) (e + n + k) (omega (arith, leb-false)))

-- past the cycle's end the first slots follow, if they hang on the slots that stop before it
hang_across : (k n e : ℕ) (post : List Slot) (z : Slot) (zs : List Slot) (hi : ℕ) → Chain e post hi → hi ≤ z.start + n
    → hang_end k e (post ++ up n (z ∷ zs))
    ≡ cond (leb (z.start + n) (hang_end k e post + k)) (hang_end k z.end zs + n) (hang_end k e post)
unfolding hang_end
hang_across k n e [] z zs hi ok h = ap (λ (x : ℕ). cond (leb (z.start + n) (e + k)) x e) (hang_up k n z.end zs)
hang_across k n e (y ∷ ys) z zs hi ok h =
    go (hang_across k n y.end ys z zs hi ok.2 h) (leb y.start (e + k)) refl
  where
    stop : ℕ
    stop = hang_end k y.end ys

    far : ℕ
    far = hang_end k z.end zs + n

    go : hang_end k y.end (ys ++ up n (z ∷ zs)) ≡ cond (leb (z.start + n) (stop + k)) far stop
        → (t : Bool) → leb y.start (e + k) ≡ t
        → cond t (hang_end k y.end (ys ++ up n (z ∷ zs))) e
        ≡ cond (leb (z.start + n) (cond t stop e + k)) far (cond t stop e)
    go ih true t = ih
    go ih false t =
        rw (lt-leb (z.start + n) (e + k) (omega (arith, leb-false, ok.1, chain_le y.end ys hi ok.2)))

-- a gap behind pre is where they stop
hang_cut : (k e : ℕ) (pre : List Slot) (s : Slot) (post : List Slot) → last_end e pre + k < s.start
    → hang_end k e (pre ++ s ∷ post) ≡ hang_end k e pre
unfolding hang_end last_end
hang_cut k e [] s post h = rw (lt-leb s.start (e + k) h)
hang_cut k e (y ∷ ys) s post h = rw (hang_cut k y.end ys s post h)

-- ---- one slot

cell_is : (g : Gate) (s : Slot) → g.guard < g.cycle → s.start < g.cycle
    → cell_of g s ≡ cond (ltb s.start g.guard) (s.start + g.cycle - g.guard) (s.start - g.guard)
cell_is g s hg hs = go (ltb s.start g.guard) refl
  where
    go : (t : Bool) → ltb s.start g.guard ≡ t
        → cell_of g s ≡ cond t (s.start + g.cycle - g.guard) (s.start - g.guard)
    go true t =
        let l = ltb-true s.start g.guard t in
        mod-eq_of_lt {n = s.start + (g.cycle - g.guard)} {m = g.cycle} (omega arith) ∙ omega arith
    go false t =
        let l = ltb-false s.start g.guard t in
        mod_once g.cycle (s.start + (g.cycle - g.guard)) (omega arith) (omega arith) ∙ omega arith

-- where slot s stops, with a gap before it
stop_is : (g : Gate) (pre : List Slot) (s : Slot) (post : List Slot) → Chain 0 (pre ++ s ∷ post) g.cycle
    → Gap g pre s post
    → hang_end (reach_of g) s.end (behind g pre post)
    ≡ cond (leb (first_start (pre ++ s ∷ post) + g.cycle) (hang_end (reach_of g) s.end post + reach_of g))
    (first_hang (reach_of g) (pre ++ s ∷ post) + g.cycle)
    (hang_end (reach_of g) s.end post)
stop_is g [] s post ok gap =
    let last = hang_last (reach_of g) s.end post g.cycle ok.2 in
    let wide : last_end s.end post + reach_of g < s.start + g.cycle = rw append-nil at gap in
    rw (append-nil post, lt-leb (s.start + g.cycle) (hang_end (reach_of g) s.end post + reach_of g) (omega arith))
stop_is g (z ∷ zs) s post ok gap =
    let line = (chain_split 0 (z ∷ zs) s post g.cycle ok).1.2 in
    let (y, m, e) = last_is z zs in
    let before = gap_before g (z ∷ zs) s post ok gap y m in
    rw (hang_cut (reach_of g) z.end zs s post (omega arith))
    (hang_across (reach_of g) g.cycle s.end post z zs g.cycle line (omega arith))

-- the run that starts with slot s, with a gap before it
run_is : (g : Gate) (pre : List Slot) (s : Slot) (post : List Slot) → Chain 0 (pre ++ s ∷ post) g.cycle
    → Gap g pre s post
    → run_of g pre s post
    ≡ run_with g (first_start (pre ++ s ∷ post)) (first_hang (reach_of g) (pre ++ s ∷ post)) s
    (hang_end (reach_of g) s.end post)
unfolding run_of run_with
run_is g pre s post ok gap =
    let line = (chain_split 0 pre s post g.cycle ok).1 in
    let inside = chain_le s.end post g.cycle line.2 in
    let cell = cell_is g s (guard_lt g pre s post ok gap) (omega (arith, line.1)) in
    let stop = stop_is g pre s post ok gap in
    λ i. record { start = cell i; len = stop i + reach_of g - s.start }

-- a run is found with slot s where the gap before it is wide enough, and not otherwise
found_is : (g : Gate) (pre : List Slot) (s : Slot) (post : List Slot) (before : ℕ)
    → Chain 0 (pre ++ s ∷ post) g.cycle → last_end s.end (behind g pre post) ≡ before
    → run_at g pre s post
    ≡ run_if g (first_start (pre ++ s ∷ post)) (first_hang (reach_of g) (pre ++ s ∷ post)) before s
    (hang_end (reach_of g) s.end post)
unfolding run_at broken run_if
found_is g pre s post before ok e =
    rw (← e) (go (ltb (last_end s.end (behind g pre post) + reach_of g) (s.start + g.cycle)) refl)
  where
    go : (t : Bool) → ltb (last_end s.end (behind g pre post) + reach_of g) (s.start + g.cycle) ≡ t
        → cond t (run_of g pre s post ∷ []) []
        ≡ cond t
        (run_with g (first_start (pre ++ s ∷ post)) (first_hang (reach_of g) (pre ++ s ∷ post)) s
        (hang_end (reach_of g) s.end post) ∷ []) []
    go true t = ap (λ (r : Run). r ∷ []) (run_is g pre s post ok (ltb-true _ _ t))
    go false t = refl

-- ---- all slots

-- behind slot y
rest_walked : (g : Gate) (pre : List Slot) (y : Slot) (post : List Slot)
    → Chain 0 ((pre ++ y ∷ []) ++ post) g.cycle
    → chain_from g (pre ++ y ∷ []) post
    ≡ walked g (first_start ((pre ++ y ∷ []) ++ post)) (first_hang (reach_of g) ((pre ++ y ∷ []) ++ post))
    (y.end + g.cycle) post
unfolding chain_from walked
rest_walked g pre y [] ok = refl
rest_walked g pre y (s ∷ post) ok =
    let here = found_is g (pre ++ y ∷ []) s post (y.end + g.cycle) ok (gap_last g s.end pre y post) in
    let whole = append_assoc (pre ++ y ∷ []) (s ∷ []) post in
    let rest = rest_walked g (pre ++ y ∷ []) s post (rw whole ok) in
    rw (here, rest, whole)

-- with the first slot
first_found : (g : Gate) (s : Slot) (post : List Slot) → Chain 0 (s ∷ post) g.cycle
    → run_at g [] s post
    ≡ run_if g s.start (hang_end (reach_of g) s.end post) (last_end s.end post) s (hang_end (reach_of g) s.end post)
first_found g s post ok = found_is g [] s post _ ok (ap (last_end s.end) (append-nil post))

-- from the first slot on
all_walked : (g : Gate) (s : Slot) (post : List Slot) → Chain 0 (s ∷ post) g.cycle
    → chain_from g [] (s ∷ post)
    ≡ walked g s.start (hang_end (reach_of g) s.end post) (last_end s.end post) (s ∷ post)
unfolding chain_from walked
all_walked g s post ok = rw (first_found g s post ok, rest_walked g [] s post ok)

module _ (g : Gate) (s : Slot) (post : List Slot) (ok : Chain 0 (s ∷ post) g.cycle) where
  -- where those that hang together with the first slot stop
  abbrev far : ℕ
  far = hang_end (reach_of g) s.end post

  -- by rising start: the first slot's run comes first, or last where its guard reaches back over the cycle's end
  both : runs g (s ∷ post)
      ≡ cond (ltb s.start g.guard)
      (walked g s.start far (s.end + g.cycle) post ++ run_if g s.start far (last_end s.end post) s far)
      (walked g s.start far (last_end s.end post) (s ∷ post))
  unfolding chain_runs
  both =
      rw (← chain_runs_lem g (s ∷ post) ok, all_walked g s post ok, first_found g s post ok, rest_walked g [] s post ok)

  -- the guard of the first slot does not reach back over the cycle's end
  pub runs_plain : g.guard ≤ s.start → runs g (s ∷ post) ≡ walked g s.start far (last_end s.end post) (s ∷ post)
  runs_plain h = rw (both, le-ltb s.start g.guard h)

  -- it does, and the first slot, one cycle on, hangs on the last
  pub runs_hung : s.start < g.guard → s.start + g.cycle ≤ last_end s.end post + reach_of g
      → runs g (s ∷ post) ≡ walked g s.start far (s.end + g.cycle) post
  unfolding run_if
  runs_hung h w = rw (both, lt-ltb s.start g.guard h, le-ltb _ _ w, append-nil)

  -- it does, and the first slot's run comes last
  pub runs_across : s.start < g.guard → last_end s.end post + reach_of g < s.start + g.cycle
      → runs g (s ∷ post)
      ≡ walked g s.start far (s.end + g.cycle) post ++ run_with g s.start far s far ∷ []
  unfolding run_if
  runs_across h w = rw (both, lt-ltb s.start g.guard h, lt-ltb _ _ w)

-- ---- whether some cell is free

-- some gap before one of these slots is over guard + header; the slot before them ends at before, one cycle on
unfoldable pub some_wide : Gate → ℕ → List Slot → Bool
some_wide g before [] = false
some_wide g before (s ∷ post) =
    ltb (before + reach_of g) (s.start + g.cycle) || some_wide g (s.end + g.cycle) post

-- exactly then a run is found
wide_walked : (g : Gate) (first far before : ℕ) (ss : List Slot)
    → ltb 0 (length (walked g first far before ss)) ≡ some_wide g before ss
unfolding walked run_if some_wide
wide_walked g first far before [] = refl
wide_walked g first far before (s ∷ post) =
    go (ltb (before + reach_of g) (s.start + g.cycle)) (wide_walked g first far (s.end + g.cycle) post)
  where
    rest : List Run
    rest = walked g first far (s.end + g.cycle) post

    r : Run
    r = run_with g first far s (hang_end (reach_of g) s.end post)

    go : (t : Bool) → ltb 0 (length rest) ≡ some_wide g (s.end + g.cycle) post
        → ltb 0 (length (cond t (r ∷ []) [] ++ rest)) ≡ (t || some_wide g (s.end + g.cycle) post)
    go true e = lt-ltb 0 (suc (length rest)) (omega arith)
    go false e = e

some_mem : (rs : List Run) (b : Bool) → ((r : Run) × Mem r rs) ↔ (b ≡ true) → b ≡ ltb 0 (length rs)
some_mem [] true h = mem_none (h.1 refl).1
some_mem [] false h = refl
some_mem (r ∷ rs) b h = h.0 (r, mem_head r rs) ∙ sym (lt-ltb 0 (suc (length rs)) (omega arith))

-- some cell is free exactly where some gap is wide
pub free_wide : (g : Gate) (s : Slot) (post : List Slot) → Chain 0 (s ∷ post) g.cycle
    → has_free g (s ∷ post) ≡ some_wide g (last_end s.end post) (s ∷ post)
unfolding chain_runs chain_from
free_wide g s post ok =
    some_mem (first ++ rest) (has_free g (s ∷ post)) (
      λ (r, m). free.0 (r, (around (ltb s.start g.guard)).1 m),
      λ e. let (r, m) = free.1 e in (r, (around (ltb s.start g.guard)).0 m),
    )
    ∙ ap (λ (rs : List Run). ltb 0 (length rs)) (all_walked g s post ok)
    ∙ wide_walked g s.start (hang_end (reach_of g) s.end post) (last_end s.end post) (s ∷ post)
  where
    first : List Run
    first = run_at g [] s post

    rest : List Run
    rest = chain_from g (s ∷ []) post

    free : ((r : Run) × Mem r (chain_runs g (s ∷ post))) ↔ (has_free g (s ∷ post) ≡ true)
    free = free_has_run g s post ok

    around : (t : Bool) {r : Run} → Mem r (cond t (rest ++ first) (first ++ rest)) ↔ Mem r (first ++ rest)
    around true = (mem_swap rest first, mem_swap first rest)
    around false = (λ m. m, λ m. m)

-- with no slot every cell is free, and there is no run
pub free_none : (g : Gate) (ss : List Slot) → length ss ≤ 0 → 1 ≤ g.cycle → has_free g ss ≡ true
unfolding has_free blocked any
free_none g [] none h = (any_below_true g.cycle (λ c. not (blocked g [] c))).1 (0, h, refl)
free_none g (s ∷ ss) none h = absurd (omega arith)

pub runs_none : (g : Gate) (ss : List Slot) → length ss ≤ 0 → runs g ss ≡ []
unfolding chain_runs
runs_none g [] none = sym (chain_runs_lem g [] zero-le)
runs_none g (s ∷ ss) none = absurd (omega arith)
