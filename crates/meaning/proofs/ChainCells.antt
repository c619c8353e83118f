-- Which cells the slots of a chain block: a gap before a slot opens the circle there into a straight line.
-- Assumes nothing.
use mathlib.Core.Path.{◌≡◌, refl, sym, ap, ◌∙◌, subst}
use mathlib.Core.Logic.{◌↔◌, ◌⊎◌, inl, inr, ⊎_elim, by_cases}
use mathlib.Core.Bool.{Bool, true, false, true≢false}
use mathlib.Core.List.Memᴰ
use mathlib.Core.List.{List, ◌∷◌, ◌++◌}
use Prim.Native.Nat.{ℕ, zero, suc, ◌+◌, ◌-◌, ◌%◌, ◌≤◌, ◌<◌}
use native.Mathlib.Nat.{mod-eq_of_lt, mod-add-mod, add-mod_right, add-zero, zero-add, not-suc-le-zero}
use native.Mathlib.Decide.{dec_le}
use native.Mathlib.Omega.{arith}
use borrow.Author.Tests.{ltb-true, lt-ltb}
use Rattle.laws.specs.Lists.{Mem}
use Rattle.laws.proofs.Lists.{any_true, mem_head}
use Rattle.laws.proofs.Circle.{mod_once, mod_twice}
use Rattle.meaning.specs.declared.Gate.{Gate}
use Rattle.meaning.specs.declared.Slot.{Slot}
use Rattle.meaning.specs.Runs.{dist, blocks, blocked, starts, row}
use Rattle.meaning.specs.Promises.{Chain}
use Rattle.meaning.proofs.Cells.{starts_true, row_true, row_false}
use Rattle.meaning.proofs.Chains.{later, up, last_end, hang_end, InReach, chain_le, chain_mem, chain_append}
use Rattle.meaning.proofs.Chains.{chain_split, chain_up, last_mem, last_is, hang_ge, hang_last, hang_in}
use Rattle.meaning.proofs.Chains.{hang_out}

-- ---- cells and places: cell c lies at place c + guard, so that a slot reaches from its start on

-- how far past its end a slot reaches
abbrev pub reach_of : Gate → ℕ
reach_of g = g.guard + g.header

-- place x is in reach of the slot around the circle
abbrev pub Hit : Gate → Slot → ℕ → Type 0
Hit g s x = dist g.cycle s.start x < s.end - s.start + reach_of g

-- it is in reach of some slot
abbrev pub Reached : Gate → List Slot → ℕ → Type 0
Reached g ss x = (z : Slot) × Mem z ss × Hit g z x

pub blocked_true : (g : Gate) (ss : List Slot) (c : ℕ) → blocked g ss c ≡ true ↔ Reached g ss (c + g.guard)
unfolding blocked blocks
blocked_true g ss c =
    let each = any_true (λ s. blocks g s c) ss in
    let on : (z : Slot) → Hit g z (c + g.guard) → blocks g z c ≡ true =
    λ z h. lt-ltb _ (z.end - z.start + g.guard + g.header) (omega (arith, h)) in
    (λ e. let (z, m, q) = each.0 e in (z, m, omega (arith, ltb-true)), λ (z, m, h). each.1 (z, m, on z h))

pub blocked_false : (g : Gate) (ss : List Slot) (c : ℕ) → blocked g ss c ≡ false ↔ ¬ Reached g ss (c + g.guard)
blocked_false g ss c = (λ e h. true≢false (sym ((blocked_true g ss c).1 h) ∙ e), λ h. go (blocked g ss c) refl h)
  where
    go : (b : Bool) → blocked g ss c ≡ b → ¬ Reached g ss (c + g.guard) → b ≡ false
    go true e h = absurd (h ((blocked_true g ss c).0 e))
    go false e h = refl

-- places some whole rounds apart are one place
pub reached_mod : (g : Gate) (ss : List Slot) (x y : ℕ) → x % g.cycle ≡ y % g.cycle → Reached g ss x → Reached g ss y
reached_mod g ss x y e (z, m, h) = (z, m, subst (λ (d : ℕ). d < z.end - z.start + reach_of g) same h)
  where
    same : dist g.cycle z.start x ≡ dist g.cycle z.start y
    same =
        sym (mod-add-mod x g.cycle _) ∙ ap (λ (w : ℕ). (w + (g.cycle - z.start)) % g.cycle) e
        ∙ mod-add-mod y g.cycle _

-- on the round from place a on, a slot not before a is in reach as on a straight line
hit_here : (g : Gate) (a : ℕ) (s : Slot) (x : ℕ) → a ≤ s.start → s.start < s.end → s.end ≤ g.cycle
    → s.end + reach_of g < a + g.cycle → a ≤ x → x < a + g.cycle → Hit g s x ↔ InReach (reach_of g) s x
hit_here g a s x h1 h2 h3 h4 h5 h6 = by_cases (dec_le s.start x) after before
  where
    after : s.start ≤ x → Hit g s x ↔ InReach (reach_of g) s x
    after h =
        let e = mod_once g.cycle (x + (g.cycle - s.start)) (omega arith) (omega arith) in
        (λ i. (h, omega arith), λ i. omega arith)

    before : ¬ (s.start ≤ x) → Hit g s x ↔ InReach (reach_of g) s x
    before h =
        let e = mod-eq_of_lt {n = x + (g.cycle - s.start)} {m = g.cycle} (omega arith) in
        (λ i. absurd (omega arith), λ i. absurd (h i.0))

-- and a slot that reaches no further than a is in reach one round later
hit_later : (g : Gate) (a : ℕ) (s : Slot) (x : ℕ) → a ≤ g.cycle → s.start < s.end → s.end + reach_of g < a → a ≤ x
    → x < a + g.cycle → Hit g s x ↔ InReach (reach_of g) (later g.cycle s) x
hit_later g a s x h1 h2 h3 h4 h5 = by_cases (dec_le (s.start + g.cycle) x) after before
  where
    after : s.start + g.cycle ≤ x → Hit g s x ↔ InReach (reach_of g) (later g.cycle s) x
    after h =
        let e = mod_twice g.cycle (x + (g.cycle - s.start)) (omega arith) (omega arith) in
        (λ i. (h, omega arith), λ i. omega arith)

    before : ¬ (s.start + g.cycle ≤ x) → Hit g s x ↔ InReach (reach_of g) (later g.cycle s) x
    before h =
        let e = mod_once g.cycle (x + (g.cycle - s.start)) (omega arith) (omega arith) in
        (λ i. absurd (omega arith), λ i. absurd (h i.0))

-- l blocked cells from c on, and then a free one
row_is : (b : ℕ → Bool) (k c l : ℕ) → l < k → ((j : ℕ) → j < l → b (c + j) ≡ true) → b (c + l) ≡ false → row b k c ≡ l
row_is b zero c l h on off = absurd (not-suc-le-zero h)
row_is b (suc k) c zero h on off = row_false b k c (rw add-zero at off)
row_is b (suc k) c (suc l) h on off =
    row_true b k c (rw add-zero at (on 0 (omega arith)))
    ∙ ap suc
    (row_is b k (suc c) l (omega arith) (λ j i. ap b (omega arith) ∙ on (suc j) (omega arith))
    (ap b (omega arith) ∙ off))

-- ---- one slot, those before it and those after it

-- the slots behind it around the circle: those after it, then those before it, one round later
abbrev pub behind : Gate → List Slot → List Slot → List Slot
behind g pre post = post ++ up g.cycle pre

-- a gap before it that no slot reaches across
abbrev pub Gap : Gate → List Slot → Slot → List Slot → Type 0
Gap g pre s post = last_end s.end (behind g pre post) + reach_of g < s.start + g.cycle

-- the place at which the reach of the slots that hang together with it stops
abbrev pub stop_of : Gate → List Slot → Slot → List Slot → ℕ
stop_of g pre s post = hang_end (reach_of g) s.end (behind g pre post) + reach_of g

-- the cell at the place of its start
abbrev pub cell_of : Gate → Slot → ℕ
cell_of g s = (s.start + (g.cycle - g.guard)) % g.cycle

module _ (g : Gate) (pre : List Slot) (s : Slot) (post : List Slot) (ok : Chain 0 (pre ++ s ∷ post) g.cycle) where
  parts : Chain 0 pre s.start × Chain s.start (s ∷ post) g.cycle
  parts = chain_split 0 pre s post g.cycle ok

  bounds : (s.start < s.end) × (s.end ≤ g.cycle)
  bounds = (parts.1.1, chain_le s.end post g.cycle parts.1.2)

  chain_around : Chain s.start (s ∷ behind g pre post) (s.start + g.cycle)
  chain_around =
      chain_append s.start (s ∷ post) g.cycle (up g.cycle pre) (s.start + g.cycle) parts.1
      (rw zero-add at (chain_up g.cycle 0 pre s.start parts.0))

  -- with no gap before it, the place before its start is in reach
  pub no_gap : ¬ Gap g pre s post → Reached g (pre ++ s ∷ post) (s.start + g.cycle - 1)
  no_gap h = let (y, m, e) = last_is s (behind g pre post) in go y (omega arith) (Memᴰ.append_cases (s ∷ post) m)
    where
      n : ℕ
      n = g.cycle

      go : (y : Slot) → s.start + g.cycle ≤ y.end + reach_of g → Mem y (s ∷ post) ⊎ Mem y (up g.cycle pre)
          → Reached g (pre ++ s ∷ post) (s.start + g.cycle - 1)
      go y long (inl m) =
          let b = chain_mem s.start (s ∷ post) n parts.1 y m in
          let e = mod_once n (s.start + n - 1 + (n - y.start)) (omega (arith, bounds)) (omega (arith, bounds)) in
          (y, Memᴰ.append_right pre m, omega (arith, bounds))
      go y long (inr m) =
          let (z, mz, e) = Memᴰ.of_map (later n) pre m in
          let b = chain_mem 0 pre s.start parts.0 z mz in
          let f = mod_twice n (s.start + n - 1 + (n - z.start)) (omega (arith, bounds)) (omega (arith, bounds)) in
          (z, Memᴰ.append_left (s ∷ post) mz, omega (arith, bounds, ap (λ (w : Slot). w.end) e))

  module _ (gap : Gap g pre s post) where
    ends : (y : Slot) → Mem y (s ∷ behind g pre post) → y.end + reach_of g < s.start + g.cycle
    ends y m =
        omega (arith, last_mem s (behind g pre post) (s.start + g.cycle) chain_around.2 y m)

    -- a slot before it ends further before its start than the reach
    pub gap_before : (q : Slot) → Mem q pre → q.end + reach_of g < s.start
    gap_before q m =
        omega (arith, ends (later g.cycle q) (Memᴰ.append_right (s ∷ post) (Memᴰ.map (later g.cycle) m)))

    -- on the round from its start on, the places in reach are those of a straight line
    straight : (x : ℕ) → s.start ≤ x → x < s.start + g.cycle
        → Reached g (pre ++ s ∷ post) x ↔ ((y : Slot) × Mem y (s ∷ behind g pre post) × InReach (reach_of g) y x)
    straight x a b = (
      λ (z, m, h). to z h (Memᴰ.append_cases pre m),
      λ (y, m, h). from y h (Memᴰ.append_cases (s ∷ post) m),
    )
      where
        here : (z : Slot) → Mem z (s ∷ post) → Hit g z x ↔ InReach (reach_of g) z x
        here z m =
            let l = chain_mem s.start (s ∷ post) g.cycle parts.1 z m in
            hit_here g s.start z x l.0 l.1 l.2 (ends z (Memᴰ.append_left (up g.cycle pre) m)) a b

        round : (z : Slot) → Mem z pre → Hit g z x ↔ InReach (reach_of g) (later g.cycle z) x
        round z m =
            let l = chain_mem 0 pre s.start parts.0 z m in
            hit_later g s.start z x (omega (arith, bounds)) l.1 (gap_before z m) a b

        to : (z : Slot) → Hit g z x → Mem z pre ⊎ Mem z (s ∷ post)
            → (y : Slot) × Mem y (s ∷ behind g pre post) × InReach (reach_of g) y x
        to z h (inl m) =
            (later g.cycle z, Memᴰ.append_right (s ∷ post) (Memᴰ.map (later g.cycle) m), (round z m).0 h)
        to z h (inr m) = (z, Memᴰ.append_left (up g.cycle pre) m, (here z m).0 h)

        from : (y : Slot) → InReach (reach_of g) y x → Mem y (s ∷ post) ⊎ Mem y (up g.cycle pre)
            → Reached g (pre ++ s ∷ post) x
        from y h (inl m) = (y, Memᴰ.append_right pre m, (here y m).1 h)
        from y h (inr m) =
            let (z, mz, e) = Memᴰ.of_map (later g.cycle) pre m in (
              z,
              Memᴰ.append_left (s ∷ post) mz,
              (round z mz).1
                  (subst (λ (w : Slot). InReach (reach_of g) w x) (sym e) h),
            )

    stop_bounds : (s.start < stop_of g pre s post) × (stop_of g pre s post < s.start + g.cycle)
    stop_bounds =
        let line = chain_around.2 in (
          omega (arith, bounds, hang_ge (reach_of g) s.end (behind g pre post) (s.start + g.cycle) line),
          omega (arith, hang_last (reach_of g) s.end (behind g pre post) (s.start + g.cycle) line),
        )

    inside : (x : ℕ) → s.start ≤ x → x < stop_of g pre s post → Reached g (pre ++ s ∷ post) x
    inside x a b =
        (straight x a (omega (arith, stop_bounds))).1 (hang_in (reach_of g) s (behind g pre post) x a b)

    at_stop : ¬ Reached g (pre ++ s ∷ post) (stop_of g pre s post)
    at_stop h =
        let (y, m, i) = (straight (stop_of g pre s post) (omega (arith, stop_bounds)) stop_bounds.1).0 h in
        ⊎_elim (λ (u : y.end ≤ hang_end (reach_of g) s.end (behind g pre post)). omega arith)
        (λ (u : stop_of g pre s post < y.start). omega arith)
        (hang_out (reach_of g) s (behind g pre post) (s.start + g.cycle) chain_around.2 y m)

    ahead : ¬ Reached g (pre ++ s ∷ post) (s.start + g.cycle - 1)
    ahead h =
        let (y, m, i) = (straight (s.start + g.cycle - 1) (omega (arith, bounds)) (omega (arith, bounds))).0 h in
        let e = ends y m in omega (arith, bounds)

    -- ---- back to cells

    pub guard_lt : g.guard < g.cycle
    guard_lt = omega (arith, ends s (mem_head s (behind g pre post)), bounds)

    -- the place j past its start is the cell j past its cell
    place : (j : ℕ) → (s.start + j) % g.cycle ≡ (cell_of g s + j + g.guard) % g.cycle
    place j =
        sym
        (ap (λ (x : ℕ). x % g.cycle) (omega arith)
        ∙ mod-add-mod (s.start + (g.cycle - g.guard)) g.cycle (j + g.guard)
        ∙ ap (λ (x : ℕ). x % g.cycle) (omega (arith, guard_lt)) ∙ add-mod_right (s.start + j) g.cycle)

    on_cell : (j : ℕ) → s.start + j < stop_of g pre s post → blocked g (pre ++ s ∷ post) (cell_of g s + j) ≡ true
    on_cell j l =
        (blocked_true g (pre ++ s ∷ post) (cell_of g s + j)).1
        (reached_mod g (pre ++ s ∷ post) (s.start + j) _ (place j) (inside (s.start + j) (omega arith) l))

    off_cell : (j : ℕ) → ¬ Reached g (pre ++ s ∷ post) (s.start + j)
        → blocked g (pre ++ s ∷ post) (cell_of g s + j) ≡ false
    off_cell j h =
        (blocked_false g (pre ++ s ∷ post) (cell_of g s + j)).1
        (λ r. h (reached_mod g (pre ++ s ∷ post) _ (s.start + j) (sym (place j)) r))

    -- a run starts at the slot's cell
    pub run_starts : starts g.cycle (blocked g (pre ++ s ∷ post)) (cell_of g s) ≡ true
    run_starts =
        (starts_true g.cycle (blocked g (pre ++ s ∷ post)) (cell_of g s)).1 (
          rw add-zero at (on_cell 0 (omega (arith, stop_bounds))),
          off_cell (g.cycle - 1) (λ r. ahead (subst (Reached g (pre ++ s ∷ post)) (omega (arith, guard_lt)) r)),
        )

    -- and is as long as the slots that hang together reach
    pub run_len : row (blocked g (pre ++ s ∷ post)) g.cycle (cell_of g s) ≡ stop_of g pre s post - s.start
    run_len =
        row_is (blocked g (pre ++ s ∷ post)) g.cycle (cell_of g s) (stop_of g pre s post - s.start)
        (omega (arith, stop_bounds)) (λ j l. on_cell j (omega arith))
        (off_cell (stop_of g pre s post - s.start)
        (λ r. at_stop (subst (Reached g (pre ++ s ∷ post)) (omega (arith, stop_bounds)) r)))
