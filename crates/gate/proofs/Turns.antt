-- The walk along the slots, one slot a turn.
-- Assumes nothing.
use mathlib.Core.Path.{◌≡◌, refl, sym, ap, ◌∙◌}
use mathlib.Core.Bool.{Bool, true, false, cond}
use mathlib.Core.List.{List, [], ◌∷◌, ◌++◌}
use Prim.Native.Nat.{ℕ, suc, ◌+◌, ◌-◌, ◌≤◌, ◌<◌, zero-le}
use native.Mathlib.Omega.{arith}
use lib.ListN.{length, get_or, take, drop, set, length-take, length-drop}
use Rattle.std.proofs.Math.Seq.{take-length}
use lib.Dec.{ltb}
use borrow.Author.Tests.{lt-ltb, le-ltb}
use Rattle.meaning.specs.declared.Gate.{Gate}
use Rattle.meaning.specs.declared.Slot.{Slot}
use Rattle.meaning.specs.declared.Run.{Run}
use Rattle.meaning.specs.Runs.{has_free, runs}
use Rattle.meaning.specs.Promises.{Chain}
use Rattle.meaning.proofs.Chains.{last_end, hang_end, hang_ge}
use Rattle.meaning.proofs.ChainCells.{reach_of}
use Rattle.gate.specs.declared.RunRow.{RunRow}
use Rattle.gate.specs.Rows.{SlotsFit, no_run, run_row}
use Rattle.gate.specs.Walks.{hang_ends, run_with, run_if, walked, WalkFits}
use Rattle.laws.proofs.Filling.{Filling, filling_start, filling_put, filling_skip}
use Rattle.gate.proofs.Rows.{row_none, row_filled, row_count, row_more}
use Rattle.gate.proofs.Walks.{some_wide, free_wide, runs_plain, runs_hung, runs_across}
use Rattle.gate.proofs.Hangs.{slot_at, chain_at, within, slots_from, none_from, hang_le, hangs_drop, hang_ends_at}

-- ---- whether a gap is wide

module _ (g : Gate) (ss : List Slot) (before i : ℕ) where
  pub wide_here : i < length ss → before + reach_of g < (slot_at ss i).start + g.cycle
      → some_wide g before (drop i ss) ≡ true
  unfolding some_wide
  wide_here h w = rw (slots_from ss i h, lt-ltb _ _ w)

  pub wide_later : i < length ss → (slot_at ss i).start + g.cycle ≤ before + reach_of g
      → some_wide g before (drop i ss) ≡ some_wide g ((slot_at ss i).end + g.cycle) (drop (i + 1) ss)
  unfolding some_wide
  wide_later h w = rw (slots_from ss i h, le-ltb _ _ w)

  pub wide_none : length ss ≤ i → some_wide g before (drop i ss) ≡ false
  unfolding some_wide
  wide_none h = rw (none_from ss i h)

last_at : (s : Slot) (ss : List Slot) → last_end s.end ss ≡ (slot_at (s ∷ ss) (length ss)).end
unfolding last_end
last_at s [] = refl
last_at s (y ∷ ys) = last_at y ys

last_is : (s : Slot) (ss : List Slot) → last_end s.end ss ≡ (slot_at (s ∷ ss) (length (s ∷ ss) - 1)).end
last_is s ss =
    let e : length ss ≡ length (s ∷ ss) - 1 = omega arith in
    last_at s ss ∙ ap (λ (i : ℕ). (slot_at (s ∷ ss) i).end) e

-- some cell is free exactly where some gap is wide, from the first slot on
pub free_start : (g : Gate) (ss : List Slot) → Chain 0 ss g.cycle → 0 < length ss
    → has_free g ss ≡ some_wide g (slot_at ss (length ss - 1)).end ss
free_start g [] ok h = absurd (omega arith)
free_start g (s ∷ post) ok h =
    free_wide g s post ok ∙ ap (λ (e : ℕ). some_wide g e (s ∷ post)) (last_is s post)

-- ---- the runs of a walk

-- no more than slots
walked_few : (g : Gate) (first far before : ℕ) (post : List Slot)
    → length (walked g first far before post) ≤ length post
unfolding walked run_if
walked_few g first far before [] = zero-le
walked_few g first far before (s ∷ post) =
    go (ltb (before + reach_of g) (s.start + g.cycle)) (walked_few g first far (s.end + g.cycle) post)
  where
    r : Run
    r = run_with g first far s (hang_end (reach_of g) s.end post)

    rest : List Run
    rest = walked g first far (s.end + g.cycle) post

    go : (t : Bool) → length rest ≤ length post → length (cond t (r ∷ []) [] ++ rest) ≤ suc (length post)
    go true h = omega arith
    go false h = omega arith

-- the first slot of a walk, and where those that hang together with it stop
pub record AtSlot (g : Gate) (first far : ℕ) (s : Slot) (e : ℕ) (ss : List Slot) (ends : List ℕ) : Type 0 where
  pub some : s.start < s.end
  pub near : s.end ≤ e
  pub stop_in : e ≤ g.cycle
  pub stop : e ≡ hang_end (reach_of g) s.end ss
  pub rest : WalkFits g first far (s.end + g.cycle) ss ends

pub at_slot : {g : Gate} {first far before : ℕ} {s : Slot} {e : ℕ} {ss : List Slot} {ends : List ℕ}
    → WalkFits g first far before (s ∷ ss) (e ∷ ends) → AtSlot g first far s e ss ends
unfolding hang_ends
at_slot {g} {first} {far} {before} {s} {e} {ss} {ends} f =
    let stop : e ≡ hang_end (reach_of g) s.end ss = let q = f.stops in cc in
    let x = hang_ge (reach_of g) s.end ss g.cycle f.chain.2 in
    let y = hang_le (reach_of g) s.end ss g.cycle f.chain.2 in
    record {
      some = f.chain.1;
      near = omega arith;
      stop_in = omega arith;
      stop = stop;
      rest = record {
        few = omega (arith, f.few);
        fits = f.fits;
        first_in = f.first_in;
        far_in = f.far_in;
        before_in = omega arith;
        lo = s.end;
        chain = f.chain.2;
        stops = let q = f.stops in cc;
      };
    }

-- how far a walk has come: these slots are left, the slot before them ends at end, one cycle on, and the row begins
-- with the runs found
pub record Walking (g : Gate) (first far : ℕ) (whole : List Run) (end : ℕ) (ss : List Slot) (ends : List ℕ)
    (found : RunRow) : Type 0 where
  pub fits : WalkFits g first far end ss ends
  pub few : found.n + length ss ≤ 32
  pub filling : Filling 32 no_run found.row found.n (walked g first far end ss) whole

pub walk_start : {g : Gate} {first far before : ℕ} {ss : List Slot} {ends : List ℕ} {found : RunRow}
    → WalkFits g first far before ss ends → found ≡ run_row []
    → Walking g first far (walked g first far before ss) before ss ends found
walk_start {g} {first} {far} {before} {ss} f e =
    rw (e, ← row_none) (record {
      fits = f;
      few = omega (arith, f.few);
      filling = filling_start 32 no_run (walked g first far before ss);
    })

module _ {g : Gate} {first far : ℕ} {whole : List Run} {end : ℕ} {s : Slot} {e : ℕ} {ss : List Slot} {ends : List ℕ}
    {found : RunRow} (so_far : Walking g first far whole end (s ∷ ss) (e ∷ ends) found) where
  -- this slot has no run of its own
  pub walk_narrow : s.start + g.cycle ≤ end + reach_of g → Walking g first far whole (s.end + g.cycle) ss ends found
  unfolding walked run_if
  walk_narrow w = record {
    fits = (at_slot so_far.fits).rest;
    few = omega (arith, so_far.few);
    filling = filling_skip so_far.filling (rw (le-ltb _ _ w));
  }

  -- it has one
  pub walk_wide : end + reach_of g < s.start + g.cycle → {r : Run} {more : RunRow} → r ≡ run_with g first far s e
      → more ≡ record { n = found.n + 1; row = set found.row found.n r }
      → Walking g first far whole (s.end + g.cycle) ss ends more
  unfolding walked run_if
  walk_wide w {r} x q =
      let here = at_slot so_far.fits in
      rw q (record {
        fits = here.rest;
        few = omega (arith, so_far.few);
        filling =
            filling_put so_far.filling (rw (lt-ltb _ _ w)) (x ∙ ap (run_with g first far s) here.stop)
            (omega (arith, so_far.few));
      })

-- with no slot left, the row holds the runs of the walk
pub walk_end : {g : Gate} {first far : ℕ} {whole : List Run} {end : ℕ} {ss : List Slot} {ends : List ℕ}
    {found : RunRow} → Walking g first far whole end ss ends found → length ss ≤ 0 → found ≡ run_row whole
unfolding walked
walk_end {ss = []} so_far none = row_filled so_far.filling refl
walk_end {ss = s ∷ ss} so_far none = absurd (omega arith)

-- ---- the runs of all slots

-- where those that hang together with the first slot stop, and where the last slot does
abbrev pub far_of : Gate → List Slot → ℕ
far_of g ss = hang_end (reach_of g) (slot_at ss 0).end (drop 1 ss)

abbrev pub last_of : List Slot → ℕ
last_of ss = (slot_at ss (length ss - 1)).end

-- the guard of the first slot does not reach back over the cycle's end
pub all_plain : (g : Gate) (ss : List Slot) → Chain 0 ss g.cycle → 0 < length ss → g.guard ≤ (slot_at ss 0).start
    → walked g (slot_at ss 0).start (far_of g ss) (last_of ss) ss ≡ runs g ss
all_plain g [] ok h w = absurd (omega arith)
all_plain g (s ∷ post) ok h w =
    ap (λ (e : ℕ). walked g s.start (far_of g (s ∷ post)) e (s ∷ post)) (sym (last_is s post))
    ∙ sym (runs_plain g s post ok w)

-- it does, and the first slot, one cycle on, hangs on the last
pub all_hung : (g : Gate) (ss : List Slot) → Chain 0 ss g.cycle → 0 < length ss → (slot_at ss 0).start < g.guard
    → (slot_at ss 0).start + g.cycle ≤ last_of ss + reach_of g
    → walked g (slot_at ss 0).start (far_of g ss) ((slot_at ss 0).end + g.cycle) (drop 1 ss) ≡ runs g ss
all_hung g [] ok h w near = absurd (omega arith)
all_hung g (s ∷ post) ok h w near = sym (runs_hung g s post ok w (rw (last_is s post) near))

-- it does, and the first slot's run comes last
pub all_across : (g : Gate) (ss : List Slot) → Chain 0 ss g.cycle → 0 < length ss → (slot_at ss 0).start < g.guard
    → last_of ss + reach_of g < (slot_at ss 0).start + g.cycle
    → walked g (slot_at ss 0).start (far_of g ss) ((slot_at ss 0).end + g.cycle) (drop 1 ss)
    ++ run_with g (slot_at ss 0).start (far_of g ss) (slot_at ss 0) (far_of g ss) ∷ []
    ≡ runs g ss
all_across g [] ok h w wide = absurd (omega arith)
all_across g (s ∷ post) ok h w wide = sym (runs_across g s post ok w (rw (last_is s post) wide))

-- what is known of all slots, one at least: the first, the last, and where those that hang together stop
pub record Known (g : Gate) (ss : List Slot) (first last : Slot) (ends : List ℕ) : Type 0 where
  pub fits : SlotsFit g ss
  pub some : 0 < length ss
  pub first_is : first ≡ slot_at ss 0
  pub last_is : last ≡ slot_at ss (length ss - 1)
  pub stops : ends ≡ hang_ends (reach_of g) ss

tail_all : {A : Type 0} (xs : List A) → take (length xs - 1) (drop 1 xs) ≡ drop 1 xs
tail_all xs =
    let e : length xs - 1 ≡ length (drop 1 xs) = omega (arith, length-drop 1 xs) in
    ap (λ (n : ℕ). take n (drop 1 xs)) e ∙ take-length (drop 1 xs)

module _ {g : Gate} {ss : List Slot} {first last : Slot} {ends : List ℕ} (k : Known g ss first last ends) where
  -- the first slot, those that hang together with it, and the last slot
  pub record Lie : Type 0 where
    pub first_some : first.start < first.end
    pub near : first.end ≤ get_or ends 0 0
    pub far_in : get_or ends 0 0 ≤ g.cycle
    pub last_in : last.end ≤ g.cycle

  far_is : get_or ends 0 0 ≡ far_of g ss
  far_is = ap (λ (l : List ℕ). get_or l 0 0) k.stops ∙ hang_ends_at (reach_of g) ss 0 k.some

  pub lie : Lie
  lie =
      let x = within (reach_of g) 0 g.cycle ss k.fits.chain 0 k.some in
      let y = within 0 0 g.cycle ss k.fits.chain (length ss - 1) (omega (arith, k.some)) in
      record {
        first_some = rw k.first_is x.some;
        near = rw (k.first_is, far_is) x.near;
        far_in = rw far_is x.far;
        last_in = omega (arith, y.near, y.far, ap (λ (s : Slot). s.end) k.last_is);
      }

  -- what the walks along all slots and along those behind the first ask
  pub walk_all : WalkFits g first.start (get_or ends 0 0) last.end ss ends
  walk_all =
      let x = lie in
      record {
        few = k.fits.few;
        fits = k.fits.gate;
        first_in = omega (arith, x.first_some, x.near, x.far_in);
        far_in = x.far_in;
        before_in = omega (arith, x.last_in);
        lo = 0;
        chain = k.fits.chain;
        stops = k.stops;
      }

  pub walk_others : WalkFits g first.start (get_or ends 0 0) (first.end + g.cycle)
      (take (length ss - 1) (drop 1 ss)) (take (length ends - 1) (drop 1 ends))
  walk_others =
      let x = lie in
      rw (tail_all ss, tail_all ends) (record {
        few = omega (arith, length-drop 1 ss, k.fits.few);
        fits = k.fits.gate;
        first_in = omega (arith, x.first_some, x.near, x.far_in);
        far_in = x.far_in;
        before_in = omega (arith, x.near, x.far_in);
        lo = (slot_at ss 0).end;
        chain = (chain_at 0 ss g.cycle 0 k.fits.chain k.some).1;
        stops = ap (drop 1) k.stops ∙ hangs_drop (reach_of g) 1 ss;
      })

  pub row_plain : {row : RunRow} → row ≡ run_row (walked g first.start (get_or ends 0 0) last.end ss)
      → g.guard ≤ first.start → row ≡ run_row (runs g ss)
  row_plain e w =
      e ∙ ap run_row (rw (far_is, k.first_is, k.last_is) (all_plain g ss k.fits.chain k.some (rw k.first_is at w)))

  -- behind the first slot there is a place for its run
  pub others_few : {row : RunRow}
      → row ≡ run_row (walked g first.start (get_or ends 0 0) (first.end + g.cycle) (take (length ss - 1) (drop 1 ss)))
      → row.n < 32
  others_few e =
      rw (row_count _ e)
      (omega (
        arith,
        walked_few g first.start (get_or ends 0 0) (first.end + g.cycle) (take (length ss - 1) (drop 1 ss)),
        length-take (length ss - 1) (drop 1 ss),
        k.fits.few,
        k.some,
      ))

  pub row_hung : {row : RunRow}
      → row ≡ run_row (walked g first.start (get_or ends 0 0) (first.end + g.cycle) (take (length ss - 1) (drop 1 ss)))
      → first.start < g.guard → first.start + g.cycle ≤ last.end + reach_of g → row ≡ run_row (runs g ss)
  row_hung e w near =
      e
      ∙ ap run_row
      (rw (tail_all ss, far_is, k.first_is)
      (all_hung g ss k.fits.chain k.some (rw k.first_is at w) (rw (k.first_is, k.last_is) at near)))

  pub row_across : {row more : RunRow} {r : Run}
      → row ≡ run_row (walked g first.start (get_or ends 0 0) (first.end + g.cycle) (take (length ss - 1) (drop 1 ss)))
      → r ≡ run_with g first.start (get_or ends 0 0) first (get_or ends 0 0)
      → more ≡ record { n = row.n + 1; row = set row.row row.n r } → first.start < g.guard
      → last.end + reach_of g < first.start + g.cycle → more ≡ run_row (runs g ss)
  row_across e x q w wide =
      let few = rw (row_count _ e) at (others_few e) in
      q ∙ row_more _ e x few
      ∙ ap run_row
      (rw (tail_all ss, far_is, k.first_is)
      (all_across g ss k.fits.chain k.some (rw k.first_is at w) (rw (k.first_is, k.last_is) at wide)))
