-- `gate::runs_from` meets its contract: the row begins with the runs that the slots passed start.
use Rattle.std.proofs.Common.{rules, ◌≡◌, ap, length, inl, inr, arith}
use Rattle.std.specs.Iterator.Adapters.{zip_first, zip_second}
use Rattle.std.specs.Slice.Iter.{iter_rest}
use Rattle.meaning.proofs.ChainCells.{reach_of}
use Rattle.gate.proofs.Hangs.{hang_ends_length}
use Rattle.gate.proofs.Turns.{AtSlot, walk_start, walk_narrow, walk_wide, walk_end, at_slot}
use Rattle.gate.proofs.runs_from.Goals as goal
use Rattle.gate.proofs.runs_from.Goals.{then-end-reach, else-end-reach, In-Some}

pub loop-s-init : goal.loop-s-init
loop-s-init c =
    let z = c.into_iter-s-iterator.result in
    let first : iter_rest (zip_first z) ≡ c.args.slots.now = search rules in
    let second : iter_rest (zip_second z) ≡ c.args.ends.now = search rules in
    rw (first, second) (walk_start c.requires c.none-found.ensures)

-- where this slot lies, and where those that hang together with it stop
here : (c : In-Some)
    → AtSlot c.args.g c.args.first c.args.far c.in-Some.s.now c.in-Some.e.now (iter_rest (zip_first c.next.new.self))
    (iter_rest (zip_second c.next.new.self))
here c = let (x, y) = c.in-Some.ensures.steps in at_slot (rw (x, y) at c.loop-s.invariant.fits)

pub overflow_add-s : goal.overflow_add-s
overflow_add-s c =
    let h = here (goal.at.overflow_add-s c).In-Some in
    omega (arith, h.some, h.near, h.stop_in, c.requires.fits.cycle_most)

pub run_with-requires : goal.run_with-requires
run_with-requires c =
    let h = here (goal.at.run_with-requires c).In-Some in
    let f = c.requires in
    (f.fits, f.first_in, f.far_in, h.stop_in, omega (arith, h.some, h.near), omega arith)

pub overflow_add-end-in-loop-s : goal.overflow_add-end-in-loop-s
overflow_add-end-in-loop-s c =
    let h = here (goal.at.overflow_add-end-in-loop-s c).In-Some in
    omega (arith, h.near, h.stop_in, c.requires.fits.cycle_most)

pub loop-s-preserved : goal.loop-s-preserved
loop-s-preserved c =
    let (x, y) = c.in-Some.ensures.steps in
    let so_far = rw (x, y) at c.loop-s.invariant in
    elim c.if-end-reach.branch [
      | then-end-reach w ↦ rw w.found-is (walk_wide so_far w.if-end-reach.true w.run_with.ensures w.push.ensures)
      | else-end-reach w ↦ rw w.found-is (walk_narrow so_far w.if-end-reach.false)
    ]

pub returns : goal.returns
returns c =
    let w = c.loop-s.invariant in
    let slots = iter_rest (zip_first c.loop-s.s-iterator) in
    walk_end w (
    elim c.in-None.ensures.steps [
      | inl x ↦ omega (arith, x.1.0)
      | inr y ↦ omega (arith, y.1.0, ap length w.fits.stops, hang_ends_length (reach_of c.args.g) slots)
    ]
    )
