-- `stairs::build` meets its contract: the pairs come by rising key, and those over the last total are stairs.
use Rattle.std.proofs.Common.{refl, ◌≡◌, ◌+◌, ◌/◌, ◌%◌, get_or, get_or-set_same, arith}
use Rattle.stairs.specs.Heads.{done}
use Rattle.stairs.proofs.Tree.{standing_put}
use Rattle.stairs.proofs.Turns.{Chosen, moved_on, left_falls, so_far_start, first_chosen}
use Rattle.stairs.proofs.Turns.{so_far_room, so_far_stair, so_far_covered, so_far_end, moving_on}
use Rattle.stairs.proofs.build.Goals as goal
use Rattle.stairs.proofs.build.Goals.{After-total_of-t, then-top-t, else-top-t}

-- the row that the least leaf names has the nearest head
chose : (c : After-total_of-t)
    → Chosen c.args.cycle c.args.runs.now c.loop-low.pos (c.loop-low.low % 32) (c.loop-low.low / 32)
unfolding done
chose c =
    let (s, _, low) = c.loop-low.invariant in
    first_chosen c.requires.1 s c.loop-low.low low c.loop-low-test.true

-- where that row stands once it has moved on
moved_to : (c : After-total_of-t)
    → let i = c.loop-low.low % 32 in
    let pos = c.loop-low.pos in
    get_or (moved_on pos i) i 0 ≡ get_or pos i 0 + 1
moved_to c =
    let i = c.loop-low.low % 32 in
    let pos = c.loop-low.pos in
    get_or-set_same pos i (get_or pos i 0 + 1) 0 (omega (arith, c.loop-low.invariant.0.heads.rows))

pub loop-low-init : goal.loop-low-init
loop-low-init c = (c.heads-tree.ensures, so_far_start c.requires.1, refl)

pub push-requires : goal.push-requires
push-requires c =
    let (s, t, _) = c.loop-low.invariant in
    so_far_room c.requires.1 t (chose (goal.at.push-requires c).After-total_of-t) s.heads.rows _ c.total_of-t.ensures
    c.if-top-t.true

pub overflow_add-pos : goal.overflow_add-pos
overflow_add-pos c =
    omega (arith, (chose (goal.at.overflow_add-pos c).After-total_of-t).near.live, c.requires.0)

pub head-requires : goal.head-requires
head-requires c =
    let k = (goal.at.head-requires c).After-total_of-t in
    rw (moved_to k) (moving_on c.requires.1 (chose k) _ c.total_of-t.ensures)

pub loop-low-smaller : goal.loop-low-smaller
loop-low-smaller c =
    let near = (chose (goal.at.loop-low-smaller c).After-total_of-t).near in
    left_falls _ _ _ (omega (arith, c.loop-low.invariant.0.heads.rows, c.requires.0)) near.row near.live

pub loop-low-preserved : goal.loop-low-preserved
loop-low-preserved c =
    let k = (goal.at.loop-low-preserved c).After-total_of-t in
    let (s, t, _) = c.loop-low.invariant in
    let f = c.requires.1 in (
      standing_put s _ _ c.head.result (omega arith) (rw (moved_to k) at c.head.ensures) c.put-low.ensures.2,
      elim c.if-top-t.branch [
        | then-top-t w ↦
            rw (w.table-is, w.top-is, w.push.ensures)
            (so_far_stair f t (chose k) s.heads.rows _ c.total_of-t.ensures w.if-top-t.true _ w.far_of.ensures)
        | else-top-t w ↦
            rw (w.table-is, w.top-is)
            (so_far_covered f t (chose k) s.heads.rows _ c.total_of-t.ensures w.if-top-t.false)
      ],
      c.put-low.ensures.0,
    )

pub returns : goal.returns
unfolding done
returns c =
    let (s, t, low) = c.loop-low.invariant in
    so_far_end c.requires.1 t s c.loop-low.low low c.loop-low-test.false
