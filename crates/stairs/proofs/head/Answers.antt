-- `stairs::head` meets its contract: the key of the next pair of a row, or of none.
use Rattle.std.proofs.Common.{arith}
use Rattle.stairs.specs.Heads.{done}
use Rattle.stairs.proofs.Keys.{start_below, head_at_most, head_key_lem, head_done}
use Rattle.stairs.proofs.head.Goals as goal

pub returns-then-runs-j : goal.returns-then-runs-j
unfolding done
returns-then-runs-j c = omega (arith, head_done c.requires c.if-runs-j.true)

pub distance-d-requires : goal.distance-d-requires
distance-d-requires c =
    let f = c.requires.fits in
    (start_below f _ c.requires.row, start_below f _ c.behind.ensures.1, f.in_horizon)

pub overflow_add-t : goal.overflow_add-t
overflow_add-t c = omega (arith, head_at_most c.requires c.if-runs-j.false _ c.behind.ensures.0)

pub leaf-requires : goal.leaf-requires
leaf-requires c = (
  omega (arith, head_at_most c.requires c.if-runs-j.false _ c.behind.ensures.0),
  omega (arith, c.requires.row, c.requires.fits.few),
)

pub returns : goal.returns
returns c =
    omega (
      arith,
      c.leaf.ensures,
      head_key_lem c.requires c.if-runs-j.false _ c.behind.ensures.0 _ c.distance-d.ensures,
    )
