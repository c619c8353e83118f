-- `gate::Slots::find_runs` meets its contract: the runs behind the first slot, and its own last where its guard reaches
-- back over the cycle's end.
use Rattle.std.proofs.Common.{ap, sym, ◌∙◌, length, take, arith}
use Rattle.gate.specs.Rows.{run_row}
use Rattle.gate.proofs.Hangs.{no_slot}
use Rattle.gate.proofs.Walks.{runs_none}
use Rattle.gate.proofs.Turns.{
  Known,
  lie,
  walk_all,
  walk_others,
  others_few,
  row_plain,
  row_hung,
  row_across,
}
use Rattle.gate.proofs.Slots.find_runs.Goals as goal
use Rattle.gate.proofs.Slots.find_runs.Goals.{
  After-hang_ends-ends,
  in_default-via-in-Some+in_default,
  in_default-via-in_default,
}

known : (c : After-hang_ends-ends)
    → Known c.args.self.now.gate c.args.self.now.slots.now c.in-Some-Some.first.now c.in-Some-Some.last.now
    (take (length c.args.self.now.slots.now) c.hang_ends-ends.result)
known c =
    let x = c.in-Some-Some.ensures.item.3 in
    record {
      fits = c.args.self.now.fits;
      some = x.0;
      first_is = x.1 no_slot;
      last_is = c.in-Some-Some.ensures'.item.3.1 no_slot;
      stops = c.hang_ends-ends.ensures;
    }

pub returns-in_default : goal.returns-in_default
returns-in_default c =
    c.none.ensures
    ∙ ap run_row
    (sym
    (runs_none c.args.self.now.gate c.args.self.now.slots.now
    (elim c.in_default.branch [
      | in_default-via-in-Some+in_default w ↦ w.in_default.ensures'.item.3
      | in_default-via-in_default w ↦ w.in_default.ensures.item.3
    ])))

pub runs_from-requires : goal.runs_from-requires
runs_from-requires c = walk_all (known (goal.at.runs_from-requires c).After-hang_ends-ends)

pub returns-then-g-first : goal.returns-then-g-first
returns-then-g-first c =
    row_plain (known (goal.at.returns-then-g-first c).After-hang_ends-ends) c.runs_from.ensures c.if-g-first.true

pub overflow_add-first : goal.overflow_add-first
overflow_add-first c =
    let x = lie (known (goal.at.overflow_add-first c).After-hang_ends-ends) in
    omega (arith, x.near, x.far_in, c.args.self.now.fits.gate.cycle_most)

pub runs_from-found-requires : goal.runs_from-found-requires
runs_from-found-requires c = walk_others (known (goal.at.runs_from-found-requires c).After-hang_ends-ends)

pub overflow_add-last : goal.overflow_add-last
overflow_add-last c =
    let x = lie (known (goal.at.overflow_add-last c).After-hang_ends-ends) in
    let f = c.args.self.now.fits.gate in
    omega (arith, x.last_in, f.cycle_most, f.guard_most, f.header_most)

pub run_with-requires : goal.run_with-requires
run_with-requires c =
    let x = lie (known (goal.at.run_with-requires c).After-hang_ends-ends) in (
      c.args.self.now.fits.gate,
      omega (arith, x.first_some, x.near, x.far_in),
      x.far_in,
      x.far_in,
      omega (arith, x.first_some, x.near),
      omega (arith, c.if-last-reach.true),
    )

pub push-requires : goal.push-requires
push-requires c = others_few (known (goal.at.push-requires c).After-hang_ends-ends) c.runs_from-found.ensures

pub returns-then-last-reach : goal.returns-then-last-reach
returns-then-last-reach c =
    row_across (known (goal.at.returns-then-last-reach c).After-hang_ends-ends) c.runs_from-found.ensures
    c.run_with.ensures c.push.ensures c.if-g-first.false c.if-last-reach.true

pub returns-else-last-reach : goal.returns-else-last-reach
returns-else-last-reach c =
    row_hung (known (goal.at.returns-else-last-reach c).After-hang_ends-ends) c.runs_from-found.ensures
    c.if-g-first.false c.if-last-reach.false
