-- `frames::worst` meets its contract.
use Rattle.std.proofs.Common.{◌≡◌, ◌+◌, ◌-◌, ◌*◌, ◌≤◌, max, refl, arith, rules}
use Rattle.search.specs.Searches.{table_of, asked_of, demand, Closes}
use Rattle.search.proofs.Searching.{base_soon, counted_on_to}
use Rattle.arrivals.proofs.Arriving.{next_near}
use Rattle.frames.proofs.Framing.{FrameNumbers, first, numbers_start, numbers_next, later_soon}
use Rattle.frames.proofs.Framing.{cold_start, frame_closes, frame_under, frame_sent, frames_start, frames_next}
use Rattle.frames.proofs.worst.Goals.{Start, After-from, After-settle}
use Rattle.frames.proofs.worst.Goals as goal

-- the search for the first wait starts inside the window
cold : (s : Start)
    → let o = asked_of s.args.own.now in
    o.lower + (first o - 1) * o.wire + o.wire ≤ 100_000_000
cold s =
    let d = s.args.demand.now in
    let r = d.rows.now in
    let own = s.args.own.now in
    let o = asked_of own in
    cold_start (table_of d.stairs) d.bounds.grows o own.fits r.per r.jit r.cost r.n s.args.frames
    s.requires (o.lower + (first o - 1) * o.wire) refl

pub first_base-base-requires : goal.first_base-base-requires
first_base-base-requires c = omega (arith, cold (goal.at.first_base-base-requires c).Start)

pub counted-seen-requires : goal.counted-seen-requires
counted-seen-requires c = omega (arith, cold (goal.at.counted-seen-requires c).Start, c.first_base-base.ensures)

pub loop-init : goal.loop-init
loop-init c =
    let d = c.args.demand.now in
    let r = d.rows.now in
    let own = c.args.own.now in
    let base = c.first_base-base in
    let next = c.next_after-later in
    let near = next_near 0 own.period own.jitter (omega arith) own.fits.period_least in (
      c.counted-seen.ensures.0,
      omega (arith, cold (goal.at.loop-init c).Start, base.ensures),
      numbers_start (asked_of own) own.fits base.result next.result base.ensures next.ensures.0
          (rw next.ensures.0 near.0),
      frames_start (table_of d.stairs) d.bounds.grows (asked_of own) own.fits r.per r.jit r.cost r.n
          c.args.frames base.result base.ensures,
    )

-- the numbers of the frame, as they are handed on
numbers : (c : After-from)
    → FrameNumbers (asked_of c.args.own.now) c.loop.counter c.from.result c.loop.come c.loop.later
numbers c = rw c.from.ensures c.loop.invariant.2

-- some number up to the horizon closes the wait of the frame, and so base is no longer than it
closes : (c : After-from)
    → Closes (demand c.args.demand.now.stairs c.args.demand.now.rows.now c.from.result c.args.own.now.wire)
closes c =
    let d = c.args.demand.now in
    let r = d.rows.now in
    let own = c.args.own.now in
    frame_closes (table_of d.stairs) d.bounds.grows (asked_of own) own.fits r.per r.jit r.cost r.n
    c.args.frames c.requires c.loop.counter c.from.result c.loop.come c.loop.later (numbers c) c.loop-test.true

base_few : (c : After-from) → c.loop.base ≤ 100_000_000
base_few c =
    let d = c.args.demand.now in
    let r = d.rows.now in
    omega (
      arith,
      c.from.ensures,
      base_soon (table_of d.stairs) r.per r.jit r.cost r.n c.from.result c.args.own.now.wire (closes c),
    )

pub settle-requires : goal.settle-requires
settle-requires c =
    let d = c.args.demand.now in
    let r = d.rows.now in
    let own = c.args.own.now in
    let l = c.loop in
    let at = (goal.at.settle-requires c).After-from in (
      l.invariant.0,
      omega (arith, base_few at, c.from.ensures),
      omega (arith, own.fits.wire_most),
      frame_under (table_of d.stairs) d.bounds.grows (asked_of own) own.fits r.per r.jit r.cost r.n
          c.args.frames c.requires l.counter c.from.result l.come l.later (numbers at) c.loop-test.true l.w l.best
          l.invariant.3,
      closes at,
    )

-- the frame is sent inside the window, and waits until it has come
sent : (c : After-settle)
    → (c.settle.result + c.args.own.now.wire ≤ 100_000_000) × (c.loop.come ≤ c.settle.result)
sent c =
    let d = c.args.demand.now in
    let r = d.rows.now in
    let own = c.args.own.now in
    let l = c.loop in
    let at = (goal.at.settle-requires c.before).After-from in
    frame_sent (table_of d.stairs) d.bounds.grows (asked_of own) own.fits r.per r.jit r.cost r.n
    c.args.frames c.requires l.counter c.from.result l.come l.later (numbers at) c.loop-test.true c.settle.result
    c.settle.ensures.2

pub overflow_sub-sent : goal.overflow_sub-sent
overflow_sub-sent c = omega (arith, (sent (goal.at.overflow_sub-sent c).After-settle).1)

pub overflow_add-base : goal.overflow_add-base
overflow_add-base c = omega (arith, base_few (goal.at.overflow_add-base c).After-from, c.args.own.now.fits.wire_most)

pub step-later-requires : goal.step-later-requires
step-later-requires c =
    let own = c.args.own.now in
    let l = c.loop in
    let soon = later_soon (asked_of own) own.fits l.counter l.base l.come l.later l.invariant.2 in (
      omega (arith, own.fits.period_most, sent (goal.at.step-later-requires c).After-settle, soon),
      own.fits.period_most,
    )

pub loop-preserved : goal.loop-preserved
loop-preserved c =
    let d = c.args.demand.now in
    let r = d.rows.now in
    let own = c.args.own.now in
    let l = c.loop in
    let w = c.settle.result in
    let u = c.settle.ensures in
    let larger : c.max-best.result ≡ max l.best (w + own.wire - l.come) = search rules in (
      counted_on_to r u.0 (omega arith),
      (sent (goal.at.loop-preserved c).After-settle).0,
      numbers_next (asked_of own) own.fits l.counter l.base l.come l.later l.invariant.2 c.step-later.result
          c.step-later.ensures,
      frames_next (table_of d.stairs) d.bounds.grows (asked_of own) own.fits r.per r.jit r.cost r.n
          c.args.frames l.counter c.from.result l.come l.later w l.w l.best (w + own.wire) c.max-best.result
          (numbers (goal.at.loop-preserved c).After-from) c.loop-test.true u.2 l.invariant.3 refl larger,
    )
