-- `arrivals::counts::Counts::pass` meets its contract. The invariant: the first i streams are done.
use mathlib.Core.Path.{◌≡◌}
use Prim.Native.Nat.{◌<◌}
use native.Mathlib.Omega.{arith}
use lib.ListN.{length, length-take}
use borrow.Author.Rules.{rules}
use Rattle.arrivals.proofs.Counting.{pass_starts, pass_more, rows_few, pass_ends}
use Rattle.arrivals.proofs.counts.Counts.pass.Goals as goal

pub loop-i-init : goal.loop-i-init
loop-i-init c = pass_starts _ _ _ c.args.x

pub loop-i-preserved : goal.loop-i-preserved
loop-i-preserved c =
    let l = c.loop-i in
    let rows = c.args.rows.now in
    let below : l.i < rows.n = omega (arith, length-take rows.n c.args.self.now.next) in
    pass_more _ _ _ c.args.x l.i l.next-items l.load l.least _ _ _ l.invariant (omega arith) c.step.ensures
    c.gain-load.ensures.0 (omega (arith, rows.fit.costs l.i below)) c.min-least.ensures

pub overflow_add-self : goal.overflow_add-self
overflow_add-self c =
    let rows = c.args.rows.now in
    let lent = length-take rows.n c.args.self.now.next in
    omega (
      arith,
      c.loop-i.invariant.few,
      rows.fit.few,
      rows_few rows.per rows.jit rows.cost rows.n rows.fit c.args.self.now c.args.x c.requires.1 c.requires.0,
    )

pub returns : goal.returns
returns c =
    let rows = c.args.rows.now in
    let seen = c.args.self.now in
    let l = c.loop-i in
    let long : length seen.next ≡ 64 = search rules in
    let lent = length-take rows.n seen.next in
    let as_many : length l.next-items ≡ rows.n = omega (arith, rows.fit.few) in
    let all : l.i ≡ rows.n = omega (arith, rows.fit.few) in
    rw c.from.ensures
    (pass_ends rows.per rows.jit rows.cost rows.n rows.fit seen c.args.x c.requires.1 l.next-items l.load l.least
    seen.shortest as_many (rw all at l.invariant) c.requires.2 c.requires.0)
