-- `arrivals::counts::Counts::count` meets its contract. The invariant: the first i streams are counted.
use mathlib.Core.Path.{◌≡◌, ap, ◌∙◌}
use Prim.Native.Nat.{ℕ, ◌*◌, ◌<◌}
use native.Mathlib.Omega.{arith}
use lib.ListN.{length, get_or, length-take}
use borrow.Author.Rules.{rules}
use Rattle.arrivals.proofs.Arriving.{next_near}
use Rattle.arrivals.proofs.Counting.{count_starts, count_more, count_back, count_ends, load_room}
use Rattle.arrivals.proofs.counts.Counts.count.Goals as goal

pub loop-i-init : goal.loop-i-init
loop-i-init c = count_starts _ _ _ c.args.x _ 4_294_967_295 (omega arith)

pub overflow_add-load : goal.overflow_add-load
overflow_add-load c =
    let rows = c.args.rows.now in
    let l = c.loop-i in
    let below : l.i < rows.n = omega (arith, length-take rows.n c.args.self.now.next) in
    load_room rows.per rows.jit rows.cost rows.n rows.fit c.args.x l.i l.load c.frames_wire-load.result c.requires
    below l.invariant.1 c.frames_wire-load.ensures.1

pub loop-i-preserved : goal.loop-i-preserved
loop-i-preserved c =
    let rows = c.args.rows.now in
    let l = c.loop-i in
    let below : l.i < rows.n = omega (arith, length-take rows.n c.args.self.now.next) in
    let cost = get_or rows.cost l.i 0 in
    let near =
    next_near c.args.x (get_or rows.per l.i 0) (get_or rows.jit l.i 0) c.requires (rows.fit.periods l.i below).0 in
    count_more rows.per rows.jit rows.cost c.args.x l.i l.next-items l.load l.least c.next_after.result
    c.frames_wire-load.result c.min-least.result l.invariant (omega arith) c.next_after.ensures.0
    (rw c.next_after.ensures.0 near.0)
    (c.frames_wire-load.ensures.0 ∙ ap (λ (k : ℕ). k * cost) c.frames_in.ensures.0) c.min-least.ensures

pub returns : goal.returns
returns c =
    let rows = c.args.rows.now in
    let next = c.args.self.now.next in
    let long : length next ≡ 64 = search rules in
    let l = c.loop-i in
    let lent = length-take rows.n next in
    let as_many : length l.next-items ≡ rows.n = omega (arith, rows.fit.few) in
    let all : l.i ≡ rows.n = omega (arith, rows.fit.few) in
    count_ends rows.per rows.jit rows.cost rows.n rows.fit c.args.x _
    (count_back rows.per rows.jit rows.cost c.args.x rows.n next l.next-items l.load l.least as_many
    (rw all at l.invariant))
