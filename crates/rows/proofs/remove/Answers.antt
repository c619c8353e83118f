-- `rows::remove` meets its contract: the loop closes the row over place p.
use Rattle.std.proofs.Common.{◌≡◌, ◌+◌, ◌-◌, ◌∙◌, ap, sym, arith, length, get_or}
use Rattle.std.proofs.Math.ListN.{set}
use Rattle.laws.proofs.Shifting.{close_start, close_next, close_end}
use Rattle.rows.proofs.remove.Goals as goal

pub loop-i-init : goal.loop-i-init
loop-i-init g c = close_start c.args.row.now c.args.n c.args.p (omega arith) (omega arith)

pub loop-i-preserved : goal.loop-i-preserved
loop-i-preserved g c =
    let row = c.loop-i.row in
    let i = c.loop-i.i in
    let x = c.index-row-i.result in
    let here : get_or row (i + 1) x ≡ x = sym c.index-row-i.is in
    let step = close_next c.args.row.now c.args.n c.args.p row i x (omega arith) (omega arith) c.loop-i.invariant in
    rw here at step

pub returns : goal.returns
returns g c =
    let l = c.args.row.now in
    let n = c.args.n in
    let p = c.args.p in
    let row = c.loop-i.row in
    ap (set row (n - 1)) c.free.ensures
    ∙ close_end (length l) g.T.Keyed.free_place l n p row c.loop-i.i
    (omega arith) (omega arith) c.requires.2 (omega arith) c.loop-i.invariant
