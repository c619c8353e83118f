-- `bound::enough::enough` meets its contract.
use Rattle.std.proofs.Common.{ℕ, ◌*◌, sym, ap, ◌∙◌, inr, arith}
use native.Mathlib.Nat.{zero-add}
use Rattle.meaning.specs.Arrivals.{most_in}
use Rattle.arrivals.proofs.Counting.{rows_on}
use Rattle.search.specs.Asked.{own_stream, calm_own}
use Rattle.search.specs.Searches.{table_of, asked_of}
use Rattle.search.proofs.Searching.{tried_busy}
use Rattle.bound.proofs.enough.enough.Goals as goal

-- What is counted is of the rows lent, so the window that closes is one of theirs,
-- with the jitter that they have.
pub returns-then-need-from : goal.returns-then-need-from
returns-then-need-from c =
    let d = c.args.calm.now in
    let r = d.rows.now in
    let calm = calm_own (asked_of c.args.own.now) in
    let w = c.loop.w in
    let k = c.frames_in-k in
    let most = most_in (own_stream calm) w in
    let none =
    c.frames_wire.ensures.0 ∙ ap (λ (q : ℕ). q * calm.wire) k.ensures.0 ∙ sym (zero-add (most * calm.wire)) in
    let busy =
    tried_busy (table_of d.stairs) r.per r.jit r.cost r.n calm c.frames_wire.result w none in (
      inr (w, omega (arith, c.attempt-need.ensures.1, busy), omega (arith, k.ensures.0)),
      omega arith,
    )

pub loop-preserved : goal.loop-preserved
loop-preserved c =
    let r = c.args.calm.now.rows.now in
    let t = c.attempt-need in (
      rows_on r.per r.jit r.cost r.n r.fit t.new.seen c.loop.w t.ensures.0 t.result (omega arith),
      omega arith,
    )
