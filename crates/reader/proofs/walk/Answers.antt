-- `reader::walk` meets its contract: turn by turn, what is left from a place decides what the plan gives.
use Rattle.std.proofs.Common.{[], zero-le, sym, ap, ◌∙◌, arith}
use Rattle.std.proofs.lemmas.Result.{err_from_is_err_and}
use Rattle.meaning.specs.Desks.{Desk as Plan}
use Rattle.meaning.specs.Bytes.{ended, going, read}
use Rattle.entries.proofs.Opened.{held_bare, open_entries}
use Rattle.reader.specs.Reading.{read_answer}
use Rattle.reader.proofs.Walks.{read_start, read_turn, read_refused, read_ends, went_on, went_no_further}
use Rattle.reader.proofs.walk.Goals as goal

pub loop-at-init : goal.loop-at-init
loop-at-init c = (c.requires.0, zero-le, rw c.requires.1 (read_start c.args.plan.now))

pub returns-in_err-at : goal.returns-in_err-at
returns-in_err-at c =
    let plan = c.args.plan.now in
    let (stops, place) =
    went_no_further plan c.loop-at.at c.loop-at.e c.walk_on.new.e c.loop-at-test.true _ c.in_err-at.ensures.0 in
    let p = err_from_is_err_and c.from_residual.result c.from_residual.ensures.1 in
    rw (p.1, p.2)
    (read_refused plan c.loop-at.at _ c.loop-at.invariant.2 _ stops place, tt, c.in_err-at.ensures.0.fit)

pub loop-at-smaller : goal.loop-at-smaller
loop-at-smaller c =
    let l = c.loop-at in
    let on = went_on c.args.plan.now l.at l.e c.walk_on.new.e c.loop-at-test.true _ c.in_ok-at.ensures.0 in
    omega (arith, on.0, c.loop-at-test.true)

pub loop-at-preserved : goal.loop-at-preserved
loop-at-preserved c =
    let plan = c.args.plan.now in
    let on = went_on plan c.loop-at.at c.loop-at.e c.walk_on.new.e c.loop-at-test.true _ c.in_ok-at.ensures.0 in
    (c.in_ok-at.ensures.0.fit, c.in_ok-at.ensures.1, read_turn plan c.loop-at.at _ c.loop-at.invariant.2 _ _ on.1)

pub returns-then-not-e : goal.returns-then-not-e
unfolding ended
returns-then-not-e c =
    let l = c.loop-at in
    let ends = read_ends c.args.plan.now l.at _ l.invariant.2 c.loop-at-test.false in
    let shut = ap (λ (x : Plan). ended (going l.at [] x)) (held_bare l.e c.if-not-e.true) in
    (sym (ap read_answer (ends ∙ shut)), tt, l.invariant.0)

pub returns : goal.returns
unfolding ended
returns c =
    let l = c.loop-at in
    let holds = (open_entries l.e l.invariant.0 c.if-not-e.false).holds in
    let gives =
    read_ends c.args.plan.now l.at _ l.invariant.2 c.loop-at-test.false
    ∙ ap (λ (x : Plan). ended (going l.at [] x)) holds
    ∙ ap read (sym holds) in
    (sym (ap read_answer gives), (c.if-not-e.false, gives), l.invariant.0)
