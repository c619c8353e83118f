-- `speed::speed_bound` meets its contract: what is lent of the stairs gives their V.
use Rattle.std.proofs.Common.{◌≡◌, ℕ, List, length, take, sym, ap, ◌∙◌, arith}
use mathlib.Core.Path.{fun_ext, subst}
use Rattle.meaning.specs.Response.{bound}
use Rattle.table.specs.Lookup.{all_in, stairs_v, TableFits}
use Rattle.table.proofs.Reached.{all_take, lent_v}
use Rattle.search.specs.Asked.{asked}
use Rattle.bound.specs.Answers.{response_of, RowsAsk}
use Rattle.speed.specs.Told.{number_of, table_v}
use Rattle.speed.proofs.speed_bound.Goals.{Start}
use Rattle.speed.proofs.speed_bound.Goals as goal

v_is : (cycle : ℕ) (far tot : List ℕ) (m : ℕ) → TableFits cycle far tot m
    → stairs_v cycle (take m far) (take m tot) ≡ table_v cycle far tot m
v_is cycle far tot m fit = fun_ext (lent_v cycle far tot m fit)

all_is : (cycle : ℕ) (far tot : List ℕ) (m : ℕ) → TableFits cycle far tot m
    → all_in (take m tot) (length (take m tot)) ≡ all_in tot m
all_is cycle far tot m fit = all_take tot m (omega (arith, fit.few, fit.tot_long))

pub rows_bound-requires : goal.rows_bound-requires
rows_bound-requires c =
    let a = c.args in
    let o = asked a.lower a.wire a.period a.jitter in
    let fit = c.requires.table in
    let lent = take a.m a.tot.now in
    subst (λ v. RowsAsk v (all_in lent (length lent)) o a.per.now a.jit.now a.cost.now a.n)
    (sym (v_is a.cycle a.far.now a.tot.now a.m fit))
    (subst (λ x. RowsAsk (table_v a.cycle a.far.now a.tot.now a.m) x o a.per.now a.jit.now a.cost.now a.n)
    (sym (all_is a.cycle a.far.now a.tot.now a.m fit)) c.requires.asks)

pub returns : goal.returns
returns c s =
    let a = c.args in
    let v = v_is a.cycle a.far.now a.tot.now a.m c.requires.table in
    c.unwrap_or.ensures
    ∙ ap number_of
    (c.rows_bound.ensures s ∙ ap (λ v. response_of (bound s.rate v a.lower s.rest s.own)) v)
