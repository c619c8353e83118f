-- `fields::value_at` meets its contract: the wrong length, the value cut, the value whole.
use Rattle.std.proofs.Common.{sym, ◌∙◌, arith}
use Rattle.fields.proofs.Fronts.{value_wrong, value_cut, value_whole}
use Rattle.fields.proofs.value_at.Goals as goal

pub returns-then-number-octets : goal.returns-then-number-octets
returns-then-number-octets c =
    let a = c.args in
    record {
      is = value_wrong a.plan.now a.at a.octets (λ e. c.if-number-octets.true (c.number.ensures ∙ e));
      whole = tt;
    }

pub returns-then-plan-at : goal.returns-then-plan-at
returns-then-plan-at c =
    let a = c.args in
    record {
      is = value_cut a.plan.now a.at a.octets (sym c.number.ensures ∙ c.if-number-octets.false) (omega arith);
      whole = tt;
    }

pub returns : goal.returns
returns c =
    let a = c.args in
    record {
      is = value_whole a.plan.now a.at a.octets (sym c.number.ensures ∙ c.if-number-octets.false) (omega arith);
      whole = omega arith;
    }
