-- `fields::field_at` meets its contract: fewer than three octets, the three tags, and any other tag.
use Rattle.std.proofs.Common.{arith}
use Rattle.fields.proofs.Fronts.{field_short, field_unknown}
use Rattle.fields.proofs.field_at.Goals as goal

pub returns-then-plan-at-lt3 : goal.returns-then-plan-at-lt3
returns-then-plan-at-lt3 c = field_short c.args.plan.now c.args.at c.if-plan-at-lt3.true

pub returns-in_default : goal.returns-in_default
returns-in_default c =
    field_unknown c.args.plan.now c.args.at c.if-plan-at-lt3.false
    (λ q. omega arith) (λ q. omega arith) (λ q. omega arith)
