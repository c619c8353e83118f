-- `fields::slot_at` meets its contract: each number of a whole value stands at its offset in it.
use Rattle.std.proofs.Common.{Ok, Err, ◌∙◌, arith}
use Rattle.std.proofs.lemmas.Result.{err_from_is_err_and}
use Rattle.meaning.specs.Bytes.{value_length, field_of}
use Rattle.fields.specs.declared.Field.TheVariants as case
use Rattle.fields.specs.Reading.{field_at}
use Rattle.fields.proofs.Fronts.{number_in_value, field_by_value}
use Rattle.fields.proofs.slot_at.Goals as goal

pub returns-in_err-value_at : goal.returns-in_err-value_at
unfolding field_at value_length
returns-in_err-value_at c =
    let p = err_from_is_err_and c.from_residual.result c.from_residual.ensures.1 in
    rw (p.1, p.2)
    (field_by_value c.args.plan.now c.args.at 2 c.requires.0 c.requires.1 (omega arith) (Err _)
    c.in_err-value_at.ensures.is)

pub returns : goal.returns
unfolding field_at field_of value_length
returns c =
    let read = number_in_value c.args.plan.now c.args.at 8 c.in_ok-value_at.ensures.whole in
    (λ i.
    Ok
    (case.Slot
    (record {
      start = (c.number.ensures ∙ read 0 4 _ (omega arith) (omega arith)) i;
      end = (c.number-2.ensures ∙ read 4 4 _ (omega arith) (omega arith)) i;
    })))
    ∙ field_by_value c.args.plan.now c.args.at 2 c.requires.0 c.requires.1 (omega arith) (Ok tt)
    c.in_ok-value_at.ensures.is
