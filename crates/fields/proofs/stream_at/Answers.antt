-- `fields::stream_at` meets its contract: each number of a whole value stands at its offset in it.
use Rattle.std.proofs.Common.{Ok, Err, ◌∙◌, arith}
use Rattle.std.proofs.lemmas.Result.{err_from_is_err_and}
use Rattle.meaning.specs.Bytes.{value_length, field_of}
use Rattle.fields.specs.declared.Field.TheVariants as case
use Rattle.fields.specs.Reading.{field_at}
use Rattle.fields.proofs.Fronts.{number_in_value, field_by_value}
use Rattle.fields.proofs.stream_at.Goals as goal

pub returns-in_err-value_at : goal.returns-in_err-value_at
unfolding field_at value_length
returns-in_err-value_at c =
    let p = err_from_is_err_and c.from_residual.result c.from_residual.ensures.1 in
    rw (p.1, p.2)
    (field_by_value c.args.plan.now c.args.at 3 c.requires.0 c.requires.1 (omega arith) (Err _)
    c.in_err-value_at.ensures.is)

pub returns : goal.returns
unfolding field_at field_of value_length
returns c =
    let read = number_in_value c.args.plan.now c.args.at 17 c.in_ok-value_at.ensures.whole in
    (λ i.
    Ok
    (case.Stream
    (record {
      id = (c.number.ensures ∙ read 0 2 _ (omega arith) (omega arith)) i;
      priority = (c.number-2.ensures ∙ read 2 1 _ (omega arith) (omega arith)) i;
      octets = (c.number-3.ensures ∙ read 3 2 _ (omega arith) (omega arith)) i;
      period = (c.number-4.ensures ∙ read 5 4 _ (omega arith) (omega arith)) i;
      jitter = (c.number-5.ensures ∙ read 9 4 _ (omega arith) (omega arith)) i;
      deadline = (c.number-6.ensures ∙ read 13 4 _ (omega arith) (omega arith)) i;
    })))
    ∙ field_by_value c.args.plan.now c.args.at 3 c.requires.0 c.requires.1 (omega arith) (Ok tt)
    c.in_ok-value_at.ensures.is
