-- `face::numbers::bound_of` meets its contract: no refusal but late carries a value.
use mathlib.Core.Path.{sym, ap}
use Rattle.meaning.specs.Refusals.{values_of}
use Rattle.face.specs.Told.{the_one}
use Rattle.answers.proofs.Carried.{none_but_late}
use Rattle.face.proofs.numbers.bound_of.Goals as goal

pub returns-in-Late : goal.returns-in-Late
unfolding the_one values_of
returns-in-Late c = sym (ap (λ a. the_one (values_of a)) c.in-Late.is)

pub returns-in_default : goal.returns-in_default
unfolding the_one
returns-in_default c = sym (ap the_one (none_but_late c.args.why c.in_default.not-Late))
