-- `questions::stairs_of` meets its contract: the stairs stored in a fit open desk are those of its slots.
use mathlib.Core.Path.{ap}
use Rattle.meaning.specs.declared.Refusal.TheVariants.{OutOfTurn}
use Rattle.table.specs.Rows.{table_of}
use Rattle.questions.specs.Replies.{answer_by}
use Rattle.questions.proofs.Asking.{handed_on, stairs_closed, stairs_open}
use Rattle.questions.proofs.stairs_of.Goals as goal

pub returns-in_err-opened : goal.returns-in_err-opened
returns-in_err-opened c =
    let (why, shut) = c.in_err-opened.ensures in
    handed_on _ _ _ OutOfTurn c.from_residual.ensures.1 why
    (ap (answer_by table_of) (stairs_closed c.args.d.now shut))

pub returns : goal.returns
returns c = stairs_open c.args.d.now c.requires c.in_ok-opened.ensures
