-- `questions::stairs` meets its contract: the answer beside the desk that was given.
use Rattle.table.specs.Rows.{table_of}
use Rattle.questions.proofs.Asking.{rows_asked}
use Rattle.questions.proofs.stairs.Goals as goal

pub returns : goal.returns
returns c = (rows_asked c.args.d c.requires table_of _ _ c.stairs_of-answer.ensures, c.requires)
