-- `questions::runs` meets its contract: the answer beside the desk that was given.
use Rattle.gate.specs.Rows.{run_row}
use Rattle.questions.proofs.Asking.{rows_asked}
use Rattle.questions.proofs.runs.Goals as goal

pub returns : goal.returns
returns c = (rows_asked c.args.d c.requires run_row _ _ c.runs_of-answer.ensures, c.requires)
