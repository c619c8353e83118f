-- `questions::interference` meets its contract: the answer beside the desk that was given.
use Rattle.questions.proofs.Asking.{figure_asked}
use Rattle.questions.proofs.interference.Goals as goal

pub returns : goal.returns
returns c = (figure_asked c.args.d c.requires _ _ c.figure_of-answer.ensures, c.requires)
