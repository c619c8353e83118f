-- `questions::responses::response` meets its contract: the answer beside the desk that was given.
use Rattle.questions.proofs.Asking.{figure_asked}
use Rattle.questions.proofs.responses.response.Goals as goal

pub returns : goal.returns
returns c = (figure_asked c.args.d c.requires _ _ c.judged-answer.ensures, c.requires)
