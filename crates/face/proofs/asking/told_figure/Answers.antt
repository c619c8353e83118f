-- `face::asking::told_figure` meets its contract.
use Rattle.face.proofs.asking.told_figure.Goals as goal

pub returns : goal.returns
returns c = rw (c.number_of_answer.ensures, c.figure_value.ensures)
