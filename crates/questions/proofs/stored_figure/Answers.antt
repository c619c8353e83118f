-- `questions::stored_figure` meets its contract: what is read from the stairs that the desk lends.
use mathlib.Core.Path.{refl}
use Rattle.questions.proofs.stored_figure.Goals as goal

pub stairs_of-requires : goal.stairs_of-requires
stairs_of-requires c = c.requires

pub returns : goal.returns
returns c = let (cycle, far, tot) = c.stairs_of.ensures in rw (c.interference.ensures, cycle, far, tot) refl
