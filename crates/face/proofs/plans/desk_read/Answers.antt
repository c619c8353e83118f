-- `face::plans::desk_read` meets its contract.
use mathlib.Core.Path.{ap, ◌∙◌}
use Rattle.face.specs.Told.{numbered_read}
use Rattle.face.proofs.plans.desk_read.Goals as goal

pub returns : goal.returns
returns c =
    let (same, fit) = c.read.ensures in
    let told = c.told_read.ensures in
    (told ∙ ap numbered_read same, rw told fit)
