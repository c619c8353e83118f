-- `face::edits::desk_open_port` meets its contract.
use mathlib.Core.Path.{ap, ◌∙◌}
use Rattle.face.specs.Told.{numbered}
use Rattle.face.proofs.Given.{refused_keeps}
use Rattle.face.proofs.edits.desk_open_port.Goals as goal

pub open_port-requires : goal.open_port-requires
open_port-requires c = c.requires

pub told_edit-requires : goal.told_edit-requires
told_edit-requires c = refused_keeps _ _ _ c.requires c.open_port.ensures.0

pub returns : goal.returns
returns c =
    let (same, fit) = c.open_port.ensures in
    let told = c.told_edit.ensures in
    (told ∙ ap numbered same, rw told fit)
