-- `face::edits::desk_remove_stream` meets its contract.
use mathlib.Core.Path.{ap, ◌∙◌}
use Rattle.face.specs.Told.{numbered}
use Rattle.face.proofs.Given.{refused_keeps}
use Rattle.face.proofs.edits.desk_remove_stream.Goals as goal

pub remove_stream-requires : goal.remove_stream-requires
remove_stream-requires c = c.requires

pub told_edit-requires : goal.told_edit-requires
told_edit-requires c = refused_keeps _ _ _ c.requires c.remove_stream.ensures.0

pub returns : goal.returns
returns c =
    let (same, fit) = c.remove_stream.ensures in
    let told = c.told_edit.ensures in
    (told ∙ ap numbered same, rw told fit)
