-- `face::asking::desk_interference` meets its contract.
use mathlib.Core.Path.{refl, ◌∙◌}
use Rattle.meaning.specs.Calls.{ask_interference}
use Rattle.desk.specs.Desks.{held}
use Rattle.face.specs.Told.{numbered_figure}
use Rattle.face.proofs.Given.{given}
use Rattle.face.proofs.asking.desk_interference.Goals as goal

pub interference-requires : goal.interference-requires
interference-requires c = c.requires

pub returns : goal.returns
returns c =
    let d = c.args.d in
    let told = c.told_figure.ensures in (
      told ∙ given numbered_figure d c.requires (ask_interference c.args.t (held d)) _ _ c.interference.ensures.0 refl,
      rw told c.requires,
    )
