-- `face::asking::desk_response` meets its contract.
use mathlib.Core.Path.{refl, ◌∙◌}
use Rattle.meaning.specs.Calls.{ask_response}
use Rattle.desk.specs.Desks.{held}
use Rattle.face.specs.Told.{numbered_figure}
use Rattle.face.proofs.Given.{given}
use Rattle.face.proofs.asking.desk_response.Goals as goal

pub response-requires : goal.response-requires
response-requires c = c.requires

pub returns : goal.returns
returns c =
    let d = c.args.d in
    let told = c.told_figure.ensures in (
      told ∙ given numbered_figure d c.requires (ask_response c.args.id (held d)) _ _ c.response.ensures.0 refl,
      rw told c.requires,
    )
