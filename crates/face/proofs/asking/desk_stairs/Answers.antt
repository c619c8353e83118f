-- `face::asking::desk_stairs` meets its contract.
use mathlib.Core.Path.{refl, sym, ap, ◌∙◌}
use Rattle.std.specs.Result.{result_unwrap_or}
use Rattle.meaning.specs.Calls.{ask_stairs}
use Rattle.table.proofs.Rows.{table_none}
use Rattle.desk.specs.Desks.{held}
use Rattle.face.specs.Told.{numbered_stairs}
use Rattle.face.proofs.Given.{given}
use Rattle.face.proofs.asking.desk_stairs.Goals as goal

pub stairs-answer-requires : goal.stairs-answer-requires
stairs-answer-requires c = c.requires

pub returns : goal.returns
returns c =
    let d = c.args.d in
    let rows = c.unwrap_or-found.ensures ∙ ap (result_unwrap_or c.stairs-answer.result.answer) (sym table_none) in
    let number = c.number_of_answer.ensures in (
      (λ i. record { number = number i; count = (rows i).n; far = (rows i).far; tot = (rows i).tot; desk = d })
          ∙ given numbered_stairs d c.requires (ask_stairs (held d)) _ _ c.stairs-answer.ensures.0 refl,
      c.requires,
    )
