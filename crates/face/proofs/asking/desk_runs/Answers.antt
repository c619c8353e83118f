-- `face::asking::desk_runs` meets its contract.
use mathlib.Core.Path.{◌≡◌, refl, ap, ◌∙◌}
use mathlib.Core.List.{[]}
use lib.ListN.{replicate}
use Rattle.std.specs.Result.{result_unwrap_or}
use Rattle.meaning.specs.declared.Run.{Run}
use Rattle.meaning.specs.Calls.{ask_runs}
use Rattle.gate.specs.Rows.{no_run, run_row}
use Rattle.gate.proofs.Rows.{row_none}
use Rattle.desk.specs.Desks.{held}
use Rattle.face.specs.Told.{numbered_runs}
use Rattle.face.proofs.Given.{given}
use Rattle.face.proofs.asking.desk_runs.Goals as goal

pub runs-answer-requires : goal.runs-answer-requires
runs-answer-requires c = c.requires

pub returns : goal.returns
returns c =
    let d = c.args.d in
    let zero = c.default-no_run.ensures in
    let free : c.default-no_run.result ≡ no_run = λ i. record { start = zero.0 i; len = zero.1 i } in
    let none : record { n = 0; row = replicate 32 c.default-no_run.result } ≡ run_row [] =
    ap (λ (r : Run). record { n = 0; row = replicate 32 r }) free ∙ row_none in
    let rows = c.unwrap_or-found.ensures ∙ ap (result_unwrap_or c.runs-answer.result.answer) none in
    let number = c.number_of_answer.ensures in (
      (λ i. record { number = number i; count = (rows i).n; runs = (rows i).row; desk = d })
          ∙ given numbered_runs d c.requires (ask_runs (held d)) _ _ c.runs-answer.ensures.0 refl,
      c.requires,
    )
