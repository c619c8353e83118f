-- `gate::RunRow::none` meets its contract: the row is empty.
use mathlib.Core.Path.{◌≡◌, ap, ◌∙◌}
use lib.ListN.{replicate}
use Rattle.meaning.specs.declared.Run.{Run}
use Rattle.gate.specs.declared.RunRow.{RunRow}
use Rattle.gate.specs.Rows.{no_run}
use Rattle.gate.proofs.Rows.{row_none}
use Rattle.gate.proofs.RunRow.none.Goals as goal

row_of : Run → RunRow
row_of r = record { n = 0; row = replicate 32 r }

pub returns : goal.returns
unfolding row_of
returns c =
    let h = c.default.ensures in
    let empty : c.default.result ≡ no_run = λ i. record { start = h.0 i; len = h.1 i } in
    ap row_of empty ∙ row_none
