-- `report::put_first` meets its contract: all blocked cells, the cycle and the runs answered.
use mathlib.Core.Path.{◌≡◌}
use native.Mathlib.Omega.{arith}
use borrow.Author.Rules.{rules}
use Rattle.meaning.specs.Runs.{runs}
use Rattle.gate.specs.Rows.{run_row}
use Rattle.desk.specs.Desks.{slots_in, gate_in}
use Rattle.report.proofs.Whole.{runs_answered, first_fits, first_wrote}
use Rattle.report.proofs.put_first.Goals as goal

pub put_blocked-requires : goal.put_blocked-requires
put_blocked-requires c =
    let d = c.args.d.now in
    let found = runs_answered d c.requires.0 c.requires.1 c.runs-found.result c.runs-found.ensures.0 in
    let n : c.map_or-count.result ≡ (run_row (runs (gate_in d) (slots_in d))).n = search rules in
    let fit =
    first_fits d c.requires.0 c.requires.1 c.all_blocked.result _ c.map_or-count.result c.all_blocked.ensures
    c.stairs_of-stairs.ensures.2 n in
    omega arith

pub returns : goal.returns
returns c =
    let d = c.args.d.now in
    let found = runs_answered d c.requires.0 c.requires.1 c.runs-found.result c.runs-found.ensures.0 in
    let n : c.map_or-count.result ≡ (run_row (runs (gate_in d) (slots_in d))).n = search rules in
    first_wrote d c.requires.0 c.requires.1 c.all_blocked.result _ c.map_or-count.result c.all_blocked.ensures
    c.stairs_of-stairs.ensures.2 n c.put_blocked.ensures
