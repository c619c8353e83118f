-- `desk::parts::with_stairs` meets its contract: the runs of the slots held, and the stairs of these runs.
use mathlib.Core.Path.{◌≡◌, sym, ap, subst, ◌∙◌}
use mathlib.Core.List.{List}
use Rattle.meaning.specs.declared.Slot.{Slot}
use Rattle.meaning.specs.Runs.{runs}
use Rattle.gate.specs.Rows.{run_row}
use Rattle.entries.specs.Entries.{held_in, slots_in}
use Rattle.entries.proofs.Opened.{open_entries}
use Rattle.desk.specs.Desks.{Fit}
use Rattle.desk.proofs.Held.{fit_of}
use Rattle.desk.proofs.StairLaws.{few_found, may_build, stairs_set}
use Rattle.desk.proofs.parts.with_stairs.Goals as goal
use Rattle.desk.proofs.parts.with_stairs.Goals.{After-find_runs-found}

found_is : (c : After-find_runs-found)
    → c.find_runs-found.result ≡ run_row (runs c.chain-held.result.gate (slots_in c.args.e))
found_is c =
    c.find_runs-found.ensures
    ∙ ap (λ (ss : List Slot). run_row (runs c.chain-held.result.gate ss)) c.chain-held.ensures.1

pub runs-requires : goal.runs-requires
runs-requires c =
    few_found c.args.e (open_entries _ c.requires.0 c.requires.1) _ c.chain-held.ensures.0 _
    (found_is (goal.at.runs-requires c).After-find_runs-found)

pub build-t-requires : goal.build-t-requires
build-t-requires c =
    may_build c.args.e (open_entries _ c.requires.0 c.requires.1) _ c.chain-held.ensures.0 _
    (found_is (goal.at.build-t-requires c).After-find_runs-found) _ c.runs.ensures

pub returns : goal.returns
returns c =
    let e = c.args.e in
    let q =
    stairs_set e (open_entries e c.requires.0 c.requires.1) _ c.chain-held.ensures.0 _
    (found_is (goal.at.returns c).After-find_runs-found) _ c.runs.ensures _ c.build-t.ensures in
    (q, subst Fit (sym q) (fit_of (held_in e) c.requires.0.sound))
