-- `worked::show` is safe and ends: what is found of the slots can be shown and built on.
use Rattle.std.proofs.Common.{ap, arith}
use Rattle.table.specs.declared.Table.{Table}
use Rattle.table.specs.Rows.{table_of}
use Rattle.stairs.proofs.Turns.{few_stairs}
use Rattle.worked.proofs.Shown.{found_few, found_fits}
use Rattle.worked.proofs.show.Goals as goal

pub runs-runs-requires : goal.runs-runs-requires
runs-runs-requires g c =
    let s = c.args.s.now in
    found_few s.gate s.slots.now s.fits c.if-some_free.ensures c.find_runs-found.ensures

pub build-requires : goal.build-requires
build-requires g c =
    let s = c.args.s.now in
    let f =
    found_fits s.gate s.slots.now s.fits c.if-some_free.ensures c.find_runs-found.ensures c.runs-runs.ensures in
    (f.few, f)

pub show_stairs-requires : goal.show_stairs-requires
unfolding table_of
show_stairs-requires g c =
    let s = c.args.s.now in
    let f =
    found_fits s.gate s.slots.now s.fits c.if-some_free.ensures c.find_runs-found.ensures c.runs-runs.ensures in
    omega (arith, ap (λ (t : Table). t.n) c.build.ensures, few_stairs f)
