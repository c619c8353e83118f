-- `desk::parts::stairs_of` meets its contract: the stairs stored in a fit open desk can be read.
use Rattle.table.proofs.Reached.{lent_fit}
use Rattle.desk.proofs.OpenFits.{open_fits}
use Rattle.desk.proofs.parts.stairs_of.Goals as goal

pub shared_ref_as_front-result : goal.shared_ref_as_front-result
shared_ref_as_front-result c = (open_fits c.args.d.now c.requires.0 c.requires.1).table_fits.few

pub invariant_of-result : goal.invariant_of-result
invariant_of-result c =
    let d = c.args.d.now in
    record { fits = lent_fit d.cycle d.far d.tot d.nstairs (open_fits d c.requires.0 c.requires.1).table_fits }
