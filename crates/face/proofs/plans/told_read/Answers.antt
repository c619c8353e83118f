-- `face::plans::told_read` meets its contract.
use mathlib.Core.Path.{sym, ap, ◌∙◌}
use Rattle.reader.specs.Reading.{read_number, read_places}
use Rattle.face.specs.Told.{the_one}
use Rattle.face.proofs.plans.told_read.Goals as goal

pub returns-in-Ok : goal.returns-in-Ok
unfolding read_number read_places the_one
returns-in-Ok c =
    let a = sym c.in-Ok.is in
    λ i. record { number = read_number (a i); place = the_one (read_places (a i)); desk = c.args.reply.desk }

pub returns-in-Err : goal.returns-in-Err
unfolding read_number read_places the_one
returns-in-Err c =
    let a = sym c.in-Err.is in
    let n = c.number.ensures ∙ ap read_number a in
    λ i. record { number = n i; place = the_one (read_places (a i)); desk = c.args.reply.desk }
