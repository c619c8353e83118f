-- `face_c::desk_runs` promises what the call of `face` promises.
use Rattle.face_c.proofs.desk_runs.Goals as goal

pub returns : goal.returns
returns c = c.desk_runs.ensures
