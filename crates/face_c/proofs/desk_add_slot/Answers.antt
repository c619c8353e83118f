-- `face_c::desk_add_slot` promises what the call of `face` promises.
use Rattle.face_c.proofs.desk_add_slot.Goals as goal

pub returns : goal.returns
returns c = c.desk_add_slot.ensures
