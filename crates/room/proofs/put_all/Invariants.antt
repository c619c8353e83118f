-- `room::put_all` meets its contract: each field fills the front of what those before it leave.
use Rattle.meaning.specs.Bytes.{field_octets}
use Rattle.room.proofs.Rooms.{Filled}
use Rattle.room.proofs.put_all.Given as goal

abbrev pub invariant-loop-x : goal.invariant-loop-x
invariant-loop-x g l =
    Filled (λ x. field_octets (g.T.AsField.as_field x)) l.initial.out l.items l.out l.at l.x-index
