-- `reader::edit` meets its contract: each case is the edit of the field told.
use Rattle.meaning.specs.Bytes.{edit}
use Rattle.reader.proofs.edit.Goals as goal

pub returns-in-Port : goal.returns-in-Port
unfolding edit
returns-in-Port c = let h = c.hold_port.ensures in rw (c.in-Port.is, ← c.from.ensures) h

pub returns-in-Slot : goal.returns-in-Slot
unfolding edit
returns-in-Slot c = rw (c.in-Slot.is, ← c.into.ensures, ← c.into-in-Slot.ensures) c.hold_slot.ensures

pub returns-in-Stream : goal.returns-in-Stream
unfolding edit
returns-in-Stream c = rw (c.in-Stream.is, ← c.from-in-Stream.ensures) c.hold_stream.ensures
