-- `ranges::slot` stores a slot behind its test: in range, it fits 32 bits.
use Rattle.std.proofs.Common.{sym, ◌∙◌, arith}
use Rattle.ranges.specs.Numbers.{slot_of}
use Rattle.ranges.proofs.Testing.{slot_in_32_bits}
use Rattle.ranges.proofs.slot.Goals as goal

pub narrow_slot-requires : goal.narrow_slot-requires
narrow_slot-requires c =
    slot_in_32_bits c.args.cycle (slot_of c.args.start c.args.end) (omega arith)
    (sym c.slot_in_range.ensures ∙ c.if-not-slot_in_range.false)
