-- `desk::slots::add_slot` meets its contract: the stairs are built behind the slot added.
use Rattle.meaning.specs.Calls.{add_slot}
use Rattle.ranges.specs.Numbers.{slot_of}
use Rattle.desk.proofs.Answers.{may_edit, may_get_stairs, built_edit}
use Rattle.desk.proofs.StairLaws.{added_open}
use Rattle.desk.proofs.slots.add_slot.Goals as goal

pub hold_slot-answer-requires : goal.hold_slot-answer-requires
hold_slot-answer-requires c = may_edit c.args.d c.requires _ c.entries_of-more.ensures

pub build_stairs-requires : goal.build_stairs-requires
build_stairs-requires c =
    let call = add_slot (slot_of c.args.start c.args.end) in
    may_get_stairs c.args.d c.requires _ c.entries_of-more.ensures call _ _
    c.hold_slot-answer.ensures (added_open (slot_of c.args.start c.args.end))

pub returns : goal.returns
returns c =
    let call = add_slot (slot_of c.args.start c.args.end) in
    built_edit c.args.d c.requires _ c.entries_of-more.ensures call _ _
    c.hold_slot-answer.ensures _ c.build_stairs.ensures
