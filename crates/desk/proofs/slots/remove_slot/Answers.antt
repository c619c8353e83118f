-- `desk::slots::remove_slot` meets its contract: the stairs are built behind the slot removed.
use Rattle.meaning.specs.Calls.{remove_slot}
use Rattle.desk.proofs.Answers.{may_edit, may_get_stairs, built_edit}
use Rattle.desk.proofs.StairLaws.{removed_open}
use Rattle.desk.proofs.slots.remove_slot.Goals as goal

pub drop_slot-answer-requires : goal.drop_slot-answer-requires
drop_slot-answer-requires c = may_edit c.args.d c.requires _ c.entries_of-fewer.ensures

pub build_stairs-requires : goal.build_stairs-requires
build_stairs-requires c =
    let call = remove_slot c.args.start in
    may_get_stairs c.args.d c.requires _ c.entries_of-fewer.ensures call _ _
    c.drop_slot-answer.ensures (removed_open c.args.start)

pub returns : goal.returns
returns c =
    let call = remove_slot c.args.start in
    built_edit c.args.d c.requires _ c.entries_of-fewer.ensures call _ _
    c.drop_slot-answer.ensures _ c.build_stairs.ensures
