-- `entries::Entries::hold_slot` meets its contract: an open port, numbers in range, and then what `place_slot` answers.
use mathlib.Core.Path.{subst}
use Rattle.meaning.specs.declared.Slot.{Slot}
use Rattle.meaning.specs.declared.Refusal.TheVariants.{OutOfTurn, OutOfRange}
use Rattle.meaning.specs.Calls.{add_slot}
use Rattle.ranges.specs.Numbers.{slot_of}
use Rattle.ranges.proofs.Testing.{taken_in_range, refused_out_of_range}
use Rattle.entries.specs.Entries.{held_in, Edits}
use Rattle.entries.proofs.Opened.{open_entries}
use Rattle.entries.proofs.Answers.{handed_on_edits}
use Rattle.entries.proofs.SlotLaws.{add_slot_out_of_turn, add_slot_out_of_range}
use Rattle.entries.proofs.Entries.hold_slot.Goals as goal

pub returns-in_err-in_turn : goal.returns-in_err-in_turn
returns-in_err-in_turn c =
    let e = c.args.self.now in
    let (shut, why) = c.in_err-in_turn.ensures in
    handed_on_edits e _ _ _ OutOfTurn c.requires c.from_residual.ensures.1 why
    (add_slot_out_of_turn e (slot_of c.args.start c.args.end) shut)

pub returns-in_err-s : goal.returns-in_err-s
returns-in_err-s c =
    let e = c.args.self.now in
    let s = slot_of c.args.start c.args.end in
    let o = open_entries e c.requires c.in_ok-in_turn.ensures in
    let (out, why) = refused_out_of_range _ s _ c.in_err-s.ensures in
    handed_on_edits e _ _ _ OutOfRange c.requires c.from_residual-in_err-s.ensures.1 why
    (add_slot_out_of_range e s o out)

pub returns : goal.returns
returns c =
    let e = c.args.self.now in
    let (inside, same) = taken_in_range _ (slot_of c.args.start c.args.end) _ c.in_ok-s.ensures in
    subst (λ (s : Slot). Edits e (add_slot s (held_in e)) c.place_slot.result c.place_slot.new.self) same
    c.place_slot.ensures
