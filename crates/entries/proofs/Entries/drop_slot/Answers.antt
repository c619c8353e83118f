-- `entries::Entries::drop_slot` meets its contract: each answer is the meaning's, by the tests that led to it.
use native.Mathlib.Omega.{arith}
use Prim.Native.Nat.{◌<◌}
use lib.ListN.{length}
use Rattle.meaning.specs.declared.Refusal.TheVariants.{OutOfTurn, NotHeld}
use Rattle.meaning.proofs.Sounds.{remove_slot_sound}
use Rattle.entries.specs.Entries.{held_in, slots_in}
use Rattle.entries.proofs.Opened.{open_entries, slots_free}
use Rattle.entries.proofs.Answers.{handed_on_edits, acceptance_edits}
use Rattle.entries.proofs.Places.{PlaceOf, not_found, found_held, found_within, left_out}
use Rattle.entries.proofs.SlotLaws.{remove_slot_out_of_turn, remove_slot_not_held, remove_slot_accepts}
use Rattle.entries.proofs.SlotLaws.{remove_slot_row}
use Rattle.entries.proofs.Entries.drop_slot.Goals as goal

pub returns-in_err-in_turn : goal.returns-in_err-in_turn
returns-in_err-in_turn c =
    let e = c.args.self.now in
    let (shut, why) = c.in_err-in_turn.ensures in
    handed_on_edits e _ _ _ OutOfTurn c.requires c.from_residual.ensures.1 why
    (remove_slot_out_of_turn e c.args.start shut)

pub held_slots-requires : goal.held_slots-requires
held_slots-requires c = (open_entries _ c.requires c.in_ok-in_turn.ensures).slots_few

pub returns-in_err-p : goal.returns-in_err-p
returns-in_err-p c =
    let e = c.args.self.now in
    let o = open_entries e c.requires c.in_ok-in_turn.ensures in
    let at : PlaceOf (λ x. x.start) c.args.start (slots_in e) c.place.result = cc in
    let (none, why) = not_found _ _ _ _ at _ _ c.in_err-p.ensures.value in
    handed_on_edits e _ _ _ NotHeld c.requires c.from_residual-in_err-p.ensures.1 why
    (remove_slot_not_held e c.args.start o none)

pub remove-requires : goal.remove-requires
remove-requires c =
    let e = c.args.self.now in
    let o = open_entries e c.requires c.in_ok-in_turn.ensures in
    let at : PlaceOf (λ x. x.start) c.args.start (slots_in e) c.place.result = cc in
    let w : c.in_ok-p.p < length (slots_in e) = found_within _ _ _ _ at _ _ c.in_ok-p.ensures.value in
    (omega (arith, w, o.slots_count), omega (arith, o.slots_long, o.slots_few), slots_free e o)

pub returns : goal.returns
returns c =
    let e = c.args.self.now in
    let o = open_entries e c.requires c.in_ok-in_turn.ensures in
    let at : PlaceOf (λ x. x.start) c.args.start (slots_in e) c.place.result = cc in
    let v = c.in_ok-p.ensures.value in
    let a =
    remove_slot_accepts e c.args.start o c.in_ok-p.p (found_held _ _ _ _ at _ _ v) (left_out _ _ _ _ at _ _ v) in
    acceptance_edits e _ _ _ (remove_slot_sound c.args.start (held_in e) _ c.requires.sound a)
    (remove_slot_row e c.args.start o c.in_ok-p.p (found_within _ _ _ _ at _ _ v) _ c.remove.ensures) a
