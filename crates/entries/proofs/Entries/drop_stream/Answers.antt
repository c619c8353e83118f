-- `entries::Entries::drop_stream` meets its contract: each answer is the meaning's, by the tests that led to it.
use native.Mathlib.Omega.{arith}
use Prim.Native.Nat.{◌<◌}
use lib.ListN.{length}
use Rattle.meaning.specs.declared.Refusal.TheVariants.{OutOfTurn, NotHeld}
use Rattle.meaning.proofs.Sounds.{remove_stream_sound}
use Rattle.entries.specs.Entries.{held_in, streams_in}
use Rattle.entries.proofs.Opened.{open_entries, streams_free}
use Rattle.entries.proofs.Answers.{handed_on_edits, acceptance_edits}
use Rattle.entries.proofs.Places.{PlaceOf, not_found, found_held, found_within, left_out}
use Rattle.entries.proofs.StreamLaws.{remove_stream_out_of_turn, remove_stream_not_held, remove_stream_accepts}
use Rattle.entries.proofs.StreamLaws.{remove_stream_row}
use Rattle.entries.proofs.Entries.drop_stream.Goals as goal

pub returns-in_err-in_turn : goal.returns-in_err-in_turn
returns-in_err-in_turn c =
    let e = c.args.self.now in
    let (shut, why) = c.in_err-in_turn.ensures in
    handed_on_edits e _ _ _ OutOfTurn c.requires c.from_residual.ensures.1 why
    (remove_stream_out_of_turn e c.args.id shut)

pub held_streams-requires : goal.held_streams-requires
held_streams-requires c = (open_entries _ c.requires c.in_ok-in_turn.ensures).streams_few

pub returns-in_err-p : goal.returns-in_err-p
returns-in_err-p c =
    let e = c.args.self.now in
    let o = open_entries e c.requires c.in_ok-in_turn.ensures in
    let at : PlaceOf (λ x. x.id) c.args.id (streams_in e) c.place.result = cc in
    let (none, why) = not_found _ _ _ _ at _ _ c.in_err-p.ensures.value in
    handed_on_edits e _ _ _ NotHeld c.requires c.from_residual-in_err-p.ensures.1 why
    (remove_stream_not_held e c.args.id o none)

pub remove-requires : goal.remove-requires
remove-requires c =
    let e = c.args.self.now in
    let o = open_entries e c.requires c.in_ok-in_turn.ensures in
    let at : PlaceOf (λ x. x.id) c.args.id (streams_in e) c.place.result = cc in
    let w : c.in_ok-p.p < length (streams_in e) = found_within _ _ _ _ at _ _ c.in_ok-p.ensures.value in
    (omega (arith, w, o.streams_count), omega (arith, o.streams_long, o.streams_few), streams_free e o)

pub returns : goal.returns
returns c =
    let e = c.args.self.now in
    let o = open_entries e c.requires c.in_ok-in_turn.ensures in
    let at : PlaceOf (λ x. x.id) c.args.id (streams_in e) c.place.result = cc in
    let v = c.in_ok-p.ensures.value in
    let a =
    remove_stream_accepts e c.args.id o c.in_ok-p.p (found_held _ _ _ _ at _ _ v) (left_out _ _ _ _ at _ _ v) in
    acceptance_edits e _ _ _ (remove_stream_sound c.args.id (held_in e) _ c.requires.sound a)
    (remove_stream_row e c.args.id o c.in_ok-p.p (found_within _ _ _ _ at _ _ v) _ c.remove.ensures) a
