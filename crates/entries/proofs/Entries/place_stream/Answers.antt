-- `entries::Entries::place_stream` meets its contract: each answer is the meaning's, by the tests that led to it.
use mathlib.Core.Path.{sym, ◌∙◌}
use mathlib.Core.Bool.{true, false}
use lib.Dec.{eqb}
use Rattle.std.specs.List.{position}
use native.Mathlib.Omega.{arith}
use Rattle.meaning.specs.declared.Refusal.TheVariants.{Full, IdHeld}
use Rattle.meaning.proofs.Sounds.{add_stream_sound}
use Rattle.entries.specs.Entries.{held_in, streams_in}
use Rattle.entries.proofs.Opened.{open_entries, streams_free}
use Rattle.entries.proofs.Answers.{refusal_edits, acceptance_edits}
use Rattle.entries.proofs.Places.{PlaceOf, held_where_found}
use Rattle.entries.proofs.StreamLaws.{add_stream_full, add_stream_id_held, add_stream_accepts, add_stream_row}
use Rattle.entries.proofs.Entries.place_stream.Goals as goal

-- ---- 7: there is room

pub returns-then-n-ge64 : goal.returns-then-n-ge64
returns-then-n-ge64 c =
    let e = c.args.self.now in
    let o = open_entries e c.requires.0 c.requires.1 in
    refusal_edits e _ Full c.requires.0 (add_stream_full e c.args.j o c.requires.2 c.if-n-ge64.true)

-- ---- 8: no stream held has its id

pub returns-then-is_some : goal.returns-then-is_some
returns-then-is_some c =
    let e = c.args.self.now in
    let o = open_entries e c.requires.0 c.requires.1 in
    let at : PlaceOf (λ x. x.id) c.args.j.id (streams_in e) c.place.result =
    c.place.ensures ∙ (λ i. position (λ x. eqb x.id (c.into.ensures i)) (c.held_streams.ensures i)) in
    let some = held_where_found _ _ _ _ at true (sym c.is_some.ensures ∙ c.if-is_some.true) in
    refusal_edits e _ IdHeld c.requires.0 (add_stream_id_held e c.args.j o c.requires.2 c.if-n-ge64.false some)

pub insert-requires : goal.insert-requires
insert-requires c =
    let e = c.args.self.now in
    let o = open_entries e c.requires.0 c.requires.1 in
    (omega (arith, o.streams_long), streams_free e o)

pub returns : goal.returns
returns c =
    let e = c.args.self.now in
    let o = open_entries e c.requires.0 c.requires.1 in
    let at : PlaceOf (λ x. x.id) c.args.j.id (streams_in e) c.place.result =
    c.place.ensures ∙ (λ i. position (λ x. eqb x.id (c.into.ensures i)) (c.held_streams.ensures i)) in
    let none = held_where_found _ _ _ _ at false (sym c.is_some.ensures ∙ c.if-is_some.false) in
    let a = add_stream_accepts e c.args.j o c.requires.2 c.if-n-ge64.false none in
    acceptance_edits e _ _ _ (add_stream_sound c.args.j (held_in e) _ c.requires.0.sound a)
    (add_stream_row e c.args.j o _ c.insert.ensures) a
