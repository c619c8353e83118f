-- `writer::put_plan` meets its contract: where the whole plan has room, each field fills the front of what is left.
use Rattle.std.proofs.Common.{◌≡◌, ℕ, List, ◌++◌, ◌+◌, ◌*◌, length, ◌∙◌, arith, length-append}
use mathlib.Core.Bool.{false, not}
use borrow.Author.Tests.{not-true, not-false}
use Rattle.meaning.specs.Bytes.{Field, field_length, port_field, slot_field, field_octets}
use Rattle.meaning.proofs.Fields.{field_length_lem}
use Rattle.desk.specs.declared.Desk.{Desk}
use Rattle.desk.specs.Desks.{Fit, port_in, slots_in}
use Rattle.desk.specs.Edits.{entries_in}
use Rattle.entries.proofs.Opened.{Open}
use Rattle.room.specs.Lengths.{port_length, slot_length}
use Rattle.room.proofs.Rooms.{octets_of_row, wrote_next, next_fits, row_octets}
use Rattle.writer.proofs.Writes.{open_of, rate_fits, streams_fit, put_closed, put_no_room, put_open}
use Rattle.writer.proofs.put_plan.Goals as goal

port_octets : (d : Desk) → length (field_octets (port_field (port_in d))) ≡ 16
port_octets d = field_length_lem (port_field (port_in d)) ∙ port_length (port_in d)

-- with a row of fields behind it, of k octets each
with_row : {A : Type 0} (field : A → Field) (k : ℕ) → ((x : A) → field_length (field x) ≡ k) → (w : List ℕ)
    (xs : List A) → length (w ++ octets_of_row field xs) ≡ length w + k * length xs
with_row field k each w xs = omega (arith, row_octets field k each xs, length-append w (octets_of_row field xs))

open_by : (d : Desk) → Fit d → not d.opened ≡ false → Open (entries_in d)
open_by d fit test = open_of d fit (not-false _ test)

pub returns-then-not-d : goal.returns-then-not-d
returns-then-not-d c = put_closed c.args.d c.requires c.args.out.now (not-true _ c.if-not-d.true)

pub octets_for-all-requires : goal.octets_for-all-requires
octets_for-all-requires c =
    let h = open_by c.args.d c.requires c.if-not-d.false in
    (h.slots_few, h.streams_few)

pub slice_bounds-slot_row-end : goal.slice_bounds-slot_row-end
slice_bounds-slot_row-end c = omega (arith, (open_by c.args.d c.requires c.if-not-d.false).slots_few)

pub slice_bounds-slots-end : goal.slice_bounds-slots-end
slice_bounds-slots-end c = omega (arith, (open_by c.args.d c.requires c.if-not-d.false).slots_count)

pub slice_bounds-stream_row-end : goal.slice_bounds-stream_row-end
slice_bounds-stream_row-end c = omega (arith, (open_by c.args.d c.requires c.if-not-d.false).streams_few)

pub slice_bounds-streams-end : goal.slice_bounds-streams-end
slice_bounds-streams-end c = omega (arith, (open_by c.args.d c.requires c.if-not-d.false).streams_count)

pub returns-then-out-all : goal.returns-then-out-all
returns-then-out-all c =
    let h = open_by c.args.d c.requires c.if-not-d.false in
    put_no_room c.args.d c.requires c.args.out.now (not-false _ c.if-not-d.false)
    (omega (arith, c.if-out-all.true, c.octets_for-all.ensures, h.slots_count, h.streams_count))

pub put-at-requires : goal.put-at-requires
put-at-requires c = (
  omega (arith, c.if-out-all.false, c.octets_for-all.ensures),
  rate_fits c.args.d c.requires (not-false _ c.if-not-d.false),
)

pub put_all-at-requires-clause-room : goal.put_all-at-requires-clause-room
put_all-at-requires-clause-room c =
    let h = open_by c.args.d c.requires c.if-not-d.false in
    next_fits _ (omega (arith, c.if-out-all.false, c.octets_for-all.ensures, port_octets c.args.d, h.slots_count))
    c.put-at.ensures

pub put_all-at-requires-2-clause-room : goal.put_all-at-requires-2-clause-room
put_all-at-requires-2-clause-room c =
    let d = c.args.d in
    let h = open_by d c.requires c.if-not-d.false in
    let front = with_row slot_field 11 slot_length (field_octets (port_field (port_in d))) (slots_in d) in
    next_fits _
    (omega (arith, c.if-out-all.false, c.octets_for-all.ensures, front, port_octets d, h.slots_count, h.streams_count))
    (wrote_next c.put-at.ensures c.put_all-at.ensures)

pub put_all-at-requires-2-clause-fit : goal.put_all-at-requires-2-clause-fit
put_all-at-requires-2-clause-fit c = streams_fit c.args.d c.requires (not-false _ c.if-not-d.false)

pub returns : goal.returns
returns c =
    let h = open_by c.args.d c.requires c.if-not-d.false in
    put_open c.args.d c.requires c.args.out.now (not-false _ c.if-not-d.false)
    (omega (arith, c.if-out-all.false, c.octets_for-all.ensures, h.slots_count, h.streams_count)) _ _
    (wrote_next (wrote_next c.put-at.ensures c.put_all-at.ensures) c.put_all-at-2.ensures)
