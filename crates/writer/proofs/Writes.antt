-- Writing a whole plan: what a fit desk gives the writer, what is left in the room, and the reply in each case.
-- Assumes nothing.
use mathlib.Core.Path.{◌≡◌, refl, sym, ap, ◌∙◌}
use mathlib.Core.Bool.{true, false}
use mathlib.Core.List.{List, ◌++◌, map, append_assoc}
use Prim.Native.Nat.{ℕ, ◌+◌, ◌*◌, ◌≤◌, ◌<◌}
use native.Mathlib.Omega.{arith}
use lib.ListN.{length, drop}
use Rattle.laws.specs.Lists.{joined}
use Rattle.laws.proofs.Joining.{joined_append}
use Rattle.meaning.specs.declared.Port.{Port}
use Rattle.meaning.specs.declared.Slot.{Slot}
use Rattle.meaning.specs.declared.Stream.{Stream}
use Rattle.std.specs.Prelude.{Result, Ok, Err}
use Rattle.meaning.specs.declared.Refusal.{Refusal}
use Rattle.meaning.specs.declared.Refusal.TheVariants.{OutOfTurn, NoRoom}
use Rattle.meaning.specs.Ranges.{octet_limit}
use Rattle.meaning.specs.Refusals.{accepted}
use Rattle.meaning.specs.Desks.{opened, asked}
use Rattle.meaning.specs.Bytes.{port_field, slot_field, stream_field, field_octets}
use Rattle.meaning.specs.Bytes.{fields_of, plan_octets, plan_length, write_plan, written, room_after}
use Rattle.meaning.proofs.InRange.{octet_limit_most, port_in_lem, stream_in}
use Rattle.meaning.proofs.Plans.{plan_length_lem, plan_octets_length, write_says}
use Rattle.entries.proofs.Opened.{Open, open_entries}
use Rattle.desk.specs.declared.Desk.{Desk}
use Rattle.desk.specs.Desks.{held, Fit, port_in, slots_in, streams_in}
use Rattle.desk.specs.Edits.{entries_in}
use Rattle.desk.proofs.Held.{held_bare, held_in_entries, fit_entries}
use Rattle.desk.specs.declared.Reply.{Reply}
use Rattle.room.specs.Writing.{StreamFits, AllFit, Wrote}
use Rattle.room.proofs.Rooms.{octets_of_row, wrote_as}
use Rattle.writer.specs.Writing.{write_reply, Puts}

-- ---- what an open desk gives

-- where the streams begin, and the length: "16 + 11 x slots + 20 x streams octets"
abbrev pub streams_at : Desk → ℕ
streams_at d = 16 + 11 * d.nslots

abbrev pub length_in : Desk → ℕ
length_in d = streams_at d + 20 * d.nstreams

module _ (d : Desk) (f : Fit d) (o : d.opened ≡ true) where
  pub open_of : Open (entries_in d)
  open_of = open_entries (entries_in d) (fit_entries d f) o

  holds_of : held d ≡ opened (port_in d) (slots_in d) (streams_in d)
  holds_of = sym (held_in_entries d) ∙ open_of.holds

  pub length_of : plan_length (held d) ≡ length_in d
  length_of =
      let h = open_of in
      ap plan_length holds_of ∙ plan_length_lem (port_in d) (slots_in d) (streams_in d)
      ∙ omega (arith, h.slots_count, h.streams_count)

  -- each number fits the octets of its place in a field
  pub rate_fits : d.rate < 256
  rate_fits = omega (arith, (port_in_lem (port_in d)).0 open_of.sound.port_in)

  pub streams_fit : AllFit StreamFits (streams_in d)
  streams_fit j m =
      let h = (stream_in (octet_limit (port_in d)) j).0 (open_of.sound.streams_in j m) in
      omega (arith, octet_limit_most (port_in d))

-- ---- the room, field by field

-- the octets of PORT, of the slots and of the streams, one behind the other
plan_parts : (p : Port) (ss : List Slot) (js : List Stream)
    → (field_octets (port_field p) ++ octets_of_row slot_field ss) ++ octets_of_row stream_field js
    ≡ plan_octets (opened p ss js)
unfolding plan_octets fields_of joined
plan_parts p ss js =
    append_assoc (field_octets (port_field p)) (octets_of_row slot_field ss) (octets_of_row stream_field js)
    ∙ ap (λ (l : List ℕ). field_octets (port_field p) ++ l)
    (sym (joined_append field_octets (map slot_field ss) (map stream_field js)))

-- ---- what is answered

-- what is replied and left in the room where a desk is written
abbrev pub Writes : Desk → List ℕ → Reply ℕ → List ℕ → Type 0
Writes d room r after =
    (r ≡ write_reply (asked (held d) (written (write_plan room (held d)))))
    × (after ≡ room_after room (write_plan room (held d))) × Fit r.desk

module _ (d : Desk) (f : Fit d) (room : List ℕ) where
  pub put_reply : (r : Result ℕ Refusal) (after : List ℕ) → Puts (write_plan room (held d)) r room after
      → Writes d room (record { answer = r; desk = d }) after
  unfolding asked
  put_reply r after (a, e) = ((λ i. record { answer = a i; desk = f.canonical i }), e, f)

  pub put_closed : d.opened ≡ false → Puts (write_plan room (held d)) (Err OutOfTurn) room room
  unfolding write_plan written room_after
  put_closed o = rw (held_bare d o) (refl, refl)

  pub write_closed : d.opened ≡ false → Writes d room (record { answer = Err OutOfTurn; desk = d }) room
  write_closed o = put_reply _ room (put_closed o)

  module _ (o : d.opened ≡ true) where
    pub put_no_room : length room < length_in d → Puts (write_plan room (held d)) (Err NoRoom) room room
    unfolding written room_after
    put_no_room l =
        let e = holds_of d f o in
        let says = write_says room (port_in d) (slots_in d) (streams_in d) in
        rw (e, says.no_room.1 (omega (arith, length_of d f o, ap plan_length e))) (refl, refl)

    pub write_no_room : length room < length_in d → Writes d room (record { answer = Err NoRoom; desk = d }) room
    write_no_room l = put_reply _ room (put_no_room l)

    -- the octets of the plan, written
    pub put_whole : length_in d ≤ length room → (n : ℕ) (after : List ℕ) → Wrote (plan_octets (held d)) n room after
        → Puts (write_plan room (held d)) (Ok n) room after
    unfolding written room_after
    put_whole l n after w =
        let e = holds_of d f o in
        let says = write_says room (port_in d) (slots_in d) (streams_in d) in
        let accepts : write_plan room (held d) ≡ accepted (plan_octets (held d)) =
        ap (write_plan room) e
        ∙ (says.accepts (plan_octets (held d))).1
        (omega (arith, length_of d f o, ap plan_length e), ap plan_octets e) in
        rw accepts (ap Ok w.count, w.room ∙ ap (λ (k : ℕ). plan_octets (held d) ++ drop k room) w.count)

    -- PORT, the slots and the streams, each behind what is written
    pub put_open : length_in d ≤ length room → (n : ℕ) (after : List ℕ)
        → Wrote
        ((field_octets (port_field (port_in d)) ++ octets_of_row slot_field (slots_in d))
        ++ octets_of_row stream_field (streams_in d))
        n room after
        → Puts (write_plan room (held d)) (Ok n) room after
    put_open l n after w =
        put_whole l n after
        (wrote_as
        (plan_parts (port_in d) (slots_in d) (streams_in d) ∙ ap plan_octets (sym (holds_of d f o)))
        w)

    pub write_open : length_in d ≤ length room → (after : List ℕ)
        → after ≡ plan_octets (held d) ++ drop (length_in d) room
        → Writes d room (record { answer = Ok (length_in d); desk = d }) after
    write_open l after g =
        put_reply _ after
        (put_whole l (length_in d) after
        (record { count = sym (plan_octets_length (held d) ∙ length_of d f o); room = g }))
