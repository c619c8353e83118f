-- A whole plan: its length, and what the writer leaves in the caller's room.
-- Assumes nothing.
use mathlib.Core.Path.{◌≡◌, refl, sym, ap, ◌∙◌}
use mathlib.Core.Logic.{◌↔◌}
use mathlib.Core.List.{List, [], ◌∷◌, map}
use Prim.Native.Nat.{ℕ, ◌+◌, ◌*◌, ◌≤◌, ◌<◌}
use native.Mathlib.Omega.{arith}
use lib.ListN.{length, take, drop, length-append, length-drop}
use lib.Seq.{take_at, drop_at}
use Rattle.laws.specs.Lists.{any, total, Mem}
use Rattle.laws.proofs.Lists.{total_append, total_ext}
use Rattle.laws.proofs.Joining.{total_same, total_map, joined_length}
use Rattle.meaning.specs.declared.Port.{Port}
use Rattle.meaning.specs.declared.Slot.{Slot}
use Rattle.meaning.specs.declared.Stream.{Stream}
use Rattle.meaning.specs.declared.Refusal.{Refusal}
use Rattle.meaning.specs.declared.Refusal.TheVariants.{OutOfTurn, NoRoom}
use Rattle.meaning.specs.Ranges.{most_slots, most_streams}
use Rattle.meaning.specs.Refusals.{Answer, accepted, refused, number_of}
use Rattle.meaning.specs.Desks.{Desk, bare, opened}
use Rattle.meaning.specs.Bytes.{slot_field, stream_field, tag_of, value_length, field_length, field_octets, fields_of}
use Rattle.meaning.specs.Bytes.{plan_octets, plan_length, write_plan, written, room_after}
use Rattle.meaning.proofs.Refusing.{tells_ltb, accepted≢refused, one_of_these, none_of_these, stops, passes}
use Rattle.meaning.proofs.Refusing.{passed, turned_away}
use Rattle.meaning.proofs.Fields.{field_length_lem}

-- ---- lengths

-- document 01: "16 + 11 x slots + 20 x streams octets"
pub plan_length_lem : (p : Port) (ss : List Slot) (js : List Stream)
    → plan_length (opened p ss js) ≡ 16 + 11 * length ss + 20 * length js
unfolding plan_length fields_of total field_length value_length tag_of
plan_length_lem p ss js =
    omega (
      arith,
      total_append field_length (map slot_field ss) (map stream_field js),
      total_map field_length slot_field ss ∙ total_same (λ s. field_length (slot_field s)) 11 ss (λ s. refl),
      total_map field_length stream_field js ∙ total_same (λ j. field_length (stream_field j)) 20 js (λ j. refl),
    )

pub plan_octets_length : (d : Desk) → length (plan_octets d) ≡ plan_length d
unfolding plan_octets plan_length
plan_octets_length d =
    joined_length field_octets (fields_of d)
    ∙ total_ext (λ f. length (field_octets f)) field_length (fields_of d) (λ f m. field_length_lem f)

-- document 01: "at most 1,648"
pub plan_at_most : (p : Port) (ss : List Slot) (js : List Stream) → length ss ≤ most_slots → length js ≤ most_streams
    → plan_length (opened p ss js) ≤ 1_648
unfolding most_slots most_streams
plan_at_most p ss js h k = omega (arith, plan_length_lem p ss js)

-- ---- the writer

-- "Writing: 4, 11."
pub record WriteSays (room : List ℕ) (p : Port) (ss : List Slot) (js : List Stream) : Type 0 where
  pub out_of_turn : (d : Desk) → write_plan room d ≡ refused OutOfTurn ↔ (d ≡ bare)
  pub no_room : write_plan room (opened p ss js) ≡ refused NoRoom ↔ (length room < plan_length (opened p ss js))
  pub accepts : (octets : List ℕ) → write_plan room (opened p ss js) ≡ accepted octets
      ↔ ((plan_length (opened p ss js) ≤ length room) × (octets ≡ plan_octets (opened p ss js)))
  pub only : (r : Refusal) → write_plan room (opened p ss js) ≡ refused r → Mem (number_of r) (11 ∷ [])

pub write_says : (room : List ℕ) (p : Port) (ss : List Slot) (js : List Stream) → WriteSays room p ss js
unfolding write_plan number_of any
write_says room p ss js =
    record {
      out_of_turn = turned_away (write_plan room) refl (λ p ss js. none_of_these _ _ _ refl);
      no_room = (stops (tells_ltb _ _) refl).exactly;
      accepts = λ octets. (passes (tells_ltb _ _) refl passed).exactly;
      only = one_of_these _ _;
    }

-- a plan that is accepted is the desk's, and lies within the room
pub write_accepted : (room : List ℕ) (d : Desk) (octets : List ℕ) → write_plan room d ≡ accepted octets
    → (plan_length d ≤ length room) × (octets ≡ plan_octets d)
unfolding write_plan
write_accepted room bare octets e = absurd (accepted≢refused (sym e))
write_accepted room (opened p ss js) octets e = ((write_says room p ss js).accepts octets).0 e

-- ---- the room

module _ (room : List ℕ) (d : Desk) where
  module _ (octets : List ℕ) (e : write_plan room d ≡ accepted octets) where
    as_long : length octets ≡ plan_length d
    as_long = ap length (write_accepted room d octets e).1 ∙ plan_octets_length d

    pub written_count : written (write_plan room d) ≡ accepted (plan_length d)
    unfolding written
    written_count = rw e (ap accepted as_long)

    -- the plan stands in front
    pub room_front : take (plan_length d) (room_after room (write_plan room d)) ≡ plan_octets d
    unfolding room_after
    room_front =
        rw e (take_at octets (drop (length octets) room) (plan_length d) as_long ∙ (write_accepted room d octets e).1)

    -- "Octets after these keep their value."
    pub room_rest : drop (plan_length d) (room_after room (write_plan room d)) ≡ drop (plan_length d) room
    unfolding room_after
    room_rest =
        rw e
        (drop_at octets (drop (length octets) room) (plan_length d) as_long ∙ ap (λ (n : ℕ). drop n room) as_long)

  pub room_untouched : (r : Refusal) → write_plan room d ≡ refused r → room_after room (write_plan room d) ≡ room
  unfolding room_after
  room_untouched r e = rw e

  -- the room keeps its length
  pub room_after_lem : length (room_after room (write_plan room d)) ≡ length room
  unfolding room_after
  room_after_lem = go (write_plan room d) refl
    where
      go : (a : Answer (List ℕ)) → write_plan room d ≡ a → length (room_after room a) ≡ length room
      go (refused r) e = refl
      go (accepted octets) e =
          omega (
            arith,
            length-append octets (drop (length octets) room),
            length-drop (length octets) room,
            as_long octets e,
            (write_accepted room d octets e).0,
          )
