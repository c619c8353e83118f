-- Document 01, "The plan's bytes": fields, the reader and the writer.
use Rattle.std.specs.Prelude.{not, cond, List, [], ◌∷◌, ◌++◌, map, ℕ, zero, suc, ◌+◌, ◌*◌, ◌/◌, ◌%◌, length, take}
use Rattle.std.specs.Prelude.{drop, ltb, eqb}
use Rattle.laws.specs.Lists.{total, joined}
use Rattle.meaning.specs.declared.Port.{Port}
use Rattle.meaning.specs.declared.Slot.{Slot}
use Rattle.meaning.specs.declared.Stream.{Stream}
use Rattle.meaning.specs.declared.Refusal.{Refusal}
use Rattle.meaning.specs.declared.Refusal.TheVariants.{CutShort, UnknownTag, WrongLength, OutOfTurn, NoRoom}
use Rattle.meaning.specs.Refusals.{Answer, accepted, refused, ◌⇒◌, unless}
use Rattle.meaning.specs.Desks.{Desk, bare, opened}
use Rattle.meaning.specs.Calls.{open_port, add_slot, add_stream}

-- "numbers big-endian": n in w octets, and the number that some octets after the number n make
unfoldable pub octets_of : ℕ → ℕ → List ℕ
octets_of zero n = []
octets_of (suc w) n = octets_of w (n / 256) ++ (n % 256 ∷ [])

unfoldable pub number_after : ℕ → List ℕ → ℕ
number_after n [] = n
number_after n (x ∷ xs) = number_after (n * 256 + x) xs

-- the number in w octets at an offset
unfoldable pub number_at : ℕ → ℕ → List ℕ → ℕ
number_at offset w octets = number_after 0 (take w (drop offset octets))

-- ---- fields

pub data Field : Type 0 where
  port_field : Port → Field
  slot_field : Slot → Field
  stream_field : Stream → Field

-- "Tag 1, PORT", "Tag 2, SLOT", "Tag 3, STREAM"
unfoldable pub tag_of : Field → ℕ
tag_of (port_field p) = 1
tag_of (slot_field s) = 2
tag_of (stream_field j) = 3

-- "PORT, 13 octets", "SLOT, 8 octets", "STREAM, 17 octets"; 0 for an unknown tag
unfoldable pub value_length : ℕ → ℕ
value_length tag = cond (eqb tag 1) 13 (cond (eqb tag 2) 8 (cond (eqb tag 3) 17 0))

-- "rate code (1), cycle (4), guard (4), header (4)"; "start (4), end (4)";
-- "id (2), priority (1), octets (2), period (4), jitter (4), deadline (4)"
unfoldable pub value_of : Field → List ℕ
value_of (port_field p) = octets_of 1 p.rate ++ octets_of 4 p.cycle ++ octets_of 4 p.guard ++ octets_of 4 p.header
value_of (slot_field s) = octets_of 4 s.start ++ octets_of 4 s.end
value_of (stream_field j) =
    octets_of 2 j.id ++ octets_of 1 j.priority ++ octets_of 2 j.octets
    ++ octets_of 4 j.period ++ octets_of 4 j.jitter ++ octets_of 4 j.deadline

unfoldable pub field_of : ℕ → List ℕ → Field
field_of tag v =
    cond (eqb tag 1)
    (port_field
    (record { rate = number_at 0 1 v; cycle = number_at 1 4 v; guard = number_at 5 4 v; header = number_at 9 4 v }))
    (cond (eqb tag 2)
    (slot_field (record { start = number_at 0 4 v; end = number_at 4 4 v }))
    (stream_field
    (record {
      id = number_at 0 2 v;
      priority = number_at 2 1 v;
      octets = number_at 3 2 v;
      period = number_at 5 4 v;
      jitter = number_at 9 4 v;
      deadline = number_at 13 4 v;
    })))

-- "one-byte tag, two-byte length, value"
unfoldable pub field_length : Field → ℕ
field_length f = 3 + value_length (tag_of f)

unfoldable pub field_octets : Field → List ℕ
field_octets f = octets_of 1 (tag_of f) ++ octets_of 2 (value_length (tag_of f)) ++ value_of f

-- ---- the reader

-- the field at the front of some octets
-- "Order in a field: fewer than three octets 1; then 2; 3; value cut 1"
unfoldable pub front : List ℕ → Answer Field
front octets =
    let tag = number_at 0 1 octets in
    unless
    (ltb (length octets) 3 ⇒ CutShort
    ∷ eqb (value_length tag) 0 ⇒ UnknownTag
    ∷ not (eqb (number_at 1 2 octets) (value_length tag)) ⇒ WrongLength
    ∷ ltb (length octets) (3 + value_length tag) ⇒ CutShort
    ∷ [])
    (field_of tag (take (value_length tag) (drop 3 octets)))

-- "then 4 and the edit's own order": "the edit each field names"
unfoldable pub edit : Field → Desk → Answer Desk
edit (port_field p) d = open_port p d
edit (slot_field s) d = add_slot s d
edit (stream_field j) d = add_stream j d

-- a reading on its way: at a place of the plan, with the octets left and the desk so far; or refused, at a place
pub data Reading : Type 0 where
  going : ℕ → List ℕ → Desk → Reading
  stopped : Refusal → ℕ → Reading

-- the field f at a place was edited in, or refused
unfoldable pub after_edit : ℕ → List ℕ → Field → Answer Desk → Reading
after_edit place octets f (accepted d) = going (place + field_length f) (drop (field_length f) octets) d
after_edit place octets f (refused r) = stopped r place

unfoldable pub after_front : ℕ → List ℕ → Desk → Answer Field → Reading
after_front place octets d (accepted f) = after_edit place octets f (edit f d)
after_front place octets d (refused r) = stopped r place

-- "The reader walks the plan one field at a time"
unfoldable pub step : Reading → Reading
step (going place [] d) = going place [] d
step (going place (x ∷ xs) d) = after_front place (x ∷ xs) d (front (x ∷ xs))
step (stopped r place) = stopped r place

-- n steps
unfoldable pub walk : ℕ → Reading → Reading
walk zero s = s
walk (suc n) s = walk n (step s)

-- what the reader answers: the desk, or a refusal and its place
pub data Outcome : Type 0 where
  read : Desk → Outcome
  refused_at : Refusal → ℕ → Outcome

-- "4: a plan [..] that is empty": "the place of the field's first octet (0 for empty input)"
unfoldable pub ended : Reading → Outcome
ended (going place octets bare) = refused_at OutOfTurn 0
ended (going place octets (opened p ss js)) = read (opened p ss js)
ended (stopped r place) = refused_at r place

-- "it takes octets and no desk, and starts from the bare one"; no plan has more fields than octets
unfoldable pub read_plan : List ℕ → Outcome
read_plan octets = ended (walk (length octets) (going 0 octets bare))

-- "The reader answers number, the place [..] and the bare desk"
unfoldable pub desk_read : Outcome → Desk
desk_read (read d) = d
desk_read (refused_at r place) = bare

-- ---- the writer

-- "The writer puts PORT, then slots by rising start, then streams by rising id"
unfoldable pub fields_of : Desk → List Field
fields_of bare = []
fields_of (opened p ss js) = port_field p ∷ map slot_field ss ++ map stream_field js

unfoldable pub plan_octets : Desk → List ℕ
plan_octets d = joined field_octets (fields_of d)

unfoldable pub plan_length : Desk → ℕ
plan_length d = total field_length (fields_of d)

-- "Writing: 4, 11."
unfoldable pub write_plan : List ℕ → Desk → Answer (List ℕ)
write_plan room bare = refused OutOfTurn
write_plan room (opened p ss js) =
    unless (ltb (length room) (plan_length (opened p ss js)) ⇒ NoRoom ∷ []) (plan_octets (opened p ss js))

-- "It answers how many it wrote."
unfoldable pub written : Answer (List ℕ) → Answer ℕ
written (accepted octets) = accepted (length octets)
written (refused r) = refused r

-- "Octets after these keep their value."; a refused call "writes nothing into the caller's buffers"
unfoldable pub room_after : List ℕ → Answer (List ℕ) → List ℕ
room_after room (accepted octets) = octets ++ drop (length octets) room
room_after room (refused r) = room
