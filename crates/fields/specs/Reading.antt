-- What the functions that read a field answer.
use Rattle.std.specs.Prelude.{cond, List, ℕ, ◌+◌, length, ltb, eqb, Result, Ok, Err}
use Rattle.meaning.specs.declared.Refusal.{Refusal}
use Rattle.meaning.specs.declared.Refusal.TheVariants.{CutShort, WrongLength}
use Rattle.meaning.specs.Refusals.{Answer, accepted, refused}
use Rattle.meaning.specs.Bytes.{number_at, port_field, slot_field, stream_field}
use Rattle.meaning.specs.Bytes.{Field as Told}
use Rattle.fields.specs.declared.Field.{Field}
use Rattle.fields.specs.declared.Field.TheVariants as case

-- the case of a field that is read, or why it is refused
unfoldable pub field_at : Answer Told → Result Field Refusal
field_at (accepted (port_field p)) = Ok (case.Port p)
field_at (accepted (slot_field s)) = Ok (case.Slot s)
field_at (accepted (stream_field j)) = Ok (case.Stream j)
field_at (refused r) = Err r

-- what the length and the octets left say of a value of n octets: "Order in a field: [..] 3; value cut 1"
unfoldable pub value_at : ℕ → List ℕ → Result (Unit {0}) Refusal
value_at n octets =
    cond (eqb (number_at 1 2 octets) n)
    (cond (ltb (length octets) (3 + n)) (Err CutShort) (Ok tt))
    (Err WrongLength)

-- the field of document 01 that a case is, and the answer that a result is
abbrev pub as_told : Field → Told
as_told (case.Port p) = port_field p
as_told (case.Slot s) = slot_field s
as_told (case.Stream j) = stream_field j

abbrev pub told : Result Field Refusal → Answer Told
told (Ok f) = accepted (as_told f)
told (Err r) = refused r
