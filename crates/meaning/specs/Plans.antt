-- Document 01, "The plan's bytes": a plan as a row of fields, the writer's order, and fields that are mixed.
use Rattle.std.specs.Prelude.{◌≡◌, List, [], ◌∷◌, ◌++◌, map, ℕ, drop, eqb}
use Rattle.laws.specs.Lists.{keep, RisingBy}
use Rattle.meaning.specs.declared.Port.{Port}
use Rattle.meaning.specs.declared.Slot.{Slot}
use Rattle.meaning.specs.declared.Stream.{Stream}
use Rattle.meaning.specs.Refusals.{accepted}
use Rattle.meaning.specs.Desks.{Desk}
use Rattle.meaning.specs.Bytes.{Field, port_field, slot_field, stream_field, tag_of, field_length, front, read}
use Rattle.meaning.specs.Bytes.{read_plan}

-- the octets begin with these fields, one behind the other, and the rest follows
abbrev pub Begins : List ℕ → List Field → List ℕ → Type 0
Begins octets [] rest = octets ≡ rest
Begins octets (f ∷ fs) rest = (front octets ≡ accepted f) × Begins (drop (field_length f) octets) fs rest

-- the octets are these fields and nothing else
abbrev pub MadeOf : List ℕ → List Field → Type 0
MadeOf octets fs = Begins octets fs []

-- an accepted plan, and the desk that it gives
abbrev pub AcceptedPlan : List ℕ → Desk → Type 0
AcceptedPlan octets d = read_plan octets ≡ read d

-- "PORT, then slots by rising start, then streams by rising id"
pub record InWritersOrder (octets : List ℕ) : Type 0 where
  pub port : Port
  pub slots : List Slot
  pub streams : List Stream
  pub starts_rise : RisingBy (λ s. s.start) slots
  pub ids_rise : RisingBy (λ j. j.id) streams
  pub made_of : MadeOf octets (port_field port ∷ map slot_field slots ++ map stream_field streams)

-- the fields of a tag, in the order in which they come
abbrev pub of_tag : ℕ → List Field → List Field
of_tag tag fs = keep (λ f. eqb (tag_of f) tag) fs

-- "Slots and streams may come mixed.": of each tag the same fields, in the same order
abbrev pub SameByTag : List Field → List Field → Type 0
SameByTag fs gs = (tag : ℕ) → of_tag tag fs ≡ of_tag tag gs
