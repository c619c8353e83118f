-- What a step of the walk and reading a whole plan answer.
use Rattle.std.specs.Prelude.{◌≡◌, List, [], ◌∷◌, ℕ, ◌+◌, Result, Ok, Err}
use Rattle.meaning.specs.declared.Refusal.{Refusal}
use Rattle.meaning.specs.Refusals.{number_of}
use Rattle.meaning.specs.Desks.{Desk as Plan}
use Rattle.meaning.specs.Bytes.{Reading, going, stopped, Outcome, read, refused_at, desk_read}
use Rattle.fields.specs.declared.Field.{Field}
use Rattle.fields.specs.declared.Field.TheVariants as case
use Rattle.entries.specs.declared.Entries.{Entries}
use Rattle.entries.specs.Entries.{entries_of, FitEntries}
use Rattle.desk.specs.Desks.{desk_of}
use Rattle.reader.specs.declared.RefusedAt.{RefusedAt}
use Rattle.reader.specs.declared.ReadReply.{ReadReply}

-- ---- a step of the walk

-- how many octets it goes on: "one-byte tag, two-byte length, value"
unfoldable pub octets_at : Field → ℕ
octets_at (case.Port p) = 3 + 13
octets_at (case.Slot s) = 3 + 8
octets_at (case.Stream j) = 3 + 17

-- where a reading has come to, or why it stopped and where
unfoldable pub walked_to : Reading → Result ℕ RefusedAt
walked_to (going place octets e) = Ok place
walked_to (stopped r place) = Err (record { why = r; place = place })

-- a refusal with the place that it is met at
abbrev pub at_place : ℕ → Result ℕ Refusal → Result ℕ RefusedAt
at_place place (Ok n) = Ok n
at_place place (Err r) = Err (record { why = r; place = place })

-- what is held then, where desk d was
unfoldable pub walked_with : Plan → Reading → Plan
walked_with d (going place octets e) = e
walked_with d (stopped r place) = d

-- what a step to this reading answers and leaves
pub record Walks (d : Plan) (s : Reading) (result : Result ℕ RefusedAt) (made : Entries) : Type 0 where
  pub answer : result ≡ walked_to s
  pub entries : made ≡ entries_of (walked_with d s)
  pub fit : FitEntries made

-- ---- a whole plan

abbrev pub read_answer : Outcome → Result (Unit {0}) RefusedAt
read_answer (read d) = Ok tt
read_answer (refused_at r place) = Err (record { why = r; place = place })

-- "The reader answers number, the place [..] and the bare desk"
abbrev pub read_reply : Outcome → ReadReply
read_reply o = record { answer = read_answer o; desk = desk_of (desk_read o) }

-- document 01's number of an answer, 0 where the plan is read, and the place it carries
unfoldable pub read_number : Result (Unit {0}) RefusedAt → ℕ
read_number (Ok u) = 0
read_number (Err x) = number_of x.why

unfoldable pub read_places : Result (Unit {0}) RefusedAt → List ℕ
read_places (Ok u) = []
read_places (Err x) = x.place ∷ []
