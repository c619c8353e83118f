-- What a desk holds, as a struct: which desk of document 01 it is, when it is fit, and what an edit hands back.
use Rattle.std.specs.Prelude.{◌≡◌, Bool, true, false, cond, List, [], ℕ, length, take, Result}
use Rattle.meaning.specs.declared.Port.{Port}
use Rattle.meaning.specs.declared.Gate.{Gate}
use Rattle.meaning.specs.declared.Slot.{Slot}
use Rattle.meaning.specs.declared.Stream.{Stream}
use Rattle.meaning.specs.declared.Refusal.{Refusal}
use Rattle.meaning.specs.Runs.{gate_of}
use Rattle.meaning.specs.Desks.{Desk, bare, opened, edited}
use Rattle.meaning.specs.Promises.{SoundDesk}
use Rattle.meaning.specs.Refusals.{Answer}
use Rattle.answers.specs.Answers.{answer_of}
use Rattle.rows.specs.Rows.{slot_row, stream_row}
use Rattle.entries.specs.declared.Entries.{Entries}

-- ---- the struct and what it holds

-- the struct with these numbers, slots and streams
unfoldable pub filled_entries : Bool → Port → List Slot → List Stream → Entries
filled_entries isOpen p ss js =
    record {
      opened = isOpen;
      rate = p.rate;
      cycle = p.cycle;
      guard = p.guard;
      header = p.header;
      nslots = length ss;
      slots = slot_row ss;
      nstreams = length js;
      streams = stream_row js;
    }

-- the one struct of a desk of document 01: what is held stands in front, and everything else is zero
unfoldable pub entries_of : Desk → Entries
entries_of bare = filled_entries false (record { rate = 0; cycle = 0; guard = 0; header = 0 }) [] []
entries_of (opened p ss js) = filled_entries true p ss js

-- what the struct of an open port holds
abbrev pub port_in : Entries → Port
port_in e = record { rate = e.rate; cycle = e.cycle; guard = e.guard; header = e.header }

abbrev pub slots_in : Entries → List Slot
slots_in e = take e.nslots e.slots

abbrev pub streams_in : Entries → List Stream
streams_in e = take e.nstreams e.streams

-- the gate numbers in force
abbrev pub gate_in : Entries → Gate
gate_in e = gate_of (port_in e) (streams_in e)

-- the desk of document 01 that a struct holds
unfoldable pub held_in : Entries → Desk
held_in e = cond e.opened (opened (port_in e) (slots_in e) (streams_in e)) bare

-- entries that an edit may be handed: they hold a sound desk, and are the one struct of it
pub record FitEntries (e : Entries) : Type 0 where
  pub sound : SoundDesk (held_in e)
  pub canonical : e ≡ entries_of (held_in e)

-- the struct e with n places of another row held, all else as it was
abbrev pub with_slot_row : Entries → List Slot → ℕ → Entries
with_slot_row e row n =
    record {
      opened = e.opened;
      rate = e.rate;
      cycle = e.cycle;
      guard = e.guard;
      header = e.header;
      nslots = n;
      slots = row;
      nstreams = e.nstreams;
      streams = e.streams;
    }

abbrev pub with_stream_row : Entries → List Stream → ℕ → Entries
with_stream_row e row n =
    record {
      opened = e.opened;
      rate = e.rate;
      cycle = e.cycle;
      guard = e.guard;
      header = e.header;
      nslots = e.nslots;
      slots = e.slots;
      nstreams = n;
      streams = row;
    }

-- ---- edits

-- an edit of what e holds, which document 01 answers by a: what it hands back, and the entries that it leaves
pub record Edits (e : Entries) (a : Answer Desk) (result : Result (Unit {0}) Refusal) (made : Entries) : Type 0 where
  pub answer : result ≡ answer_of (edited (held_in e) a).answer
  pub entries : made ≡ entries_of (edited (held_in e) a).desk
  pub fit : FitEntries made
