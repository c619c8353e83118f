-- An edit in two parts: what is held is edited on its own, and the desk gets it back with stairs.
use Rattle.std.specs.Prelude.{Result, Ok, Err}
use Rattle.meaning.specs.declared.Refusal.{Refusal}
use Rattle.entries.specs.declared.Entries.{Entries}
use Rattle.desk.specs.declared.Desk.{Desk}
use Rattle.desk.specs.declared.Reply.{Reply}

-- what the struct d holds, its stairs left out
abbrev pub entries_in : Desk → Entries
entries_in d =
    record {
      opened = d.opened;
      rate = d.rate;
      cycle = d.cycle;
      guard = d.guard;
      header = d.header;
      nslots = d.nslots;
      slots = d.slots;
      nstreams = d.nstreams;
      streams = d.streams;
    }

-- these entries, with the stairs that d has
abbrev pub with_entries : Desk → Entries → Desk
with_entries d e =
    record {
      opened = e.opened;
      rate = e.rate;
      cycle = e.cycle;
      guard = e.guard;
      header = e.header;
      nslots = e.nslots;
      slots = e.slots;
      nstreams = e.nstreams;
      streams = e.streams;
      nstairs = d.nstairs;
      far = d.far;
      tot = d.tot;
    }

-- ---- replies

-- the desk made where the edit of the entries was accepted, and the desk d where it was refused
unfoldable pub answered : Desk → Desk → Result (Unit {0}) Refusal → Reply (Unit {0})
answered d made (Ok u) = record { answer = Ok u; desk = made }
answered d made (Err why) = record { answer = Err why; desk = d }
