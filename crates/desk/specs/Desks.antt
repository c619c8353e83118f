-- The desk struct: what it holds, when it is fit, and how the meaning of an edit is handed back.
use Rattle.std.specs.Prelude.{◌≡◌, Bool, true, false, cond, List, [], ℕ, length, take}
use Rattle.meaning.specs.declared.Port.{Port}
use Rattle.meaning.specs.declared.Gate.{Gate}
use Rattle.meaning.specs.declared.Slot.{Slot}
use Rattle.meaning.specs.declared.Stream.{Stream}
use Rattle.meaning.specs.declared.Stair.{Stair}
use Rattle.meaning.specs.Runs.{gate_of}
use Rattle.meaning.specs.Interference.{stairs}
use Rattle.meaning.specs.Desks.{bare, opened}
use Rattle.meaning.specs.Desks.{Desk as Plan, Reply as Meant}
use Rattle.meaning.specs.Promises.{SoundDesk}
use Rattle.rows.specs.Rows.{slot_row, stream_row}
use Rattle.table.specs.Rows.{table_of}
use Rattle.answers.specs.Answers.{answer_of}
use Rattle.desk.specs.declared.Desk.{Desk}
use Rattle.desk.specs.declared.Reply.{Reply}

-- ---- the struct and what it holds

-- the struct with these numbers, slots, streams and stairs
unfoldable pub filled_desk : Bool → Port → List Slot → List Stream → List Stair → Desk
filled_desk isOpen p ss js st =
    record {
      opened = isOpen;
      rate = p.rate;
      cycle = p.cycle;
      guard = p.guard;
      header = p.header;
      nslots = length ss;
      slots = slot_row ss;
      nstreams = length js;
      streams = stream_row js;
      nstairs = length st;
      far = (table_of st).far;
      tot = (table_of st).tot;
    }

-- the one struct of a desk of document 01: what is held stands in front, and everything else is zero
unfoldable pub desk_of : Plan → Desk
desk_of bare = filled_desk false (record { rate = 0; cycle = 0; guard = 0; header = 0 }) [] [] []
desk_of (opened p ss js) = filled_desk true p ss js (stairs (gate_of p js) ss)

-- what an open struct holds
abbrev pub port_in : Desk → Port
port_in d = record { rate = d.rate; cycle = d.cycle; guard = d.guard; header = d.header }

abbrev pub slots_in : Desk → List Slot
slots_in d = take d.nslots d.slots

abbrev pub streams_in : Desk → List Stream
streams_in d = take d.nstreams d.streams

-- the distances and totals of its stairs
abbrev pub far_in : Desk → List ℕ
far_in d = take d.nstairs d.far

abbrev pub tot_in : Desk → List ℕ
tot_in d = take d.nstairs d.tot

-- the gate numbers in force
abbrev pub gate_in : Desk → Gate
gate_in d = gate_of (port_in d) (streams_in d)

-- the desk of document 01 that a struct holds
unfoldable pub held : Desk → Plan
held d =
    cond d.opened (opened (port_in d) (slots_in d) (streams_in d)) bare

-- a desk that a call may be handed: it holds a sound desk, and is the one struct of it
pub record Fit (d : Desk) : Type 0 where
  pub sound : SoundDesk (held d)
  pub canonical : d ≡ desk_of (held d)

-- ---- replies

-- what a call means, as the struct that hands it back
abbrev pub reply_of : {A : Type 0} → Meant A → Reply A
reply_of r = record { answer = answer_of r.answer; desk = desk_of r.desk }

abbrev pub edit_reply : Meant (Unit {0}) → Reply (Unit {0})
edit_reply r = reply_of r
