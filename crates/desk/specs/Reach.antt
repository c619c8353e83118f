-- What an open desk struct holds, the desks that calls can reach, and demand 3 of them.
use Rattle.std.specs.Prelude.{◌≡◌, List, [], ◌∷◌, ℕ, ◌≤◌}
use Rattle.meaning.specs.declared.Port.{Port}
use Rattle.meaning.specs.declared.Slot.{Slot}
use Rattle.meaning.specs.declared.Stream.{Stream}
use Rattle.meaning.specs.declared.Stair.{Stair}
use Rattle.meaning.specs.Ranges.{horizon}
use Rattle.meaning.specs.Runs.{runs}
use Rattle.meaning.specs.Interference.{by_stairs, stairs}
use Rattle.meaning.specs.Refusals.{Answer, accepted}
use Rattle.meaning.specs.Desks.{bare, edited}
use Rattle.meaning.specs.Desks.{Desk as Plan}
use Rattle.meaning.specs.Calls.{open_port, add_slot, remove_slot, add_stream, remove_stream, ask_stairs}
use Rattle.meaning.specs.Calls.{ask_interference}
use Rattle.meaning.specs.Promises.{Stairway}
use Rattle.table.specs.Lookup.{stairs_in, all_in, DemandThree}
use Rattle.desk.specs.declared.Desk.{Desk}
use Rattle.desk.specs.Desks.{desk_of, held, slots_in, gate_in}

-- the stairs that the rows store, and the table's figure for a length
abbrev pub stored_stairs : Desk → List Stair
stored_stairs d = stairs_in d.far d.tot d.nstairs

abbrev pub figure_in : Desk → ℕ → ℕ
figure_in d t = by_stairs d.cycle (all_in d.tot d.nstairs) (stored_stairs d) t

-- ---- the desks that calls reach

-- the edits, each with its numbers; a question hands back the desk that it was given, so it reaches no other
pub data Call : Type 0 where
  opening : Port → Call
  adding_slot : Slot → Call
  removing_slot : ℕ → Call
  adding_stream : Stream → Call
  removing_stream : ℕ → Call

-- the desk that a call makes, or its refusal
abbrev pub made : Call → Plan → Answer Plan
made (opening p) e = open_port p e
made (adding_slot s) e = add_slot s e
made (removing_slot start) e = remove_slot start e
made (adding_stream j) e = add_stream j e
made (removing_stream id) e = remove_stream id e

-- the desk that a call hands back, accepted or refused
unfoldable pub after : Call → Plan → Plan
after c e = (edited e (made c e)).desk

-- one call after the other
unfoldable pub after_all : List Call → Plan → Plan
after_all [] e = e
after_all (c ∷ cs) e = after_all cs (after c e)

-- the struct of a desk that some calls make of the bare one
abbrev pub Reached : Desk → Type 0
Reached d = (cs : List Call) × (d ≡ desk_of (after_all cs bare))

-- ---- demand 3

-- of an open desk: "the stored stairs are document 01's for the slots then held: they rise strictly in length and in
-- interference, none covers another, and each is met from the start of some blocked run"; "the blocked time in that
-- window is at most the table's figure. If anything is blocked, some run's start meets that figure exactly by document
-- 01's count"; and the desk answers what is stored
pub record DemandThreeHolds (d : Desk) : Type 0 where
  pub stored : stored_stairs d ≡ stairs (gate_in d) (slots_in d)
  pub stairway : Stairway (gate_in d).cycle (runs (gate_in d) (slots_in d)) (stored_stairs d)
  pub windows : DemandThree (gate_in d) (slots_in d) (figure_in d)
  pub stairs_answered : ask_stairs (held d) ≡ accepted (stored_stairs d)
  pub figure_answered : (t : ℕ) → t ≤ horizon → ask_interference t (held d) ≡ accepted (figure_in d t)
