-- Document 01, "What is refused": every call, its refusals in the paper's order.
use Rattle.std.specs.Prelude.{Bool, not, cond, ◌&&◌, List, [], ◌∷◌, ℕ, length, leb, ltb, eqb}
use Rattle.std.proofs.Math.Option.{Option, none, some}
use Rattle.laws.specs.Lists.{keep, find, any, insert_by}
use Rattle.meaning.specs.declared.Port.{Port}
use Rattle.meaning.specs.declared.Slot.{Slot}
use Rattle.meaning.specs.declared.Stream.{Stream}
use Rattle.meaning.specs.declared.Run.{Run}
use Rattle.meaning.specs.declared.Stair.{Stair}
use Rattle.meaning.specs.declared.Refusal.TheVariants.{OutOfTurn, OutOfRange, Overlap, Full, IdHeld, NotHeld}
use Rattle.meaning.specs.declared.Refusal.TheVariants.{NoFreeCell, Endless, Late, OverHorizon}
use Rattle.meaning.specs.Ranges.{horizon, most_slots, most_streams, octet_limit, port_ranges, slot_ranges}
use Rattle.meaning.specs.Ranges.{stream_ranges, in_range}
use Rattle.meaning.specs.Runs.{gate_of, has_free, runs}
use Rattle.meaning.specs.Interference.{interference, stairs}
use Rattle.meaning.specs.Response.{others, lower_wire, bound, late}
use Rattle.meaning.specs.Refusals.{Answer, accepted, refused, ◌⇒◌, unless}
use Rattle.meaning.specs.Desks.{Desk, bare, opened}

-- "Slots as entered may touch but not overlap."
abbrev pub overlaps : Slot → Slot → Bool
overlaps s x = ltb x.start s.end && ltb s.start x.end

-- the slots with s, by rising start; the streams with j, by rising id
abbrev pub with_slot : Slot → List Slot → List Slot
with_slot s ss = insert_by (λ x. x.start) s ss

abbrev pub with_stream : Stream → List Stream → List Stream
with_stream j js = insert_by (λ x. x.id) j js

-- "Opening: 4, 5."
unfoldable pub open_port : Port → Desk → Answer Desk
open_port p bare = unless (not (in_range (port_ranges p)) ⇒ OutOfRange ∷ []) (opened p [] [])
open_port p (opened q ss js) = refused OutOfTurn

-- "Adding a slot: 4, 5, 7, 6, 10."
unfoldable pub add_slot : Slot → Desk → Answer Desk
add_slot s bare = refused OutOfTurn
add_slot s (opened p ss js) =
    unless
    (not (in_range (slot_ranges p.cycle s)) ⇒ OutOfRange
    ∷ leb most_slots (length ss) ⇒ Full
    ∷ any (overlaps s) ss ⇒ Overlap
    ∷ not (has_free (gate_of p js) (with_slot s ss)) ⇒ NoFreeCell
    ∷ [])
    (opened p (with_slot s ss) js)

-- "Removing: 4, 9."
unfoldable pub remove_slot : ℕ → Desk → Answer Desk
remove_slot start bare = refused OutOfTurn
remove_slot start (opened p ss js) =
    unless
    (not (any (λ x. eqb x.start start) ss) ⇒ NotHeld ∷ [])
    (opened p (keep (λ x. not (eqb x.start start)) ss) js)

-- "Adding a stream: 4, 5, 7, 8."
unfoldable pub add_stream : Stream → Desk → Answer Desk
add_stream j bare = refused OutOfTurn
add_stream j (opened p ss js) =
    unless
    (not (in_range (stream_ranges (octet_limit p) j)) ⇒ OutOfRange
    ∷ leb most_streams (length js) ⇒ Full
    ∷ any (λ x. eqb x.id j.id) js ⇒ IdHeld
    ∷ [])
    (opened p ss (with_stream j js))

-- "Removing: 4, 9."
unfoldable pub remove_stream : ℕ → Desk → Answer Desk
remove_stream id bare = refused OutOfTurn
remove_stream id (opened p ss js) =
    unless (not (any (λ x. eqb x.id id) js) ⇒ NotHeld ∷ []) (opened p ss (others id js))

-- "Asking for runs or stairs: 4."
unfoldable pub ask_runs : Desk → Answer (List Run)
ask_runs bare = refused OutOfTurn
ask_runs (opened p ss js) = accepted (runs (gate_of p js) ss)

unfoldable pub ask_stairs : Desk → Answer (List Stair)
ask_stairs bare = refused OutOfTurn
ask_stairs (opened p ss js) = accepted (stairs (gate_of p js) ss)

-- "Interference: 4, 14."
unfoldable pub ask_interference : ℕ → Desk → Answer ℕ
ask_interference t bare = refused OutOfTurn
ask_interference t (opened p ss js) =
    unless (ltb horizon t ⇒ OverHorizon ∷ []) (interference (gate_of p js) ss t)

-- the bound of a stream with this record, beside the streams of other ids; none where it is endless
unfoldable pub bound_of : Port → List Slot → List Stream → Stream → Option ℕ
bound_of p ss js i =
    let rest = others i.id js in
    bound p.rate (interference (gate_of p js) ss) (lower_wire p.rate i rest) rest i

-- "Response: 4, 9, 12, 13."
unfoldable pub verdict : Stream → Option ℕ → Answer ℕ
verdict i none = refused Endless
verdict i (some r) = cond (late i r) (refused (Late r)) (accepted r)

unfoldable pub respond : Port → List Slot → List Stream → Option Stream → Answer ℕ
respond p ss js none = refused NotHeld
respond p ss js (some i) = verdict i (bound_of p ss js i)

unfoldable pub ask_response : ℕ → Desk → Answer ℕ
ask_response id bare = refused OutOfTurn
ask_response id (opened p ss js) = respond p ss js (find (λ j. eqb j.id id) js)
