-- Every edit of document 01: each refusal and the acceptance, as an exactly-when.
-- Assumes nothing.
use mathlib.Core.Path.{◌≡◌, refl, ap}
use mathlib.Core.Logic.{◌↔◌}
use mathlib.Core.Bool.{true, false, not}
use mathlib.Core.List.{List, [], ◌∷◌}
use Prim.Native.Nat.{ℕ, ◌≤◌, ◌<◌}
use lib.ListN.{length}
use lib.Dec.{eqb}
use Rattle.laws.specs.Lists.{any, keep, Mem}
use Rattle.meaning.specs.declared.Port.{Port}
use Rattle.meaning.specs.declared.Slot.{Slot}
use Rattle.meaning.specs.declared.Stream.{Stream}
use Rattle.meaning.specs.declared.Refusal.{Refusal}
use Rattle.meaning.specs.declared.Refusal.TheVariants.{OutOfTurn, OutOfRange, Overlap, Full, IdHeld, NotHeld}
use Rattle.meaning.specs.declared.Refusal.TheVariants.{NoFreeCell}
use Rattle.meaning.specs.Ranges.{most_slots, most_streams, octet_limit, port_ranges, slot_ranges, stream_ranges}
use Rattle.meaning.specs.Ranges.{in_range}
use Rattle.meaning.specs.Runs.{gate_of, has_free}
use Rattle.meaning.specs.Response.{others}
use Rattle.meaning.specs.Refusals.{number_of, accepted, refused}
use Rattle.meaning.specs.Desks.{Desk, bare, opened}
use Rattle.meaning.specs.Calls.{overlaps, with_slot, with_stream, open_port, add_slot, remove_slot, add_stream}
use Rattle.meaning.specs.Calls.{remove_stream}
use Rattle.meaning.proofs.Refusing.{tells_itself, tells_not, tells_leb, one_of_these, none_of_these, stops}
use Rattle.meaning.proofs.Refusing.{passes, passed, flat₃, flat₄, flat₅, turned_away}

-- A record for each call has a field for each number, in the paper's order, then `accepts`, and then `only`: no other
-- number is answered.

-- "Opening: 4, 5."
pub record OpenSays (p : Port) : Type 0 where
  pub out_of_turn : (d : Desk) → open_port p d ≡ refused OutOfTurn
      ↔ ((q : Port) × (ss : List Slot) × (js : List Stream) × (d ≡ opened q ss js))
  pub out_of_range : open_port p bare ≡ refused OutOfRange ↔ (in_range (port_ranges p) ≡ false)
  pub accepts : (e : Desk) → open_port p bare ≡ accepted e ↔ ((in_range (port_ranges p) ≡ true) × (e ≡ opened p [] []))
  pub only : (r : Refusal) → open_port p bare ≡ refused r → Mem (number_of r) (5 ∷ [])

pub open_says : (p : Port) → OpenSays p
unfolding open_port number_of any
open_says p =
    record {
      out_of_turn = turn;
      out_of_range = (stops (tells_not _) refl).exactly;
      accepts = λ e. (passes (tells_not _) refl passed).exactly;
      only = one_of_these _ _;
    }
  where
    turn : (d : Desk) → open_port p d ≡ refused OutOfTurn
        ↔ ((q : Port) × (ss : List Slot) × (js : List Stream) × (d ≡ opened q ss js))
    turn bare = (λ e. absurd (none_of_these _ _ OutOfTurn refl e), λ (q, ss, js, e). ap (open_port p) e)
    turn (opened q ss js) = (λ e. (q, ss, js, refl), λ e. refl)

-- "Adding a slot: 4, 5, 7, 6, 10."
pub record AddSlotSays (s : Slot) (p : Port) (ss : List Slot) (js : List Stream) : Type 0 where
  pub out_of_turn : (d : Desk) → add_slot s d ≡ refused OutOfTurn ↔ (d ≡ bare)
  pub out_of_range : add_slot s (opened p ss js) ≡ refused OutOfRange ↔ (in_range (slot_ranges p.cycle s) ≡ false)
  pub full : add_slot s (opened p ss js) ≡ refused Full
      ↔ ((in_range (slot_ranges p.cycle s) ≡ true) × (most_slots ≤ length ss))
  pub overlap : add_slot s (opened p ss js) ≡ refused Overlap
      ↔ ((in_range (slot_ranges p.cycle s) ≡ true) × (length ss < most_slots) × (any (overlaps s) ss ≡ true))
  pub no_free_cell : add_slot s (opened p ss js) ≡ refused NoFreeCell
      ↔ ((in_range (slot_ranges p.cycle s) ≡ true) × (length ss < most_slots) × (any (overlaps s) ss ≡ false)
      × (has_free (gate_of p js) (with_slot s ss) ≡ false))
  pub accepts : (e : Desk) → add_slot s (opened p ss js) ≡ accepted e
      ↔ ((in_range (slot_ranges p.cycle s) ≡ true) × (length ss < most_slots) × (any (overlaps s) ss ≡ false)
      × (has_free (gate_of p js) (with_slot s ss) ≡ true) × (e ≡ opened p (with_slot s ss) js))
  pub only : (r : Refusal) → add_slot s (opened p ss js) ≡ refused r → Mem (number_of r) (5 ∷ 7 ∷ 6 ∷ 10 ∷ [])

pub add_slot_says : (s : Slot) (p : Port) (ss : List Slot) (js : List Stream) → AddSlotSays s p ss js
unfolding add_slot number_of any
add_slot_says s p ss js =
    record {
      out_of_turn = turned_away (add_slot s) refl (λ p ss js. none_of_these _ _ _ refl);
      out_of_range = (stops (tells_not _) refl).exactly;
      full = (passes (tells_not _) refl (stops (tells_leb _ _) refl)).exactly;
      overlap = flat₃ (passes (tells_not _) refl (passes (tells_leb _ _) refl (stops (tells_itself _) refl)));
      no_free_cell =
          flat₄
          (passes (tells_not _) refl
          (passes (tells_leb _ _) refl (passes (tells_itself _) refl (stops (tells_not _) refl))));
      accepts =
          λ e. flat₅
          (passes (tells_not _) refl
          (passes (tells_leb _ _) refl (passes (tells_itself _) refl (passes (tells_not _) refl passed))));
      only = one_of_these _ _;
    }

-- "Removing: 4, 9."
pub record RemoveSlotSays (start : ℕ) (p : Port) (ss : List Slot) (js : List Stream) : Type 0 where
  pub out_of_turn : (d : Desk) → remove_slot start d ≡ refused OutOfTurn ↔ (d ≡ bare)
  pub not_held : remove_slot start (opened p ss js) ≡ refused NotHeld ↔ (any (λ x. eqb x.start start) ss ≡ false)
  pub accepts : (e : Desk) → remove_slot start (opened p ss js) ≡ accepted e
      ↔ ((any (λ x. eqb x.start start) ss ≡ true) × (e ≡ opened p (keep (λ x. not (eqb x.start start)) ss) js))
  pub only : (r : Refusal) → remove_slot start (opened p ss js) ≡ refused r → Mem (number_of r) (9 ∷ [])

pub remove_slot_says : (start : ℕ) (p : Port) (ss : List Slot) (js : List Stream) → RemoveSlotSays start p ss js
unfolding remove_slot number_of any
remove_slot_says start p ss js =
    record {
      out_of_turn = turned_away (remove_slot start) refl (λ p ss js. none_of_these _ _ _ refl);
      not_held = (stops (tells_not _) refl).exactly;
      accepts = λ e. (passes (tells_not _) refl passed).exactly;
      only = one_of_these _ _;
    }

-- "Adding a stream: 4, 5, 7, 8."
pub record AddStreamSays (j : Stream) (p : Port) (ss : List Slot) (js : List Stream) : Type 0 where
  pub out_of_turn : (d : Desk) → add_stream j d ≡ refused OutOfTurn ↔ (d ≡ bare)
  pub out_of_range : add_stream j (opened p ss js) ≡ refused OutOfRange
      ↔ (in_range (stream_ranges (octet_limit p) j) ≡ false)
  pub full : add_stream j (opened p ss js) ≡ refused Full
      ↔ ((in_range (stream_ranges (octet_limit p) j) ≡ true) × (most_streams ≤ length js))
  pub id_held : add_stream j (opened p ss js) ≡ refused IdHeld
      ↔ ((in_range (stream_ranges (octet_limit p) j) ≡ true) × (length js < most_streams)
      × (any (λ x. eqb x.id j.id) js ≡ true))
  pub accepts : (e : Desk) → add_stream j (opened p ss js) ≡ accepted e
      ↔ ((in_range (stream_ranges (octet_limit p) j) ≡ true) × (length js < most_streams)
      × (any (λ x. eqb x.id j.id) js ≡ false) × (e ≡ opened p ss (with_stream j js)))
  pub only : (r : Refusal) → add_stream j (opened p ss js) ≡ refused r → Mem (number_of r) (5 ∷ 7 ∷ 8 ∷ [])

pub add_stream_says : (j : Stream) (p : Port) (ss : List Slot) (js : List Stream) → AddStreamSays j p ss js
unfolding add_stream number_of any
add_stream_says j p ss js =
    record {
      out_of_turn = turned_away (add_stream j) refl (λ p ss js. none_of_these _ _ _ refl);
      out_of_range = (stops (tells_not _) refl).exactly;
      full = (passes (tells_not _) refl (stops (tells_leb _ _) refl)).exactly;
      id_held = flat₃ (passes (tells_not _) refl (passes (tells_leb _ _) refl (stops (tells_itself _) refl)));
      accepts =
          λ e. flat₄ (passes (tells_not _) refl (passes (tells_leb _ _) refl (passes (tells_itself _) refl passed)));
      only = one_of_these _ _;
    }

-- "Removing: 4, 9."
pub record RemoveStreamSays (id : ℕ) (p : Port) (ss : List Slot) (js : List Stream) : Type 0 where
  pub out_of_turn : (d : Desk) → remove_stream id d ≡ refused OutOfTurn ↔ (d ≡ bare)
  pub not_held : remove_stream id (opened p ss js) ≡ refused NotHeld ↔ (any (λ x. eqb x.id id) js ≡ false)
  pub accepts : (e : Desk) → remove_stream id (opened p ss js) ≡ accepted e
      ↔ ((any (λ x. eqb x.id id) js ≡ true) × (e ≡ opened p ss (others id js)))
  pub only : (r : Refusal) → remove_stream id (opened p ss js) ≡ refused r → Mem (number_of r) (9 ∷ [])

pub remove_stream_says : (id : ℕ) (p : Port) (ss : List Slot) (js : List Stream) → RemoveStreamSays id p ss js
unfolding remove_stream number_of any
remove_stream_says id p ss js =
    record {
      out_of_turn = turned_away (remove_stream id) refl (λ p ss js. none_of_these _ _ _ refl);
      not_held = (stops (tells_not _) refl).exactly;
      accepts = λ e. (passes (tells_not _) refl passed).exactly;
      only = one_of_these _ _;
    }
