-- The desk of document 01: bare, or a port's numbers with slots by rising start and streams by rising id.
use Rattle.std.specs.Prelude.{◌≡◌, List}
use Rattle.meaning.specs.declared.Port.{Port}
use Rattle.meaning.specs.declared.Slot.{Slot}
use Rattle.meaning.specs.declared.Stream.{Stream}
use Rattle.meaning.specs.Runs.{gate_of}
use Rattle.meaning.specs.Interference.{stairs}
use Rattle.meaning.specs.Refusals.{Answer, accepted, refused}

pub data Desk : Type 0 where
  bare : Desk
  opened : Port → List Slot → List Stream → Desk

-- "Two desks are the same when both are bare, or both hold the same port numbers, slots, streams and stairs."
abbrev pub SameDesk : Desk → Desk → Type 0
SameDesk bare bare = Unit {0}
SameDesk bare (opened p ss js) = ⊥
SameDesk (opened p ss js) bare = ⊥
SameDesk (opened p ss js) (opened q ts ks) =
    (p ≡ q) × (ss ≡ ts) × (js ≡ ks) × (stairs (gate_of p js) ss ≡ stairs (gate_of q ks) ts)

-- what a call hands back: its answer, and the desk
pub record Reply (A : Type 0) : Type 0 where
  pub answer : Answer A
  pub desk : Desk

-- an edit makes a desk; "A refusal answers its number (13 also the bound) and the unchanged desk."
unfoldable pub edited : Desk → Answer Desk → Reply (Unit {0})
edited d (accepted e) = record { answer = accepted tt; desk = e }
edited d (refused r) = record { answer = refused r; desk = d }

-- a question hands back the desk it was given
unfoldable pub asked : {A : Type 0} → Desk → Answer A → Reply A
asked d a = record { answer = a; desk = d }
