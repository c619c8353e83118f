-- Document 01, "What is refused": the numbers, and the order in which a call's refusals are tried.
use Rattle.std.specs.Prelude.{Bool, cond, List, [], ◌∷◌, ℕ}
use Rattle.meaning.specs.declared.Refusal.{Refusal}
use Rattle.meaning.specs.declared.Refusal.TheVariants.{CutShort, UnknownTag, WrongLength, OutOfTurn}
use Rattle.meaning.specs.declared.Refusal.TheVariants.{OutOfRange, Overlap, Full, IdHeld, NotHeld, NoFreeCell}
use Rattle.meaning.specs.declared.Refusal.TheVariants.{NoRoom, Endless, Late, OverHorizon}

-- "No."
unfoldable pub number_of : Refusal → ℕ
number_of CutShort = 1
number_of UnknownTag = 2
number_of WrongLength = 3
number_of OutOfTurn = 4
number_of OutOfRange = 5
number_of Overlap = 6
number_of Full = 7
number_of IdHeld = 8
number_of NotHeld = 9
number_of NoFreeCell = 10
number_of NoRoom = 11
number_of Endless = 12
number_of (Late r) = 13
number_of OverHorizon = 14

-- "13 also the bound"
unfoldable pub values_of : Refusal → List ℕ
values_of CutShort = []
values_of UnknownTag = []
values_of WrongLength = []
values_of OutOfTurn = []
values_of OutOfRange = []
values_of Overlap = []
values_of Full = []
values_of IdHeld = []
values_of NotHeld = []
values_of NoFreeCell = []
values_of NoRoom = []
values_of Endless = []
values_of (Late r) = r ∷ []
values_of OverHorizon = []

-- what a call answers: what was asked for, or a refusal
pub data Answer (A : Type 0) : Type 0 where
  accepted : A → Answer A
  refused : Refusal → Answer A

-- where the test holds, the call is refused
pub record Check : Type 0 where
  pub fails : Bool
  pub answers : Refusal

infix 80 ◌⇒◌
abbrev pub ◌⇒◌ : Bool → Refusal → Check
b ⇒ r = record { fails = b; answers = r }

-- the first of the checks that fails refuses; where none does, a is accepted
unfoldable pub unless : {A : Type 0} → List Check → A → Answer A
unless [] a = accepted a
unless (c ∷ cs) a = cond c.fails (refused c.answers) (unless cs a)
