-- What the functions that write ensure, and what they ask: the numbers fit their octets.
use Rattle.std.specs.Prelude.{◌≡◌, List, ◌++◌, ℕ, ◌<◌, length, drop}
use Rattle.laws.specs.Lists.{Mem}
use Rattle.meaning.specs.declared.Port.{Port}
use Rattle.meaning.specs.declared.Stream.{Stream}

-- the text is in front of the room, the rest keeps its value, and r octets were written
pub record Wrote (text : List ℕ) (r : ℕ) (before after : List ℕ) : Type 0 where
  pub count : r ≡ length text
  pub room : after ≡ text ++ drop r before

-- "rate code (1)"; every other number of a port has four octets, as it has where it is stored
abbrev pub PortFits : Port → Type 0
PortFits p = p.rate < 256

-- "id (2), priority (1), octets (2)"; every other number of a stream has four octets, as it has where it is stored
abbrev pub StreamFits : Stream → Type 0
StreamFits j = (j.id < 65_536) × (j.priority < 256) × (j.octets < 65_536)

-- so of each in a list
abbrev pub AllFit : {A : Type 0} → (A → Type 0) → List A → Type 0
AllFit {A} Fits xs = (x : A) → Mem x xs → Fits x
