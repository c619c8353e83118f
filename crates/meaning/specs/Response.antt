-- Document 01, "Response bound".
use Rattle.std.specs.Prelude.{Bool, not, List, ℕ, ◌+◌, ◌-◌, ◌*◌, leb, ltb, eqb}
use Rattle.std.proofs.Math.Option.{Option, map, get_or}
use Rattle.laws.specs.Lists.{keep, total, largest}
use Rattle.laws.specs.Numbers.{least_up_to, largest_to}
use Rattle.meaning.specs.declared.Stream.{Stream}
use Rattle.meaning.specs.Ranges.{horizon}
use Rattle.meaning.specs.Wire.{wire_time}
use Rattle.meaning.specs.Arrivals.{most_in, earliest}

-- the other streams: those without that id
unfoldable pub others : ℕ → List Stream → List Stream
others id js = keep (λ j. not (eqb j.id id)) js

-- of some streams, those of equal or higher priority than i
unfoldable pub ahead : Stream → List Stream → List Stream
ahead i js = keep (λ j. leb i.priority j.priority) js

-- "L = largest wire time among streams of lower priority, 0 if none."
unfoldable pub lower_wire : ℕ → Stream → List Stream → ℕ
lower_wire rate i js = largest (λ j. wire_time rate j.octets) (keep (λ j. ltb j.priority i.priority) js)

-- "sum of N_j(x) x C_j"
unfoldable pub load : ℕ → List Stream → ℕ → ℕ
load rate js x = total (λ j. most_in j x * wire_time rate j.octets) js

-- "For stream i with wire time C": at this rate and this interference v, with L, beside these other streams
module _ (rate : ℕ) (v : ℕ → ℕ) (L : ℕ) (rest : List Stream) (i : Stream) where
  abbrev pub wire : ℕ
  wire = wire_time rate i.octets

  -- "L + (sum of N_j(x) x C_j over all j of equal or higher priority, i included) + V(x)"
  unfoldable pub busy_load : ℕ → ℕ
  busy_load x = L + (most_in i x * wire + load rate (ahead i rest) x) + v x

  -- "The busy window b is the least x with" that load "<= x"; none: "If no such x up to the horizon exists, the stream
  -- is endless."
  unfoldable pub window : Option ℕ
  window = least_up_to busy_load horizon

  -- "L + (q - 1) x C + (sum of N_j(w) x C_j over the other j of equal or higher priority) + V(w + C)"
  unfoldable pub wait_load : ℕ → ℕ → ℕ
  wait_load q w = L + (q - 1) * wire + load rate (ahead i rest) w + v (w + wire)

  -- in the busy window b: "w is the least number with" that load "<= w"
  unfoldable pub wait : ℕ → ℕ → Option ℕ
  wait b q = least_up_to (wait_load q) b

  -- "The response is w + C less that arrival."
  unfoldable pub response : ℕ → ℕ → Option ℕ
  response b q = map (λ w. w + wire - earliest i q) (wait b q)

  -- "For q = 1 .. N_i(b)": "The bound is the largest response over q."
  unfoldable pub bound_in : ℕ → ℕ
  bound_in b = largest_to (most_in i b) (λ q. get_or (response b q) 0)

  -- the bound, none where the stream is endless
  unfoldable pub bound : Option ℕ
  bound = map bound_in window

-- "Over the deadline, the stream is late."
abbrev pub late : Stream → ℕ → Bool
late i r = ltb i.deadline r
