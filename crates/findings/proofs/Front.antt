-- What a reader gave into a buffer is the front of its octets: all of them, where the buffer has room left.
-- Assumes nothing.
use Rattle.std.proofs.Common.{
  ◌≡◌,
  ◌≤◌,
  ◌<◌,
  ℕ,
  List,
  ◌++◌,
  IfSome,
  None,
  Some,
  length,
  take,
  sym,
  ap,
  ◌∙◌,
  arith,
  append-nil,
  length-take-le,
}
use mathlib.Core.Logic.{by_cases}
use native.Mathlib.Decide.{dec_le}
use Rattle.std.proofs.lemmas.List.{take_all, take_at}
use Rattle.std.specs.declared.option.Option.{Option}
use Rattle.std.specs.Io.KnownBytes.{Consumes, IsAtEnd}

-- what holds of all octets with that front holds of the octets that the reader had
pub front : (a b : Option (List ℕ)) (n room : ℕ) (buf : List ℕ) → length buf ≡ room → n ≤ room
    → Consumes a b (take n buf) → (n < room → IsAtEnd b)
    → (P : List ℕ → Type 0) → ((octets : List ℕ) → take n buf ≡ take room octets → P octets) → IfSome a P
front None b n room buf size few given end P holds = tt
front (Some xs) None n room buf size few given end P holds = absurd given
front (Some xs) (Some ys) n room buf size few given end P holds =
    let long = length-take-le n buf (omega (arith, size, few)) in
    let full = λ (h : room ≤ n). ap (take room) given ∙ take_at (take n buf) ys room (omega (arith, long, h, few)) in
    let part = λ (h : n < room).
    ap (take room) (given ∙ ap (λ l. take n buf ++ l) (end h) ∙ append-nil (take n buf))
    ∙ take_all room (take n buf) (omega (arith, long, few)) in
    holds xs (sym (by_cases (dec_le room n) full (λ h. part (omega (arith, h)))))
