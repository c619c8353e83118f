-- An answer of document 01 as the result that a call hands back, and its number and values.
use Rattle.std.specs.Prelude.{List, [], ◌∷◌, ℕ, Result, Ok, Err}
use Rattle.meaning.specs.declared.Refusal.{Refusal}
use Rattle.meaning.specs.Refusals.{Answer, accepted, refused, number_of, values_of}

-- an answer of document 01 as the result that a call hands back
abbrev pub answer_of : {A : Type 0} → Answer A → Result A Refusal
answer_of (accepted a) = Ok a
answer_of (refused r) = Err r

-- document 01's number of such a result, 0 where it is accepted
unfoldable pub answer_number : {A : Type 0} → Result A Refusal → ℕ
answer_number (Ok a) = 0
answer_number (Err r) = number_of r

-- and the values that it carries, where it is a figure's
unfoldable pub answer_values : Result ℕ Refusal → List ℕ
answer_values (Ok x) = x ∷ []
answer_values (Err r) = values_of r
