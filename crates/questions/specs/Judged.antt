-- What is answered about a stream from its bound and its deadline.
use Rattle.std.specs.Prelude.{cond, ℕ, ltb, Option, None, Some, Result, Ok, Err}
use Rattle.meaning.specs.declared.Refusal.{Refusal}
use Rattle.meaning.specs.declared.Refusal.TheVariants.{Endless, Late}

-- "12 endless"; "13 late; the answer carries the bound"
unfoldable pub judged_by : ℕ → Option ℕ → Result ℕ Refusal
judged_by deadline None = Err Endless
judged_by deadline (Some r) = cond (ltb deadline r) (Err (Late r)) (Ok r)
