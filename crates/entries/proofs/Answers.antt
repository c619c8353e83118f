-- What an edit hands back, from the meaning's answer: a refusal and the unchanged entries, or the entries made.
-- Assumes nothing.
use mathlib.Core.Path.{◌≡◌, refl}
use Rattle.std.specs.Prelude.{Result, Ok, Err}
use Rattle.std.specs.Result.{IsErrAnd}
use Rattle.std.proofs.lemmas.Result.{err_from_is_err_and}
use Rattle.meaning.specs.declared.Refusal.{Refusal}
use Rattle.meaning.specs.Refusals.{Answer, accepted, refused}
use Rattle.meaning.specs.Desks.{Desk, edited}
use Rattle.meaning.specs.Promises.{SoundDesk}
use Rattle.entries.specs.declared.Entries.{Entries}
use Rattle.entries.specs.Entries.{entries_of, FitEntries, Edits}
use Rattle.entries.proofs.Opened.{entries_fit}

module _ (e : Entries) (a : Answer Desk) where
  pub refusal_edits : (why : Refusal) → FitEntries e → a ≡ refused why → Edits e a (Err why) e
  unfolding edited
  refusal_edits why f q = rw q (record { answer = refl; entries = f.canonical; fit = f })

  -- a refusal x that `?` hands on
  pub handed_on_edits : (r : Result (Unit {0}) Refusal) (x why : Refusal) → FitEntries e
      → IsErrAnd r (λ y. y ≡ x) → x ≡ why → a ≡ refused why → Edits e a r e
  handed_on_edits r x why f k w q =
      let p = err_from_is_err_and r k in rw (p.1, p.2, w) (refusal_edits why f q)

  pub acceptance_edits : (x : Desk) (made : Entries) → SoundDesk x → made ≡ entries_of x → a ≡ accepted x
      → Edits e a (Ok tt) made
  unfolding edited
  acceptance_edits x made s k q = rw (q, k) (record { answer = refl; entries = refl; fit = entries_fit x s })
