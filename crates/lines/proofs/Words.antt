-- The words of a figure, case by case, and the octets that lines have.
-- Assumes nothing.
use mathlib.Core.Path.{◌≡◌, ap, ◌∙◌}
use mathlib.Core.List.{List, [], ◌++◌}
use Rattle.std.specs.Prelude.{Result, Ok, Err}
use Prim.Native.Nat.{ℕ, ◌+◌}
use native.Mathlib.Omega.{arith}
use lib.ListN.{length, length-append}
use Rattle.meaning.specs.declared.Refusal.{Refusal}
use Rattle.meaning.specs.declared.Refusal.TheVariants.{Late}
use Rattle.meaning.specs.Refusals.{values_of}
use Rattle.meaning.specs.Findings.{octets_in, decimal, told}
use Rattle.lines.specs.Texts.{refusal_words, figure_words}

module _ (deadline : ℕ) (figure : Result ℕ Refusal) where
  pub bound_words : (b : ℕ) → figure ≡ Ok b
      → figure_words deadline figure ≡ told " bound " b ++ told " of " deadline
  unfolding figure_words
  bound_words b e = ap (figure_words deadline) e

  pub late_words : (why : Refusal) (b : ℕ) → figure ≡ Err why → why ≡ Late b
      → figure_words deadline figure ≡ told " late " b ++ told " of " deadline
  unfolding figure_words refusal_words values_of
  late_words why b e l = ap (figure_words deadline) e ∙ ap (λ (r : Refusal). refusal_words deadline (values_of r)) l

  pub endless_words : (why : Refusal) → figure ≡ Err why → values_of why ≡ []
      → figure_words deadline figure ≡ octets_in " endless"
  unfolding figure_words refusal_words
  endless_words why e l = ap (figure_words deadline) e ∙ ap (refusal_words deadline) l

  told_of : (word : List ℕ) (b : ℕ)
      → length (word ++ decimal b ++ told " of " deadline)
      ≡ length word + length (decimal b) + 4 + length (decimal deadline)
  unfolding told octets_in
  told_of word b =
      length-append (word ++ decimal b) (told " of " deadline)
      ∙ omega (arith, length-append word (decimal b), length-append (octets_in " of ") (decimal deadline))

  pub bound_length : (b : ℕ) → figure ≡ Ok b
      → length (figure_words deadline figure) ≡ 7 + length (decimal b) + 4 + length (decimal deadline)
  unfolding told octets_in
  bound_length b e = ap length (bound_words b e) ∙ told_of (octets_in " bound ") b

  pub late_length : (why : Refusal) (b : ℕ) → figure ≡ Err why → why ≡ Late b
      → length (figure_words deadline figure) ≡ 6 + length (decimal b) + 4 + length (decimal deadline)
  unfolding told octets_in
  late_length why b e l = ap length (late_words why b e l) ∙ told_of (octets_in " late ") b

  pub endless_length : (why : Refusal) → figure ≡ Err why → values_of why ≡ []
      → length (figure_words deadline figure) ≡ 8
  unfolding octets_in
  endless_length why e l = ap length (endless_words why e l)
