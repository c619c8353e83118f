-- The words of a figure.
use Rattle.std.specs.Prelude.{List, [], ◌∷◌, ◌++◌, ℕ, Result, Ok, Err}
use Rattle.meaning.specs.declared.Refusal.{Refusal}
use Rattle.meaning.specs.Refusals.{values_of}
use Rattle.meaning.specs.Findings.{octets_in, told, newline}

-- the words of a refusal that carries these values: late where it carries the bound, and endless
unfoldable pub refusal_words : ℕ → List ℕ → List ℕ
refusal_words deadline [] = octets_in " endless"
refusal_words deadline (b ∷ bs) = told " late " b ++ told " of " deadline

-- the words of what the response call answers
unfoldable pub figure_words : ℕ → Result ℕ Refusal → List ℕ
figure_words deadline (Ok b) = told " bound " b ++ told " of " deadline
figure_words deadline (Err why) = refusal_words deadline (values_of why)

unfoldable pub figure_line : ℕ → ℕ → Result ℕ Refusal → List ℕ
figure_line id deadline figure = told "stream " id ++ figure_words deadline figure ++ newline
