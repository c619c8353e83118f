-- Rows of a fixed number of places: a list in front, one and the same value in the places left.
-- Assumes nothing.
use mathlib.Core.Path.{◌≡◌, refl, sym, ap, ◌∙◌}
use mathlib.Core.List.{List, [], ◌∷◌, ◌++◌, append_assoc}
use Prim.Native.Nat.{ℕ, suc, ◌-◌, ◌≤◌, ◌<◌}
use native.Mathlib.Nat.{sub-zero}
use native.Mathlib.Omega.{arith}
use lib.ListN.{length, get_or, take, set, replicate, length-append, length-replicate, get_or-append}
use lib.Seq.{take_at, set_at}
use Rattle.laws.specs.Lists.{filled}

module _ {A : Type 0} where
  pub filled_none : (n : ℕ) (z : A) → filled n z [] ≡ replicate n z
  unfolding filled
  filled_none n z = ap (λ (k : ℕ). replicate k z) (sub-zero n)

  pub filled_length : (n : ℕ) (z : A) (xs : List A) → length xs ≤ n → length (filled n z xs) ≡ n
  unfolding filled
  filled_length n z xs h =
      omega (arith, length-append xs (replicate (n - length xs) z), length-replicate (n - length xs) z)

  -- the list is what stands in front
  pub filled_take : (n : ℕ) (z : A) (xs : List A) → take (length xs) (filled n z xs) ≡ xs
  unfolding filled
  filled_take n z xs = take_at xs (replicate (n - length xs) z) (length xs) refl

  pub filled_get : (n : ℕ) (z : A) (xs : List A) (i : ℕ) (d : A) → i < length xs
      → get_or (filled n z xs) i d ≡ get_or xs i d
  unfolding filled
  filled_get n z xs i d h = get_or-append xs (replicate (n - length xs) z) d i h

  -- one more behind the list
  pub filled_push : (n : ℕ) (z : A) (xs : List A) (a : A) → length xs < n
      → set (filled n z xs) (length xs) a ≡ filled n z (xs ++ (a ∷ []))
  unfolding filled
  filled_push n z xs a h =
      let more : n - length xs ≡ suc (n - suc (length xs)) = omega arith in
      let less : n - length (xs ++ (a ∷ [])) ≡ n - suc (length xs) = omega (arith, length-append xs (a ∷ [])) in
      ap (λ (k : ℕ). set (xs ++ replicate k z) (length xs) a) more
      ∙ set_at xs z (replicate (n - suc (length xs)) z) a (length xs) refl
      ∙ sym (append_assoc xs (a ∷ []) (replicate (n - suc (length xs)) z))
      ∙ ap (λ (k : ℕ). xs ++ (a ∷ []) ++ replicate k z) (sym less)
