-- A loop that appends to a row: the row begins with what it has appended, and z stands in the places left.
-- Assumes nothing.
use mathlib.Core.Path.{◌≡◌, refl, sym, ap, ◌∙◌, subst}
use mathlib.Core.List.{List, [], ◌∷◌, ◌++◌, append_assoc, append-nil}
use Prim.Native.Nat.{ℕ, ◌+◌, ◌<◌}
use native.Mathlib.Omega.{arith}
use lib.ListN.{length, set, replicate, length-append}
use Rattle.laws.specs.Lists.{filled}
use Rattle.laws.proofs.Rows.{filled_none, filled_push}

module _ {A : Type 0} where
  -- m elements stand in the row; with those left they make the whole
  pub record Filling (n : ℕ) (z : A) (row : List A) (m : ℕ) (left whole : List A) : Type 0 where
    pub done : List A
    pub count : m ≡ length done
    pub places : row ≡ filled n z done
    pub all : done ++ left ≡ whole

  pub filling_start : (n : ℕ) (z : A) (whole : List A) → Filling n z (replicate n z) 0 whole whole
  filling_start n z whole = record { done = []; count = refl; places = sym (filled_none n z); all = refl }

  -- the next one left is stored at place m
  pub filling_put : {n : ℕ} {z x y : A} {row : List A} {m : ℕ} {left rest whole : List A}
      → Filling n z row m left whole → left ≡ x ∷ rest → y ≡ x → m < n → Filling n z (set row m y) (m + 1) rest whole
  filling_put {n} {z} {x} {y} f e q h =
      record {
        done = f.done ++ x ∷ [];
        count = omega (arith, f.count, length-append f.done (x ∷ []));
        places = rw (q, f.places, f.count) (filled_push n z f.done x (omega (arith, f.count)));
        all = rw (append_assoc, ← e) f.all;
      }

  -- none is stored
  pub filling_skip : {n : ℕ} {z : A} {row : List A} {m : ℕ} {left rest whole : List A}
      → Filling n z row m left whole → left ≡ rest → Filling n z row m rest whole
  filling_skip {n} {z} {row} {m} {left} {rest} {whole} f e = subst (λ (xs : List A). Filling n z row m xs whole) e f

  -- with none left, the row holds the whole
  pub filling_end : {n : ℕ} {z : A} {row : List A} {m : ℕ} {left whole : List A} → Filling n z row m left whole
      → left ≡ [] → (m ≡ length whole) × (row ≡ filled n z whole)
  filling_end {n} {z} f none =
      let e = sym (append-nil f.done) ∙ sym (ap (λ (xs : List A). f.done ++ xs) none) ∙ f.all in
      (f.count ∙ ap length e, f.places ∙ ap (filled n z) e)
