-- Lists: those that pass a test, totals, largest values, and a place by rising key.
use Rattle.std.specs.Prelude.{Bool, true, false, cond, ◌&&◌, ◌||◌, ℕ, suc, ◌+◌, ◌-◌, ◌<◌, max, length, take, drop}
use Rattle.std.specs.Prelude.{replicate, ltb}
use mathlib.Core.List.{List, [], ◌∷◌, ◌++◌, Memᴰ}
use Rattle.std.proofs.Math.Option.{Option, none, some}

module _ {A : Type 0} where
  -- those that pass the test
  unfoldable pub keep : (A → Bool) → List A → List A
  keep p [] = []
  keep p (x ∷ xs) = cond (p x) (x ∷ keep p xs) (keep p xs)

  -- the first that passes the test
  unfoldable pub find : (A → Bool) → List A → Option A
  find p [] = none
  find p (x ∷ xs) = cond (p x) (some x) (find p xs)

  -- some one passes the test
  unfoldable pub any : (A → Bool) → List A → Bool
  any p [] = false
  any p (x ∷ xs) = p x || any p xs

  -- every one passes the test
  unfoldable pub every : (A → Bool) → List A → Bool
  every p [] = true
  every p (x ∷ xs) = p x && every p xs

  -- f of each, added up
  unfoldable pub total : (A → ℕ) → List A → ℕ
  total f [] = 0
  total f (x ∷ xs) = f x + total f xs

  -- the largest f of one of them, 0 with none
  unfoldable pub largest : (A → ℕ) → List A → ℕ
  largest f [] = 0
  largest f (x ∷ xs) = max (f x) (largest f xs)

  -- a before the first one with a larger key
  unfoldable pub insert_by : (A → ℕ) → A → List A → List A
  insert_by key a [] = a ∷ []
  insert_by key a (x ∷ xs) = cond (ltb (key a) (key x)) (a ∷ x ∷ xs) (x ∷ insert_by key a xs)

  -- a stands in the list
  abbrev pub Mem : A → List A → Type 0
  Mem a xs = Memᴰ a xs

  -- each has a smaller key than all behind it
  abbrev pub RisingBy : (A → ℕ) → List A → Type 0
  RisingBy key [] = Unit {0}
  RisingBy key (x ∷ xs) = ((y : A) → Mem y xs → key x < key y) × RisingBy key xs

  -- the place of the first that passes the test, the length with none
  unfoldable pub place_by : (A → Bool) → List A → ℕ
  place_by p [] = 0
  place_by p (x ∷ xs) = cond (p x) 0 (suc (place_by p xs))

  -- all but the one at place k
  unfoldable pub without : ℕ → List A → List A
  without k xs = take k xs ++ drop (suc k) xs

  -- a row of n places that begins with xs, and z in the places left
  unfoldable pub filled : ℕ → A → List A → List A
  filled n z xs = xs ++ replicate (n - length xs) z

-- f of each, one list after the other
unfoldable pub joined : {A B : Type 0} → (A → List B) → List A → List B
joined f [] = []
joined f (x ∷ xs) = f x ++ joined f xs
