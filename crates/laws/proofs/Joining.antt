-- Lists that are cut, mapped or joined: their members, lengths and totals.
-- Assumes nothing.
use mathlib.Core.Path.{◌≡◌, refl, sym, ap, ◌∙◌}
use mathlib.Core.Logic.{⊎_elim}
use mathlib.Core.List.Memᴰ
use mathlib.Core.List.{List, [], ◌∷◌, ◌++◌, map, append_assoc}
use Prim.Native.Nat.{ℕ, zero, suc, ◌+◌, ◌*◌, ◌≤◌}
use native.Mathlib.Omega.{arith}
use lib.ListN.{length, take, drop, length-append}
use borrow.Author.Tests.{le-ltb}
use Rattle.laws.specs.Lists.{insert_by, total, joined, Mem}
use Rattle.laws.proofs.Lists.{mem_head, mem_none}

module _ {A : Type 0} where
  -- ---- members of a part

  pub mem_take : (n : ℕ) (xs : List A) (x : A) → Mem x (take n xs) → Mem x xs
  mem_take zero xs x m = mem_none m
  mem_take (suc n) [] x m = m
  mem_take (suc n) (y ∷ xs) x m =
      ⊎_elim (λ (e : x ≡ y). Memᴰ.head e) (λ (k : Mem x (take n xs)). Memᴰ.tail (mem_take n xs x k))
      (Memᴰ.cases_cons m)

  pub mem_drop : (n : ℕ) (xs : List A) (x : A) → Mem x (drop n xs) → Mem x xs
  mem_drop zero xs x m = m
  mem_drop (suc n) [] x m = m
  mem_drop (suc n) (y ∷ xs) x m = Memᴰ.tail (mem_drop n xs x m)

  -- one with the largest key is placed last
  pub insert_last : (key : A → ℕ) (a : A) (xs : List A) → ((x : A) → Mem x xs → key x ≤ key a)
      → insert_by key a xs ≡ xs ++ (a ∷ [])
  unfolding insert_by
  insert_last key a [] h = refl
  insert_last key a (x ∷ xs) h =
      rw (le-ltb (key a) (key x) (h x (mem_head x xs)))
      (ap {B = List A} (λ l. x ∷ l) (insert_last key a xs (λ y m. h y (Memᴰ.tail m))))

  -- ---- totals

  -- where f is k of each
  pub total_same : (f : A → ℕ) (k : ℕ) (xs : List A) → ((x : A) → f x ≡ k) → total f xs ≡ k * length xs
  unfolding total
  total_same f k [] h = omega arith
  total_same f k (x ∷ xs) h = omega (arith, h x, total_same f k xs h)

module _ {A B : Type 0} where
  pub total_map : (f : B → ℕ) (g : A → B) (xs : List A) → total f (map g xs) ≡ total (λ x. f (g x)) xs
  unfolding total
  total_map f g [] = refl
  total_map f g (x ∷ xs) = ap (λ (n : ℕ). f (g x) + n) (total_map f g xs)

  -- ---- lists joined

  pub joined_length : (f : A → List B) (xs : List A) → length (joined f xs) ≡ total (λ x. length (f x)) xs
  unfolding joined total
  joined_length f [] = refl
  joined_length f (x ∷ xs) = omega (arith, length-append (f x) (joined f xs), joined_length f xs)

  pub joined_append : (f : A → List B) (xs ys : List A) → joined f (xs ++ ys) ≡ joined f xs ++ joined f ys
  unfolding joined
  joined_append f [] ys = refl
  joined_append f (x ∷ xs) ys =
      ap (λ (l : List B). f x ++ l) (joined_append f xs ys) ∙ sym (append_assoc (f x) (joined f xs) (joined f ys))
