-- A list without the one at a place, as far as a loop has come; and the place of the first that passes a test.
-- Assumes nothing.
use mathlib.Core.Path.{◌≡◌, refl, ap, ap₂, ◌∙◌}
use mathlib.Core.Logic.{◌↔◌}
use mathlib.Core.Bool.{Bool, true, false, not, cond, ◌||◌, false≢true}
use mathlib.Core.List.Memᴰ
use mathlib.Core.List.{List, [], ◌∷◌, ◌++◌, append-nil}
use mathlib.Core.Option.{some}
use Prim.Native.Nat.{ℕ, zero, suc, ◌+◌, ◌≤◌, ◌<◌, max}
use native.Mathlib.Nat.{le_of_suc-le-suc, not-suc-le-zero}
use native.Mathlib.Numerals.{add-one}
use native.Mathlib.Omega.{arith}
use lib.ListN.{length, get_or, take, drop, length-append, length-take, length-drop, drop_of_length-le}
use lib.Seq.{take_all, take-nil, take-suc, get_or-take, length-take-le}
use lib.Dec.{eqb}
use borrow.Author.Tests.{eqb-true, ne_eqb}
use Rattle.laws.specs.Lists.{keep, find, any, largest, place_by, without, Mem, RisingBy}
use Rattle.laws.proofs.Lists.{mem_head}
use Rattle.laws.proofs.Keeping.{in_append, keep_append}
use Rattle.laws.proofs.Inserting.{find_some}
use Rattle.laws.proofs.Joining.{mem_take, mem_drop}

module _ {A : Type 0} where
  -- ---- a member by its place

  pub mem_get : (xs : List A) (i : ℕ) (d : A) → i < length xs → Mem (get_or xs i d) xs
  mem_get [] i d h = absurd (not-suc-le-zero h)
  mem_get (x ∷ xs) zero d h = mem_head x xs
  mem_get (x ∷ xs) (suc i) d h = Memᴰ.tail (mem_get xs i d (le_of_suc-le-suc h))

  pub mem_get_take : (n : ℕ) (xs : List A) (i : ℕ) (d : A) → i < n → n ≤ length xs → Mem (get_or xs i d) (take n xs)
  mem_get_take n xs i d h l =
      rw (get_or-take n xs i d h) at (mem_get (take n xs) i d (omega (arith, length-take-le n xs l)))

  -- where a list rises, what stands later has the larger key
  pub rising_at : (key : A → ℕ) (xs : List A) (d : A) → RisingBy key xs → (i j : ℕ) → i < j → j < length xs
      → key (get_or xs i d) < key (get_or xs j d)
  rising_at key [] d r i j h l = absurd (omega arith)
  rising_at key (x ∷ xs) d r i zero h l = absurd (omega arith)
  rising_at key (x ∷ xs) d r zero (suc j) h l = r.0 (get_or xs j d) (mem_get xs j d (omega arith))
  rising_at key (x ∷ xs) d r (suc i) (suc j) h l = rising_at key xs d r.1 i j (omega arith) (omega arith)

  -- ---- without a place

  -- a place past the end leaves nothing out
  pub without_past : (k : ℕ) (xs : List A) → length xs ≤ k → without k xs ≡ xs
  unfolding without
  without_past k xs h =
      ap₂ (λ (us vs : List A). us ++ vs) (take_all k xs h) (drop_of_length-le xs {i = suc k} (omega arith))
      ∙ append-nil xs

  pub without_shorter : (k : ℕ) (xs : List A) → length (without k xs) ≤ length xs
  unfolding without
  without_shorter k xs =
      omega
      (arith, length-append (take k xs) (drop (suc k) xs), length-take k xs, length-drop (suc k) xs)

  pub mem_without : (k : ℕ) (xs : List A) (x : A) → Mem x (without k xs) → Mem x xs
  unfolding without
  mem_without k xs x m = in_append (take k xs) m (mem_take k xs x) (mem_drop (suc k) xs x)

  -- ---- as far as a loop has come: nothing seen, the place itself, any other place

  pub without_start : (k : ℕ) (xs : List A) → without k (take 0 xs) ≡ []
  unfolding without
  without_start k xs = rw (take-nil k)

  without_suc_here : (k : ℕ) (xs : List A) → without k (take (suc k) xs) ≡ without k (take k xs)
  unfolding without
  without_suc_here zero [] = refl
  without_suc_here zero (x ∷ xs) = refl
  without_suc_here (suc k) [] = refl
  without_suc_here (suc k) (x ∷ xs) = ap {B = List A} (λ l. x ∷ l) (without_suc_here k xs)

  pub without_here : (k : ℕ) (xs : List A) → without k (take (k + 1) xs) ≡ without k (take k xs)
  without_here k xs = rw (add-one k) (without_suc_here k xs)

  without_suc_next : (k i : ℕ) (xs : List A) (d : A) → ¬ (i ≡ k) → i < length xs
      → without k (take (suc i) xs) ≡ without k (take i xs) ++ (get_or xs i d ∷ [])
  unfolding without
  without_suc_next k i [] d e h = absurd (not-suc-le-zero h)
  without_suc_next zero zero (x ∷ xs) d e h = absurd (e refl)
  without_suc_next (suc k) zero (x ∷ xs) d e h = rw (take-nil {A = A} k)
  without_suc_next zero (suc i) (x ∷ xs) d e h = take-suc xs i d (le_of_suc-le-suc h)
  without_suc_next (suc k) (suc i) (x ∷ xs) d e h =
      ap {B = List A} (λ l. x ∷ l) (without_suc_next k i xs d (λ q. e (ap suc q)) (le_of_suc-le-suc h))

  pub without_next : (k i : ℕ) (xs : List A) (d : A) → ¬ (i ≡ k) → i < length xs
      → without k (take (i + 1) xs) ≡ without k (take i xs) ++ (get_or xs i d ∷ [])
  without_next k i xs d e h = rw (add-one i) (without_suc_next k i xs d e h)

  -- ---- one more behind a list

  pub keep_takes : (p : A → Bool) (xs : List A) (x : A) → p x ≡ true → keep p (xs ++ (x ∷ [])) ≡ keep p xs ++ (x ∷ [])
  unfolding keep
  keep_takes p xs x e = keep_append p xs (x ∷ []) ∙ rw e

  pub keep_leaves : (p : A → Bool) (xs : List A) (x : A) → p x ≡ false → keep p (xs ++ (x ∷ [])) ≡ keep p xs
  unfolding keep
  keep_leaves p xs x e = keep_append p xs (x ∷ []) ∙ rw e (append-nil (keep p xs))

  pub largest_more : (f : A → ℕ) (xs : List A) (x : A) → largest f (xs ++ (x ∷ [])) ≡ max (largest f xs) (f x)
  unfolding largest
  largest_more f [] x = omega arith
  largest_more f (y ∷ xs) x = omega (arith, largest_more f xs x)

  -- ---- the place of the first that passes a test

  -- it is a place of the list exactly where some one passes
  pub place_held : (p : A → Bool) (xs : List A) → place_by p xs < length xs ↔ (any p xs ≡ true)
  unfolding place_by any
  place_held p [] = (λ h. absurd (not-suc-le-zero h), λ e. absurd (false≢true e))
  place_held p (x ∷ xs) = go (p x) (place_held p xs)
    where
      go : (b : Bool) → place_by p xs < length xs ↔ (any p xs ≡ true)
          → cond b 0 (suc (place_by p xs)) < suc (length xs) ↔ ((b || any p xs) ≡ true)
      go true ih = (λ h. refl, λ e. omega arith)
      go false ih = (λ h. ih.0 (le_of_suc-le-suc h), λ e. let h = ih.1 e in omega arith)

  -- what stands there is what a search finds, so it passes
  pub place_found : (p : A → Bool) (xs : List A) (d : A) → any p xs ≡ true → find p xs
      ≡ some (get_or xs (place_by p xs) d)
  unfolding place_by any find
  place_found p [] d e = absurd (false≢true e)
  place_found p (x ∷ xs) d e = go (p x) (place_found p xs d) e
    where
      go : (b : Bool) → (any p xs ≡ true → find p xs ≡ some (get_or xs (place_by p xs) d)) → (b || any p xs) ≡ true
          → cond b (some x) (find p xs) ≡ some (get_or (x ∷ xs) (cond b 0 (suc (place_by p xs))) d)
      go true ih e = refl
      go false ih e = ih e

  pub place_passes : (p : A → Bool) (xs : List A) (d : A) → any p xs ≡ true → p (get_or xs (place_by p xs) d) ≡ true
  place_passes p xs d e = (find_some p xs (get_or xs (place_by p xs) d) (place_found p xs d e)).1

  -- ---- all but the one with a key

  pub keep_all : (p : A → Bool) (xs : List A) → ((x : A) → Mem x xs → p x ≡ true) → keep p xs ≡ xs
  unfolding keep
  keep_all p [] h = refl
  keep_all p (x ∷ xs) h = rw (h x (mem_head x xs), keep_all p xs (λ y m. h y (Memᴰ.tail m)))

  -- of a list that rises: all but the one with key k are the list without its place
  pub keep_without : (key : A → ℕ) (k : ℕ) (xs : List A) → RisingBy key xs
      → keep (λ x. not (eqb (key x) k)) xs ≡ without (place_by (λ x. eqb (key x) k) xs) xs
  unfolding keep place_by without
  keep_without key k [] r = refl
  keep_without key k (x ∷ xs) r = go (eqb (key x) k) refl (keep_without key k xs r.1)
    where
      other : A → Bool
      other y = not (eqb (key y) k)

      place : ℕ
      place = place_by (λ y. eqb (key y) k) xs

      go : (b : Bool) → eqb (key x) k ≡ b → keep other xs ≡ without place xs
          → cond (not b) (x ∷ keep other xs) (keep other xs) ≡ without (cond b 0 (suc place)) (x ∷ xs)
      go true e ih =
          keep_all other xs (λ y m. ap not (ne_eqb (key y) k (omega (arith, r.0 y m, eqb-true (key x) k e))))
      go false e ih = ap {B = List A} (λ l. x ∷ l) ih
