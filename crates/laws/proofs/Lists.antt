-- Lists: totals, largest values, tests, rising keys.
-- Assumes nothing.
use mathlib.Core.Path.{◌≡◌, refl, sym, ap, ap₂, ◌∙◌}
use mathlib.Core.Logic.{◌↔◌, ◌⊎◌, inl, inr, ⊎_elim, by_cases}
use mathlib.Core.Bool.{Bool, true, false, ◌&&◌, ◌||◌, true≢false, false≢true, or-true}
use mathlib.Core.List.Memᴰ
use mathlib.Core.List.{List, [], ◌∷◌, ◌++◌}
use Prim.Native.Nat.{ℕ, ◌+◌, ◌≤◌, zero-le}
use native.Mathlib.Nat.{le_antisymm, zero-add, max-le}
use native.Mathlib.Decide.{dec_le}
use native.Mathlib.Omega.{arith}
use Rattle.laws.specs.Lists.{any, every, total, largest, Mem, RisingBy}

-- both tests hold
pub and-true : (a b : Bool) → (a && b) ≡ true → (a ≡ true) × (b ≡ true)
and-true true b e = (refl, e)
and-true false b e = absurd (false≢true e)

module _ {A : Type 0} where
  -- ---- membership

  pub mem_head : (x : A) (xs : List A) → Mem x (x ∷ xs)
  mem_head x xs = Memᴰ.head refl

  pub mem_none : {B : Type 0} {x : A} → Mem x [] → B
  mem_none m = absurd (Memᴰ.not-nil m)

  -- ---- total

  pub total_append : (f : A → ℕ) (xs ys : List A) → total f (xs ++ ys) ≡ total f xs + total f ys
  unfolding total
  total_append f [] ys = sym (zero-add (total f ys))
  total_append f (x ∷ xs) ys = omega (arith, total_append f xs ys)

  pub total_ext : (f g : A → ℕ) (xs : List A) → ((x : A) → Mem x xs → f x ≡ g x) → total f xs ≡ total g xs
  unfolding total
  total_ext f g [] h = refl
  total_ext f g (x ∷ xs) h =
      ap₂ (λ (a b : ℕ). a + b) (h x (mem_head x xs)) (total_ext f g xs (λ y m. h y (Memᴰ.tail m)))

  pub total_le : (f g : A → ℕ) (xs : List A) → ((x : A) → Mem x xs → f x ≤ g x) → total f xs ≤ total g xs
  unfolding total
  total_le f g [] h = zero-le
  total_le f g (x ∷ xs) h = omega (arith, h x (mem_head x xs), total_le f g xs (λ y m. h y (Memᴰ.tail m)))

  pub total_ge : (f : A → ℕ) (xs : List A) (x : A) → Mem x xs → f x ≤ total f xs
  unfolding total
  total_ge f [] x m = mem_none m
  total_ge f (y ∷ xs) x m =
      ⊎_elim (λ (e : x ≡ y). omega (arith, ap f e)) (λ (k : Mem x xs). omega (arith, total_ge f xs x k))
      (Memᴰ.cases_cons m)

  -- ---- largest

  pub largest_ge : (f : A → ℕ) (xs : List A) (x : A) → Mem x xs → f x ≤ largest f xs
  unfolding largest
  largest_ge f [] x m = mem_none m
  largest_ge f (y ∷ xs) x m =
      ⊎_elim (λ (e : x ≡ y). omega (arith, ap f e)) (λ (k : Mem x xs). omega (arith, largest_ge f xs x k))
      (Memᴰ.cases_cons m)

  pub largest_le : (f : A → ℕ) (xs : List A) (k : ℕ) → ((x : A) → Mem x xs → f x ≤ k) → largest f xs ≤ k
  unfolding largest
  largest_le f [] k h = zero-le
  largest_le f (x ∷ xs) k h = max-le (h x (mem_head x xs)) (largest_le f xs k (λ y m. h y (Memᴰ.tail m)))

  pub largest_ext : (f g : A → ℕ) (xs : List A) → ((x : A) → Mem x xs → f x ≡ g x) → largest f xs ≡ largest g xs
  largest_ext f g xs h =
      le_antisymm
      (largest_le f xs (largest g xs) (λ x m. omega (arith, h x m, largest_ge g xs x m)))
      (largest_le g xs (largest f xs) (λ x m. omega (arith, h x m, largest_ge f xs x m)))

  pub largest_add : (k : ℕ) (f : A → ℕ) (x : A) (xs : List A) → largest (λ y. k + f y) (x ∷ xs) ≡ k + largest f (x ∷ xs)
  unfolding largest
  largest_add k f x [] = omega arith
  largest_add k f x (y ∷ xs) = omega (arith, largest_add k f y xs)

  -- the largest is some one's
  pub largest_met : (f : A → ℕ) (x : A) (xs : List A) → (y : A) × Mem y (x ∷ xs) × (largest f (x ∷ xs) ≡ f y)
  unfolding largest
  largest_met f x [] = (x, mem_head x [], omega arith)
  largest_met f x (z ∷ zs) =
      let (y, m, e) = largest_met f z zs in
      by_cases (dec_le (f x) (largest f (z ∷ zs)))
      (λ h. (y, Memᴰ.tail m, omega arith))
      (λ h. (x, mem_head x (z ∷ zs), omega arith))

  -- ---- tests

  pub every_true : (p : A → Bool) (xs : List A) → every p xs ≡ true ↔ ((x : A) → Mem x xs → p x ≡ true)
  unfolding every
  every_true p [] = (λ e x m. mem_none m, λ h. refl)
  every_true p (x ∷ xs) = (to (every_true p xs).0, from (every_true p xs).1)
    where
      to : (every p xs ≡ true → (y : A) → Mem y xs → p y ≡ true)
          → (p x && every p xs) ≡ true → (y : A) → Mem y (x ∷ xs) → p y ≡ true
      to ih e y m =
          let (a, b) = and-true (p x) (every p xs) e in
          ⊎_elim (λ (q : y ≡ x). ap p q ∙ a) (λ (k : Mem y xs). ih b y k) (Memᴰ.cases_cons m)

      from : (((y : A) → Mem y xs → p y ≡ true) → every p xs ≡ true)
          → ((y : A) → Mem y (x ∷ xs) → p y ≡ true) → (p x && every p xs) ≡ true
      from ih h = rw (h x (mem_head x xs), ih (λ y m. h y (Memᴰ.tail m)))

  pub any_true : (p : A → Bool) (xs : List A) → any p xs ≡ true ↔ ((x : A) × Mem x xs × (p x ≡ true))
  unfolding any
  any_true p [] = (λ e. absurd (false≢true e), λ (x, m, e). mem_none m)
  any_true p (x ∷ xs) = (to (any_true p xs).0 (p x) refl, from (any_true p xs).1)
    where
      to : (any p xs ≡ true → (y : A) × Mem y xs × (p y ≡ true))
          → (b : Bool) → p x ≡ b → (b || any p xs) ≡ true → (y : A) × Mem y (x ∷ xs) × (p y ≡ true)
      to ih true q e = (x, mem_head x xs, q)
      to ih false q e = let (y, m, r) = ih e in (y, Memᴰ.tail m, r)

      from : ((y : A) × Mem y xs × (p y ≡ true) → any p xs ≡ true)
          → (y : A) × Mem y (x ∷ xs) × (p y ≡ true) → (p x || any p xs) ≡ true
      from ih (y, m, e) =
          ⊎_elim (λ (q : y ≡ x). rw (sym (ap p q) ∙ e)) (λ (k : Mem y xs). rw (ih (y, k, e)) (or-true (p x)))
          (Memᴰ.cases_cons m)

  pub any_false : (p : A → Bool) (xs : List A) → any p xs ≡ false ↔ ((x : A) → Mem x xs → p x ≡ false)
  unfolding any
  any_false p [] = (λ e x m. mem_none m, λ h. refl)
  any_false p (x ∷ xs) = (to (any_false p xs).0 (p x) refl, from (any_false p xs).1)
    where
      to : (any p xs ≡ false → (y : A) → Mem y xs → p y ≡ false)
          → (b : Bool) → p x ≡ b → (b || any p xs) ≡ false → (y : A) → Mem y (x ∷ xs) → p y ≡ false
      to ih true q e = absurd (true≢false e)
      to ih false q e = λ y m. ⊎_elim (λ (r : y ≡ x). ap p r ∙ q) (λ (k : Mem y xs). ih e y k) (Memᴰ.cases_cons m)

      from : (((y : A) → Mem y xs → p y ≡ false) → any p xs ≡ false)
          → ((y : A) → Mem y (x ∷ xs) → p y ≡ false) → (p x || any p xs) ≡ false
      from ih h = rw (h x (mem_head x xs), ih (λ y m. h y (Memᴰ.tail m)))

  -- ---- rising keys

  -- a list that rises is determined by its members
  pub rising_unique : (key : A → ℕ) (xs ys : List A) → RisingBy key xs → RisingBy key ys
      → ((x : A) → Mem x xs → Mem x ys) → ((x : A) → Mem x ys → Mem x xs) → xs ≡ ys
  rising_unique key [] [] r s f g = refl
  rising_unique key [] (y ∷ ys) r s f g = mem_none (g y (mem_head y ys))
  rising_unique key (x ∷ xs) [] r s f g = mem_none (f x (mem_head x xs))
  rising_unique key (x ∷ xs) (y ∷ ys) r s f g =
      ap₂ {C = List A} (λ a b. a ∷ b) same_head (rising_unique key xs ys r.1 s.1 down up)
    where
      pick : (x ≡ y) ⊎ Mem x ys → (y ≡ x) ⊎ Mem y xs → x ≡ y
      pick (inl e) b = e
      pick (inr m) (inl e) = sym e
      pick (inr m) (inr k) = absurd (let a = s.0 x m in let b = r.0 y k in omega arith)

      same_head : x ≡ y
      same_head = pick (Memᴰ.cases_cons (f x (mem_head x xs))) (Memᴰ.cases_cons (g y (mem_head y ys)))

      down : (z : A) → Mem z xs → Mem z ys
      down z m =
          ⊎_elim (λ (e : z ≡ y). absurd (let a = r.0 z m in omega (arith, ap key e, ap key same_head))) (λ k. k)
          (Memᴰ.cases_cons (f z (Memᴰ.tail m)))

      up : (z : A) → Mem z ys → Mem z xs
      up z m =
          ⊎_elim (λ (e : z ≡ x). absurd (let a = s.0 z m in omega (arith, ap key e, ap key same_head))) (λ k. k)
          (Memᴰ.cases_cons (g z (Memᴰ.tail m)))
