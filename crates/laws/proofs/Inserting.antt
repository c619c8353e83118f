-- Lists: what a place by rising key and a search leave of the members and of their order.
-- Assumes nothing.
use mathlib.Core.Path.{◌≡◌, refl, sym, ap, ◌∙◌}
use mathlib.Core.Logic.{◌↔◌, ◌⊎◌, inl, inr, ⊎_elim}
use mathlib.Core.Bool.{Bool, true, false, cond, ◌||◌, true≢false}
use mathlib.Core.List.Memᴰ
use mathlib.Core.List.{List, [], ◌∷◌}
use mathlib.Core.Option.{none, some, some-injective, none-ne-some, some-ne-none}
use Prim.Native.Nat.{ℕ, suc, ◌<◌}
use native.Mathlib.Omega.{arith}
use lib.ListN.{length}
use lib.Dec.{ltb}
use borrow.Author.Tests.{ltb-true, ltb-false}
use Rattle.laws.specs.Lists.{keep, find, any, insert_by, Mem, RisingBy}
use Rattle.laws.proofs.Lists.{mem_head, mem_none}
use Rattle.laws.proofs.Keeping.{keep_mem}

module _ {A : Type 0} where
  -- ---- a place by rising key

  pub length_insert_by : (key : A → ℕ) (a : A) (xs : List A) → length (insert_by key a xs) ≡ suc (length xs)
  unfolding insert_by
  length_insert_by key a [] = refl
  length_insert_by key a (x ∷ xs) = go (ltb (key a) (key x)) (length_insert_by key a xs)
    where
      go : (b : Bool) → length (insert_by key a xs) ≡ suc (length xs)
          → length (cond b (a ∷ x ∷ xs) (x ∷ insert_by key a xs)) ≡ suc (suc (length xs))
      go true e = refl
      go false e = ap suc e

  -- a and the members of xs, nothing else
  pub mem_insert_by : (key : A → ℕ) (a : A) (xs : List A) (y : A) → Mem y (insert_by key a xs) ↔ ((y ≡ a) ⊎ Mem y xs)
  unfolding insert_by
  mem_insert_by key a [] y = (Memᴰ.cases_cons, ⊎_elim Memᴰ.head Memᴰ.tail)
  mem_insert_by key a (x ∷ xs) y = go (ltb (key a) (key x)) (mem_insert_by key a xs y)
    where
      go : (b : Bool) → Mem y (insert_by key a xs) ↔ ((y ≡ a) ⊎ Mem y xs)
          → Mem y (cond b (a ∷ x ∷ xs) (x ∷ insert_by key a xs)) ↔ ((y ≡ a) ⊎ Mem y (x ∷ xs))
      go true ih = (Memᴰ.cases_cons, ⊎_elim Memᴰ.head Memᴰ.tail)
      go false ih = (λ m. to (Memᴰ.cases_cons m), from)
        where
          to : (y ≡ x) ⊎ Mem y (insert_by key a xs) → (y ≡ a) ⊎ Mem y (x ∷ xs)
          to (inl e) = inr (Memᴰ.head e)
          to (inr m) = ⊎_elim inl (λ k. inr (Memᴰ.tail k)) (ih.0 m)

          later : (y ≡ x) ⊎ Mem y xs → Mem y (x ∷ insert_by key a xs)
          later (inl e) = Memᴰ.head e
          later (inr m) = Memᴰ.tail (ih.1 (inr m))

          from : (y ≡ a) ⊎ Mem y (x ∷ xs) → Mem y (x ∷ insert_by key a xs)
          from (inl e) = Memᴰ.tail (ih.1 (inl e))
          from (inr m) = later (Memᴰ.cases_cons m)

  -- with a key that none has yet, rising keys stay rising
  pub insert_by_rises : (key : A → ℕ) (a : A) (xs : List A) → RisingBy key xs
      → ((y : A) → Mem y xs → ¬ (key a ≡ key y)) → RisingBy key (insert_by key a xs)
  unfolding insert_by
  insert_by_rises key a [] r h = (λ y m. mem_none m, tt)
  insert_by_rises key a (x ∷ xs) r h =
      go (ltb (key a) (key x)) refl (insert_by_rises key a xs r.1 (λ y m. h y (Memᴰ.tail m)))
    where
      go : (b : Bool) → ltb (key a) (key x) ≡ b → RisingBy key (insert_by key a xs)
          → RisingBy key (cond b (a ∷ x ∷ xs) (x ∷ insert_by key a xs))
      go true e ih = (λ y m. above y (Memᴰ.cases_cons m), r)
        where
          above : (y : A) → (y ≡ x) ⊎ Mem y xs → key a < key y
          above y (inl q) = omega (arith, ltb-true (key a) (key x) e, ap key q)
          above y (inr m) = omega (arith, ltb-true (key a) (key x) e, r.0 y m)
      go false e ih = (λ y m. above y ((mem_insert_by key a xs y).0 m), ih)
        where
          above : (y : A) → (y ≡ a) ⊎ Mem y xs → key x < key y
          above y (inl q) = omega (arith, ltb-false (key a) (key x) e, ap key q, h x (mem_head x xs))
          above y (inr m) = r.0 y m

  -- ---- a test that keeps

  pub keep_rises : (key : A → ℕ) (p : A → Bool) (xs : List A) → RisingBy key xs → RisingBy key (keep p xs)
  unfolding keep
  keep_rises key p [] r = tt
  keep_rises key p (x ∷ xs) r = go (p x) (keep_rises key p xs r.1)
    where
      go : (b : Bool) → RisingBy key (keep p xs) → RisingBy key (cond b (x ∷ keep p xs) (keep p xs))
      go true ih = (λ y m. r.0 y ((keep_mem p xs y).0 m).0, ih)
      go false ih = ih

  -- ---- a search

  -- what is found is a member that passes
  pub find_some : (p : A → Bool) (xs : List A) (x : A) → find p xs ≡ some x → Mem x xs × (p x ≡ true)
  unfolding find
  find_some p [] x e = absurd (none-ne-some x e)
  find_some p (y ∷ xs) x e = go (p y) refl (find_some p xs x) e
    where
      go : (b : Bool) → p y ≡ b → (find p xs ≡ some x → Mem x xs × (p x ≡ true)) → cond b (some y) (find p xs) ≡ some x
          → Mem x (y ∷ xs) × (p x ≡ true)
      go true t ih e = let q = some-injective y x e in (Memᴰ.head (sym q), ap p (sym q) ∙ t)
      go false t ih e = let (m, q) = ih e in (Memᴰ.tail m, q)

  -- none is found exactly where none passes
  pub find_none : (p : A → Bool) (xs : List A) → find p xs ≡ none ↔ (any p xs ≡ false)
  unfolding find any
  find_none p [] = (λ e. refl, λ e. refl)
  find_none p (x ∷ xs) = go (p x) (find_none p xs)
    where
      go : (b : Bool) → find p xs ≡ none ↔ (any p xs ≡ false)
          → cond b (some x) (find p xs) ≡ none ↔ ((b || any p xs) ≡ false)
      go true ih = (λ e. absurd (some-ne-none x e), λ e. absurd (true≢false e))
      go false ih = ih
