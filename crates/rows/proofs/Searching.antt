-- The words that std has for a search from the front are document 01's.
-- Assumes nothing.
use mathlib.Core.Path.{◌≡◌, refl, sym, ap, ◌∙◌}
use mathlib.Core.Bool.{Bool, true, false, cond, not, ◌||◌, true≢false}
use mathlib.Core.List.{List, [], ◌∷◌}
use Prim.Native.Nat.{ℕ, suc, ◌+◌, ◌≤◌, ◌<◌}
use native.Mathlib.Omega.{arith}
use lib.ListN.{length}
use lib.Dec.{ltb}
use borrow.Author.Tests.{ltb-true, ltb-false}
use Rattle.std.specs.Prelude.{None, Some, nat_lt}
use Rattle.std.specs.Option.{unwrap_or, is_some}
use Rattle.std.specs.List.{list_any, position, position_or_len}
use Rattle.laws.specs.Lists.{any, place_by}
use Rattle.laws.proofs.Without.{place_held}

module _ {A : Type 0} (p : A → Bool) where
  -- some one passes the test
  pub any_list : (xs : List A) → list_any p xs ≡ any p xs
  unfolding any
  any_list [] = refl
  any_list (x ∷ xs) = ap (λ (b : Bool). p x || b) (any_list xs)

  -- the place of the first that passes the test, the length with none
  pub place_list : (xs : List A) → position_or_len p xs ≡ place_by p xs
  unfolding place_by
  place_list [] = refl
  place_list (x ∷ xs) = go (p x) (place_list xs)
    where
      go : (b : Bool) → position_or_len p xs ≡ place_by p xs
          → cond (not b) (1 + position_or_len p xs) 0 ≡ cond b 0 (suc (place_by p xs))
      go true e = refl
      go false e = omega (arith, e)

  pub place_most : (xs : List A) → place_by p xs ≤ length xs
  unfolding place_by
  place_most [] = omega arith
  place_most (x ∷ xs) = go (p x) (place_most xs)
    where
      go : (b : Bool) → place_by p xs ≤ length xs → cond b 0 (suc (place_by p xs)) ≤ suc (length xs)
      go true h = omega arith
      go false h = omega arith

  pub place_or_end : (xs : List A) (n : ℕ) → length xs ≡ n → unwrap_or (position p xs) n ≡ place_by p xs
  place_or_end xs n e = go (nat_lt (position_or_len p xs) (length xs)) refl
    where
      go : (b : Bool) → nat_lt (position_or_len p xs) (length xs) ≡ b
          → unwrap_or (cond b (Some (position_or_len p xs)) None) n ≡ place_by p xs
      go true t = place_list xs
      go false t = let l = ltb-false _ _ t in let q = place_list xs in let m = place_most xs in omega arith

  pub place_some : (xs : List A) (i : ℕ) → position p xs ≡ Some i → (i ≡ place_by p xs) × (i < length xs)
  place_some xs i = go (nat_lt (position_or_len p xs) (length xs)) refl
    where
      go : (b : Bool) → nat_lt (position_or_len p xs) (length xs) ≡ b
          → cond b (Some (position_or_len p xs)) None ≡ Some i → (i ≡ place_by p xs) × (i < length xs)
      go true t e =
          let l = ltb-true _ _ t in let q = place_list xs in let k : position_or_len p xs ≡ i = cc in
          (omega arith, omega arith)
      go false t e = cc

  -- a place is found where some one passes
  pub some_any : (xs : List A) → is_some (position p xs) ≡ any p xs
  some_any xs = go (nat_lt (position_or_len p xs) (length xs)) (any p xs) refl refl
    where
      go : (b a : Bool) → nat_lt (position_or_len p xs) (length xs) ≡ b → any p xs ≡ a
          → is_some (cond b (Some (position_or_len p xs)) None) ≡ a
      go true true t e = refl
      go false false t e = refl
      go true false t e =
          let l = ltb-true _ _ t in let q = place_list xs in
          absurd (true≢false (sym ((place_held p xs).0 (omega arith)) ∙ e))
      go false true t e =
          let l = ltb-false _ _ t in let q = place_list xs in let k = (place_held p xs).1 e in absurd (omega arith)
