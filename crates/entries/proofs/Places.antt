-- The place of the one with a key: whether some one has the key, and the list without that one.
-- Assumes nothing.
use mathlib.Core.Path.{◌≡◌, refl, sym, ap, ◌∙◌}
use mathlib.Core.Bool.{Bool, true, false, not}
use mathlib.Core.List.{List}
use Prim.Native.Nat.{ℕ, ◌<◌}
use lib.ListN.{length}
use lib.Dec.{eqb}
use Rattle.std.specs.Prelude.{Option, None, Some, Result, Ok, Err}
use Rattle.std.specs.Option.{is_some, ok_or}
use Rattle.std.specs.List.{position}
use Rattle.laws.specs.Lists.{keep, any, place_by, without, RisingBy}
use Rattle.laws.proofs.Without.{keep_without}
use Rattle.meaning.specs.declared.Refusal.{Refusal}
use Rattle.rows.proofs.Searching.{place_some, some_any}

module _ {A : Type 0} (key : A → ℕ) (k : ℕ) (xs : List A) where
  -- some one has the key
  abbrev pub held : Bool
  held = any (λ x. eqb (key x) k) xs

  -- o is the place of the first with the key
  abbrev pub PlaceOf : Option ℕ → Type 0
  PlaceOf o = o ≡ position (λ x. eqb (key x) k) xs

  module _ (o : Option ℕ) (at : PlaceOf o) where
    pub held_where_found : (b : Bool) → is_some o ≡ b → held ≡ b
    held_where_found b e = sym (some_any (λ x. eqb (key x) k) xs) ∙ ap is_some (sym at) ∙ e

    -- no place: the refusal is handed on, and none has the key
    pub not_found : (why x : Refusal) → Err x ≡ ok_or o why → (held ≡ false) × (x ≡ why)
    not_found why x e = go o refl e
      where
        go : (q : Option ℕ) → o ≡ q → ◌≡◌ {A = Result ℕ Refusal} (Err x) (ok_or q why)
            → (held ≡ false) × (x ≡ why)
        go None f g = (held_where_found false (ap is_some f), cc)
        go (Some p) f g = cc

    -- a place: some one has the key, and the place is one of those that are held
    module _ (why : Refusal) (p : ℕ) (e : Ok p ≡ ok_or o why) where
      some_place : o ≡ Some p
      some_place = go o e
        where
          go : (q : Option ℕ) → ◌≡◌ {A = Result ℕ Refusal} (Ok p) (ok_or q why) → q ≡ Some p
          go None g = cc
          go (Some r) g = cc

      pub found_held : held ≡ true
      found_held = held_where_found true (ap is_some some_place)

      pub found_within : p < length xs
      found_within = (place_some (λ x. eqb (key x) k) xs p (sym at ∙ some_place)).1

      -- the others
      pub left_out : RisingBy key xs → keep (λ x. not (eqb (key x) k)) xs ≡ without p xs
      left_out r =
          let here : p ≡ place_by (λ x. eqb (key x) k) xs =
          (place_some (λ x. eqb (key x) k) xs p (sym at ∙ some_place)).0 in
          rw here (keep_without key k xs r)
