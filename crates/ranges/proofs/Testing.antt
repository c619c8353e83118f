-- What the answer to numbers says of them: in range where they are taken, and out of range where they are refused; and
-- that a slot in range is stored in 32 bits.
-- Assumes nothing.
use mathlib.Core.Path.{◌≡◌, refl}
use mathlib.Core.Bool.{Bool, true, false, cond}
use mathlib.Core.List.{List}
use Prim.Native.Nat.{ℕ, ◌<◌}
use native.Mathlib.Omega.{arith}
use Rattle.std.specs.Prelude.{Result, Ok, Err}
use Rattle.meaning.specs.declared.Slot.{Slot}
use Rattle.meaning.specs.declared.Refusal.{Refusal}
use Rattle.meaning.specs.declared.Refusal.TheVariants.{OutOfRange}
use Rattle.meaning.specs.Ranges.{in_range, slot_ranges}
use Rattle.meaning.proofs.InRange.{slot_in}
use Rattle.ranges.specs.Numbers.{tested}

module _ {A : Type 0} (tests : List Bool) (a : A) where
  pub taken_in_range : (x : A) → Ok x ≡ tested tests a → (in_range tests ≡ true) × (x ≡ a)
  taken_in_range x = go (in_range tests)
    where
      go : (b : Bool) → ◌≡◌ {A = Result A Refusal} (Ok x) (cond b (Ok a) (Err OutOfRange)) → (b ≡ true) × (x ≡ a)
      go true e = (refl, cc)
      go false e = cc

  pub refused_out_of_range : (why : Refusal) → Err why ≡ tested tests a
      → (in_range tests ≡ false) × (why ≡ OutOfRange)
  refused_out_of_range why = go (in_range tests)
    where
      go : (b : Bool) → ◌≡◌ {A = Result A Refusal} (Err why) (cond b (Ok a) (Err OutOfRange))
          → (b ≡ false) × (why ≡ OutOfRange)
      go true e = cc
      go false e = (refl, cc)

-- a slot in range of a cycle that fits 32 bits fits them too
pub slot_in_32_bits : (cycle : ℕ) (s : Slot) → cycle < 4_294_967_296 → in_range (slot_ranges cycle s) ≡ true
    → (s.start < 4_294_967_296) × (s.end < 4_294_967_296)
slot_in_32_bits cycle s fits r = let b = (slot_in cycle s).0 r in (omega arith, omega arith)
