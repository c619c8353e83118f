-- The loop over the stairs lent: a line for each pair of a distance and a total.
-- Assumes nothing.
use mathlib.Core.Path.{◌≡◌, refl, sym, ◌∙◌}
use mathlib.Core.List.{List, [], ◌∷◌, ◌++◌}
use Prim.Native.Nat.{ℕ, zero, suc, ◌+◌, ◌-◌, ◌≤◌, ◌<◌, min}
use native.Mathlib.Omega.{arith}
use lib.ListN.{length, get_or, length-append}
use borrow.Rule.Slice.PartMut.{mid_of, put_mid}
use Rattle.laws.specs.Lists.{joined}
use Rattle.meaning.specs.declared.Stair.{Stair}
use Rattle.meaning.specs.Findings.{octets_in, decimal, told, newline, stair_line}
use Rattle.table.specs.Lookup.{paired}
use Rattle.room.specs.Writing.{Wrote}
use Rattle.room.proofs.Rooms.{Filled, part_fits, fill_turn, fill_end}

paired_length : (far tot : List ℕ) → length (paired far tot) ≡ min (length far) (length tot)
unfolding paired
paired_length [] tot = omega arith
paired_length (x ∷ far) [] = omega arith
paired_length (x ∷ far) (z ∷ tot) = let e = paired_length far tot in omega arith

paired_get : (far tot : List ℕ) (i : ℕ) (d : Stair) → i < length far → i < length tot
    → get_or (paired far tot) i d ≡ record { far = get_or far i 0; total = get_or tot i 0 }
unfolding paired
paired_get [] tot i d a b = absurd (omega arith)
paired_get (x ∷ far) [] i d a b = absurd (omega arith)
paired_get (x ∷ far) (z ∷ tot) zero d a b = refl
paired_get (x ∷ far) (z ∷ tot) (suc i) d a b = paired_get far tot i d (omega arith) (omega arith)

pub stair_line_length : (x : Stair)
    → length (stair_line x) ≡ 8 + length (decimal x.far) + length (decimal x.total)
unfolding stair_line told newline octets_in
stair_line_length x =
    length-append (told "stair " x.far ++ told " " x.total) newline
    ∙ omega (
      arith,
      length-append (told "stair " x.far) (told " " x.total),
      length-append (octets_in "stair ") (decimal x.far),
      length-append (octets_in " ") (decimal x.total),
    )

module _ (far tot r : List ℕ) (fits : length (joined stair_line (paired far tot)) ≤ length r) (room : List ℕ)
    (at i : ℕ) (p : Filled stair_line r (paired far tot) room at i) where
  module _ (x : Stair) (a : i < length far) (b : i < length tot) (f : x.far ≡ get_or far i 0)
      (t : x.total ≡ get_or tot i 0) where
    is_stair : x ≡ get_or (paired far tot) i x
    is_stair = sym (paired_get far tot i x a b ∙ λ j. record { far = sym f j; total = sym t j })

    inside : i < length (paired far tot)
    inside = omega (arith, paired_length far tot)

    pub stair_fits : at + (8 + length (decimal x.far) + length (decimal x.total)) ≤ length room
    stair_fits =
        omega (
          arith,
          part_fits stair_line r (paired far tot) fits room at i x is_stair inside p,
          stair_line_length x,
        )

    pub stair_turn : (ys : List ℕ) (k : ℕ) → Wrote (stair_line x) k (mid_of at (length room - at) room) ys
        → Filled stair_line r (paired far tot) (put_mid at (length room - at) room ys) (at + k) (i + 1)
    stair_turn = fill_turn stair_line r (paired far tot) fits room at i x is_stair inside p

  pub stairs_end : i ≡ min (length far) (length tot) → Wrote (joined stair_line (paired far tot)) at r room
  stairs_end e =
      fill_end stair_line r (paired far tot) room at i (omega (arith, paired_length far tot)) p
