-- A line written in parts: the last one and the line's end fill what the others leave of the room.
-- Assumes nothing.
use mathlib.Core.Path.{sym}
use mathlib.Core.List.{List, ◌++◌, append_assoc}
use Prim.Native.Nat.{ℕ, ◌+◌, ◌-◌}
use lib.ListN.{length}
use borrow.Rule.Slice.PartMut.{mid_of, put_mid}
use Rattle.room.specs.Writing.{Wrote}
use Rattle.room.proofs.Rooms.{wrote_next, wrote_as}

-- what is left is filled by a part and the line's end
pub wrote_last : {w r xs ys : List ℕ} {a k : ℕ} (f e : List ℕ) → Wrote w a r xs
    → Wrote (f ++ e) k (mid_of a (length xs - a) xs) ys
    → Wrote (w ++ f ++ e) (a + k) r (put_mid a (length xs - a) xs ys)
wrote_last {w} f e p q = wrote_as (sym (append_assoc w f e)) (wrote_next p q)
