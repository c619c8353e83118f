-- The reader's walk: it has steps enough; and the edits that fields name, one by one.
-- Assumes nothing.
use mathlib.Core.Path.{◌≡◌, refl, sym}
use mathlib.Core.List.{List, [], ◌∷◌, ◌++◌}
use Prim.Native.Nat.{ℕ, zero, suc, ◌+◌, ◌-◌, ◌≤◌, ◌<◌, zero-le}
use native.Mathlib.Nat.{zero-add, suc-add}
use native.Mathlib.Omega.{arith}
use lib.ListN.{length, length-drop}
use Rattle.meaning.specs.declared.Refusal.{Refusal}
use Rattle.meaning.specs.Refusals.{Answer, accepted, refused}
use Rattle.meaning.specs.Desks.{Desk}
use Rattle.meaning.specs.Bytes.{Field, field_length}
use Rattle.meaning.specs.Bytes.{front, edit, Reading, going, stopped, after_edit, after_front, step, walk}
use Rattle.meaning.proofs.Refusing.{accepted≢refused}

-- ---- steps enough

-- the octets left to read
abbrev left : Reading → ℕ
left (going place octets d) = length octets
left (stopped r place) = 0

pub walk_stopped : (n : ℕ) (r : Refusal) (place : ℕ) → walk n (stopped r place) ≡ stopped r place
unfolding walk step
walk_stopped zero r place = refl
walk_stopped (suc n) r place = walk_stopped n r place

pub walk_done : (n place : ℕ) (d : Desk) → walk n (going place [] d) ≡ going place [] d
unfolding walk step
walk_done zero place d = refl
walk_done (suc n) place d = walk_done n place d

pub walk_add : (n m : ℕ) (s : Reading) → walk (n + m) s ≡ walk m (walk n s)
unfolding walk
walk_add zero m s = rw (zero-add m)
walk_add (suc n) m s = rw (suc-add n m) (walk_add n m (step s))

-- a step on some octets looks at the field at their front
pub step_some : (place : ℕ) (octets : List ℕ) (d : Desk) → 0 < length octets
    → step (going place octets d) ≡ after_front place octets d (front octets)
unfolding step
step_some place [] d h = absurd (omega arith)
step_some place (x ∷ xs) d h = refl

-- a step takes at least one octet, where there are any
step_left : (s : Reading) → left (step s) ≤ left s - 1
unfolding step after_front after_edit field_length
step_left (stopped r place) = zero-le
step_left (going place [] d) = zero-le
step_left (going place (x ∷ xs) d) = by_front (front (x ∷ xs))
  where
    by_edit : (f : Field) (a : Answer Desk) → left (after_edit place (x ∷ xs) f a) ≤ length xs
    by_edit f (accepted e) = omega (arith, length-drop (field_length f) (x ∷ xs))
    by_edit f (refused r) = zero-le

    by_front : (a : Answer Field) → left (after_front place (x ∷ xs) d a) ≤ length (x ∷ xs) - 1
    by_front (accepted f) = omega (arith, by_edit f (edit f d))
    by_front (refused r) = zero-le

walk_over : (n : ℕ) (s : Reading) → left s ≤ 0 → walk n s ≡ s
walk_over n (stopped r place) h = walk_stopped n r place
walk_over n (going place [] d) h = walk_done n place d
walk_over n (going place (x ∷ xs) d) h = absurd (omega arith)

enough : (n m : ℕ) (s : Reading) → left s ≤ n → left s ≤ m → walk n s ≡ walk m s
unfolding walk
enough zero m s h k = sym (walk_over m s h)
enough (suc n) zero s h k = walk_over (suc n) s k
enough (suc n) (suc m) s h k = let l = step_left s in enough n m (step s) (omega arith) (omega arith)

-- more steps than octets change nothing
pub walk_enough : (n m place : ℕ) (octets : List ℕ) (d : Desk) → length octets ≤ n → length octets ≤ m
    → walk n (going place octets d) ≡ walk m (going place octets d)
walk_enough n m place octets d h k = enough n m (going place octets d) h k

-- ---- the edits, one by one

-- on the desk of an edit that is accepted
abbrev pub and_then : Answer Desk → (Desk → Answer Desk) → Answer Desk
and_then (accepted d) k = k d
and_then (refused r) k = refused r

-- the edits that the fields name, in turn; the first refusal decides
unfoldable pub edit_all : List Field → Desk → Answer Desk
edit_all [] d = accepted d
edit_all (f ∷ fs) d = and_then (edit f d) (edit_all fs)

-- edits that are accepted: the first one is, and those after it on its desk
pub edit_first : (f : Field) (fs : List Field) (d e : Desk) → edit_all (f ∷ fs) d ≡ accepted e
    → (c : Desk) × (edit f d ≡ accepted c) × (edit_all fs c ≡ accepted e)
unfolding edit_all
edit_first f fs d e q = go (edit f d) refl q
  where
    go : (a : Answer Desk) → edit f d ≡ a → and_then a (edit_all fs) ≡ accepted e
        → (c : Desk) × (edit f d ≡ accepted c) × (edit_all fs c ≡ accepted e)
    go (accepted c) a b = (c, a, b)
    go (refused r) a b = absurd (accepted≢refused (sym b))

pub edit_append : (fs gs : List Field) (d : Desk) → edit_all (fs ++ gs) d ≡ and_then (edit_all fs d) (edit_all gs)
unfolding edit_all
edit_append [] gs d = refl
edit_append (f ∷ fs) gs d = go (edit f d) (edit_append fs gs)
  where
    go : (a : Answer Desk) → ((c : Desk) → edit_all (fs ++ gs) c ≡ and_then (edit_all fs c) (edit_all gs))
        → and_then a (edit_all (fs ++ gs)) ≡ and_then (and_then a (edit_all fs)) (edit_all gs)
    go (accepted c) ih = ih c
    go (refused r) ih = refl
