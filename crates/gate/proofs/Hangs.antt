-- Where the slots of a chain lie, and where those that hang together stop.
-- Assumes nothing.
use mathlib.Core.Path.{◌≡◌, refl, sym, ap, ◌∙◌}
use mathlib.Core.Bool.{Bool, true, false, cond}
use mathlib.Core.List.{List, [], ◌∷◌}
use Prim.Native.Nat.{ℕ, zero, suc, ◌+◌, ◌≤◌, ◌<◌}
use native.Mathlib.Numerals.{add-one}
use native.Mathlib.Omega.{arith}
use lib.ListN.{length, get_or, take, drop, set, length-set, drop_of_length-le}
use lib.Seq.{length-take-le, drop-cons, get_or-take, get_or-set_same, take-set-lt, drop-set-lt}
use lib.Dec.{leb}
use borrow.Author.Tests.{le-leb, lt-leb}
use Rattle.meaning.specs.declared.Slot.{Slot}
use Rattle.meaning.specs.Promises.{Chain}
use Rattle.meaning.proofs.Chains.{hang_end, chain_le, hang_ge}
use Rattle.gate.specs.Walks.{hang_ends}

-- the slot at place i; past the list's end, an empty one
abbrev pub no_slot : Slot
no_slot = record { start = 0; end = 0 }

abbrev pub slot_at : List Slot → ℕ → Slot
slot_at ss i = get_or ss i no_slot

-- ---- where slots lie

-- a slot of a chain, and the chain behind it
pub chain_at : (lo : ℕ) (ss : List Slot) (hi i : ℕ) → Chain lo ss hi → i < length ss
    → ((slot_at ss i).start < (slot_at ss i).end) × Chain (slot_at ss i).end (drop (suc i) ss) hi
chain_at lo [] hi i ok h = absurd (omega arith)
chain_at lo (s ∷ ss) hi zero ok h = (ok.1, ok.2)
chain_at lo (s ∷ ss) hi (suc i) ok h = chain_at s.end ss hi i ok.2 (omega arith)

pub hang_le : (k e : ℕ) (ss : List Slot) (hi : ℕ) → Chain e ss hi → hang_end k e ss ≤ hi
unfolding hang_end
hang_le k e [] hi ok = ok
hang_le k e (y ∷ ys) hi ok =
    go (leb y.start (e + k)) (hang_le k y.end ys hi ok.2) (chain_le e (y ∷ ys) hi ok)
  where
    go : (t : Bool) → hang_end k y.end ys ≤ hi → e ≤ hi → cond t (hang_end k y.end ys) e ≤ hi
    go true a b = a
    go false a b = b

-- slot i lies before hi, and so do those that hang together with it
pub record Within (k hi : ℕ) (ss : List Slot) (i : ℕ) : Type 0 where
  pub some : (slot_at ss i).start < (slot_at ss i).end
  pub near : (slot_at ss i).end ≤ hang_end k (slot_at ss i).end (drop (i + 1) ss)
  pub far : hang_end k (slot_at ss i).end (drop (i + 1) ss) ≤ hi

pub within : (k lo hi : ℕ) (ss : List Slot) → Chain lo ss hi → (i : ℕ) → i < length ss → Within k hi ss i
within k lo hi ss ok i h =
    let (a, b) = chain_at lo ss hi i ok h in
    let behind : Chain (slot_at ss i).end (drop (i + 1) ss) hi = rw (add-one i) b in
    record { some = a; near = hang_ge k _ _ hi behind; far = hang_le k _ _ hi behind }

-- ---- where they stop, filled in from the last slot back

-- the slots from place i on, as a head and those behind it
pub slots_from : (ss : List Slot) (i : ℕ) → i < length ss → drop i ss ≡ slot_at ss i ∷ drop (i + 1) ss
slots_from ss i h = rw (add-one i) (drop-cons ss i no_slot h)

pub none_from : (ss : List Slot) (i : ℕ) → length ss ≤ i → drop i ss ≡ []
none_from ss i h = drop_of_length-le ss h

-- of the slots from place i on, it stands in the row a
pub record Hangs (k : ℕ) (ss : List Slot) (i : ℕ) (a : List ℕ) : Type 0 where
  pub long : length ss ≤ length a
  pub stand : drop i (take (length ss) a) ≡ hang_ends k (drop i ss)

pub hangs_none : (k : ℕ) (ss : List Slot) (a : List ℕ) → length ss ≤ length a → Hangs k ss (length ss) a
unfolding hang_ends
hangs_none k ss a h = record {
  long = h;
  stand =
      drop_of_length-le (take (length ss) a) (omega (arith, length-take-le (length ss) a h))
      ∙ ap (hang_ends k) (sym (none_from ss (length ss) (omega arith)));
}

-- what is read at place i
pub hangs_read : {k i : ℕ} {ss : List Slot} {a : List ℕ} → Hangs k ss i a → i < length ss
    → get_or a i 0 ≡ hang_end k (slot_at ss i).end (drop (i + 1) ss)
unfolding hang_ends
hangs_read {k} {i} {ss} {a} s h =
    let x = drop-cons (take (length ss) a) i 0 (omega (arith, length-take-le (length ss) a s.long)) in
    let t = get_or-take (length ss) a i 0 h in
    let y : hang_ends k (drop i ss)
    ≡ hang_end k (slot_at ss i).end (drop (i + 1) ss) ∷ hang_ends k (drop (i + 1) ss) =
    ap (hang_ends k) (slots_from ss i h) in
    let z = s.stand in
    cc

-- a turn: at place i stands where slot i stops
pub hangs_put : {k j : ℕ} {ss : List Slot} {a : List ℕ} → Hangs k ss j a → (i : ℕ) → j ≡ i + 1 → i < length ss
    → (e : ℕ) → e ≡ hang_end k (slot_at ss i).end (drop (i + 1) ss) → Hangs k ss i (set a i e)
unfolding hang_ends
hangs_put {k} {j} {ss} {a} s i ji h e q = record {
  long = rw length-set s.long;
  stand =
      let n = length ss in
      let here : i < length (take n (set a i e)) =
      omega (arith, length-take-le n (set a i e) (rw length-set s.long)) in
      let it = get_or-take n (set a i e) i 0 h ∙ get_or-set_same a i e 0 (omega (arith, s.long)) ∙ q in
      let rest : drop (i + 1) (take n (set a i e)) ≡ hang_ends k (drop (i + 1) ss) =
      rw (take-set-lt n a i e h, drop-set-lt (i + 1) (take n a) i e (omega arith), ← ji) s.stand in
      rw (drop-cons (take n (set a i e)) i 0 here, it, ← add-one i, rest)
      (ap (hang_ends k) (sym (slots_from ss i h)));
}

-- the last slot, or one that the next does not hang on, stops at its own end; any other where the next one does
module _ (k : ℕ) (ss : List Slot) (i : ℕ) where
  pub stops_last : length ss ≤ i + 1 → (slot_at ss i).end ≡ hang_end k (slot_at ss i).end (drop (i + 1) ss)
  unfolding hang_end
  stops_last h = rw (none_from ss (i + 1) h)

  pub stops_own : i + 1 < length ss → (slot_at ss i).end + k < (slot_at ss (i + 1)).start
      → (slot_at ss i).end ≡ hang_end k (slot_at ss i).end (drop (i + 1) ss)
  unfolding hang_end
  stops_own h w = rw (slots_from ss (i + 1) h, lt-leb _ _ w)

  pub stops_next : (a : List ℕ) → Hangs k ss (i + 1) a → i + 1 < length ss
      → (slot_at ss (i + 1)).start ≤ (slot_at ss i).end + k
      → get_or a (i + 1) 0 ≡ hang_end k (slot_at ss i).end (drop (i + 1) ss)
  unfolding hang_end
  stops_next a s h w = hangs_read s h ∙ rw (slots_from ss (i + 1) h, le-leb _ _ w)

-- ---- once they are filled in

pub hangs_drop : (k i : ℕ) (ss : List Slot) → drop i (hang_ends k ss) ≡ hang_ends k (drop i ss)
unfolding hang_ends
hangs_drop k zero ss = refl
hangs_drop k (suc i) [] = refl
hangs_drop k (suc i) (s ∷ ss) = hangs_drop k i ss

pub hang_ends_length : (k : ℕ) (ss : List Slot) → length (hang_ends k ss) ≡ length ss
unfolding hang_ends
hang_ends_length k [] = refl
hang_ends_length k (s ∷ ss) = ap suc (hang_ends_length k ss)

pub hang_ends_at : (k : ℕ) (ss : List Slot) (i : ℕ) → i < length ss
    → get_or (hang_ends k ss) i 0 ≡ hang_end k (slot_at ss i).end (drop (i + 1) ss)
unfolding hang_ends
hang_ends_at k [] i h = absurd (omega arith)
hang_ends_at k (s ∷ ss) zero h = refl
hang_ends_at k (s ∷ ss) (suc i) h = rw add-one (simp add-one at (hang_ends_at k ss i (omega arith)))
