-- Slots in a chain: where they lie, the last end, and the slots that hang together behind the first.
-- Assumes nothing.
use mathlib.Core.Path.{◌≡◌, refl, ap}
use mathlib.Core.Logic.{◌⊎◌, inl, inr, ⊎_elim, by_cases}
use mathlib.Core.Bool.{Bool, true, false, cond}
use mathlib.Core.List.Memᴰ
use mathlib.Core.List.{List, [], ◌∷◌, ◌++◌, map}
use Prim.Native.Nat.{ℕ, ◌+◌, ◌≤◌, ◌<◌}
use native.Mathlib.Nat.{le_refl, le_trans, le_of_eq}
use native.Mathlib.Decide.{dec_lt}
use native.Mathlib.Omega.{arith}
use lib.Dec.{leb}
use borrow.Author.Tests.{leb-true, leb-false}
use Rattle.laws.specs.Lists.{Mem}
use Rattle.laws.proofs.Lists.{mem_head, mem_none}
use Rattle.meaning.specs.declared.Slot.{Slot}
use Rattle.meaning.specs.Promises.{Chain}

-- the slot, and the slots, one round of n cells later
abbrev pub later : ℕ → Slot → Slot
later n s = record { start = s.start + n; end = s.end + n }

abbrev pub up : ℕ → List Slot → List Slot
up n ss = map (later n) ss

-- the end of the last slot of a chain whose first slot ends at e
unfoldable pub last_end : ℕ → List Slot → ℕ
last_end e [] = e
last_end e (y ∷ ys) = last_end y.end ys

-- the end of the last slot that hangs together with the first, which ends at e: a gap of more than k breaks the chain
unfoldable pub hang_end : ℕ → ℕ → List Slot → ℕ
hang_end k e [] = e
hang_end k e (y ∷ ys) = cond (leb y.start (e + k)) (hang_end k y.end ys) e

-- ---- chains

pub chain_le : (lo : ℕ) (ss : List Slot) (hi : ℕ) → Chain lo ss hi → lo ≤ hi
chain_le lo [] hi h = h
chain_le lo (s ∷ ss) hi h = omega (arith, chain_le s.end ss hi h.2)

pub chain_mem : (lo : ℕ) (ss : List Slot) (hi : ℕ) → Chain lo ss hi → (y : Slot) → Mem y ss
    → (lo ≤ y.start) × (y.start < y.end) × (y.end ≤ hi)
chain_mem lo [] hi h y m = mem_none m
chain_mem lo (s ∷ ss) hi h y m =
    ⊎_elim (λ (e : y ≡ s). rw e (h.0, h.1, chain_le s.end ss hi h.2))
    (λ (k : Mem y ss). omega (arith, chain_mem s.end ss hi h.2 y k)) (Memᴰ.cases_cons m)

pub chain_append : (lo : ℕ) (xs : List Slot) (mid : ℕ) (ys : List Slot) (hi : ℕ) → Chain lo xs mid → Chain mid ys hi
    → Chain lo (xs ++ ys) hi
chain_append lo [] mid [] hi a b = le_trans a b
chain_append lo [] mid (y ∷ ys) hi a b = (le_trans a b.0, b.1, b.2)
chain_append lo (x ∷ xs) mid ys hi a b = (a.0, a.1, chain_append x.end xs mid ys hi a.2 b)

pub chain_split : (lo : ℕ) (xs : List Slot) (s : Slot) (ys : List Slot) (hi : ℕ) → Chain lo (xs ++ s ∷ ys) hi
    → Chain lo xs s.start × Chain s.start (s ∷ ys) hi
chain_split lo [] s ys hi a = (a.0, (le_refl s.start, a.1, a.2))
chain_split lo (x ∷ xs) s ys hi a = let r = chain_split x.end xs s ys hi a.2 in ((a.0, a.1, r.0), r.1)

pub chain_up : (n lo : ℕ) (xs : List Slot) (hi : ℕ) → Chain lo xs hi → Chain (lo + n) (up n xs) (hi + n)
chain_up n lo [] hi h = omega arith
chain_up n lo (x ∷ xs) hi h = (omega arith, omega arith, chain_up n x.end xs hi h.2)

-- ---- the last end

last_ge : (e : ℕ) (ss : List Slot) (hi : ℕ) → Chain e ss hi → e ≤ last_end e ss
unfolding last_end
last_ge e [] hi h = le_refl e
last_ge e (y ∷ ys) hi h = omega (arith, last_ge y.end ys hi h.2)

-- no slot ends later
pub last_mem : (s : Slot) (ss : List Slot) (hi : ℕ) → Chain s.end ss hi → (y : Slot) → Mem y (s ∷ ss)
    → y.end ≤ last_end s.end ss
unfolding last_end
last_mem s [] hi h y m = le_of_eq (ap (λ (z : Slot). z.end) (Memᴰ.eq_of_singleton m))
last_mem s (x ∷ xs) hi h y m =
    ⊎_elim
    (λ (e : y ≡ s). omega (arith, ap (λ (z : Slot). z.end) e, last_ge x.end xs hi h.2))
    (λ (k : Mem y (x ∷ xs)). last_mem x xs hi h.2 y k) (Memᴰ.cases_cons m)

-- some slot ends there
pub last_is : (s : Slot) (ss : List Slot) → (y : Slot) × Mem y (s ∷ ss) × (y.end ≡ last_end s.end ss)
unfolding last_end
last_is s [] = (s, mem_head s [], refl)
last_is s (x ∷ xs) = let (y, m, e) = last_is x xs in (y, Memᴰ.tail m, e)

-- of two chains in a row it is the second's
pub last_append : (e : ℕ) (xs : List Slot) (y : Slot) (ys : List Slot) → last_end e (xs ++ y ∷ ys) ≡ last_end y.end ys
unfolding last_end
last_append e [] y ys = refl
last_append e (x ∷ xs) y ys = last_append x.end xs y ys

-- ---- what hangs together

pub hang_ge : (k e : ℕ) (ss : List Slot) (hi : ℕ) → Chain e ss hi → e ≤ hang_end k e ss
unfolding hang_end
hang_ge k e [] hi h = le_refl e
hang_ge k e (y ∷ ys) hi h = go (hang_ge k y.end ys hi h.2) (leb y.start (e + k))
  where
    go : y.end ≤ hang_end k y.end ys → (x : Bool) → e ≤ cond x (hang_end k y.end ys) e
    go ih true = omega (arith, h.0, h.1)
    go ih false = le_refl e

pub hang_last : (k e : ℕ) (ss : List Slot) (hi : ℕ) → Chain e ss hi → hang_end k e ss ≤ last_end e ss
unfolding hang_end last_end
hang_last k e [] hi h = le_refl e
hang_last k e (y ∷ ys) hi h = go (hang_last k y.end ys hi h.2) (leb y.start (e + k))
  where
    go : hang_end k y.end ys ≤ last_end y.end ys
        → (x : Bool) → cond x (hang_end k y.end ys) e ≤ last_end y.end ys
    go ih true = ih
    go ih false = omega (arith, h.0, h.1, last_ge y.end ys hi h.2)

-- x lies from the slot's start up to k past its end
abbrev pub InReach : ℕ → Slot → ℕ → Type 0
InReach k y x = (y.start ≤ x) × (x < y.end + k)

-- every place up to k past the end is in reach of some slot
pub hang_in : (k : ℕ) (s : Slot) (ss : List Slot) (x : ℕ) → s.start ≤ x → x < hang_end k s.end ss + k
    → (y : Slot) × Mem y (s ∷ ss) × InReach k y x
unfolding hang_end
hang_in k s [] x a b = (s, mem_head s [], (a, b))
hang_in k s (y ∷ ys) x a b =
    by_cases (dec_lt x (s.end + k)) (λ h. (s, mem_head s (y ∷ ys), (a, h)))
    (λ h. go (hang_in k y ys x) h (leb y.start (s.end + k)) refl b)
  where
    go : (y.start ≤ x → x < hang_end k y.end ys + k → (z : Slot) × Mem z (y ∷ ys) × InReach k z x)
        → ¬ (x < s.end + k) → (t : Bool) → leb y.start (s.end + k) ≡ t
        → x < cond t (hang_end k y.end ys) s.end + k → (z : Slot) × Mem z (s ∷ y ∷ ys) × InReach k z x
    go ih h true e c =
        let l = leb-true y.start (s.end + k) e in
        let (z, m, p) = ih (omega arith) c in
        (z, Memᴰ.tail m, p)
    go ih h false e c = absurd (h c)

-- at the end no slot reaches further
pub hang_out : (k : ℕ) (s : Slot) (ss : List Slot) (hi : ℕ) → Chain s.end ss hi → (y : Slot) → Mem y (s ∷ ss)
    → (y.end ≤ hang_end k s.end ss) ⊎ (hang_end k s.end ss + k < y.start)
unfolding hang_end
hang_out k s [] hi h y m = inl (le_of_eq (ap (λ (z : Slot). z.end) (Memᴰ.eq_of_singleton m)))
hang_out k s (x ∷ xs) hi h y m =
    go (hang_out k x xs hi h.2 y) (leb x.start (s.end + k)) refl (Memᴰ.cases_cons m)
  where
    go : (Mem y (x ∷ xs) → (y.end ≤ hang_end k x.end xs) ⊎ (hang_end k x.end xs + k < y.start))
        → (t : Bool) → leb x.start (s.end + k) ≡ t → (y ≡ s) ⊎ Mem y (x ∷ xs)
        → (y.end ≤ cond t (hang_end k x.end xs) s.end) ⊎ (cond t (hang_end k x.end xs) s.end + k < y.start)
    go ih true e (inl f) = inl (omega (arith, ap (λ (z : Slot). z.end) f, h.0, h.1, hang_ge k x.end xs hi h.2))
    go ih true e (inr j) = ih j
    go ih false e (inl f) = inl (le_of_eq (ap (λ (z : Slot). z.end) f))
    go ih false e (inr j) =
        let b = chain_mem x.start (x ∷ xs) hi (le_refl x.start, h.1, h.2) y j in
        inr (omega (arith, leb-false x.start (s.end + k) e))
