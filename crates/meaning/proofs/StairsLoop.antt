-- A loop that makes the stairs of some pairs by appending only: each time the first of those over the last stair.
-- Assumes nothing.
use mathlib.Core.Path.{◌≡◌}
use mathlib.Core.Logic.{◌⊎◌, inl, inr, ⊎_elim, by_cases}
use mathlib.Core.List.Memᴰ
use mathlib.Core.List.{List, [], ◌∷◌, ◌++◌}
use Prim.Native.Nat.{ℕ, ◌≤◌, ◌<◌}
use native.Mathlib.Nat.{le_refl}
use native.Mathlib.Decide.{dec_le}
use native.Mathlib.Omega.{arith}
use lib.ListN.{length}
use Rattle.laws.specs.Lists.{Mem, RisingBy}
use Rattle.laws.proofs.Lists.{mem_head, mem_none}
use Rattle.laws.proofs.Keeping.{in_append, rising_append, rising_shorter}
use Rattle.meaning.specs.declared.Stair.{Stair}
use Rattle.meaning.specs.Interference.{stairs_of}
use Rattle.meaning.specs.Promises.{Covers, IsStairs}
use Rattle.meaning.proofs.Stairs.{same_far, same_total, none_covers, stairs_iff, stairs_are}

-- p comes no later than q: it is nearer, or as near with no smaller total
abbrev pub Ahead : Stair → Stair → Type 0
Ahead p q = (p.far < q.far) ⊎ ((p.far ≡ q.far) × (q.total ≤ p.total))

-- the stairs so far, of which top is the largest total: every pair is covered by one of them, or it is further than all
-- of them and has a larger total
pub record Partly (ps st : List Stair) (top : ℕ) : Type 0 where
  pub far_rises : RisingBy (λ x. x.far) st
  pub total_rises : RisingBy (λ x. x.total) st
  pub among : (p : Stair) → Mem p st → Mem p ps
  pub at_most : (q : Stair) → Mem q st → q.total ≤ top
  pub rest : (p : Stair) → Mem p ps
      → ((q : Stair) × Mem q st × Covers q p) ⊎ ((top < p.total) × ((q : Stair) → Mem q st → q.far < p.far))

pub partly_none : (ps : List Stair) → ((p : Stair) → Mem p ps → 0 < p.total) → Partly ps [] 0
partly_none ps h = record {
  far_rises = tt;
  total_rises = tt;
  among = λ p m. mem_none m;
  at_most = λ q m. mem_none m;
  rest = λ p m. inr (h p m, λ q k. mem_none k);
}

-- a pair with a larger total is further than all stairs so far
partly_further : {ps st : List Stair} {top : ℕ} → Partly ps st top → (s : Stair) → Mem s ps → top < s.total
    → (q : Stair) → Mem q st → q.far < s.far
partly_further {ps} {st} {top} a s ms l q m = go (a.rest s ms)
  where
    go : ((z : Stair) × Mem z st × Covers z s) ⊎ ((top < s.total) × ((z : Stair) → Mem z st → z.far < s.far))
        → q.far < s.far
    go (inl (z, mz, c)) = absurd (omega (arith, a.at_most z mz))
    go (inr (_, f)) = f q m

-- one pair more: the first of all that have a larger total
pub partly_step : {ps st : List Stair} {top : ℕ} (s : Stair) → Partly ps st top → Mem s ps → top < s.total
    → ((p : Stair) → Mem p ps → top < p.total → Ahead s p) → Partly ps (st ++ s ∷ []) s.total
partly_step {ps} {st} {top} s a ms l first = record {
  far_rises =
      rising_append (λ x. x.far) st (s ∷ []) a.far_rises (λ y m. mem_none m, tt)
      (λ x y mx my. omega (arith, further x mx, same_far (Memᴰ.eq_of_singleton my)));
  total_rises =
      rising_append (λ x. x.total) st (s ∷ []) a.total_rises (λ y m. mem_none m, tt)
      (λ x y mx my. omega (arith, a.at_most x mx, same_total (Memᴰ.eq_of_singleton my)));
  among = λ p m. in_append st m (a.among p) (λ k. Memᴰ.cast (Memᴰ.eq_of_singleton k) ms);
  at_most = λ q m.
      in_append st m (λ k. omega (arith, a.at_most q k))
      (λ k. omega (arith, same_total (Memᴰ.eq_of_singleton k)));
  rest = λ p m. go p (λ h. first p m h) (a.rest p m);
}
  where
    further : (q : Stair) → Mem q st → q.far < s.far
    further = partly_further a s ms l

    new : Mem s (st ++ s ∷ [])
    new = Memᴰ.append_right st (mem_head s [])

    all_nearer : (p : Stair) → ((q : Stair) → Mem q st → q.far < p.far) → s.far < p.far
        → (q : Stair) → Mem q (st ++ s ∷ []) → q.far < p.far
    all_nearer p f h q m =
        in_append st m (f q) (λ k. omega (arith, same_far (Memᴰ.eq_of_singleton k)))

    go : (p : Stair) → (top < p.total → Ahead s p)
        → ((q : Stair) × Mem q st × Covers q p) ⊎ ((top < p.total) × ((q : Stair) → Mem q st → q.far < p.far))
        → ((q : Stair) × Mem q (st ++ s ∷ []) × Covers q p)
        ⊎ ((s.total < p.total) × ((q : Stair) → Mem q (st ++ s ∷ []) → q.far < p.far))
    go p near (inl (q, k, c)) = inl (q, Memᴰ.append_left (s ∷ []) k, c)
    go p near (inr (h, f)) =
        by_cases (dec_le p.total s.total)
        (λ t. inl (s, new, (⊎_elim (λ k. omega arith) (λ k. omega arith) (near h), t)))
        (λ t. inr (omega arith, all_nearer p f (⊎_elim (λ k. k) (λ k. absurd (omega arith)) (near h))))

-- once no pair has a larger total
pub partly_done : {ps st : List Stair} {top : ℕ} → Partly ps st top → ((p : Stair) → Mem p ps → p.total ≤ top)
    → IsStairs ps st
partly_done {ps} {st} {top} a h = record {
  far_rises = a.far_rises;
  total_rises = a.total_rises;
  among = a.among;
  covering = λ p m. ⊎_elim (λ c. c) (λ (l, f). absurd (omega (arith, h p m))) (a.rest p m);
}

-- the stairs so far are stairs of the pairs
partly_among_stairs : {ps st : List Stair} {top : ℕ} → Partly ps st top → (x : Stair) → Mem x st → Mem x (stairs_of ps)
partly_among_stairs {ps} {st} {top} a x m =
    (stairs_iff (stairs_are ps) x).1 (a.among x m, λ q mq c. go q c (a.rest q mq))
  where
    itself : IsStairs st st
    itself = record {
      far_rises = a.far_rises;
      total_rises = a.total_rises;
      among = λ p k. k;
      covering = λ p k. (p, k, (le_refl p.far, le_refl p.total));
    }

    go : (q : Stair) → Covers q x
        → ((z : Stair) × Mem z st × Covers z q) ⊎ ((top < q.total) × ((z : Stair) → Mem z st → z.far < q.far))
        → q ≡ x
    go q c (inr (l, f)) = absurd (omega (arith, f x m))
    go q c (inl (z, mz, d)) =
        let e : z ≡ x = none_covers itself x z m mz (omega arith) in
        let far : q.far ≡ x.far = omega (arith, same_far e) in
        let total : q.total ≡ x.total = omega (arith, same_total e) in
        λ i. record { far = far i; total = total i }

-- so there are never more of them
pub partly_few : {ps st : List Stair} {top : ℕ} → Partly ps st top → length st ≤ length (stairs_of ps)
partly_few {ps} {st} a = rising_shorter (λ x. x.far) st (stairs_of ps) a.far_rises (partly_among_stairs a)
