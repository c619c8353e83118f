-- The stairs of some pairs: they are unique, they are the paper's, and `stairsOf` makes them.
-- Assumes nothing.
use mathlib.Core.Path.{◌≡◌, refl, sym, ap, ◌∙◌}
use mathlib.Core.Logic.{◌↔◌, ◌⊎◌, inl, inr, ⊎_elim, by_cases}
use mathlib.Core.Bool.{Bool, true, false, not, cond, ◌||◌, or-true, false≢true}
use mathlib.Core.List.Memᴰ
use mathlib.Core.List.{List, [], ◌∷◌, foldr}
use Prim.Native.Nat.{ℕ, ◌+◌, ◌-◌, ◌≤◌, ◌<◌, zero-le, max}
use native.Mathlib.Nat.{le_refl, le_antisymm, zero-max, max-zero}
use native.Mathlib.Decide.{dec_le}
use native.Mathlib.Omega.{arith}
use lib.Dec.{leb, ltb, eqb}
use borrow.Author.Tests.{eqb-true, eq-eqb, leb-true, le-leb, ltb-true, ltb-false}
use Rattle.laws.specs.Lists.{keep, largest, Mem, RisingBy}
use Rattle.laws.proofs.Lists.{and-true, mem_head, mem_none, every_true, rising_unique, largest_ge, largest_le}
use Rattle.laws.proofs.Keeping.{in_cons, foldr_mem, keep_mem, largest_passing, rising_key, rising_compare}
use Rattle.meaning.specs.declared.Stair.{Stair}
use Rattle.meaning.specs.Interference.{covers, same, uncovered, put, stairs_of, last_total}
use Rattle.meaning.specs.Promises.{Covers, IsStairs}

stair_ext : {p q : Stair} → p.far ≡ q.far → p.total ≡ q.total → p ≡ q
stair_ext e f = λ i. record { far = e i; total = f i }

pub same_far : {p q : Stair} → p ≡ q → p.far ≡ q.far
same_far e = ap (λ (s : Stair). s.far) e

pub same_total : {p q : Stair} → p ≡ q → p.total ≡ q.total
same_total e = ap (λ (s : Stair). s.total) e

-- ---- unique, and the paper's

-- of two stairs none covers another
pub none_covers : {ps st : List Stair} → IsStairs ps st → (x y : Stair) → Mem x st → Mem y st → Covers y x → y ≡ x
none_covers {ps} {st} a x y mx my c =
    go (rising_compare (λ s. s.far) (λ s. s.total) st a.far_rises a.total_rises y x my mx)
  where
    go : (y ≡ x) ⊎ (((y.far < x.far) × (y.total < x.total)) ⊎ ((x.far < y.far) × (x.total < y.total))) → y ≡ x
    go (inl e) = e
    go (inr (inl h)) = absurd (omega arith)
    go (inr (inr h)) = absurd (omega arith)

-- the paper's words: "the distinct pairs covered by no other pair"
pub stairs_iff : {ps st : List Stair} → IsStairs ps st → (x : Stair)
    → Mem x st ↔ (Mem x ps × ((q : Stair) → Mem q ps → Covers q x → q ≡ x))
stairs_iff {ps} {st} a x = (
  λ m. (a.among x m, λ q mq c. alone m q c (a.covering q mq)),
  λ h. let (z, mz, cz) = a.covering x h.0 in Memᴰ.cast (sym (h.1 z (a.among z mz) cz)) mz,
)
  where
    alone : Mem x st → (q : Stair) → Covers q x → (z : Stair) × Mem z st × Covers z q → q ≡ x
    alone m q c (z, mz, cz) =
        let e : z ≡ x = none_covers a x z m mz (omega arith) in
        stair_ext (omega (arith, same_far e)) (omega (arith, same_total e))

-- no second list is the stairs of the same pairs
pub stairs_unique : {ps st su : List Stair} → IsStairs ps st → IsStairs ps su → st ≡ su
stairs_unique {ps} {st} {su} a b =
    rising_unique (λ s. s.far) st su a.far_rises b.far_rises
    (λ x m. (stairs_iff b x).1 ((stairs_iff a x).0 m))
    (λ x m. (stairs_iff a x).1 ((stairs_iff b x).0 m))

pub same_pairs_same_stairs : {ps qs st : List Stair} → ((p : Stair) → Mem p ps ↔ Mem p qs) → IsStairs ps st
    → IsStairs qs st
same_pairs_same_stairs h a = record {
  far_rises = a.far_rises;
  total_rises = a.total_rises;
  among = λ p m. (h p).0 (a.among p m);
  covering = λ p m. a.covering p ((h p).1 m);
}

-- ---- the tests of the definition

covers_true : (q p : Stair) → covers q p ≡ true ↔ Covers q p
unfolding covers
covers_true q p = (
  λ e. let (a, b) = and-true (leb q.far p.far) (leb p.total q.total) e in
      (leb-true q.far p.far a, leb-true p.total q.total b),
  λ c. rw (le-leb q.far p.far c.0, le-leb p.total q.total c.1),
)

same_true : (q p : Stair) → same q p ≡ true ↔ (q ≡ p)
unfolding same
same_true q p = (
  λ e. let (a, b) = and-true (eqb q.far p.far) (eqb q.total p.total) e in
      stair_ext (eqb-true q.far p.far a) (eqb-true q.total p.total b),
  λ e. rw (eq-eqb q.far p.far (same_far e), eq-eqb q.total p.total (same_total e)),
)

-- p is covered by no other pair
abbrev Uncovered : List Stair → Stair → Type 0
Uncovered ps p = (q : Stair) → Mem q ps → Covers q p → q ≡ p

uncovered_true : (ps : List Stair) (p : Stair) → uncovered ps p ≡ true ↔ Uncovered ps p
unfolding uncovered
uncovered_true ps p =
    let t = every_true (λ q. same q p || not (covers q p)) ps in
    (λ e q m. use_test q (same q p) refl (t.0 e q m), λ h. t.1 (λ q m. make_test q (covers q p) refl (h q m)))
  where
    use_test : (q : Stair) (b : Bool) → same q p ≡ b → (b || not (covers q p)) ≡ true → Covers q p → q ≡ p
    use_test q true e t c = (same_true q p).0 e
    use_test q false e t c = absurd (false≢true (rw ((covers_true q p).1 c) at t))

    make_test : (q : Stair) (b : Bool) → covers q p ≡ b → (Covers q p → q ≡ p) → (same q p || not b) ≡ true
    make_test q true e h = rw ((same_true q p).1 (h ((covers_true q p).0 e)))
    make_test q false e h = or-true (same q p)

-- above every pair stands one that no other covers: of those that cover it, one that is largest and nearest taken
-- together
above : (ps : List Stair) (p : Stair) → Mem p ps → (q : Stair) × Mem q ps × Covers q p × Uncovered ps q
above ps p m =
    let self = (covers_true p p).1 (le_refl p.far, le_refl p.total) in
    let (q, mq, e, top) = largest_passing (λ q. covers q p) (λ q. q.total + (p.far - q.far)) ps p m self in
    let c = (covers_true q p).0 e in
    (q, mq, c, λ z mz cz. level q z c cz (top z mz ((covers_true z p).1 (omega arith))))
  where
    level : (q z : Stair) → Covers q p → Covers z q
        → z.total + (p.far - z.far) ≤ q.total + (p.far - q.far) → z ≡ q
    level q z c cz h = stair_ext (omega arith) (omega arith)

-- ---- putting in by rising distance

put_mem : (p x : Stair) (xs : List Stair) → Mem x (put p xs) ↔ ((x ≡ p) ⊎ Mem x xs)
unfolding put
put_mem p x [] = (λ m. Memᴰ.cases_cons m, λ h. ⊎_elim (λ e. Memᴰ.head e) (λ k. mem_none k) h)
put_mem p x (y ∷ ys) = go (put_mem p x ys) (same p y) refl (ltb p.far y.far)
  where
    go : Mem x (put p ys) ↔ ((x ≡ p) ⊎ Mem x ys) → (a : Bool) → same p y ≡ a → (b : Bool)
        → Mem x (cond a (y ∷ ys) (cond b (p ∷ y ∷ ys) (y ∷ put p ys))) ↔ ((x ≡ p) ⊎ Mem x (y ∷ ys))
    go ih true e b = (λ m. inr m, λ h. ⊎_elim (λ f. Memᴰ.head (f ∙ (same_true p y).0 e)) (λ k. k) h)
    go ih false e true = (
      λ m. Memᴰ.cases_cons m,
      λ h. ⊎_elim (λ f. Memᴰ.head f) (λ k. Memᴰ.tail k) h,
    )
    go ih false e false = (
      λ m. in_cons m (λ f. inr (Memᴰ.head f))
          (λ k. ⊎_elim (λ f. inl f) (λ j. inr (Memᴰ.tail j)) (ih.0 k)),
      λ h. ⊎_elim (λ f. Memᴰ.tail (ih.1 (inl f)))
          (λ k. in_cons k (λ f. Memᴰ.head f) (λ j. Memᴰ.tail (ih.1 (inr j)))) h,
    )

put_rises : (p : Stair) (xs : List Stair) → RisingBy (λ s. s.far) xs
    → ((x : Stair) → Mem x xs → p.far ≡ x.far → p ≡ x) → RisingBy (λ s. s.far) (put p xs)
unfolding put
put_rises p [] r h = (λ y m. mem_none m, tt)
put_rises p (y ∷ ys) r h =
    go (put_rises p ys r.1 (λ x m. h x (Memᴰ.tail m))) (same p y) refl (ltb p.far y.far) refl
  where
    -- a pair that is put behind y is further than y
    further : same p y ≡ false → y.far ≤ p.far → y.far < p.far
    further e l =
        by_cases (dec_le p.far y.far)
        (λ k. absurd (false≢true (sym e ∙ (same_true p y).1 (h y (mem_head y ys) (le_antisymm k l)))))
        (λ k. omega arith)

    go : RisingBy (λ s. s.far) (put p ys) → (a : Bool) → same p y ≡ a → (b : Bool) → ltb p.far y.far ≡ b
        → RisingBy (λ s. s.far) (cond a (y ∷ ys) (cond b (p ∷ y ∷ ys) (y ∷ put p ys)))
    go ih true e b f = r
    go ih false e true f = (
      λ z m. let l = ltb-true p.far y.far f in
          in_cons m (λ k. omega (arith, same_far k)) (λ k. omega (arith, r.0 z k)),
      r,
    )
    go ih false e false f = (
      λ z m. let l = further e (ltb-false p.far y.far f) in
          ⊎_elim (λ k. omega (arith, same_far k)) (λ k. r.0 z k) ((put_mem p z ys).0 m),
      ih,
    )

-- every pair of a list put in, where no two that differ have one distance
puts_rise : (qs : List Stair) → ((x y : Stair) → Mem x qs → Mem y qs → x.far ≡ y.far → x ≡ y)
    → RisingBy (λ s. s.far) (foldr put [] qs)
puts_rise [] h = tt
puts_rise (q ∷ qs) h =
    put_rises q (foldr put [] qs) (puts_rise qs (λ x y i j. h x y (Memᴰ.tail i) (Memᴰ.tail j)))
    (λ x m. h q x (mem_head q qs) (Memᴰ.tail ((foldr_mem put put_mem qs x).0 m)))

stairs_mem : (ps : List Stair) (x : Stair) → Mem x (stairs_of ps) ↔ (Mem x ps × Uncovered ps x)
unfolding stairs_of
stairs_mem ps x = (
  λ m. let (k, e) = kept.0 (folded.0 m) in (k, (uncovered_true ps x).0 e),
  λ h. folded.1 (kept.1 (h.0, (uncovered_true ps x).1 h.1)),
)
  where
    folded : Mem x (foldr put [] (keep (uncovered ps) ps)) ↔ Mem x (keep (uncovered ps) ps)
    folded = foldr_mem put put_mem (keep (uncovered ps) ps) x

    kept : Mem x (keep (uncovered ps) ps) ↔ (Mem x ps × (uncovered ps x ≡ true))
    kept = keep_mem (uncovered ps) ps x

stairs_far : (ps : List Stair) → RisingBy (λ s. s.far) (stairs_of ps)
unfolding stairs_of
stairs_far ps = puts_rise (keep (uncovered ps) ps) alone
  where
    alone : (x y : Stair) → Mem x (keep (uncovered ps) ps) → Mem y (keep (uncovered ps) ps) → x.far ≡ y.far → x ≡ y
    alone x y mx my e =
        let (kx, ux) = (keep_mem (uncovered ps) ps x).0 mx in
        let (ky, uy) = (keep_mem (uncovered ps) ps y).0 my in
        by_cases (dec_le y.total x.total)
        (λ h. (uncovered_true ps y).0 uy x kx (omega arith))
        (λ h. sym ((uncovered_true ps x).0 ux y ky (omega arith)))

-- the definition makes them
pub stairs_are : (ps : List Stair) → IsStairs ps (stairs_of ps)
stairs_are ps = record {
  far_rises = stairs_far ps;
  total_rises = rising_key (λ s. s.far) (λ s. s.total) (stairs_of ps) (stairs_far ps) higher;
  among = λ p m. ((stairs_mem ps p).0 m).0;
  covering = λ p m. let (q, mq, c, u) = above ps p m in (q, (stairs_mem ps q).1 (mq, u), c);
}
  where
    -- the further of two has the larger total, or the nearer would cover it
    higher : (x y : Stair) → Mem x (stairs_of ps) → Mem y (stairs_of ps) → x.far < y.far → x.total < y.total
    higher x y mx my l =
        let alone = ((stairs_mem ps y).0 my).1 x ((stairs_mem ps x).0 mx).0 in
        by_cases (dec_le y.total x.total)
        (λ h. absurd (omega (arith, same_far (alone (omega arith)))))
        (λ h. omega arith)

-- ---- the last stair reached

-- the largest total of the pairs no further than u
unfoldable pub reached : List Stair → ℕ → ℕ
reached ps u = largest (λ p. cond (leb p.far u) p.total 0) ps

pub reached_ge : (ps : List Stair) (u : ℕ) (p : Stair) → Mem p ps → p.far ≤ u → p.total ≤ reached ps u
unfolding reached
reached_ge ps u p m h =
    rw (le-leb p.far u h) at (largest_ge (λ p. cond (leb p.far u) p.total 0) ps p m)

pub reached_le : (ps : List Stair) (u k : ℕ) → ((p : Stair) → Mem p ps → p.far ≤ u → p.total ≤ k) → reached ps u ≤ k
unfolding reached
reached_le ps u k h = largest_le (λ p. cond (leb p.far u) p.total 0) ps k (λ p m. go p m (leb p.far u) refl)
  where
    go : (p : Stair) → Mem p ps → (b : Bool) → leb p.far u ≡ b → cond b p.total 0 ≤ k
    go p m true e = h p m (leb-true p.far u e)
    go p m false e = zero-le

last_reached : (z : ℕ) (st : List Stair) (u : ℕ) → RisingBy (λ s. s.total) st
    → ((x : Stair) → Mem x st → z ≤ x.total) → last_total z st u ≡ max z (reached st u)
unfolding last_total reached largest
last_reached z [] u r h = sym (max-zero z)
last_reached z (x ∷ xs) u r h =
    go (last_reached x.total xs u r.1 (λ y m. omega (arith, r.0 y m)))
    (last_reached z xs u r.1 (λ y m. h y (Memᴰ.tail m)))
    (leb x.far u)
  where
    go : last_total x.total xs u ≡ max x.total (reached xs u) → last_total z xs u ≡ max z (reached xs u)
        → (b : Bool) → last_total (cond b x.total z) xs u ≡ max z (max (cond b x.total 0) (reached xs u))
    go d e true = omega (arith, h x (mem_head x xs))
    go d e false = omega arith

-- the last stair no further than u has the largest total of all pairs no further than u
pub last_total_lem : {ps st : List Stair} (u : ℕ) → IsStairs ps st → last_total 0 st u ≡ reached ps u
last_total_lem {ps} {st} u a =
    last_reached 0 st u a.total_rises (λ x m. zero-le) ∙ zero-max (reached st u)
    ∙ le_antisymm
    (reached_le st u (reached ps u) (λ p m l. reached_ge ps u p (a.among p m) l))
    (reached_le ps u (reached st u) (λ p m l. over p l (a.covering p m)))
  where
    over : (p : Stair) → p.far ≤ u → (q : Stair) × Mem q st × Covers q p → p.total ≤ reached st u
    over p l (q, m, c) = omega (arith, reached_ge st u q m (omega arith))
