-- The pairs: from each run to each run, with the total length met on the way.
-- Assumes nothing.
use mathlib.Core.Path.{◌≡◌, refl, sym, ap, ap₂, ◌∙◌}
use mathlib.Core.Logic.{◌↔◌, ⊎_elim}
use mathlib.Core.Bool.{Bool, true, false, cond}
use mathlib.Core.List.Memᴰ
use mathlib.Core.List.{List, [], ◌∷◌, ◌++◌, map}
use Prim.Native.Nat.{ℕ, suc, ◌+◌, ◌-◌, ◌*◌, ◌≤◌, ◌<◌, zero-le}
use native.Mathlib.Nat.{le_refl}
use native.Mathlib.Omega.{arith}
use lib.ListN.{length, length-append}
use lib.Seq.{append_snoc}
use lib.Dec.{leb, ltb}
use borrow.Author.Tests.{leb-true, le-leb, lt-leb, le-ltb}
use Rattle.laws.specs.Lists.{keep, total, Mem, RisingBy}
use Rattle.laws.proofs.Circle.{dist_up, dist_down, dist_self}
use Rattle.laws.proofs.Lists.{mem_head, mem_none, total_append, total_ext, total_le}
use Rattle.laws.proofs.Keeping.{in_cons, in_append, mem_swap, keep_append, keep_shorter, total_some, rising_key}
use Rattle.laws.proofs.Keeping.{rising_append, rising_parts}
use Rattle.meaning.specs.declared.Run.{Run}
use Rattle.meaning.specs.declared.Stair.{Stair}
use Rattle.meaning.specs.Runs.{dist}
use Rattle.meaning.specs.Interference.{all_len, pairs_meeting, pairs_from, pairs}
use Rattle.meaning.proofs.Counts.{Below, met}
use Rattle.meaning.proofs.Stairs.{same_total}

-- ---- the total length met

met_append : (n : ℕ) (xs ys : List Run) (s d : ℕ) → met n (xs ++ ys) s d ≡ met n xs s d + met n ys s d
unfolding met
met_append n xs ys s d = total_append (λ r. cond (leb (dist n s r.start) d) r.len 0) xs ys

met_swap : (n : ℕ) (xs ys : List Run) (s d : ℕ) → met n (xs ++ ys) s d ≡ met n (ys ++ xs) s d
met_swap n xs ys s d = omega (arith, met_append n xs ys s d, met_append n ys xs s d)

-- where every run within d is within u, no more is met within d than within u
pub met_grows : (n : ℕ) (rs : List Run) (s d u : ℕ)
    → ((r : Run) → Mem r rs → dist n s r.start ≤ d → dist n s r.start ≤ u) → met n rs s d ≤ met n rs s u
unfolding met
met_grows n rs s d u h = total_le _ _ rs (λ r m. go r m (leb (dist n s r.start) d) refl)
  where
    go : (r : Run) → Mem r rs → (b : Bool) → leb (dist n s r.start) d ≡ b
        → cond b r.len 0 ≤ cond (leb (dist n s r.start) u) r.len 0
    go r m true e = rw (le-leb (dist n s r.start) u (h r m (leb-true (dist n s r.start) d e))) (le_refl r.len)
    go r m false e = zero-le

pub met_all : (n : ℕ) (rs : List Run) (s d : ℕ) → ((r : Run) → Mem r rs → dist n s r.start ≤ d)
    → met n rs s d ≡ all_len rs
unfolding met all_len
met_all n rs s d h = total_ext _ _ rs (λ r m. rw (le-leb (dist n s r.start) d (h r m)))

-- never more than all
pub met_at_most : (n : ℕ) (rs : List Run) (s d : ℕ) → met n rs s d ≤ all_len rs
unfolding met all_len
met_at_most n rs s d = total_le _ _ rs (λ r m. go r.len (leb (dist n s r.start) d))
  where
    go : (l : ℕ) (b : Bool) → cond b l 0 ≤ l
    go l true = le_refl l
    go l false = zero-le

met_none : (n : ℕ) (rs : List Run) (s d : ℕ) → ((r : Run) → Mem r rs → d < dist n s r.start) → met n rs s d ≡ 0
unfolding met
met_none n rs s d h =
    ⊎_elim (λ e. e) (λ (r, m, l). absurd (omega (arith, rw (lt-leb (dist n s r.start) d (h r m)) at l)))
    (total_some (λ r. cond (leb (dist n s r.start) d) r.len 0) rs)

-- ---- from one run

-- from the start s to the start of the run q: the distance, and the total length of the runs met by then
abbrev pub pair_to : ℕ → List Run → ℕ → Run → Stair
pair_to n rs s q = record { far = dist n s q.start; total = met n rs s (dist n s q.start) }

-- where the runs rise in distance, the running totals are the totals met
meeting_rising : (n s : ℕ) (done qs rs : List Run) → done ++ qs ≡ rs → RisingBy (λ r. dist n s r.start) rs
    → pairs_meeting n s (all_len done) qs ≡ map (pair_to n rs s) qs
unfolding pairs_meeting met all_len total
meeting_rising n s done [] rs e h = refl
meeting_rising n s done (q ∷ qs) rs e h =
    ap₂ {C = List Stair} (λ (t : ℕ) (l : List Stair). record { far = d; total = t } ∷ l) whole
    (ap (λ (z : ℕ). pairs_meeting n s z qs) more
    ∙ meeting_rising n s (done ++ q ∷ []) qs rs (append_snoc done q qs ∙ e) h)
  where
    d : ℕ
    d = dist n s q.start

    more : all_len done + q.len ≡ all_len (done ++ q ∷ [])
    more = omega (arith, total_append (λ r. r.len) done (q ∷ []))

    whole : all_len done + q.len ≡ met n rs s d
    whole =
        let (a, b, c) = rising_parts (λ r. dist n s r.start) done (q ∷ qs) (rw (← e) at h) in
        let at : met n (q ∷ qs) s d ≡ q.len + met n qs s d = rw (le-leb d d (le_refl d)) in
        omega (
          arith,
          ap (λ (l : List Run). met n l s d) e,
          met_append n done (q ∷ qs) s d,
          met_all n done s d (λ x m. omega (arith, c x q m (mem_head q qs))),
          met_none n qs s d b.0,
        )

-- from the start of the run r, itself, the runs behind it and then those before it rise in distance
turned_rises : (n : ℕ) (before : List Run) (r : Run) (behind : List Run)
    → RisingBy (λ q. q.start) (before ++ r ∷ behind) → Below n (before ++ r ∷ behind)
    → RisingBy (λ q. dist n r.start q.start) (r ∷ behind ++ before)
turned_rises n before r behind h b =
    rising_append (λ q. dist n s q.start) (r ∷ behind) before
    (rising_key (λ q. q.start) (λ q. dist n s q.start) (r ∷ behind) parts.1
    (λ x y mx my l. omega (arith, up x mx, up y my)))
    (rising_key (λ q. q.start) (λ q. dist n s q.start) before parts.0
    (λ x y mx my l. omega (arith, down x mx, down y my)))
    (λ x y mx my. omega (arith, up x mx, down y my, b x (Memᴰ.append_right before mx)))
  where
    s : ℕ
    s = r.start

    parts : RisingBy (λ q. q.start) before × RisingBy (λ q. q.start) (r ∷ behind)
        × ((x y : Run) → Mem x before → Mem y (r ∷ behind) → x.start < y.start)
    parts = rising_parts (λ q. q.start) before (r ∷ behind) h

    from_here : (x : Run) → Mem x (r ∷ behind) → s ≤ x.start
    from_here x m =
        in_cons m (λ e. omega (arith, ap (λ (q : Run). q.start) e)) (λ k. omega (arith, parts.1.0 x k))

    up : (x : Run) → Mem x (r ∷ behind) → (s ≤ x.start) × (dist n s x.start ≡ x.start - s)
    up x m = let l = from_here x m in (l, dist_up n s x.start l (b x (Memᴰ.append_right before m)))

    down : (x : Run) → Mem x before → dist n s x.start ≡ x.start + (n - s)
    down x m =
        let at = mem_head r behind in
        dist_down n s x.start (parts.2 x r m at) (b r (Memᴰ.append_right before at))

-- the pairs from one run r of rs
pub meeting_from : (n : ℕ) (before : List Run) (r : Run) (behind rs : List Run) → before ++ r ∷ behind ≡ rs
    → RisingBy (λ q. q.start) rs → Below n rs
    → pairs_meeting n r.start 0 (r ∷ behind ++ before) ≡ map (pair_to n rs r.start) (r ∷ behind ++ before)
unfolding all_len total
meeting_from n before r behind rs e h b =
    meeting_rising n r.start [] (r ∷ behind ++ before) (r ∷ behind ++ before) refl
    (turned_rises n before r behind (rw (← e) at h) (λ x m. b x (rw e at m)))
    ∙ ap (λ (f : Run → Stair). map f (r ∷ behind ++ before)) turned
  where
    turned : pair_to n (r ∷ behind ++ before) r.start ≡ pair_to n rs r.start
    turned = λ i q. record {
      far = dist n r.start q.start;
      total =
          (met_swap n (r ∷ behind) before r.start (dist n r.start q.start)
          ∙ ap (λ (l : List Run). met n l r.start (dist n r.start q.start)) e) i;
    }

-- ---- from all runs

from_mem : (n : ℕ) (before behind rs : List Run) → before ++ behind ≡ rs → RisingBy (λ r. r.start) rs → Below n rs
    → (p : Stair)
    → Mem p (pairs_from n before behind) ↔ ((r q : Run) × Mem r behind × Mem q rs × (p ≡ pair_to n rs r.start q))
unfolding pairs_from
from_mem n before [] rs e h b p = (λ m. mem_none m, λ (r, q, mr, mq, f). mem_none mr)
from_mem n before (x ∷ behind) rs e h b p =
    both (from_mem n (before ++ x ∷ []) behind rs (append_snoc before x behind ∙ e) h b p)
  where
    here : List Stair
    here = pairs_meeting n x.start 0 (x ∷ behind ++ before)

    rest : List Stair
    rest = pairs_from n (before ++ x ∷ []) behind

    is : here ≡ map (pair_to n rs x.start) (x ∷ behind ++ before)
    is = meeting_from n before x behind rs e h b

    one : Mem p here ↔ ((q : Run) × Mem q rs × (p ≡ pair_to n rs x.start q))
    one = (
      λ m. let (q, k, f) = Memᴰ.of_map (pair_to n rs x.start) (x ∷ behind ++ before) (rw is at m) in
          (q, rw e at (mem_swap (x ∷ behind) before k), sym f),
      λ (q, k, f).
          rw is (Memᴰ.cast f (Memᴰ.map (pair_to n rs x.start) (mem_swap before (x ∷ behind) (rw (← e) at k)))),
    )

    both : Mem p rest ↔ ((r q : Run) × Mem r behind × Mem q rs × (p ≡ pair_to n rs r.start q))
        → Mem p (here ++ rest) ↔ ((r q : Run) × Mem r (x ∷ behind) × Mem q rs × (p ≡ pair_to n rs r.start q))
    both ih = (
      λ m. in_append here m (λ j. let (q, k, f) = one.0 j in (x, q, mem_head x behind, k, f))
          (λ j. let (r, q, k, l, f) = ih.0 j in (r, q, Memᴰ.tail k, l, f)),
      λ (r, q, mr, mq, f).
          in_cons mr
          (λ g. Memᴰ.append_left rest (one.1 (q, mq, f ∙ ap (λ (y : Run). pair_to n rs y.start q) g)))
          (λ k. Memᴰ.append_right here (ih.1 (r, q, k, mq, f))),
    )

-- the pairs are those from each run to each run
pub pairs_mem : (n : ℕ) (rs : List Run) → RisingBy (λ r. r.start) rs → Below n rs → (p : Stair)
    → Mem p (pairs n rs) ↔ ((r q : Run) × Mem r rs × Mem q rs × (p ≡ pair_to n rs r.start q))
unfolding pairs
pairs_mem n rs h b p = from_mem n [] rs rs refl h b p

-- ---- no total is 0

-- every run has a length
abbrev pub Long : List Run → Type 0
Long rs = (r : Run) → Mem r rs → 0 < r.len

meeting_long : (n s z : ℕ) (rs : List Run) → Long rs → (p : Stair) → Mem p (pairs_meeting n s z rs) → 0 < p.total
unfolding pairs_meeting
meeting_long n s z [] l p m = mem_none m
meeting_long n s z (r ∷ rs) l p m =
    in_cons m (λ e. omega (arith, l r (mem_head r rs), same_total e))
    (λ k. meeting_long n s (z + r.len) rs (λ q j. l q (Memᴰ.tail j)) p k)

from_long : (n : ℕ) (before behind : List Run) → Long (before ++ behind) → (p : Stair)
    → Mem p (pairs_from n before behind) → 0 < p.total
unfolding pairs_from
from_long n before [] l p m = mem_none m
from_long n before (r ∷ behind) l p m =
    in_append (pairs_meeting n r.start 0 (r ∷ behind ++ before)) m
    (meeting_long n r.start 0 (r ∷ behind ++ before) (λ q j. l q (mem_swap (r ∷ behind) before j)) p)
    (from_long n (before ++ r ∷ []) behind (λ q j. l q (rw (append_snoc before r behind) at j)) p)

-- where every run has a length, every pair's total is positive
pub pairs_long : (n : ℕ) (rs : List Run) → Long rs → (p : Stair) → Mem p (pairs n rs) → 0 < p.total
unfolding pairs
pairs_long n rs l p m = from_long n [] rs l p m

-- ---- how many

-- the pairs whose distance is not 0
abbrev pub away : List Stair → List Stair
away ps = keep (λ p. ltb 0 p.far) ps

meeting_length : (n s z : ℕ) (rs : List Run) → length (pairs_meeting n s z rs) ≡ length rs
unfolding pairs_meeting
meeting_length n s z [] = refl
meeting_length n s z (r ∷ rs) = ap suc (meeting_length n s (z + r.len) rs)

-- the run itself is at the distance 0
meeting_away : (n : ℕ) (r : Run) (rs : List Run) → r.start < n
    → length (away (pairs_meeting n r.start 0 (r ∷ rs))) ≤ length rs
unfolding pairs_meeting keep
meeting_away n r rs h =
    let z : dist n r.start r.start ≤ 0 = omega (arith, dist_self n r.start h) in
    rw (le-ltb 0 (dist n r.start r.start) z)
    (omega (
      arith,
      keep_shorter (λ p. ltb 0 p.far) (pairs_meeting n r.start (0 + r.len) rs),
      meeting_length n r.start (0 + r.len) rs,
    ))

from_away : (n m : ℕ) (before behind : List Run) → length before + length behind ≡ suc m → Below n behind
    → length (away (pairs_from n before behind)) ≤ length behind * m
unfolding pairs_from keep
from_away n m before [] e b = zero-le
from_away n m before (r ∷ behind) e b =
    let more : length (before ++ r ∷ []) + length behind ≡ suc m = omega (arith, length-append before (r ∷ [])) in
    rw (keep_append (λ p. ltb 0 p.far) here rest, length-append (away here) (away rest))
    (omega (
      arith,
      meeting_away n r (behind ++ before) (b r (mem_head r behind)),
      length-append behind before,
      from_away n m (before ++ r ∷ []) behind more (λ q k. b q (Memᴰ.tail k)),
    ))
  where
    here : List Stair
    here = pairs_meeting n r.start 0 (r ∷ behind ++ before)

    rest : List Stair
    rest = pairs_from n (before ++ r ∷ []) behind

-- from each run all others are away
pub pairs_away : (n : ℕ) (rs : List Run) → Below n rs → 1 ≤ length rs
    → length (away (pairs n rs)) ≤ length rs * (length rs - 1)
unfolding pairs
pairs_away n rs b h = from_away n (length rs - 1) [] rs (omega arith) b
