-- The pairs by index: from run i to the j-th run behind it around the circle, with a running total.
-- Assumes nothing.
use mathlib.Core.Path.{◌≡◌, refl, sym, ap, ◌∙◌}
use mathlib.Core.Logic.{◌↔◌, by_cases}
use mathlib.Core.List.Memᴰ
use mathlib.Core.List.{List, [], ◌∷◌, ◌++◌}
use Prim.Native.Nat.{ℕ, zero, suc, ◌+◌, ◌-◌, ◌%◌, ◌≤◌, ◌<◌, zero-le, suc-le-suc}
use native.Mathlib.Nat.{add_assoc, zero-add, mod-eq_of_lt}
use native.Mathlib.Decide.{dec_lt, ℕ_discrete}
use native.Mathlib.Omega.{arith}
use lib.ListN.{length, get_or, take, drop, length-append, length-take, length-drop, take-append-drop, get_or-append}
use lib.Seq.{take-suc, append_snoc, take-append_seam, drop-append_seam, get_or-append_seam, get_or-append-add}
use lib.Seq.{get_or-drop}
use lib.Seq.{get_or-take}
use Rattle.laws.specs.Lists.{total, Mem, RisingBy}
use Rattle.laws.proofs.Circle.{mod_once, dist_up, dist_down}
use Rattle.laws.proofs.Lists.{mem_head, mem_none, total_append}
use Rattle.laws.proofs.Keeping.{in_cons, in_append}
use Rattle.laws.proofs.Without.{mem_get, rising_at}
use Rattle.meaning.specs.declared.Run.{Run}
use Rattle.meaning.specs.declared.Stair.{Stair}
use Rattle.meaning.specs.Runs.{dist}
use Rattle.meaning.specs.Interference.{all_len, pairs_meeting, pairs_from, pairs}
use Rattle.meaning.proofs.Counts.{Below}

-- ---- the runs from run i on, around

abbrev pub no_run : Run
no_run = record { start = 0; len = 0 }

-- run i and those behind it, and then those before it
unfoldable pub turned : List Run → ℕ → List Run
turned rs i = drop i rs ++ take i rs

pub length_turned : (rs : List Run) (i : ℕ) → length (turned rs i) ≡ length rs
unfolding turned
length_turned rs i = omega (arith, length-append (drop i rs) (take i rs), length-drop i rs, length-take i rs)

pub total_turned : (rs : List Run) (i : ℕ) → all_len (turned rs i) ≡ all_len rs
unfolding turned all_len
total_turned rs i =
    omega (
      arith,
      total_append (λ r. r.len) (drop i rs) (take i rs),
      total_append (λ r. r.len) (take i rs) (drop i rs),
      ap (total (λ (r : Run). r.len)) (take-append-drop i rs),
    )

-- the j-th of them is run i + j, around
pub turned_at : (rs : List Run) (i j : ℕ) → i < length rs → j < length rs
    → get_or (turned rs i) j no_run ≡ get_or rs ((i + j) % length rs) no_run
unfolding turned
turned_at rs i j hi hj = by_cases (dec_lt (i + j) (length rs)) behind before
  where
    behind : i + j < length rs → get_or (drop i rs ++ take i rs) j no_run ≡ get_or rs ((i + j) % length rs) no_run
    behind h =
        get_or-append (drop i rs) (take i rs) no_run j (omega (arith, length-drop i rs)) ∙ get_or-drop i rs j no_run
        ∙ ap (λ (k : ℕ). get_or rs k no_run) (sym (mod-eq_of_lt h))

    before : ¬ (i + j < length rs) → get_or (drop i rs ++ take i rs) j no_run ≡ get_or rs ((i + j) % length rs) no_run
    before h =
        let k : ℕ = i + j - length rs in
        let e : j ≡ length (drop i rs) + k = omega (arith, length-drop i rs) in
        ap (λ (x : ℕ). get_or (drop i rs ++ take i rs) x no_run) e
        ∙ get_or-append-add (drop i rs) (take i rs) k no_run
        ∙ get_or-take i rs k no_run (omega arith)
        ∙ ap (λ (x : ℕ). get_or rs x no_run) (sym (mod_once (length rs) (i + j) (omega arith) (omega arith)))

-- ---- the pairs

-- "the pair of the distance from its start to the start of the j-th run met, and the total length of those j", from run
-- i, and with j counted from 0
unfoldable pub pair_at : ℕ → List Run → ℕ → ℕ → Stair
pair_at n rs i j = record {
  far = dist n (get_or rs i no_run).start (get_or (turned rs i) j no_run).start;
  total = all_len (take (suc j) (turned rs i));
}

-- one run more adds its length
pub total_next : (rs : List Run) (j : ℕ) → j < length rs
    → all_len (take (suc j) rs) ≡ all_len (take j rs) + (get_or rs j no_run).len
unfolding all_len total
total_next rs j h =
    ap (total (λ (r : Run). r.len)) (take-suc rs j no_run h)
    ∙ total_append (λ r. r.len) (take j rs) (get_or rs j no_run ∷ []) ∙ omega arith

pub total_part : (rs : List Run) (j : ℕ) → all_len (take j rs) ≤ all_len rs
unfolding all_len
total_part rs j =
    omega (
      arith,
      total_append (λ r. r.len) (take j rs) (drop j rs),
      ap (total (λ (r : Run). r.len)) (take-append-drop j rs),
    )

-- the j-th pair that a walk over qs from the start s makes, after runs of the total length z
abbrev meeting_at : ℕ → ℕ → ℕ → List Run → ℕ → Stair
meeting_at n s z qs j = record { far = dist n s (get_or qs j no_run).start; total = z + all_len (take (suc j) qs) }

meeting_first : (n s z : ℕ) (q : Run) (qs : List Run)
    → record { far = dist n s q.start; total = z + q.len } ≡ meeting_at n s z (q ∷ qs) 0
unfolding all_len total
meeting_first n s z q qs =
    let e : z + q.len ≡ z + (q.len + 0) = omega arith in λ i. record { far = dist n s q.start; total = e i }

meeting_later : (n s z : ℕ) (q : Run) (qs : List Run) (j : ℕ)
    → meeting_at n s (z + q.len) qs j ≡ meeting_at n s z (q ∷ qs) (suc j)
unfolding all_len total
meeting_later n s z q qs j =
    λ i. record {
      far = dist n s (get_or qs j no_run).start;
      total = add_assoc z q.len (all_len (take (suc j) qs)) i;
    }

meeting_index : (n s z : ℕ) (qs : List Run) (p : Stair)
    → Mem p (pairs_meeting n s z qs) ↔ ((j : ℕ) × (j < length qs) × (p ≡ meeting_at n s z qs j))
unfolding pairs_meeting
meeting_index n s z [] p = (λ m. mem_none m, λ (j, h, e). absurd (omega arith))
meeting_index n s z (q ∷ qs) p = both (meeting_index n s (z + q.len) qs p)
  where
    first : Stair
    first = record { far = dist n s q.start; total = z + q.len }

    rest : List Stair
    rest = pairs_meeting n s (z + q.len) qs

    both : Mem p rest ↔ ((j : ℕ) × (j < length qs) × (p ≡ meeting_at n s (z + q.len) qs j))
        → Mem p (first ∷ rest) ↔ ((j : ℕ) × (j < suc (length qs)) × (p ≡ meeting_at n s z (q ∷ qs) j))
    both ih = (
      λ m. in_cons m (λ e. (0, omega arith, e ∙ meeting_first n s z q qs))
          (λ k. let (j, h, e) = ih.0 k in (suc j, suc-le-suc h, e ∙ meeting_later n s z q qs j)),
      λ (j, h, e). from j h e,
    )
      where
        from : (j : ℕ) → j < suc (length qs) → p ≡ meeting_at n s z (q ∷ qs) j → Mem p (first ∷ rest)
        from zero h e = Memᴰ.cast (e ∙ sym (meeting_first n s z q qs)) (mem_head first rest)
        from (suc j) h e = Memᴰ.tail (ih.1 (j, omega arith, e ∙ sym (meeting_later n s z q qs j)))

-- the pairs from run i
row_index : (n : ℕ) (rs : List Run) (i : ℕ) (p : Stair)
    → Mem p (pairs_meeting n (get_or rs i no_run).start 0 (turned rs i))
    ↔ ((j : ℕ) × (j < length rs) × (p ≡ pair_at n rs i j))
unfolding pair_at
row_index n rs i p = (
  λ m. let (j, h, e) = met.0 m in (j, omega (arith, length_turned rs i), e ∙ whole j),
  λ (j, h, e). met.1 (j, omega (arith, length_turned rs i), e ∙ sym (whole j)),
)
  where
    s : ℕ
    s = (get_or rs i no_run).start

    met : Mem p (pairs_meeting n s 0 (turned rs i))
        ↔ ((j : ℕ) × (j < length (turned rs i)) × (p ≡ meeting_at n s 0 (turned rs i) j))
    met = meeting_index n s 0 (turned rs i) p

    whole : (j : ℕ) → meeting_at n s 0 (turned rs i) j ≡ pair_at n rs i j
    whole j = λ k. record {
      far = dist n s (get_or (turned rs i) j no_run).start;
      total = zero-add (all_len (take (suc j) (turned rs i))) k;
    }

-- from the run behind `before` on
row_seam : (n : ℕ) (before : List Run) (r : Run) (behind rs : List Run) → before ++ r ∷ behind ≡ rs
    → pairs_meeting n r.start 0 (r ∷ behind ++ before)
    ≡ pairs_meeting n (get_or rs (length before) no_run).start 0 (turned rs (length before))
unfolding turned
row_seam n before r behind rs e =
    rw (← e, drop-append_seam before (r ∷ behind), take-append_seam before (r ∷ behind))
    (rw (get_or-append_seam before r behind no_run))

-- the pairs from the runs behind `before`
from_index : (n : ℕ) (before behind rs : List Run) → before ++ behind ≡ rs → (p : Stair)
    → Mem p (pairs_from n before behind)
    ↔ ((i j : ℕ) × (length before ≤ i) × (i < length rs) × (j < length rs) × (p ≡ pair_at n rs i j))
unfolding pairs_from
from_index n before [] rs e p = (
  λ m. mem_none m,
  λ (i, j, lo, hi, hj, f). absurd (omega (arith, ap length e, length-append before [])),
)
from_index n before (r ∷ behind) rs e p =
    both (from_index n (before ++ r ∷ []) behind rs (append_snoc before r behind ∙ e) p)
  where
    k : ℕ
    k = length before

    here : List Stair
    here = pairs_meeting n r.start 0 (r ∷ behind ++ before)

    rest : List Stair
    rest = pairs_from n (before ++ r ∷ []) behind

    within : k < length rs
    within = omega (arith, ap length e, length-append before (r ∷ behind))

    one : Mem p here ↔ ((j : ℕ) × (j < length rs) × (p ≡ pair_at n rs k j))
    one = rw (row_seam n before r behind rs e) (row_index n rs k p)

    both : Mem p rest
        ↔ ((i j : ℕ) × (length (before ++ r ∷ []) ≤ i) × (i < length rs) × (j < length rs) × (p ≡ pair_at n rs i j))
        → Mem p (here ++ rest)
        ↔ ((i j : ℕ) × (k ≤ i) × (i < length rs) × (j < length rs) × (p ≡ pair_at n rs i j))
    both ih = (
      λ m. in_append here m (λ l. let (j, h, f) = one.0 l in (k, j, omega arith, within, h, f))
          (λ l. let (i, j, lo, hi, hj, f) = ih.0 l in (i, j, omega (arith, length-append before (r ∷ [])), hi, hj, f)),
      λ (i, j, lo, hi, hj, f).
          by_cases (dec_lt k i)
          (λ l. Memᴰ.append_right here (ih.1 (i, j, omega (arith, length-append before (r ∷ [])), hi, hj, f)))
          (λ l. let q : i ≡ k = omega arith in
          Memᴰ.append_left rest (one.1 (j, hj, f ∙ ap (λ (x : ℕ). pair_at n rs x j) q))),
    )

-- the pairs are those of each run with each run behind it, around
pub pairs_index : (n : ℕ) (rs : List Run) (p : Stair)
    → Mem p (pairs n rs) ↔ ((i j : ℕ) × (i < length rs) × (j < length rs) × (p ≡ pair_at n rs i j))
unfolding pairs
pairs_index n rs p =
    let all = from_index n [] rs rs refl p in (
      λ m. let (i, j, lo, hi, hj, e) = all.0 m in (i, j, hi, hj, e),
      λ (i, j, hi, hj, e). all.1 (i, j, zero-le, hi, hj, e),
    )

module _ (n : ℕ) (rs : List Run) (rises : RisingBy (λ r. r.start) rs) (below : Below n rs) where
  start_at : ℕ → ℕ
  start_at i = (get_or rs i no_run).start

  starts_rise : (i j : ℕ) → i < j → j < length rs → start_at i < start_at j
  unfolding start_at
  starts_rise = rising_at (λ r. r.start) rs no_run rises

  starts_below : (i : ℕ) → i < length rs → start_at i < n
  unfolding start_at
  starts_below i h = below _ (mem_get rs i no_run h)

  -- the distance to a run that is not before run i, and to one that is
  far_behind : (i j : ℕ) → i + j < length rs
      → ((pair_at n rs i j).far ≡ start_at (i + j) - start_at i) × (start_at i ≤ start_at (i + j))
  unfolding pair_at start_at
  far_behind i j h =
      let at = turned_at rs i j (omega arith) (omega arith) ∙ ap (λ (k : ℕ). get_or rs k no_run) (mod-eq_of_lt h) in
      (rw at (dist_up n (start_at i) (start_at (i + j)) later (starts_below (i + j) h)), later)
    where
      later : start_at i ≤ start_at (i + j)
      later =
          by_cases (ℕ_discrete j 0)
          (λ e. let same : i ≡ i + j = omega arith in omega (arith, ap start_at same))
          (λ e. omega (arith, starts_rise i (i + j) (omega arith) h))

  far_before : (i j : ℕ) → i < length rs → j < length rs → length rs ≤ i + j
      → (pair_at n rs i j).far ≡ start_at (i + j - length rs) + (n - start_at i)
  unfolding pair_at start_at
  far_before i j hi hj h =
      let k : ℕ = i + j - length rs in
      let e = mod_once (length rs) (i + j) h (omega arith) in
      let at = turned_at rs i j hi hj ∙ ap (λ (k : ℕ). get_or rs k no_run) e in
      rw at (dist_down n (start_at i) (start_at k) (starts_rise k i (omega arith) hi) (starts_below i hi))

  -- from one run the distances rise
  pub pair_rises : (i j k : ℕ) → i < length rs → j < k → k < length rs → (pair_at n rs i j).far < (pair_at n rs i k).far
  pair_rises i j k hi h hk =
      by_cases (dec_lt (i + k) (length rs)) (λ l. behind l)
      (λ l. by_cases (dec_lt (i + j) (length rs)) (λ m. around (omega arith) m) (λ m. before (omega arith)))
    where
      behind : i + k < length rs → (pair_at n rs i j).far < (pair_at n rs i k).far
      behind l =
          omega (
            arith,
            far_behind i j (omega arith),
            far_behind i k l,
            starts_rise (i + j) (i + k) (omega arith) l,
          )

      around : length rs ≤ i + k → i + j < length rs → (pair_at n rs i j).far < (pair_at n rs i k).far
      around l m =
          omega (
            arith,
            far_behind i j m,
            starts_below (i + j) m,
            far_before i k hi hk l,
          )

      before : length rs ≤ i + j → (pair_at n rs i j).far < (pair_at n rs i k).far
      before l =
          omega (
            arith,
            far_before i j hi (omega arith) l,
            far_before i k hi hk (omega arith),
            starts_rise (i + j - length rs) (i + k - length rs) (omega arith) (omega arith),
          )
