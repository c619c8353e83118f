-- The last stair that a remainder reaches, and the stairs of a table as they are lent.
-- Assumes nothing.
use mathlib.Core.Path.{◌≡◌, refl, sym, ap, ap₂, ◌∙◌}
use mathlib.Core.Bool.{true, false}
use mathlib.Core.Logic.{by_cases}
use mathlib.Core.List.{List, [], ◌∷◌}
use Prim.Native.Nat.{ℕ, zero, suc, ◌+◌, ◌-◌, ◌*◌, ◌/◌, ◌%◌, ◌≤◌, ◌<◌, min}
use native.Mathlib.Decide.{ℕ_discrete, dec_le}
use native.Mathlib.Omega.{arith}
use lib.ListN.{length, take, drop, get_or, length-take, length-drop}
use lib.Dec.{leb}
use borrow.Author.Tests.{leb-true, leb-false, le-leb, lt-leb}
use Rattle.std.specs.List.{slice_get, AllWithin}
use Rattle.std.specs.Simd.{first_chunks}
use Rattle.std.specs.Int.{from_bool}
use Rattle.std.specs.Option.{unwrap_or}
use Rattle.std.specs.List.Sorted.{IsPartitionedBy, IsPartitionPoint}
use Rattle.std.proofs.lemmas.List.{get_or_default, get_or-drop, get_or-take, length-take-le}
use Rattle.std.proofs.lemmas.List.Sorted.{IsPartitionedBy-leb, IsNonDecreasingBy-from_default}
use Rattle.std.proofs.lemmas.Option.{unwrap_or-slice_get}
use Rattle.meaning.specs.Interference.{last_total, by_stairs}
use Rattle.table.specs.Lookup.{paired, stairs_in, all_in, stairs_v, RisesTo, TableFits, StairsFit}

-- ---- what is read

-- the last of a row of totals, 0 with none
pub all_last : (tot : List ℕ) → unwrap_or (slice_get tot (length tot - 1)) 0 ≡ all_in tot (length tot)
unfolding all_in
all_last [] = refl
all_last (z ∷ tot) =
    unwrap_or-slice_get (z ∷ tot) (length (z ∷ tot) - 1) 0 ∙ ap (λ (i : ℕ). get_or (z ∷ tot) i 0) (omega arith)

-- distances that rise do not fall
grow : (far : List ℕ) → RisesTo far (length far) → (i j : ℕ) → i ≤ j → j < length far → get_or far i 0 ≤ get_or far j 0
grow far rises i j h l =
    by_cases (ℕ_discrete i j)
    (λ e. omega (arith, ap (λ (k : ℕ). get_or far k 0) e))
    (λ e. omega (arith, rises i j (omega arith) l))

-- of the first k distances u reaches the first n and no other
abbrev pub CountedTo : List ℕ → ℕ → ℕ → ℕ → Type 0
CountedTo far u k n =
    (n ≤ k) × AllWithin (λ d. leb d u ≡ true) far 0 n × AllWithin (λ d. leb d u ≡ false) far n k

-- one distance more, behind b: where u reaches it, it reached all before it
pub counted_next : (far : List ℕ) (u b k n x y : ℕ) → RisesTo far (length far) → b + k < length far
    → CountedTo far u (b + k) (b + n) → y ≡ get_or far (b + k) 0 → x ≡ from_bool (leb y u)
    → CountedTo far u (b + (k + 1)) (b + (n + x))
counted_next far u b k n x y rises l (h, below, above) ey ex =
    by_cases (dec_le y u)
    (λ yes.
    let one : x ≡ 1 = ex ∙ ap from_bool (le-leb y u yes) in
    let all : n ≡ k =
    by_cases (dec_le k n) (λ m. omega arith)
    (λ m. absurd (omega (
      arith,
      leb-false (get_or far (b + n) 0) u (above (b + n) 0 (omega arith) (omega arith)),
      rises (b + n) (b + k) (omega arith) l,
      ey,
    ))) in (
      omega arith,
      λ i d g m. by_cases (dec_le (b + n) i)
          (λ o. le-leb (get_or far i d) u (omega (arith, here i d (omega arith))))
          (λ o. below i d g (omega arith)),
      λ i d g m. absurd (omega arith),
    ))
    (λ no.
    let none : x ≡ 0 = ex ∙ ap from_bool (lt-leb y u (omega arith)) in (
      omega arith,
      λ i d g m. below i d g (omega arith),
      λ i d g m. by_cases (dec_le (b + k) i)
          (λ o. lt-leb (get_or far i d) u (omega (arith, here i d (omega arith))))
          (λ o. above i d (omega arith) (omega arith)),
    ))
  where
    here : (i d : ℕ) → i ≡ b + k → get_or far i d ≡ y
    here i d q = get_or_default far i d 0 (omega arith) ∙ ap (λ (j : ℕ). get_or far j 0) q ∙ sym ey

-- up to 64 of the distances behind b
module _ (far : List ℕ) (b m : ℕ) (e : m ≡ min (length (take (length far - b) (drop b far))) 64) where
  pub lot_long : m ≡ min (length far - b) 64
  lot_long = omega (arith, e, length-take (length far - b) (drop b far), length-drop b far)

  pub lot_has : length (take m (take (length far - b) (drop b far))) ≡ m
  lot_has =
      omega (arith, e, length-take m (take (length far - b) (drop b far)))

  pub lot_at : (i : ℕ) → i < m → get_or (take m (take (length far - b) (drop b far))) i 0 ≡ get_or far (b + i) 0
  lot_at i h =
      get_or-take m (take (length far - b) (drop b far)) i 0 h
      ∙ get_or-take (length far - b) (drop b far) i 0 (omega (arith, lot_long))
      ∙ get_or-drop b far i 0

-- the last distance of a lot of 64
lot_last : (c : ℕ) (xs : List ℕ) (k : ℕ) → k < c
    → get_or (get_or (first_chunks 64 c xs) k []) 63 0 ≡ get_or xs (64 * k + 63) 0
lot_last zero xs k h = absurd (omega arith)
lot_last (suc c) xs zero h = get_or-take 64 xs 63 0 (omega arith)
lot_last (suc c) xs (suc k) h =
    lot_last c (drop 64 xs) k (omega arith) ∙ get_or-drop 64 xs (64 * k + 63) 0
    ∙ ap (λ (i : ℕ). get_or xs i 0) (omega arith)

-- distances that rise, in lots of 64
module _ (far : List ℕ) (u : ℕ) (rises : RisesTo far (length far)) (lots : List (List ℕ))
    (cut : lots ≡ first_chunks 64 (length far / 64) far) (many : length lots ≡ length far / 64) where
  last_at : (k : ℕ) → k < length lots → get_or (get_or lots k []) 63 0 ≡ get_or far (64 * k + 63) 0
  last_at k h = rw cut (lot_last (length far / 64) far k (omega (arith, many)))

  -- the lots of which u reaches the last distance come first
  pub reached_first : IsPartitionedBy (λ lot. leb (get_or lot 63 0) u) lots
  reached_first =
      IsPartitionedBy-leb (λ lot. get_or lot 63 0) lots u
      (IsNonDecreasingBy-from_default (λ lot. get_or lot 63 0) lots [] (λ i j h l. omega (
        arith,
        last_at i (omega arith),
        last_at j l,
        grow far rises (64 * i + 63) (64 * j + 63) (omega arith) (omega (arith, many)),
      )))

  module _ (q : ℕ) (some : q ≤ length lots)
      (point : IsPartitionPoint (λ lot. leb (get_or lot 63 0) u ≡ true) (λ lot. leb (get_or lot 63 0) u ≡ false)
      lots q) where
    -- u reaches all distances of those
    pub lots_counted : CountedTo far u (64 * q + 0) (64 * q + 0)
    lots_counted = (
      omega arith,
      λ i d g m. le-leb (get_or far i d) u (omega (
        arith,
        many,
        get_or_default far i d 0 (omega (arith, many)),
        leb-true (get_or (get_or lots (q - 1) []) 63 0) u (point.0 (q - 1) [] (omega arith) (omega arith)),
        last_at (q - 1) (omega arith),
        grow far rises i (64 * (q - 1) + 63) (omega arith) (omega (arith, many)),
      )),
      λ i d g m. absurd (omega arith),
    )

    -- and behind the next lot none
    pub lots_point : (n m : ℕ) → m ≡ min (length far - 64 * q) 64 → CountedTo far u (64 * q + m) (64 * q + n)
        → IsPartitionPoint (λ d. leb d u ≡ true) (λ d. leb d u ≡ false) far (64 * q + n)
    lots_point n m e (h, below, above) = (
      below,
      λ i d g l. by_cases (dec_le (64 * q + m) i)
          (λ o. lt-leb (get_or far i d) u (omega (
            arith,
            get_or_default far i d 0 l,
            leb-false (get_or (get_or lots q []) 63 0) u (point.1 q [] (omega arith) (omega (arith, many))),
            last_at q (omega (arith, many)),
            grow far rises (64 * q + 63) i (omega arith) l,
          )))
          (λ o. above i d g (omega arith)),
    )

-- behind z, the totals of the stairs: the last one reached stands where as many are reached
last_behind : (z : ℕ) (far tot : List ℕ) (u i : ℕ) → length tot ≡ length far → i ≤ length far
    → ((k : ℕ) → k < i → get_or far k 0 ≤ u) → ((k : ℕ) → i ≤ k → k < length far → u < get_or far k 0)
    → last_total z (paired far tot) u ≡ get_or (z ∷ tot) i 0
unfolding last_total paired
last_behind z [] tot u zero long inside below above = refl
last_behind z [] tot u (suc i) long inside below above = absurd (omega arith)
last_behind z (d ∷ far) [] u i long inside below above = absurd (omega arith)
last_behind z (d ∷ far) (x ∷ tot) u zero long inside below above =
    rw (lt-leb d u (above 0 (omega arith) (omega arith)), last_total)
    (last_behind z far tot u 0 (omega arith) (omega arith) (λ k l. absurd (omega arith))
    (λ k l m. above (suc k) (omega arith) (omega arith)))
last_behind z (d ∷ far) (x ∷ tot) u (suc i) long inside below above =
    rw (le-leb d u (below 0 (omega arith)), last_total)
    (last_behind x far tot u i (omega arith) (omega arith) (λ k l. below (suc k) (omega arith))
    (λ k l m. above (suc k) (omega arith) (omega arith)))

-- the last stair reached is the last of as many as are reached
pub last_reached : (far tot : List ℕ) (u i : ℕ) → length tot ≡ length far → i ≤ length far
    → IsPartitionPoint (λ d. leb d u ≡ true) (λ d. leb d u ≡ false) far i
    → all_in tot i ≡ last_total 0 (paired far tot) u
unfolding all_in
last_reached far tot u i long inside point =
    same i
    ∙ sym (last_behind 0 far tot u i long inside
    (λ k h. leb-true (get_or far k 0) u (point.0 k 0 (omega arith) h))
    (λ k h l. leb-false (get_or far k 0) u (point.1 k 0 h l)))
  where
    same : (i : ℕ) → all_in tot i ≡ get_or (0 ∷ tot) i 0
    same zero = refl
    same (suc i) = refl

-- the last of the first i totals is that of the row
pub all_take : (tot : List ℕ) (i : ℕ) → i ≤ length tot → all_in (take i tot) (length (take i tot)) ≡ all_in tot i
unfolding all_in
all_take tot zero h = refl
all_take tot (suc i) h = rw (length-take-le (suc i) tot h) (get_or-take (suc i) tot i 0 (omega arith))

-- interference, from how many stairs the remainder reaches, the last total, and the last of those reached
pub answer_is : (cycle : ℕ) (far tot : List ℕ) (t : ℕ) → StairsFit cycle far tot → (i all rest : ℕ) → i ≤ length far
    → IsPartitionPoint (λ d. leb d (t % cycle) ≡ true) (λ d. leb d (t % cycle) ≡ false) far i
    → all ≡ all_in tot (length tot) → rest ≡ all_in (take i tot) (length (take i tot))
    → t / cycle * all + rest ≡ stairs_v cycle far tot t
unfolding by_stairs
answer_is cycle far tot t fit i all rest inside point ea er =
    ap₂ (λ (x y : ℕ). t / cycle * x + y) ea
    (er ∙ all_take tot i (omega (arith, fit.as_many)) ∙ last_reached far tot (t % cycle) i fit.as_many inside point)

-- ---- what is lent

-- the first n stairs of a table can be lent, and give the table's interference
module _ (cycle : ℕ) (far tot : List ℕ) (n : ℕ) (fit : TableFits cycle far tot n) where
  pub lent_fit : StairsFit cycle (take n far) (take n tot)
  lent_fit =
      let f = length-take n far in
      let t = length-take n tot in
      record {
        few = omega (arith, fit.few, f);
        some_cycle = fit.some_cycle;
        as_many = omega (arith, f, t, fit.few, fit.far_long, fit.tot_long);
        far_rises =
            λ i j h l. rw (get_or-take n far i 0 (omega arith), get_or-take n far j 0 (omega arith))
            (fit.far_rises i j h (omega arith));
      }

  pub lent_v : (t : ℕ)
      → stairs_v cycle (take n far) (take n tot) t ≡ by_stairs cycle (all_in tot n) (stairs_in far tot n) t
  unfolding stairs_in
  lent_v t =
      ap (λ (x : ℕ). by_stairs cycle x (stairs_in far tot n) t) (all_take tot n (omega (arith, fit.few, fit.tot_long)))
