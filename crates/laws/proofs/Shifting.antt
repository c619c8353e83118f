-- Rows that a loop walks: opened for one more, closed over one less.
-- Assumes nothing.
use mathlib.Core.Path.{◌≡◌, refl, sym, ap, ◌∙◌}
use mathlib.Core.Bool.{Bool, true, false, cond}
use mathlib.Core.List.{List, [], ◌∷◌, ◌++◌, append-nil, append_assoc}
use Prim.Native.Nat.{ℕ, zero, suc, ◌+◌, ◌-◌, ◌≤◌, ◌<◌}
use native.Mathlib.Numerals.{add-one, sub-one}
use native.Mathlib.Nat.{le_refl, sub-zero, zero-sub, suc-sub-suc}
use native.Mathlib.Omega.{arith}
use lib.ListN.{length, get_or, take, drop, set, replicate, length-append, length-take, length-drop, take-append-drop}
use lib.ListN.{drop_of_length-le, get_or-append}
use lib.Seq.{length-take-le, take-suc, drop-cons, take-append-le, drop-append-le, drop-append-add}
use lib.Seq.{take-take}
use lib.Seq.{set_at, get_or-take, get_or-drop, get_or-append-add}
use lib.Dec.{ltb}
use Rattle.laws.specs.Lists.{insert_by, place_by, without, filled}
use Rattle.laws.proofs.Inserting.{length_insert_by}
use Rattle.laws.proofs.Rows.{filled_length}

module _ {A : Type 0} where
  -- ---- rows that hold their first n, and z in the places left

  drop_replicate : (k n : ℕ) (z : A) → drop k (replicate n z) ≡ replicate (n - k) z
  drop_replicate zero n z = rw (sub-zero n)
  drop_replicate (suc k) zero z = rw (zero-sub (suc k))
  drop_replicate (suc k) (suc n) z = rw (suc-sub-suc n k) (drop_replicate k n z)

  filled_rest : (n : ℕ) (z : A) (xs : List A) (k : ℕ) → length xs ≤ k → drop k (filled n z xs) ≡ replicate (n - k) z
  unfolding filled
  filled_rest n z xs k h =
      let e : length xs + (k - length xs) ≡ k = omega arith in
      let f : n - length xs - (k - length xs) ≡ n - k = omega arith in
      ap (λ (j : ℕ). drop j (xs ++ replicate (n - length xs) z)) (sym e)
      ∙ drop-append-add xs (replicate (n - length xs) z) (k - length xs)
      ∙ drop_replicate (k - length xs) (n - length xs) z
      ∙ ap (λ (j : ℕ). replicate j z) f

  free_rest : (size : ℕ) (z : A) (l : List A) (n k : ℕ) → l ≡ filled size z (take n l) → n ≤ k
      → drop k l ≡ replicate (size - k) z
  free_rest size z l n k row h =
      ap (drop k) row ∙ filled_rest size z (take n l) k (omega (arith, length-take n l))

  pub filled_long : (size : ℕ) (z : A) (l : List A) (n : ℕ) → l ≡ filled size z (take n l) → n ≤ size → length l ≡ size
  filled_long size z l n row h =
      ap length row ∙ filled_length size z (take n l) (omega (arith, length-take n l))

  -- ---- one more: from place n down to place p, what stands before place i goes to place i

  -- one by rising key goes before the first with a larger key
  pub insert_at_place : (key : A → ℕ) (a : A) (xs : List A) (p : ℕ) → p ≡ place_by (λ x. ltb (key a) (key x)) xs
      → insert_by key a xs ≡ take p xs ++ a ∷ drop p xs
  unfolding insert_by place_by
  insert_at_place key a xs p e = rw e (go xs)
    where
      place : List A → ℕ
      place ys = place_by (λ x. ltb (key a) (key x)) ys

      go : (ys : List A) → insert_by key a ys ≡ take (place ys) ys ++ a ∷ drop (place ys) ys
      go [] = refl
      go (y ∷ ys) = step (go ys) (ltb (key a) (key y))
        where
          step : insert_by key a ys ≡ take (place ys) ys ++ a ∷ drop (place ys) ys → (b : Bool)
              → cond b (a ∷ y ∷ ys) (y ∷ insert_by key a ys)
              ≡ take (cond b 0 (suc (place ys))) (y ∷ ys) ++ a ∷ drop (cond b 0 (suc (place ys))) (y ∷ ys)
          step ih true = refl
          step ih false = ap (λ (r : List A). y ∷ r) ih

  -- l with each place from i + 1 to n holding what stood one before
  pub gap : List A → ℕ → ℕ → List A
  gap l n i = take (suc i) l ++ (drop i (take n l) ++ drop (suc n) l)

  -- the loop that makes room at place p of l has come down to place i
  abbrev pub Opened : List A → ℕ → ℕ → List A → ℕ → Type 0
  Opened l n p row i = (row ≡ gap l n i) × (p ≤ i) × (i ≤ n)

  gap_split : (l : List A) (n i : ℕ) (d : A) → i < length l
      → gap l n i ≡ take i l ++ get_or l i d ∷ (drop i (take n l) ++ drop (suc n) l)
  unfolding gap
  gap_split l n i d h = rw (take-suc l i d h, append_assoc)

  gap_set : (l : List A) (n i : ℕ) (x : A) → i < length l
      → set (gap l n i) i x ≡ take i l ++ x ∷ (drop i (take n l) ++ drop (suc n) l)
  gap_set l n i x h =
      rw (gap_split l n i x h) (set_at (take i l) (get_or l i x) _ x i (length-take-le i l (omega arith)))

  gap_read : (l : List A) (n i : ℕ) (d : A) → suc i < length l → get_or (gap l n (suc i)) i d ≡ get_or l i d
  unfolding gap
  gap_read l n i d h =
      let e : i < length (take (suc (suc i)) l) = omega (arith, length-take-le (suc (suc i)) l h) in
      get_or-append (take (suc (suc i)) l) (drop (suc i) (take n l) ++ drop (suc n) l) d i e
      ∙ get_or-take (suc (suc i)) l i d (omega arith)

  gap_step : (l : List A) (n i : ℕ) (d : A) → i < n → n < length l
      → set (gap l n (suc i)) (suc i) (get_or (gap l n (suc i)) i d) ≡ gap l n i
  unfolding gap
  gap_step l n i d h k =
      let e : i < length (take n l) = omega (arith, length-take-le n l (omega arith)) in
      rw (gap_read l n i d (omega arith), gap_set l n (suc i) (get_or l i d) (omega arith))
      (rw (drop-cons (take n l) i d e, get_or-take n l i d h))

  pub open_start : (l : List A) (n p : ℕ) → p ≤ n → n < length l → Opened l n p l n
  unfolding gap
  open_start l n p h k =
      let e : length (take n l) ≤ n = omega (arith, length-take-le n l (omega arith)) in
      (rw (drop_of_length-le (take n l) e) (sym (take-append-drop (suc n) l)), h, le_refl n)

  -- a turn
  pub open_next : (l : List A) (n p : ℕ) (row : List A) (i : ℕ) (d : A) → p < i → n < length l → Opened l n p row i
      → Opened l n p (set row i (get_or row (i - 1) d)) (i - 1)
  open_next l n p row zero d h k (e, lo, hi) = absurd (omega arith)
  open_next l n p row (suc i) d h k (e, lo, hi) =
      (rw (sub-one, e) (gap_step l n i d hi k), omega arith, omega arith)

  -- the store at place p that ends it
  pub open_end : (size : ℕ) (z : A) (key : A → ℕ) (a : A) (l : List A) (n p : ℕ) (row : List A) (i : ℕ) → n < size
      → l ≡ filled size z (take n l) → p ≡ place_by (λ x. ltb (key a) (key x)) (take n l) → i ≤ p → Opened l n p row i
      → set row p a ≡ filled size z (insert_by key a (take n l))
  unfolding filled
  open_end size z key a l n p row i h free at stop (e, lo, hi) =
      let here : i ≡ p = omega arith in
      let long = filled_long size z l n free (omega arith) in
      let held = length-take-le n l (omega arith) in
      let count : suc n ≡ length (insert_by key a (take n l)) = omega (arith, length_insert_by key a (take n l)) in
      rw (e, here, gap_set l n p a (omega arith), free_rest size z l n (suc n) free (omega arith), count)
      (rw (← take-take p n l (omega arith), insert_at_place key a (take n l) p at) (simp append_assoc))

  -- ---- one less: from place p up to the last of the first n, what stands behind place i goes to place i

  pub length_without : (k : ℕ) (xs : List A) → k < length xs → length (without k xs) ≡ length xs - 1
  unfolding without
  length_without k xs h = simp (length-append, length-take, length-drop) (omega arith)

  -- the first i + 1 of l without the one at place p, and l from i on
  pub seam : List A → ℕ → ℕ → List A
  seam l p i = without p (take (suc i) l) ++ drop i l

  -- the loop that closes l over its place p has come up to place i
  abbrev pub Closed : List A → ℕ → ℕ → List A → ℕ → Type 0
  Closed l n p row i = (row ≡ seam l p i) × (p ≤ i) × (i ≤ n - 1)

  seam_front : (l : List A) (p i : ℕ) → p ≤ i → i < length l → length (without p (take (suc i) l)) ≡ i
  seam_front l p i h k =
      let e = length-take-le (suc i) l k in
      omega (arith, length_without p (take (suc i) l) (omega arith))

  seam_set : (l : List A) (p i : ℕ) (x : A) → p ≤ i → i < length l
      → set (seam l p i) i x ≡ without p (take (suc i) l) ++ x ∷ drop (suc i) l
  unfolding seam
  seam_set l p i x h k = rw (drop-cons l i x k, set_at _ _ _ _ i (seam_front l p i h k))

  seam_read : (l : List A) (p i : ℕ) (d : A) → p ≤ i → i < length l → get_or (seam l p i) (i + 1) d ≡ get_or l (i + 1) d
  unfolding seam
  seam_read l p i d h k =
      ap (λ (j : ℕ). get_or (seam l p i) (j + 1) d) (sym (seam_front l p i h k))
      ∙ get_or-append-add (without p (take (suc i) l)) (drop i l) 1 d
      ∙ get_or-drop i l 1 d

  without_more : (l : List A) (p i : ℕ) (d : A) → p ≤ i → suc i < length l
      → without p (take (suc (suc i)) l) ≡ without p (take (suc i) l) ++ (get_or l (suc i) d ∷ [])
  unfolding without
  without_more l p i d h k =
      let e = length-take-le (suc i) l (omega arith) in
      rw (
        take-suc l (suc i) d k,
        drop-append-le (suc p) (take (suc i) l) _ (omega arith),
        take-append-le p (take (suc i) l) _ (omega arith),
      ) (simp append_assoc)

  seam_step : (l : List A) (p i : ℕ) (d : A) → p ≤ i → i + 1 < length l
      → set (seam l p i) i (get_or (seam l p i) (i + 1) d) ≡ seam l p (i + 1)
  unfolding seam
  seam_step l p i d h k =
      rw (seam_read l p i d h (omega arith), seam_set l p i (get_or l (i + 1) d) h (omega arith), add-one i)
      (rw (without_more l p i d h (omega arith)) (simp append_assoc))

  pub close_start : (l : List A) (n p : ℕ) → p < n → n ≤ length l → Closed l n p l p
  unfolding seam without
  close_start l n p h k =
      let e : length (take (suc p) l) ≤ suc p = omega (arith, length-take-le (suc p) l (omega arith)) in (
        rw (drop_of_length-le (take (suc p) l) e, append-nil, take-take p (suc p) l (omega arith))
            (sym (take-append-drop p l)),
        le_refl p,
        omega arith,
      )

  -- a turn
  pub close_next : (l : List A) (n p : ℕ) (row : List A) (i : ℕ) (d : A) → i < n - 1 → n ≤ length l
      → Closed l n p row i → Closed l n p (set row i (get_or row (i + 1) d)) (i + 1)
  close_next l n p row i d h k (e, lo, hi) = (rw e (seam_step l p i d lo (omega arith)), omega arith, omega arith)

  -- the store at the last place that ends it
  pub close_end : (size : ℕ) (z : A) (l : List A) (n p : ℕ) (row : List A) (i : ℕ) → p < n → n ≤ size
      → l ≡ filled size z (take n l) → n - 1 ≤ i → Closed l n p row i
      → set row (n - 1) z ≡ filled size z (without p (take n l))
  unfolding filled
  close_end size z l zero p row i h k free stop c = absurd (omega arith)
  close_end size z l (suc n) p row i h k free stop (e, lo, hi) =
      let here : i ≡ suc n - 1 = omega arith in
      let long = filled_long size z l (suc n) free k in
      let count : suc (size - suc n) ≡ size - length (without p (take (suc n) l)) =
      omega (arith, seam_front l p n (omega arith) (omega arith)) in
      rw (e, here, sub-one, seam_set l p n z (omega arith) (omega arith))
      (rw (free_rest size z l (suc n) (suc n) free (le_refl (suc n)))
      (ap (λ (j : ℕ). without p (take (suc n) l) ++ replicate j z) count))
