-- Lists: where a member stands, what is kept, folded and joined, lists that rise, and their last.
-- Assumes nothing.
use mathlib.Core.Path.{◌≡◌, refl, sym, ap, ◌∙◌}
use mathlib.Core.Logic.{◌↔◌, ◌⊎◌, inl, inr, ⊎_elim, by_cases}
use mathlib.Core.Bool.{Bool, true, false, cond, false≢true}
use mathlib.Core.List.Memᴰ
use mathlib.Core.List.{List, [], ◌∷◌, ◌++◌, foldr, get_last_d}
use Prim.Native.Nat.{ℕ, suc, ◌+◌, ◌≤◌, ◌<◌, zero-le}
use native.Mathlib.Decide.{ℕ_discrete}
use native.Mathlib.Omega.{arith}
use lib.ListN.{length}
use Rattle.laws.specs.Lists.{keep, total, Mem, RisingBy}
use Rattle.laws.proofs.Lists.{mem_head, mem_none, largest_ge, largest_met}

module _ {A : Type 0} where
  -- ---- membership

  -- a member of x ∷ xs is x, or stands in xs
  pub in_cons : {B : Type 0} {x a : A} {xs : List A} → Mem x (a ∷ xs) → (x ≡ a → B) → (Mem x xs → B) → B
  in_cons m here later = ⊎_elim here later (Memᴰ.cases_cons m)

  -- a member of xs ++ ys stands in xs or in ys
  pub in_append : {B : Type 0} {x : A} (xs : List A) {ys : List A} → Mem x (xs ++ ys)
      → (Mem x xs → B) → (Mem x ys → B) → B
  in_append xs m left right = ⊎_elim left right (Memᴰ.append_cases xs m)

  pub mem_swap : (xs ys : List A) {x : A} → Mem x (xs ++ ys) → Mem x (ys ++ xs)
  mem_swap xs ys m = in_append xs m (λ k. Memᴰ.append_right ys k) (λ k. Memᴰ.append_left xs k)

  pub mem_length : (xs : List A) (x : A) → Mem x xs → 1 ≤ length xs
  mem_length [] x m = mem_none m
  mem_length (y ∷ xs) x m = omega arith

  pub no_members : (xs : List A) → ((x : A) → ¬ Mem x xs) → xs ≡ []
  no_members [] h = refl
  no_members (x ∷ xs) h = absurd (h x (mem_head x xs))

  -- where put takes one in and loses none, the list that it makes of xs has the members of xs
  pub foldr_mem : (put : A → List A → List A)
      → ((a x : A) (xs : List A) → Mem x (put a xs) ↔ ((x ≡ a) ⊎ Mem x xs))
      → (xs : List A) (x : A) → Mem x (foldr put [] xs) ↔ Mem x xs
  foldr_mem put h [] x = (λ m. m, λ m. m)
  foldr_mem put h (a ∷ xs) x =
      let ih = foldr_mem put h xs x in
      let one = h a x (foldr put [] xs) in (
        λ m. ⊎_elim (λ e. Memᴰ.head e) (λ k. Memᴰ.tail (ih.0 k)) (one.0 m),
        λ m. one.1 (in_cons m (λ e. inl e) (λ k. inr (ih.1 k))),
      )

  -- ---- keep

  pub keep_mem : (p : A → Bool) (xs : List A) (x : A) → Mem x (keep p xs) ↔ (Mem x xs × (p x ≡ true))
  unfolding keep
  keep_mem p [] x = (λ m. mem_none m, λ h. h.0)
  keep_mem p (a ∷ xs) x = go (keep_mem p xs x) (p a) refl
    where
      go : Mem x (keep p xs) ↔ (Mem x xs × (p x ≡ true)) → (b : Bool) → p a ≡ b
          → Mem x (cond b (a ∷ keep p xs) (keep p xs)) ↔ (Mem x (a ∷ xs) × (p x ≡ true))
      go ih true e = (
        λ m. in_cons m (λ f. (Memᴰ.head f, ap p f ∙ e)) (λ k. let (i, q) = ih.0 k in (Memᴰ.tail i, q)),
        λ (m, q). in_cons m (λ f. Memᴰ.head f) (λ k. Memᴰ.tail (ih.1 (k, q))),
      )
      go ih false e = (
        λ m. let (i, q) = ih.0 m in (Memᴰ.tail i, q),
        λ (m, q). in_cons m (λ f. absurd (false≢true (sym e ∙ ap p (sym f) ∙ q))) (λ k. ih.1 (k, q)),
      )

  pub keep_append : (p : A → Bool) (xs ys : List A) → keep p (xs ++ ys) ≡ keep p xs ++ keep p ys
  unfolding keep
  keep_append p [] ys = refl
  keep_append p (x ∷ xs) ys = rw (keep_append p xs ys) (go (keep p xs) (keep p ys) (p x))
    where
      go : (us vs : List A) (b : Bool) → cond b (x ∷ (us ++ vs)) (us ++ vs) ≡ cond b (x ∷ us) us ++ vs
      go us vs true = refl
      go us vs false = refl

  pub keep_shorter : (p : A → Bool) (xs : List A) → length (keep p xs) ≤ length xs
  unfolding keep
  keep_shorter p [] = zero-le
  keep_shorter p (x ∷ xs) = go (keep_shorter p xs) (p x)
    where
      go : length (keep p xs) ≤ length xs → (b : Bool) → length (cond b (x ∷ keep p xs) (keep p xs)) ≤ suc (length xs)
      go ih true = omega arith
      go ih false = omega arith

  -- of those that pass a test, one with the largest f
  pub largest_passing : (p : A → Bool) (f : A → ℕ) (xs : List A) (x : A) → Mem x xs → p x ≡ true
      → (y : A) × Mem y xs × (p y ≡ true) × ((z : A) → Mem z xs → p z ≡ true → f z ≤ f y)
  largest_passing p f xs x m e =
      let (y, my, top) = go (keep p xs) ((keep_mem p xs x).1 (m, e)) in
      let (k, py) = (keep_mem p xs y).0 my in
      (y, k, py, λ z mz pz. top z ((keep_mem p xs z).1 (mz, pz)))
    where
      go : (ys : List A) → Mem x ys → (y : A) × Mem y ys × ((z : A) → Mem z ys → f z ≤ f y)
      go [] k = mem_none k
      go (a ∷ ys) k =
          let (y, my, ey) = largest_met f a ys in
          (y, my, λ z mz. omega (arith, largest_ge f (a ∷ ys) z mz))

  -- ---- total

  -- a total is 0, or some one adds to it
  pub total_some : (f : A → ℕ) (xs : List A) → (total f xs ≡ 0) ⊎ ((x : A) × Mem x xs × (0 < f x))
  unfolding total
  total_some f [] = inl refl
  total_some f (x ∷ xs) =
      by_cases (ℕ_discrete (f x) 0) (λ e. later e (total_some f xs)) (λ e. inr (x, mem_head x xs, omega arith))
    where
      later : f x ≡ 0 → (total f xs ≡ 0) ⊎ ((y : A) × Mem y xs × (0 < f y))
          → (f x + total f xs ≡ 0) ⊎ ((y : A) × Mem y (x ∷ xs) × (0 < f y))
      later e (inl z) = inl (omega arith)
      later e (inr (y, m, h)) = inr (y, Memᴰ.tail m, h)

  -- ---- rising keys

  -- what rises by f rises by g, where the one with the smaller f has the smaller g
  pub rising_key : (f g : A → ℕ) (xs : List A) → RisingBy f xs
      → ((x y : A) → Mem x xs → Mem y xs → f x < f y → g x < g y) → RisingBy g xs
  rising_key f g [] r h = tt
  rising_key f g (x ∷ xs) r h = (
    λ y m. h x y (mem_head x xs) (Memᴰ.tail m) (r.0 y m),
    rising_key f g xs r.1 (λ a b i j. h a b (Memᴰ.tail i) (Memᴰ.tail j)),
  )

  pub rising_append : (key : A → ℕ) (xs ys : List A) → RisingBy key xs → RisingBy key ys
      → ((x y : A) → Mem x xs → Mem y ys → key x < key y) → RisingBy key (xs ++ ys)
  rising_append key [] ys r s h = s
  rising_append key (x ∷ xs) ys r s h = (
    λ y m. in_append xs m (λ k. r.0 y k) (λ k. h x y (mem_head x xs) k),
    rising_append key xs ys r.1 s (λ a b i j. h a b (Memᴰ.tail i) j),
  )

  pub rising_parts : (key : A → ℕ) (xs ys : List A) → RisingBy key (xs ++ ys)
      → RisingBy key xs × RisingBy key ys × ((x y : A) → Mem x xs → Mem y ys → key x < key y)
  rising_parts key [] ys r = (tt, r, λ x y i j. mem_none i)
  rising_parts key (x ∷ xs) ys r =
      let (a, b, c) = rising_parts key xs ys r.1 in (
        (λ y m. r.0 y (Memᴰ.append_left ys m), a),
        b,
        λ u v i j. in_cons i (λ e. omega (arith, r.0 v (Memᴰ.append_right xs j), ap key e)) (λ k. c u v k j),
      )

  -- two of a list that rises by two keys are one, or one has the smaller of both keys
  pub rising_compare : (f g : A → ℕ) (xs : List A) → RisingBy f xs → RisingBy g xs → (x y : A) → Mem x xs → Mem y xs
      → (x ≡ y) ⊎ (((f x < f y) × (g x < g y)) ⊎ ((f y < f x) × (g y < g x)))
  rising_compare f g [] r s x y mx my = mem_none mx
  rising_compare f g (z ∷ zs) r s x y mx my =
      in_cons mx
      (λ e. in_cons my (λ d. inl (e ∙ sym d))
      (λ j. inr (inl (omega (arith, ap f e, r.0 y j), omega (arith, ap g e, s.0 y j)))))
      (λ k. in_cons my (λ d. inr (inr (omega (arith, ap f d, r.0 x k), omega (arith, ap g d, s.0 x k))))
      (λ j. rising_compare f g zs r.1 s.1 x y k j))

  -- all others of a list, where one stands in it
  without : (x : A) (ys : List A) → Mem x ys
      → (zs : List A) × (length ys ≡ suc (length zs)) × ((z : A) → Mem z ys → (z ≡ x) ⊎ Mem z zs)
  without x [] m = mem_none m
  without x (y ∷ ys) m = in_cons m here (λ k. later (without x ys k))
    where
      here : x ≡ y
          → (zs : List A) × (suc (length ys) ≡ suc (length zs)) × ((z : A) → Mem z (y ∷ ys) → (z ≡ x) ⊎ Mem z zs)
      here e = (ys, refl, λ z k. in_cons k (λ f. inl (f ∙ sym e)) (λ j. inr j))

      later : (zs : List A) × (length ys ≡ suc (length zs)) × ((z : A) → Mem z ys → (z ≡ x) ⊎ Mem z zs)
          → (zs : List A) × (suc (length ys) ≡ suc (length zs)) × ((z : A) → Mem z (y ∷ ys) → (z ≡ x) ⊎ Mem z zs)
      later (zs, e, h) = (
        y ∷ zs,
        ap suc e,
        λ z k. in_cons k (λ f. inr (Memᴰ.head f)) (λ j. ⊎_elim (λ f. inl f) (λ i. inr (Memᴰ.tail i)) (h z j)),
      )

  -- a list that rises is no longer than one that has all its members
  pub rising_shorter : (key : A → ℕ) (xs ys : List A) → RisingBy key xs → ((x : A) → Mem x xs → Mem x ys)
      → length xs ≤ length ys
  rising_shorter key [] ys r h = zero-le
  rising_shorter key (x ∷ xs) ys r h =
      let (zs, e, k) = without x ys (h x (mem_head x xs)) in
      omega (arith, rising_shorter key xs zs r.1 (λ z m. other z m (k z (h z (Memᴰ.tail m)))))
    where
      other : {zs : List A} (z : A) → Mem z xs → (z ≡ x) ⊎ Mem z zs → Mem z zs
      other z m (inl e) = absurd (omega (arith, r.0 z m, ap key e))
      other z m (inr k) = k

  -- the last of a list stands in it, and where the list rises it has the largest key
  pub last_mem : (x : A) (xs : List A) (d : A) → Mem (get_last_d (x ∷ xs) d) (x ∷ xs)
  unfolding get_last_d
  last_mem x [] d = mem_head x []
  last_mem x (y ∷ xs) d = Memᴰ.tail (last_mem y xs d)

  pub last_largest : (key : A → ℕ) (xs : List A) (x d : A) → RisingBy key xs → Mem x xs → key x ≤ key (get_last_d xs d)
  unfolding get_last_d
  last_largest key [] x d r m = mem_none m
  last_largest key (a ∷ []) x d r m = in_cons m (λ e. omega (arith, ap key e)) (λ k. mem_none k)
  last_largest key (a ∷ b ∷ xs) x d r m =
      let top = last_largest key (b ∷ xs) b d r.1 (mem_head b xs) in
      in_cons m (λ e. omega (arith, ap key e, r.0 b (mem_head b xs))) (λ k. last_largest key (b ∷ xs) x d r.1 k)

-- ---- joined
