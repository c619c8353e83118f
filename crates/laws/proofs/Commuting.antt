-- Lists edited by key: one more in its place, or the one with a key less. Which edits may come in either order.
-- Assumes nothing.
use mathlib.Core.Path.{◌≡◌, refl, sym, ap, subst, ◌∙◌}
use mathlib.Core.Logic.{by_cases}
use mathlib.Core.Bool.{Bool, true, false, not, cond, ◌||◌, false≢true, or-true}
use mathlib.Core.List.{List, [], ◌∷◌}
use Prim.Native.Nat.{ℕ, ◌<◌}
use native.Mathlib.Decide.{dec_lt}
use native.Mathlib.Omega.{arith}
use lib.Dec.{ltb, eqb}
use borrow.Author.Tests.{lt-ltb, le-ltb, eqb-true, eqb-false, eq-eqb, ne_eqb, not-true}
use Rattle.laws.specs.Lists.{keep, any, insert_by, Mem, RisingBy}
use Rattle.laws.proofs.Lists.{mem_head, any_true, any_false}
use Rattle.laws.proofs.Keeping.{keep_mem}
use Rattle.laws.proofs.Without.{keep_all}

-- by the two values of a test
by_test : {B : Type 0} (b : Bool) → (b ≡ true → B) → (b ≡ false → B) → B
by_test true t f = t refl
by_test false t f = f refl

module _ {A : Type 0} where
  -- ---- two in their places

  -- two in front of the same rest
  two_first : (key : A → ℕ) (a b : A) (zs : List A) → ¬ (key a ≡ key b)
      → cond (ltb (key a) (key b)) (a ∷ b ∷ zs) (b ∷ a ∷ zs) ≡ cond (ltb (key b) (key a)) (b ∷ a ∷ zs) (a ∷ b ∷ zs)
  two_first key a b zs h =
      by_cases (dec_lt (key a) (key b))
      (λ l. rw (lt-ltb (key a) (key b) l, le-ltb (key b) (key a) (omega arith)))
      (λ l. rw (le-ltb (key a) (key b) (omega arith), lt-ltb (key b) (key a) (omega arith)))

  -- in either order, where their keys differ
  pub insert_twice : (key : A → ℕ) (a b : A) (xs : List A) → ¬ (key a ≡ key b)
      → insert_by key a (insert_by key b xs) ≡ insert_by key b (insert_by key a xs)
  unfolding insert_by
  insert_twice key a b [] h = two_first key a b [] h
  insert_twice key a b (x ∷ xs) h =
      by_cases (dec_lt (key a) (key x))
      (λ l. by_cases (dec_lt (key b) (key x))
      (λ m. simp (lt-ltb (key a) (key x) l, lt-ltb (key b) (key x) m) (two_first key a b (x ∷ xs) h))
      (λ m. simp (
        lt-ltb (key a) (key x) l,
        le-ltb (key b) (key x) (omega arith),
        le-ltb (key b) (key a) (omega arith),
      )))
      (λ l. by_cases (dec_lt (key b) (key x))
      (λ m. simp (
        le-ltb (key a) (key x) (omega arith),
        lt-ltb (key b) (key x) m,
        le-ltb (key a) (key b) (omega arith),
      ))
      (λ m. simp (le-ltb (key a) (key x) (omega arith), le-ltb (key b) (key x) (omega arith))
      (ap {B = List A} (λ l. x ∷ l) (insert_twice key a b xs h))))

  -- one with a smaller key than all goes in front
  pub insert_first : (key : A → ℕ) (a : A) (xs : List A) → ((x : A) → Mem x xs → key a < key x)
      → insert_by key a xs ≡ a ∷ xs
  unfolding insert_by
  insert_first key a [] h = refl
  insert_first key a (x ∷ xs) h = rw (lt-ltb (key a) (key x) (h x (mem_head x xs)))

  -- ---- one in its place, and a test that keeps

  -- one that fails the test leaves no trace
  pub keep_insert_out : (key : A → ℕ) (p : A → Bool) (a : A) (xs : List A) → p a ≡ false
      → keep p (insert_by key a xs) ≡ keep p xs
  unfolding keep insert_by
  keep_insert_out key p a [] e = rw e
  keep_insert_out key p a (x ∷ xs) e =
      by_cases (dec_lt (key a) (key x))
      (λ l. rw (lt-ltb (key a) (key x) l, e))
      (λ l. rw (le-ltb (key a) (key x) (omega arith), keep_insert_out key p a xs e))

  -- one that passes it goes to its place before or after
  pub keep_insert_in : (key : A → ℕ) (p : A → Bool) (a : A) (xs : List A) → RisingBy key xs → p a ≡ true
      → keep p (insert_by key a xs) ≡ insert_by key a (keep p xs)
  unfolding keep insert_by
  keep_insert_in key p a [] r e = rw e
  keep_insert_in key p a (x ∷ xs) r e =
      let ih = keep_insert_in key p a xs r.1 e in
      by_cases (dec_lt (key a) (key x))
      (λ l. by_test (p x)
      (λ t. simp (lt-ltb (key a) (key x) l, e, t))
      (λ t. simp (lt-ltb (key a) (key x) l, e, t)
      (sym (insert_first key a (keep p xs) (λ y m. omega (arith, r.0 y ((keep_mem p xs y).0 m).0))))))
      (λ l. by_test (p x)
      (λ t. simp (le-ltb (key a) (key x) (omega arith), t) (ap {B = List A} (λ l. x ∷ l) ih))
      (λ t. simp (le-ltb (key a) (key x) (omega arith), t) ih))

  pub keep_twice : (p q : A → Bool) (xs : List A) → keep p (keep q xs) ≡ keep q (keep p xs)
  unfolding keep
  keep_twice p q [] = refl
  keep_twice p q (x ∷ xs) =
      let ih = keep_twice p q xs in
      by_test (p x)
      (λ s. by_test (q x) (λ t. simp (s, t) (ap {B = List A} (λ l. x ∷ l) ih)) (λ t. simp (s, t) ih))
      (λ s. by_test (q x) (λ t. simp (s, t) ih) (λ t. simp (s, t) ih))

  -- ---- some one passes a test

  pub any_insert : (key : A → ℕ) (p : A → Bool) (a : A) (xs : List A) → any p (insert_by key a xs) ≡ (p a || any p xs)
  unfolding any insert_by
  any_insert key p a [] = refl
  any_insert key p a (x ∷ xs) =
      by_cases (dec_lt (key a) (key x))
      (λ l. rw (lt-ltb (key a) (key x) l))
      (λ l. rw (le-ltb (key a) (key x) (omega arith), any_insert key p a xs) (swapped (p x) (p a) (any p xs)))
    where
      swapped : (s t u : Bool) → (s || (t || u)) ≡ (t || (s || u))
      swapped true true u = refl
      swapped true false u = refl
      swapped false t u = refl

  -- what is left out does not pass, so that nothing is lost
  pub any_keep : (p q : A → Bool) (xs : List A) → ((x : A) → p x ≡ true → q x ≡ true) → any p (keep q xs) ≡ any p xs
  unfolding any keep
  any_keep p q [] h = refl
  any_keep p q (x ∷ xs) h =
      let ih = any_keep p q xs h in
      by_test (p x)
      (λ s. simp (h x s, s))
      (λ s. by_test (q x) (λ t. simp (s, t) ih) (λ t. simp (s, t) ih))

-- ---- edits by key

-- one more, or the one with this key less
pub data ByKey (A : Type 0) : Type 0 where
  adding : A → ByKey A
  removing : ℕ → ByKey A

module _ {A : Type 0} (key : A → ℕ) where
  -- what an edit makes of a list
  abbrev pub edit : ByKey A → List A → List A
  edit (adding a) xs = insert_by key a xs
  edit (removing k) xs = keep (λ x. not (eqb (key x) k)) xs

  -- where it may be made: what is removed must be held
  abbrev pub Allowed : (A → List A → Type 0) → ByKey A → List A → Type 0
  Allowed may (adding a) xs = may a xs
  Allowed may (removing k) xs = any (λ x. eqb (key x) k) xs ≡ true

  -- where the first is made, the second could be made before it: not where it removes what the first added, and of an
  -- addition behind a removal nothing is known
  abbrev pub Apart : ByKey A → ByKey A → Type 0
  Apart (adding a) (adding b) = Unit {0}
  Apart (adding a) (removing k) = ¬ (k ≡ key a)
  Apart (removing k) (adding a) = ⊥
  Apart (removing k) (removing l) = Unit {0}

  -- what lists are good, and what may be added to them
  pub record Rules (good : List A → Type 0) (may : A → List A → Type 0) : Type 0 where
    pub rises : (xs : List A) → good xs → RisingBy key xs
    pub fresh : (a : A) (xs : List A) → good xs → may a xs → any (λ x. eqb (key x) (key a)) xs ≡ false
    pub grows : (a : A) (xs : List A) → good xs → may a xs → good (insert_by key a xs)
    pub fewer : (a : A) (q : A → Bool) (xs : List A) → may a xs → may a (keep q xs)
    pub either_first : (a b : A) (xs : List A) → good xs → may a xs → may b (insert_by key a xs)
        → insert_by key b (insert_by key a xs) ≡ insert_by key a (insert_by key b xs) → may a (insert_by key b xs)

  -- what is added is held
  pub added_held : (a : A) (xs : List A) → any (λ x. eqb (key x) (key a)) (insert_by key a xs) ≡ true
  added_held a xs =
      any_insert key (λ x. eqb (key x) (key a)) a xs ∙ rw (eq-eqb (key a) (key a) refl)

  -- and its removal leaves the list as it was, where its key was not held
  pub added_removed : (a : A) (xs : List A) → any (λ x. eqb (key x) (key a)) xs ≡ false
      → edit (removing (key a)) (edit (adding a) xs) ≡ xs
  added_removed a xs f =
      let other : A → Bool = λ x. not (eqb (key x) (key a)) in
      keep_insert_out key other a xs (ap not (eq-eqb (key a) (key a) refl))
      ∙ keep_all other xs (λ x m. ap not ((any_false _ xs).0 f x m))

  -- what is held beside what is left out
  held_apart : (k l : ℕ) (xs : List A) → any (λ x. eqb (key x) l) (keep (λ x. not (eqb (key x) k)) xs) ≡ true
      → ¬ (k ≡ l)
  held_apart k l xs e q =
      let (x, m, t) = (any_true _ _).0 e in
      let (_, u) = (keep_mem (λ y. not (eqb (key y) k)) xs x).0 m in
      eqb-false (key x) k (not-true _ u) (eqb-true (key x) l t ∙ sym q)

  held_beside : (k l : ℕ) (xs : List A) → ¬ (k ≡ l)
      → any (λ x. eqb (key x) l) (keep (λ x. not (eqb (key x) k)) xs) ≡ any (λ x. eqb (key x) l) xs
  held_beside k l xs h =
      any_keep (λ x. eqb (key x) l) (λ x. not (eqb (key x) k)) xs
      (λ x t. ap not (ne_eqb (key x) k (λ q. h (sym q ∙ eqb-true (key x) l t))))

  module _ {good : List A → Type 0} {may : A → List A → Type 0} (rules : Rules good may) where
    -- a key that is held is not that of one that may be added
    held_other : (k : ℕ) (a : A) (xs : List A) → good xs → may a xs → any (λ x. eqb (key x) k) xs ≡ true
        → ¬ (k ≡ key a)
    held_other k a xs g m h q = false≢true (sym (rules.fresh a xs g m) ∙ rw q at h)

    -- two that may be added one after the other have two keys
    keys_differ : (a b : A) (xs : List A) → good xs → may a xs → may b (insert_by key a xs) → ¬ (key b ≡ key a)
    keys_differ a b xs g m n q =
        held_other (key a) b (insert_by key a xs) (rules.grows a xs g m) n (added_held a xs) (sym q)

    -- edits in the other order: where the second may be made first, the first may be made behind it, and both orders
    -- make the same list
    pub either_order : (a b : ByKey A) (xs : List A) → good xs → Allowed may a xs → Allowed may b (edit a xs)
        → Allowed may b xs → Allowed may a (edit b xs) × (edit b (edit a xs) ≡ edit a (edit b xs))
    either_order (adding a) (adding b) xs g m n o =
        let e = insert_twice key b a xs (keys_differ a b xs g m n) in
        (rules.either_first a b xs g m n e, e)
    either_order (adding a) (removing k) xs g m n o =
        let other = held_other k a xs g m o in (
          rules.fewer a _ xs m,
          keep_insert_in key _ a xs (rules.rises xs g) (ap not (ne_eqb (key a) k (λ q. other (sym q)))),
        )
    either_order (removing k) (adding a) xs g m n o =
        let other = held_other k a xs g o m in (
          any_insert key _ a xs ∙ rw m (or-true (eqb (key a) k)),
          sym (keep_insert_in key _ a xs (rules.rises xs g) (ap not (ne_eqb (key a) k (λ q. other (sym q))))),
        )
    either_order (removing k) (removing l) xs g m n o =
        let other = held_apart k l xs n in
        (held_beside l k xs (λ q. other (sym q)) ∙ m, keep_twice _ _ xs)

    -- the second may be made first, where the edits are apart
    pub second_first : (a b : ByKey A) (xs : List A) → good xs → Allowed may a xs → Allowed may b (edit a xs)
        → Apart a b → Allowed may b xs
    second_first (adding a) (adding b) xs g m n s =
        subst (may b) (added_removed a xs (rules.fresh a xs g m)) (rules.fewer b _ (insert_by key a xs) n)
    second_first (adding a) (removing k) xs g m n s =
        rw (ne_eqb (key a) k (λ q. s (sym q))) at (sym (any_insert key (λ x. eqb (key x) k) a xs) ∙ n)
    second_first (removing k) (adding a) xs g m n s = absurd s
    second_first (removing k) (removing l) xs g m n s = sym (held_beside k l xs (held_apart k l xs n)) ∙ n
