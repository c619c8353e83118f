-- What a row of checks answers: a refusal where its check is the first that fails, and acceptance where none fails.
-- Assumes nothing.
use mathlib.Core.Path.{◌≡◌, refl, sym, ap, ◌∙◌}
use mathlib.Core.Logic.Iff
use mathlib.Core.Logic.{◌↔◌, ◌⊎◌, inl, inr, ⊎_elim, ◌≢◌}
use mathlib.Core.Bool.{Bool, true, false, not, cond}
use mathlib.Core.List.Memᴰ
use mathlib.Core.List.{List, [], ◌∷◌, map}
use Prim.Native.Nat.{ℕ, ◌≤◌, ◌<◌}
use native.Mathlib.Omega.{arith}
use lib.Dec.{leb, ltb, eqb}
use borrow.Author.Tests.{leb-true, leb-false, ltb-true, ltb-false, eqb-true, eqb-false, eq-eqb, ne_eqb, le-leb}
use borrow.Author.Tests.{lt-leb, lt-ltb, le-ltb, not-true, not-false}
use Rattle.laws.specs.Lists.{any, Mem}
use Rattle.laws.proofs.Lists.{any_false}
use Rattle.meaning.specs.declared.Port.{Port}
use Rattle.meaning.specs.declared.Slot.{Slot}
use Rattle.meaning.specs.declared.Stream.{Stream}
use Rattle.meaning.specs.declared.Refusal.{Refusal}
use Rattle.meaning.specs.declared.Refusal.TheVariants.{OutOfTurn}
use Rattle.meaning.specs.Refusals.{number_of, Answer, accepted, refused, Check, ◌⇒◌, unless}
use Rattle.meaning.specs.Desks.{Desk, bare, opened}

-- ---- what a test tells

-- the test holds exactly where P does, and fails exactly where Q does
pub record Tells (b : Bool) (P Q : Type 0) : Type 0 where
  pub where_true : b ≡ true ↔ P
  pub where_false : b ≡ false ↔ Q

pub tells_itself : (b : Bool) → Tells b (b ≡ true) (b ≡ false)
tells_itself b = record { where_true = Iff.rfl; where_false = Iff.rfl }

pub tells_not : (b : Bool) → Tells (not b) (b ≡ false) (b ≡ true)
tells_not b = record { where_true = (not-true b, ap not); where_false = (not-false b, ap not) }

pub tells_leb : (m n : ℕ) → Tells (leb m n) (m ≤ n) (n < m)
tells_leb m n = record { where_true = (leb-true m n, le-leb m n); where_false = (leb-false m n, lt-leb m n) }

pub tells_ltb : (m n : ℕ) → Tells (ltb m n) (m < n) (n ≤ m)
tells_ltb m n = record { where_true = (ltb-true m n, lt-ltb m n); where_false = (ltb-false m n, le-ltb m n) }

pub tells_other : (m n : ℕ) → Tells (not (eqb m n)) (m ≢ n) (m ≡ n)
tells_other m n =
    record {
      where_true = (λ e. eqb-false m n (not-true _ e), λ h. ap not (ne_eqb m n h));
      where_false = (λ e. eqb-true m n (not-false _ e), λ h. ap not (eq-eqb m n h));
    }

-- ---- answers told apart

-- 0 for an accepted call, the number of a refused one
abbrev pub number_in : {A : Type 0} → Answer A → ℕ
number_in (accepted a) = 0
number_in (refused r) = number_of r

-- answers with two numbers are not the same; `refl` where both numbers are written out
pub numbers_differ : {A : Type 0} {x y : Answer A} → eqb (number_in x) (number_in y) ≡ false → ¬ (x ≡ y)
numbers_differ d e = eqb-false _ _ d (ap number_in e)

pub refusals_differ : {r s : Refusal} → eqb (number_of r) (number_of s) ≡ false → ¬ (r ≡ s)
refusals_differ d e = eqb-false _ _ d (ap number_of e)

module _ {A : Type 0} where
  pub accepted≢refused : {a : A} {r : Refusal} → ¬ ◌≡◌ {A = Answer A} (accepted a) (refused r)
  accepted≢refused e = let z : ◌≡◌ {A = ℕ} 0 1 = cc in omega arith

  pub accepted_is : {a b : A} → ◌≡◌ {A = Answer A} (accepted a) (accepted b) ↔ (b ≡ a)
  accepted_is = (λ e. cc, λ e. ap {B = Answer A} accepted (sym e))

-- a number that is told apart from each of some numbers is not one of them
pub not_among : (n : ℕ) (ns : List ℕ) → any (eqb n) ns ≡ false → ¬ Mem n ns
not_among n ns d m = eqb-false n n ((any_false (eqb n) ns).0 d n m) refl

-- ---- a row of checks

-- the row of checks cs before a answers x exactly where X holds
pub record Answers {A : Type 0} (cs : List Check) (a : A) (x : Answer A) (X : Type 0) : Type 0 where
  pub exactly : unless cs a ≡ x ↔ X

module _ {A : Type 0} where
  -- a row refuses with the number of one of its checks
  pub one_of_these : (cs : List Check) (a : A) (r : Refusal) → unless cs a ≡ refused r
      → Mem (number_of r) (map (λ c. number_of c.answers) cs)
  unfolding unless
  one_of_these [] a r e = absurd (accepted≢refused e)
  one_of_these (c ∷ cs) a r e = go c.fails (one_of_these cs a r) e
    where
      go : (b : Bool) → (unless cs a ≡ refused r → Mem (number_of r) (map (λ c. number_of c.answers) cs))
          → cond b (refused c.answers) (unless cs a) ≡ refused r
          → Mem (number_of r) (map (λ c. number_of c.answers) (c ∷ cs))
      go true ih e = Memᴰ.head (sym (ap number_in e))
      go false ih e = Memᴰ.tail (ih e)

  -- a number that no check of the row has is not answered
  pub none_of_these : (cs : List Check) (a : A) (r : Refusal)
      → any (eqb (number_of r)) (map (λ c. number_of c.answers) cs) ≡ false → ¬ (unless cs a ≡ refused r)
  none_of_these cs a r d e = not_among (number_of r) _ d (one_of_these cs a r e)

  module _ {b : Bool} {P Q : Type 0} {r : Refusal} {cs : List Check} {a : A} where
    -- the row stops at its first check
    pub stops : Tells b P Q → any (eqb (number_of r)) (map (λ c. number_of c.answers) cs) ≡ false
        → Answers (b ⇒ r ∷ cs) a (refused r) P
    unfolding unless
    stops t d = record { exactly = (go b refl, λ h. rw (t.where_true.1 h)) }
      where
        go : (c : Bool) → b ≡ c → cond c (refused r) (unless cs a) ≡ refused r → P
        go true f e = t.where_true.0 f
        go false f e = absurd (none_of_these cs a r d e)

    -- the row passes its first check, on the way to another answer
    pub passes : {x : Answer A} {X : Type 0} → Tells b P Q → eqb (number_of r) (number_in x) ≡ false → Answers cs a x X
        → Answers (b ⇒ r ∷ cs) a x (Q × X)
    unfolding unless
    passes {x} {X} t d rest =
        record { exactly = (go b refl, λ (q, h). rw (t.where_false.1 q) (rest.exactly.1 h)) }
      where
        go : (c : Bool) → b ≡ c → cond c (refused r) (unless cs a) ≡ x → Q × X
        go true f e = absurd (numbers_differ {x = refused r} d e)
        go false f e = (t.where_false.0 f, rest.exactly.0 e)

    -- a row that has the number of its first check once more
    pub stops_or_passes : {X : Type 0} → Tells b P Q → Answers cs a (refused r) X
        → Answers (b ⇒ r ∷ cs) a (refused r) (P ⊎ (Q × X))
    unfolding unless
    stops_or_passes {X} t rest =
        record {
          exactly = (
            go b refl,
            ⊎_elim (λ h. rw (t.where_true.1 h)) (λ (q, h). rw (t.where_false.1 q) (rest.exactly.1 h)),
          );
        }
      where
        go : (c : Bool) → b ≡ c → cond c (refused r) (unless cs a) ≡ refused r → P ⊎ (Q × X)
        go true f e = inl (t.where_true.0 f)
        go false f e = inr (t.where_false.0 f, rest.exactly.0 e)

  -- the row is passed
  pub passed : {a e : A} → Answers [] a (accepted e) (e ≡ a)
  unfolding unless
  passed = record { exactly = accepted_is }

  -- one condition after the other, laid flat
  module _ {cs : List Check} {a : A} {x : Answer A} {P Q R : Type 0} where
    pub flat₃ : Answers cs a x (P × (Q × R)) → unless cs a ≡ x ↔ (P × Q × R)
    flat₃ w = (λ e. let (p, (q, r)) = w.exactly.0 e in (p, q, r), λ (p, q, r). w.exactly.1 (p, (q, r)))

    pub flat₄ : {S : Type 0} → Answers cs a x (P × (Q × (R × S))) → unless cs a ≡ x ↔ (P × Q × R × S)
    flat₄ w = (
      λ e. let (p, (q, (r, s))) = w.exactly.0 e in (p, q, r, s),
      λ (p, q, r, s). w.exactly.1 (p, (q, (r, s))),
    )

    pub flat₅ : {S T : Type 0} → Answers cs a x (P × (Q × (R × (S × T)))) → unless cs a ≡ x ↔ (P × Q × R × S × T)
    flat₅ w = (
      λ e. let (p, (q, (r, (s, t)))) = w.exactly.0 e in (p, q, r, s, t),
      λ (p, q, r, s, t). w.exactly.1 (p, (q, (r, (s, t)))),
    )

-- ---- a call and the desk's turn

module _ {A : Type 0} (call : Desk → Answer A) where
  -- a call that is out of turn on a bare desk, and never on an open one
  pub turned_away : call bare ≡ refused OutOfTurn
      → ((p : Port) (ss : List Slot) (js : List Stream) → ¬ (call (opened p ss js) ≡ refused OutOfTurn))
      → (d : Desk) → call d ≡ refused OutOfTurn ↔ (d ≡ bare)
  turned_away t n bare = (λ e. refl, λ e. t)
  turned_away t n (opened p ss js) = (λ e. absurd (n p ss js e), λ e. ap call e ∙ t)
