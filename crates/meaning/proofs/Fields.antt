-- One field: its length, reading what was written, writing what was read, and when the front of some octets is refused.
-- Assumes nothing.
use mathlib.Core.Path.{◌≡◌, refl, sym, ap, ◌∙◌}
use mathlib.Core.Logic.{◌↔◌, ◌⊎◌, inl, inr, ⊎_elim, by_cases, ◌≢◌}
use mathlib.Core.List.{List, [], ◌∷◌, ◌++◌}
use Prim.Native.Nat.{ℕ, zero, suc, ◌+◌, ◌^◌, ◌≤◌, ◌<◌}
use native.Mathlib.Decide.{dec_lt}
use native.Mathlib.Omega.{arith}
use lib.Dec.{eqb}
use lib.ListN.{length, take, drop, length-append, length-drop, take-append-drop}
use lib.Seq.{take-add, take_all, length-take-le, take_at}
use borrow.Author.Tests.{eqb-true, eqb-false, eq-eqb, ne_eqb}
use Rattle.laws.specs.Lists.{any, Mem}
use Rattle.laws.proofs.Joining.{mem_take, mem_drop}
use Rattle.meaning.specs.declared.Refusal.{Refusal}
use Rattle.meaning.specs.declared.Refusal.TheVariants.{CutShort, UnknownTag, WrongLength}
use Rattle.meaning.specs.Refusals.{accepted, refused, number_of}
use Rattle.meaning.specs.Bytes.{octets_of, number_after, number_at, Field, port_field, slot_field, stream_field}
use Rattle.meaning.specs.Bytes.{tag_of, value_length, value_of, field_of, field_length, field_octets, front}
use Rattle.meaning.proofs.Refusing.{Tells, tells_ltb, tells_other, one_of_these, stops, passes}
use Rattle.meaning.proofs.Refusing.{stops_or_passes, passed, flat₃, flat₅}
use Rattle.meaning.proofs.Octets.{Octets, number_of_octets, octets_next}

-- ---- lengths

pub value_length_lem : (f : Field) → length (value_of f) ≡ value_length (tag_of f)
unfolding value_of value_length tag_of octets_of
value_length_lem (port_field p) = refl
value_length_lem (slot_field s) = refl
value_length_lem (stream_field j) = refl

pub field_length_lem : (f : Field) → length (field_octets f) ≡ field_length f
unfolding field_octets field_length octets_of
field_length_lem f = ap (λ (n : ℕ). suc (suc (suc n))) (value_length_lem f) ∙ omega arith

-- ---- the front of some octets

-- the tag there, the length it gives, and its value
abbrev pub front_tag : List ℕ → ℕ
front_tag xs = number_at 0 1 xs

abbrev pub front_length : List ℕ → ℕ
front_length xs = number_at 1 2 xs

abbrev pub front_value : List ℕ → List ℕ
front_value xs = take (value_length (front_tag xs)) (drop 3 xs)

-- one of the paper's three tags
abbrev pub Known : ℕ → Type 0
Known tag = (1 ≤ tag) × (tag ≤ 3)

-- what the front is refused for, in the paper's order, and what is read otherwise
pub record FrontSays (xs : List ℕ) : Type 0 where
  pub cut_short : front xs ≡ refused CutShort
      ↔ ((length xs < 3)
      ⊎ ((3 ≤ length xs) × Known (front_tag xs) × (front_length xs ≡ value_length (front_tag xs))
      × (length xs < 3 + value_length (front_tag xs))))
  pub unknown_tag : front xs ≡ refused UnknownTag ↔ ((3 ≤ length xs) × ¬ Known (front_tag xs))
  pub wrong_length : front xs ≡ refused WrongLength
      ↔ ((3 ≤ length xs) × Known (front_tag xs) × (front_length xs ≢ value_length (front_tag xs)))
  pub accepts : (f : Field) → front xs ≡ accepted f
      ↔ ((3 ≤ length xs) × Known (front_tag xs) × (front_length xs ≡ value_length (front_tag xs))
      × (3 + value_length (front_tag xs) ≤ length xs) × (f ≡ field_of (front_tag xs) (front_value xs)))
  pub only : (r : Refusal) → front xs ≡ refused r → Mem (number_of r) (1 ∷ 2 ∷ 3 ∷ 1 ∷ [])

known_cases : (P : ℕ → Type 0) (tag : ℕ) → Known tag → P 1 → P 2 → P 3 → P tag
known_cases P zero h a b c = absurd (omega arith)
known_cases P (suc zero) h a b c = a
known_cases P (suc (suc zero)) h a b c = b
known_cases P (suc (suc (suc zero))) h a b c = c
known_cases P (suc (suc (suc (suc n)))) h a b c = absurd (omega arith)

known_value : (tag : ℕ) → Known tag → value_length tag ≢ 0
unfolding value_length
known_value tag h = known_cases (λ t. value_length t ≢ 0) tag h (omega arith) (omega arith) (omega arith)

unknown_value : (tag : ℕ) → ¬ Known tag → value_length tag ≡ 0
unfolding value_length
unknown_value tag h =
    rw (
      ne_eqb tag 1 (λ e. h (omega arith)),
      ne_eqb tag 2 (λ e. h (omega arith)),
      ne_eqb tag 3 (λ e. h (omega arith)),
    )

value_known : (tag : ℕ) → value_length tag ≢ 0 → Known tag
value_known tag h =
    by_cases (dec_lt tag 1) (λ a. absurd (h (unknown_value tag (λ k. omega arith))))
    (λ a. by_cases (dec_lt 3 tag) (λ b. absurd (h (unknown_value tag (λ k. omega arith)))) (λ b. omega arith))

tells_known : (tag : ℕ) → Tells (eqb (value_length tag) 0) (¬ Known tag) (Known tag)
tells_known tag =
    record {
      where_true = (λ e k. known_value tag k (eqb-true _ 0 e), λ n. eq-eqb _ 0 (unknown_value tag n));
      where_false = (λ e. value_known tag (eqb-false _ 0 e), λ k. ne_eqb _ 0 (known_value tag k));
    }

pub front_says : (xs : List ℕ) → FrontSays xs
unfolding front number_of any
front_says xs =
    let cut =
    stops_or_passes (tells_ltb (length xs) 3)
    (passes (tells_known (front_tag xs)) refl (passes (tells_other _ _) refl (stops (tells_ltb _ _) refl))) in
    record {
      cut_short = (
        λ e. ⊎_elim inl (λ (a, (b, (c, d))). inr (a, b, c, d)) (cut.exactly.0 e),
        λ h. cut.exactly.1 (⊎_elim inl (λ (a, b, c, d). inr (a, (b, (c, d)))) h),
      );
      unknown_tag = (passes (tells_ltb _ _) refl (stops (tells_known _) refl)).exactly;
      wrong_length = flat₃ (passes (tells_ltb _ _) refl (passes (tells_known _) refl (stops (tells_other _ _) refl)));
      accepts =
          λ f. flat₅
          (passes (tells_ltb _ _) refl
          (passes (tells_known _) refl (passes (tells_other _ _) refl (passes (tells_ltb _ _) refl passed))));
      only = one_of_these _ _;
    }

-- ---- read, then written

tag_of_field : (tag : ℕ) → Known tag → (v : List ℕ) → tag_of (field_of tag v) ≡ tag
unfolding tag_of field_of
tag_of_field tag h v = known_cases (λ t. tag_of (field_of t v) ≡ t) tag h refl refl refl

value_of_field : (tag : ℕ) → Known tag → (v : List ℕ) → length v ≡ value_length tag → Octets v
    → value_of (field_of tag v) ≡ v
unfolding value_of field_of value_length
value_of_field tag h v l o =
    known_cases (λ t. length v ≡ value_length t → value_of (field_of t v) ≡ v) tag h
    (λ q.
    rw (
      octets_next 0 1 v (omega arith) o,
      octets_next 1 4 v (omega arith) o,
      octets_next 5 4 v (omega arith) o,
      octets_next 9 4 v (omega arith) o,
    )
    (take_all 13 v (omega arith)))
    (λ q. rw (octets_next 0 4 v (omega arith) o, octets_next 4 4 v (omega arith) o) (take_all 8 v (omega arith)))
    (λ q.
    rw (
      octets_next 0 2 v (omega arith) o,
      octets_next 2 1 v (omega arith) o,
      octets_next 3 2 v (omega arith) o,
      octets_next 5 4 v (omega arith) o,
      octets_next 9 4 v (omega arith) o,
      octets_next 13 4 v (omega arith) o,
    )
    (take_all 17 v (omega arith)))
    l

-- a field that is read lies within the octets
pub front_takes : (xs : List ℕ) (f : Field) → front xs ≡ accepted f → field_length f ≤ length xs
unfolding field_length
front_takes xs f e =
    let (h, k, m, l, q) = ((front_says xs).accepts f).0 e in
    let t = ap tag_of q ∙ tag_of_field (front_tag xs) k (front_value xs) in
    omega (arith, ap value_length t)

-- writing the field that is read gives the octets that were there
pub front_octets : (xs : List ℕ) (f : Field) → Octets xs → front xs ≡ accepted f
    → field_octets f ++ drop (field_length f) xs ≡ xs
unfolding field_octets field_length
front_octets xs f o e =
    let (h, k, m, l, q) = ((front_says xs).accepts f).0 e in
    let v = front_value xs in
    let n = value_length (front_tag xs) in
    let long : length v ≡ n = length-take-le n (drop 3 xs) (omega (arith, length-drop 3 xs)) in
    let small : Octets v = λ x i. o x (mem_drop 3 xs x (mem_take n (drop 3 xs) x i)) in
    let t : tag_of f ≡ front_tag xs = ap tag_of q ∙ tag_of_field (front_tag xs) k v in
    let w : value_of f ≡ v = ap value_of q ∙ value_of_field (front_tag xs) k v long small in
    rw (
      w,
      t,
      ← m,
      octets_next 0 1 xs (omega arith) o,
      octets_next 1 2 xs (omega arith) o,
      ← take-add 3 (front_length xs) xs,
    )
    (take-append-drop (3 + front_length xs) xs)

-- ---- written, then read

-- each number of the field fits into its octets
abbrev pub FieldFits : Field → Type 0
FieldFits (port_field p) = (p.rate < 256 ^ 1) × (p.cycle < 256 ^ 4) × (p.guard < 256 ^ 4) × (p.header < 256 ^ 4)
FieldFits (slot_field s) = (s.start < 256 ^ 4) × (s.end < 256 ^ 4)
FieldFits (stream_field j) =
    (j.id < 256 ^ 2) × (j.priority < 256 ^ 1) × (j.octets < 256 ^ 2)
    × (j.period < 256 ^ 4) × (j.jitter < 256 ^ 4) × (j.deadline < 256 ^ 4)

field_of_value : (f : Field) → FieldFits f → field_of (tag_of f) (value_of f) ≡ f
unfolding field_of tag_of value_of number_at octets_of
field_of_value (port_field p) h =
    λ i.
    port_field
    (record {
      rate = number_of_octets 1 p.rate h.0 i;
      cycle = number_of_octets 4 p.cycle h.1 i;
      guard = number_of_octets 4 p.guard h.2 i;
      header = number_of_octets 4 p.header h.3 i;
    })
field_of_value (slot_field s) h =
    λ i.
    slot_field
    (record {
      start = number_of_octets 4 s.start h.0 i;
      end = number_of_octets 4 s.end h.1 i;
    })
field_of_value (stream_field j) h =
    λ i.
    stream_field
    (record {
      id = number_of_octets 2 j.id h.0 i;
      priority = number_of_octets 1 j.priority h.1 i;
      octets = number_of_octets 2 j.octets h.2 i;
      period = number_of_octets 4 j.period h.3 i;
      jitter = number_of_octets 4 j.jitter h.4 i;
      deadline = number_of_octets 4 j.deadline h.5 i;
    })

tag_known : (f : Field) → Known (tag_of f)
unfolding tag_of
tag_known (port_field p) = omega arith
tag_known (slot_field s) = omega arith
tag_known (stream_field j) = omega arith

written_tag : (f : Field) (rest : List ℕ) → front_tag (field_octets f ++ rest) ≡ tag_of f
unfolding field_octets octets_of number_at number_after tag_of value_length
written_tag (port_field p) rest = refl
written_tag (slot_field s) rest = refl
written_tag (stream_field j) rest = refl

written_length : (f : Field) (rest : List ℕ) → front_length (field_octets f ++ rest) ≡ value_length (tag_of f)
unfolding field_octets octets_of number_at number_after tag_of value_length
written_length (port_field p) rest = refl
written_length (slot_field s) rest = refl
written_length (stream_field j) rest = refl

written_value : (f : Field) (rest : List ℕ)
    → take (value_length (tag_of f)) (drop 3 (field_octets f ++ rest)) ≡ value_of f
unfolding field_octets octets_of
written_value f rest = take_at (value_of f) rest (value_length (tag_of f)) (value_length_lem f)

-- the field at the front is the one that was written there, whatever follows
pub front_of_field : (f : Field) → FieldFits f → (rest : List ℕ) → front (field_octets f ++ rest) ≡ accepted f
unfolding field_length
front_of_field f h rest =
    let xs = field_octets f ++ rest in
    let t = written_tag f rest in
    let both = length-append (field_octets f) rest in
    let long = field_length_lem f in
    ((front_says xs).accepts f).1 (
      omega arith,
      rw t (tag_known f),
      written_length f rest ∙ ap value_length (sym t),
      rw t (omega arith),
      rw (t, written_value f rest) (sym (field_of_value f h)),
    )
