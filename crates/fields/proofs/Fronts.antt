-- The field at a place of the plan: its numbers, what its first three octets decide, and what its case tells.
-- Assumes nothing.
use mathlib.Core.Path.{◌≡◌, refl, sym, ap, ◌∙◌}
use mathlib.Core.Logic.{inl}
use mathlib.Core.Bool.{Bool, true, false, not, cond}
use mathlib.Core.List.{List, [], ◌∷◌}
use Prim.Native.Nat.{ℕ, suc, ◌+◌, ◌-◌, ◌*◌, ◌^◌, ◌≤◌, ◌<◌}
use native.Mathlib.Nat.{pow-suc}
use native.Mathlib.Numerals.{add-one}
use Rattle.meaning.specs.declared.Refusal.{Refusal}
use native.Mathlib.Omega.{arith}
use Rattle.std.specs.Prelude.{Result, Ok, Err}
use lib.Dec.{ltb, eqb}
use lib.ListN.{length, get_or, take, drop, length-drop, take-append-drop}
use lib.Seq.{drop-drop, take-suc, get_or-drop, length-take-le}
use borrow.Author.Tests.{lt-ltb, le-ltb, eq-eqb, ne_eqb}
use Rattle.meaning.specs.declared.Refusal.TheVariants.{CutShort, UnknownTag, WrongLength}
use Rattle.meaning.specs.Refusals.{Answer, accepted, refused, unless}
use Rattle.meaning.specs.Bytes.{number_after, number_at, Field, port_field, slot_field, stream_field}
use Rattle.meaning.specs.Bytes.{value_length, field_of, front}
use Rattle.meaning.proofs.Octets.{number_append, number_at_left}
use Rattle.meaning.proofs.Fields.{front_says}
use Rattle.fields.specs.declared.Field.{Field as Read}
use Rattle.fields.specs.Reading.{field_at, value_at, told}

-- ---- numbers

-- one octet more
number_more : (at w : ℕ) (xs : List ℕ) → at + w < length xs
    → number_at at (suc w) xs ≡ number_at at w xs * 256 + get_or xs (at + w) 0
unfolding number_at number_after
number_more at w xs h =
    ap (number_after 0) (take-suc (drop at xs) w 0 (omega (arith, length-drop at xs)))
    ∙ number_append 0 (take w (drop at xs)) (get_or (drop at xs) w 0 ∷ [])
    ∙ ap (λ (x : ℕ). number_at at w xs * 256 + x) (get_or-drop at xs w 0)

-- the loop over the octets at a place has made the number n of the first i of them
abbrev pub NumberSoFar : ℕ → List ℕ → ℕ → ℕ → Type 0
NumberSoFar at xs n i = (n ≡ number_at at i xs) × (n < 256 ^ i)

pub number_start : (at : ℕ) (xs : List ℕ) → NumberSoFar at xs 0 0
unfolding number_at number_after
number_start at xs = (refl, omega arith)

-- the next octet x
pub number_turn : (at i n : ℕ) (xs : List ℕ) (x : ℕ) → at + i < length xs → x ≡ get_or xs (at + i) 0 → x < 256
    → NumberSoFar at xs n i → NumberSoFar at xs (n * 256 + x) (i + 1)
number_turn at i n xs x h e b (q, l) =
    (rw (add-one i, number_more at i xs h) (omega (arith, q, e)), rw (add-one i, pow-suc 256 i) (omega arith))

-- at a place, and at an offset from it
number_here : (at w : ℕ) (xs : List ℕ) → number_at 0 w (drop at xs) ≡ number_at at w xs
unfolding number_at
number_here at w xs = refl

number_from : (at offset w : ℕ) (xs : List ℕ) → number_at offset w (drop at xs) ≡ number_at (at + offset) w xs
unfolding number_at
number_from at offset w xs = ap (λ (l : List ℕ). number_after 0 (take w l)) (drop-drop offset at xs)

-- at an offset in the value, of n octets, of the field at a place
pub number_in_value : (xs : List ℕ) (at n : ℕ) → at + 3 + n ≤ length xs
    → (offset w k : ℕ) → k ≡ at + 3 + offset → offset + w ≤ n
    → number_at k w xs ≡ number_at offset w (take n (drop 3 (drop at xs)))
number_in_value xs at n h offset w k e m =
    let v : List ℕ = drop (at + 3) xs in
    let long : length (take n v) ≡ n = length-take-le n v (omega (arith, length-drop (at + 3) xs)) in
    ap (λ (j : ℕ). number_at j w xs) e
    ∙ sym (number_from (at + 3) offset w xs)
    ∙ ap (number_at offset w) (sym (take-append-drop n v))
    ∙ number_at_left offset w (take n v) (drop n v) (omega arith)
    ∙ ap (λ (l : List ℕ). number_at offset w (take n l)) (sym (drop-drop 3 at xs))

-- ---- the field at a place

-- f where its value is whole, and the value's refusal otherwise
abbrev pub by_value : Result (Unit {0}) Refusal → Field → Answer Field
by_value (Ok u) f = accepted f
by_value (Err r) f = refused r

module _ (plan : List ℕ) (at : ℕ) where
  -- the octets from the place on
  abbrev pub here : List ℕ
  here = drop at plan

  left : length here ≡ length plan - at
  left = length-drop at plan

  -- fewer than three octets
  pub field_short : length plan - at < 3 → Err CutShort ≡ field_at (front here)
  unfolding field_at
  field_short h = ap field_at (sym ((front_says here).cut_short.1 (inl (omega (arith, left)))))

  -- an unlisted tag
  pub field_unknown : 3 ≤ length plan - at
      → ¬ (number_at at 1 plan ≡ 1) → ¬ (number_at at 1 plan ≡ 2) → ¬ (number_at at 1 plan ≡ 3)
      → Err UnknownTag ≡ field_at (front here)
  unfolding field_at
  field_unknown h a b c =
      let three : 3 ≤ length here = omega (arith, left) in
      ap field_at (sym ((front_says here).unknown_tag.1 (three, λ k. omega (arith, number_here at 1 plan))))

  -- ---- its value, of n octets

  module _ (n : ℕ) where
    pub value_wrong : ¬ (number_at (at + 1) 2 plan ≡ n) → Err WrongLength ≡ value_at n here
    unfolding value_at
    value_wrong h = rw (ne_eqb (number_at 1 2 here) n (λ e. h (sym (number_from at 1 2 plan) ∙ e)))

    right : number_at (at + 1) 2 plan ≡ n → eqb (number_at 1 2 here) n ≡ true
    right e = eq-eqb (number_at 1 2 here) n (number_from at 1 2 plan ∙ e)

    pub value_cut : number_at (at + 1) 2 plan ≡ n → length plan - at < 3 + n → Err CutShort ≡ value_at n here
    unfolding value_at
    value_cut e h = rw (right e, lt-ltb (length here) (3 + n) (omega (arith, left)))

    pub value_whole : number_at (at + 1) 2 plan ≡ n → 3 + n ≤ length plan - at → Ok tt ≡ value_at n here
    unfolding value_at
    value_whole e h = rw (right e, le-ltb (length here) (3 + n) (omega (arith, left)))

  -- of a known tag the value decides
  pub field_by_value : (tag : ℕ) → at + 3 ≤ length plan → number_at at 1 plan ≡ tag → ¬ (value_length tag ≡ 0)
      → (v : Result (Unit {0}) Refusal) → v ≡ value_at (value_length tag) here
      → field_at (by_value v (field_of tag (take (value_length tag) (drop 3 here)))) ≡ field_at (front here)
  unfolding front unless value_at
  field_by_value tag h e k v q =
      ap (λ (v : Result (Unit {0}) Refusal). field_at (by_value v f)) q
      ∙ rw (le-ltb (length here) 3 (omega (arith, left)), number_here at 1 plan ∙ e, ne_eqb (value_length tag) 0 k)
      (go (eqb (number_at 1 2 here) (value_length tag)) (ltb (length here) (3 + value_length tag)))
    where
      f : Field
      f = field_of tag (take (value_length tag) (drop 3 here))

      go : (b c : Bool)
          → field_at (by_value (cond b (cond c (Err CutShort) (Ok tt)) (Err WrongLength)) f)
          ≡ field_at (cond (not b) (refused WrongLength) (cond c (refused CutShort) (accepted f)))
      go true true = refl
      go true false = refl
      go false c = refl

-- ---- what a case tells

-- no two answers have the same case
pub field_told : (f : Result Read Refusal) (a : Answer Field) → f ≡ field_at a → a ≡ told f
unfolding field_at
field_told f a e = go a ∙ ap told (sym e)
  where
    go : (a : Answer Field) → a ≡ told (field_at a)
    go (accepted (port_field p)) = refl
    go (accepted (slot_field s)) = refl
    go (accepted (stream_field j)) = refl
    go (refused r) = refl
