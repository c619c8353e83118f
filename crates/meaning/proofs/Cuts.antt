-- A long input meets its refusal within its first 1,668 octets, and what follows changes nothing.
-- Assumes nothing.
use mathlib.Core.Path.{◌≡◌, refl, sym, ap, ◌∙◌}
use mathlib.Core.Logic.{inl, inr, ⊎_elim, by_cases, ◌≢◌}
use mathlib.Core.Bool.{not}
use mathlib.Core.List.Memᴰ
use mathlib.Core.List.{List, [], ◌∷◌, ◌++◌}
use Prim.Native.Nat.{ℕ, ◌+◌, ◌≤◌, ◌<◌}
use native.Mathlib.Decide.{dec_le}
use native.Mathlib.Omega.{arith}
use lib.Dec.{eqb}
use lib.ListN.{length, take, drop, length-append, length-drop, take-append-drop}
use lib.Seq.{take_all, length-take-le, take-append-le, drop-append-le}
use borrow.Author.Tests.{le-ltb}
use Rattle.laws.specs.Lists.{any, Mem}
use Rattle.meaning.specs.declared.Refusal.{Refusal}
use Rattle.meaning.specs.declared.Refusal.TheVariants.{UnknownTag, WrongLength}
use Rattle.meaning.specs.Refusals.{number_of, refused, ◌⇒◌, unless}
use Rattle.meaning.specs.Desks.{Desk}
use Rattle.meaning.specs.Bytes.{Field, value_length, field_length, front, Outcome, read, refused_at, read_plan}
use Rattle.meaning.specs.Plans.{Begins}
use Rattle.meaning.proofs.Refusing.{one_of_these, not_among}
use Rattle.meaning.proofs.Octets.{number_at_left}
use Rattle.meaning.proofs.Fields.{front_tag, front_length, front_takes}
use Rattle.meaning.proofs.FieldRows.{picked, begins_length}
use Rattle.meaning.proofs.Edits.{edits_short, edit_numbers}
use Rattle.meaning.proofs.Accepted.{FrontRefused, RefusedField, refused_when, accepted_short}

-- ---- the front of twenty octets or more

-- a field is 20 octets at most
value_at_most : (tag : ℕ) → value_length tag ≤ 17
unfolding value_length
value_at_most tag =
    let small : ℕ → Type 0 = λ n. n ≤ 17 in
    picked small (eqb tag 1) (omega arith)
    (picked small (eqb tag 2) (omega arith) (picked small (eqb tag 3) (omega arith) (omega arith)))

-- so what follows has no part in it
front_left : (xs ys : List ℕ) → 20 ≤ length xs → front (xs ++ ys) ≡ front xs
unfolding front
front_left xs ys h =
    let v = value_at_most (front_tag xs) in
    let both = length-append xs ys in
    let n = value_length (front_tag xs) in
    rw (
      number_at_left 0 1 xs ys (omega arith),
      number_at_left 1 2 xs ys (omega arith),
      le-ltb (length (xs ++ ys)) 3 (omega arith),
      le-ltb (length (xs ++ ys)) (3 + n) (omega arith),
      le-ltb (length xs) 3 (omega arith),
      le-ltb (length xs) (3 + n) (omega arith),
      drop-append-le 3 xs ys (omega arith),
      take-append-le n (drop 3 xs) ys (omega (arith, length-drop 3 xs)),
    )

-- it is never cut short
front_numbers : (xs : List ℕ) (r : Refusal) → 20 ≤ length xs → front xs ≡ refused r → Mem (number_of r) (2 ∷ 3 ∷ [])
unfolding front unless number_of
front_numbers xs r h e =
    let n = value_length (front_tag xs) in
    one_of_these (eqb n 0 ⇒ UnknownTag ∷ not (eqb (front_length xs) n) ⇒ WrongLength ∷ []) _ r
    (rw (
      le-ltb (length xs) 3 (omega arith),
      le-ltb (length xs) (3 + n) (omega (arith, value_at_most (front_tag xs))),
    ) at e)

begins_left : (fs : List Field) (xs ys rest : List ℕ) → 20 ≤ length rest → Begins xs fs rest
    → Begins (xs ++ ys) fs (rest ++ ys)
begins_left [] xs ys rest h b = ap (λ (l : List ℕ). l ++ ys) b
begins_left (f ∷ fs) xs ys rest h (e, b) =
    let long = begins_length (f ∷ fs) xs rest (e, b) in (
      front_left xs ys (omega arith) ∙ e,
      rw (drop-append-le (field_length f) xs ys (front_takes xs f e))
          (begins_left fs (drop (field_length f) xs) ys rest h b),
    )

refused_left : (xs ys : List ℕ) (d : Desk) (r : Refusal) → 20 ≤ length xs → FrontRefused xs d r
    → FrontRefused (xs ++ ys) d r
refused_left xs ys d r h (k, w) =
    let same = front_left xs ys h in (
      omega (arith, length-append xs ys),
      ⊎_elim (λ e. inl (same ∙ e)) (λ (f, e, q). inr (f, same ∙ e, q)) w,
    )

-- ---- a long input

-- more than the longest plan, by the longest field or more: a field is refused
long_refused : (octets : List ℕ) → 1_668 ≤ length octets → (r : Refusal) × (place : ℕ) × RefusedField octets r place
long_refused octets h = go (read_plan octets) refl
  where
    go : (o : Outcome) → read_plan octets ≡ o → (r : Refusal) × (place : ℕ) × RefusedField octets r place
    go (read d) e = absurd (omega (arith, accepted_short octets d e))
    go (refused_at r place) e =
        ⊎_elim (λ (z, _, _). absurd (omega (arith, ap length z))) (λ f. (r, place, f))
        ((refused_when octets r place).0 e)

module _ (octets : List ℕ) (r : Refusal) (place : ℕ) (h : 1_668 ≤ length octets) (f : RefusedField octets r place) where
  place_low : place ≤ 1_648
  place_low = omega (arith, f.at, edits_short f.fields f.desk f.edits)

  whole_field : 20 ≤ length f.rest
  whole_field = omega (arith, place_low, f.at, begins_length f.fields octets f.rest f.begins)

  never_cut_short : number_of r ≢ 1
  unfolding any
  never_cut_short e =
      ⊎_elim
      (λ q. not_among 1 _ refl (Memᴰ.cast (sym e) (front_numbers f.rest r whole_field q)))
      (λ (g, _, q). not_among 1 _ refl (Memᴰ.cast (sym e) (edit_numbers g f.desk r q)))
      f.refuses.1

  same_behind : (ys : List ℕ) → RefusedField (octets ++ ys) r place
  same_behind ys =
      record {
        fields = f.fields;
        rest = f.rest ++ ys;
        desk = f.desk;
        begins = begins_left f.fields octets ys f.rest whole_field f.begins;
        edits = f.edits;
        refuses = refused_left f.rest ys f.desk r whole_field f.refuses;
        at = f.at;
      }

-- what follows the first 1,668 octets changes nothing
pub rest_unread : (xs ys : List ℕ) → 1_668 ≤ length xs → read_plan (xs ++ ys) ≡ read_plan xs
rest_unread xs ys h =
    let (r, place, f) = long_refused xs h in
    (refused_when (xs ++ ys) r place).1 (inr (same_behind xs r place h f ys))
    ∙ sym ((refused_when xs r place).1 (inr f))

pub cut_anywhere : (n : ℕ) (octets : List ℕ) → 1_668 ≤ n → read_plan (take n octets) ≡ read_plan octets
cut_anywhere n octets h =
    by_cases (dec_le (length octets) n)
    (λ short. ap read_plan (take_all n octets short))
    (λ long.
    let cut : length (take n octets) ≡ n = length-take-le n octets (omega arith) in
    sym (rest_unread (take n octets) (drop n octets) (omega arith)) ∙ ap read_plan (take-append-drop n octets))

-- "It takes the first 4,096 octets only"
pub cut_same : (octets : List ℕ) → read_plan (take 4_096 octets) ≡ read_plan octets
cut_same octets = cut_anywhere 4_096 octets (omega arith)

-- "a longer input has met its refusal by then": at a field that starts within the longest plan, and never for its end
pub cut_met : (octets : List ℕ) → 4_096 < length octets
    → (r : Refusal) × (place : ℕ) × (read_plan (take 4_096 octets) ≡ refused_at r place)
    × (read_plan octets ≡ refused_at r place) × (place ≤ 1_648) × (number_of r ≢ 1)
cut_met octets h =
    let long : 1_668 ≤ length octets = omega arith in
    let (r, place, f) = long_refused octets long in
    let e = (refused_when octets r place).1 (inr f) in
    (r, place, cut_same octets ∙ e, e, place_low octets r place long f, never_cut_short octets r place long f)
