-- Octets that begin with a row of fields: their length, and the fields' own octets.
-- Assumes nothing.
use mathlib.Core.Path.{◌≡◌, refl, sym, ap, ap₂, subst, ◌∙◌}
use mathlib.Core.Bool.{Bool, true, false, cond}
use mathlib.Core.List.Memᴰ
use mathlib.Core.List.{List, [], ◌∷◌, ◌++◌, append_assoc, append-nil}
use Prim.Native.Nat.{ℕ, ◌+◌, ◌^◌, ◌≤◌, ◌<◌}
use native.Mathlib.Nat.{pow-le-pow_right}
use native.Mathlib.Omega.{arith}
use lib.Dec.{eqb}
use lib.ListN.{length, take, drop, length-take, length-drop}
use lib.Seq.{drop_at}
use Rattle.laws.specs.Lists.{total, joined, Mem}
use Rattle.laws.proofs.Lists.{mem_head, mem_none}
use Rattle.laws.proofs.Keeping.{in_cons}
use Rattle.laws.proofs.Joining.{mem_take, mem_drop}
use Rattle.meaning.specs.Refusals.{accepted}
use Rattle.meaning.specs.Bytes.{number_at, Field, value_length, field_of, field_length, field_octets, front}
use Rattle.meaning.specs.Plans.{Begins, MadeOf}
use Rattle.meaning.proofs.Refusing.{accepted_is}
use Rattle.meaning.proofs.Octets.{Octets, number_fits}
use Rattle.meaning.proofs.Fields.{FieldFits, front_tag, front_value, field_length_lem, front_says, front_takes}
use Rattle.meaning.proofs.Fields.{front_octets, front_of_field}

-- ---- lengths

pub begins_length : (fs : List Field) (octets rest : List ℕ) → Begins octets fs rest
    → length octets ≡ total field_length fs + length rest
unfolding total
begins_length [] octets rest e = omega (arith, ap length e)
begins_length (f ∷ fs) octets rest (e, b) =
    omega (
      arith,
      front_takes octets f e,
      length-drop (field_length f) octets,
      begins_length fs (drop (field_length f) octets) rest b,
    )

-- ---- the fields' own octets

number_at_fits : (offset w : ℕ) (xs : List ℕ) → Octets xs → number_at offset w xs < 256 ^ w
unfolding number_at
number_at_fits offset w xs o =
    let part : List ℕ = take w (drop offset xs) in
    let short : length part ≤ w = omega (arith, length-take w (drop offset xs)) in
    let fits = number_fits part (λ x m. o x (mem_drop offset xs x (mem_take w (drop offset xs) x m))) in
    omega (arith, pow-le-pow_right {n = 256} (omega arith) short)

-- what holds of both holds of the one that a test picks
pub picked : {A : Type 0} (P : A → Type 0) (b : Bool) {x y : A} → P x → P y → P (cond b x y)
picked P true a b = a
picked P false a b = b

field_of_fits : (tag : ℕ) (v : List ℕ) → Octets v → FieldFits (field_of tag v)
unfolding field_of
field_of_fits tag v o =
    let at : (offset w : ℕ) → number_at offset w v < 256 ^ w = λ offset w. number_at_fits offset w v o in
    picked FieldFits (eqb tag 1) (at 0 1, at 1 4, at 5 4, at 9 4)
    (picked FieldFits (eqb tag 2) (at 0 4, at 4 4) (at 0 2, at 2 1, at 3 2, at 5 4, at 9 4, at 13 4))

-- the numbers of a field that is read fit into its octets
pub front_fits : (xs : List ℕ) (f : Field) → Octets xs → front xs ≡ accepted f → FieldFits f
front_fits xs f o e =
    let (_, _, _, _, q) = ((front_says xs).accepts f).0 e in
    let n = value_length (front_tag xs) in
    rw q
    (field_of_fits (front_tag xs) (front_value xs) (λ x m. o x (mem_drop 3 xs x (mem_take n (drop 3 xs) x m))))

-- the octets are those of the fields, and of the rest
pub begins_joined : (fs : List Field) (octets rest : List ℕ) → Octets octets → Begins octets fs rest
    → (octets ≡ joined field_octets fs ++ rest) × ((f : Field) → Mem f fs → FieldFits f)
unfolding joined
begins_joined [] octets rest o b = (b, λ f m. mem_none m)
begins_joined (f ∷ fs) octets rest o (e, b) =
    let after = drop (field_length f) octets in
    let (q, fit) = begins_joined fs after rest (λ x m. o x (mem_drop (field_length f) octets x m)) b in (
      sym (front_octets octets f o e)
          ∙ ap (λ (l : List ℕ). field_octets f ++ l) q
          ∙ sym (append_assoc (field_octets f) (joined field_octets fs) rest),
      λ g m. in_cons m (λ (h : g ≡ f). rw h (front_fits octets f o e)) (fit g),
    )

-- and the other way round
pub joined_begins : (fs : List Field) → ((f : Field) → Mem f fs → FieldFits f) → (rest : List ℕ)
    → Begins (joined field_octets fs ++ rest) fs rest
unfolding joined
joined_begins [] fit rest = refl
joined_begins (f ∷ fs) fit rest =
    let behind = joined field_octets fs ++ rest in
    rw (
      append_assoc (field_octets f) (joined field_octets fs) rest,
      drop_at (field_octets f) behind (field_length f) (field_length_lem f),
    )
    (front_of_field f (fit f (mem_head f fs)) behind, joined_begins fs (λ g m. fit g (Memᴰ.tail m)) rest)

-- a whole plan is nothing but the octets of its fields
pub made_joined : (fs : List Field) (octets : List ℕ) → Octets octets → MadeOf octets fs
    → (octets ≡ joined field_octets fs) × ((f : Field) → Mem f fs → FieldFits f)
made_joined fs octets o b =
    let (e, fit) = begins_joined fs octets [] o b in
    (e ∙ append-nil (joined field_octets fs), fit)

pub joined_made : (fs : List Field) → ((f : Field) → Mem f fs → FieldFits f) → MadeOf (joined field_octets fs) fs
joined_made fs fit = rw append-nil at (joined_begins fs fit [])

-- octets are made of one row of fields only
pub made_of_unique : (fs gs : List Field) (octets : List ℕ) → MadeOf octets fs → MadeOf octets gs → fs ≡ gs
unfolding field_length
made_of_unique [] [] octets b c = refl
made_of_unique [] (g ∷ gs) octets b (e, c) = absurd (omega (arith, ap length b, front_takes octets g e))
made_of_unique (f ∷ fs) [] octets (e, b) c = absurd (omega (arith, ap length c, front_takes octets f e))
made_of_unique (f ∷ fs) (g ∷ gs) octets (e, b) (h, c) =
    let same : f ≡ g = accepted_is.0 (sym h ∙ e) in
    ap₂ {C = List Field} (λ x xs. x ∷ xs) same
    (made_of_unique fs gs (drop (field_length f) octets) b
    (subst (λ (x : Field). MadeOf (drop (field_length x) octets) gs) (sym same) c))
