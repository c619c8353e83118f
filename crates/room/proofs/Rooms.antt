-- A room that is filled from the front: each number, field and line goes behind those already written.
-- Assumes nothing.
use mathlib.Core.Path.{◌≡◌, refl, sym, ap, subst, ◌∙◌}
use mathlib.Core.List.{List, [], ◌∷◌, ◌++◌, map, append_assoc, append-nil}
use Prim.Native.Nat.{ℕ, ◌+◌, ◌-◌, ◌*◌, ◌/◌, ◌≤◌, ◌<◌}
use native.Mathlib.Numerals.{add-one}
use native.Mathlib.Omega.{arith}
use lib.ListN.{length, get_or, take, drop, length-append, length-drop, drop_of_length-le, take-append-drop}
use lib.Seq.{take_at, drop_at, take_all, drop-drop, take-suc, length-take-le}
use borrow.Rule.Slice.PartMut.{mid_of, put_mid}
use Rattle.std.specs.Int.{w16, w32, to_be_bytes}
use Rattle.laws.specs.Lists.{joined}
use Rattle.laws.proofs.Joining.{total_same, total_map, joined_length, joined_append}
use Rattle.meaning.specs.Bytes.{octets_of, Field, field_length, field_octets}
use Rattle.meaning.proofs.Fields.{field_length_lem}
use Rattle.room.specs.Writing.{Wrote}

-- ---- numbers as the library gives their octets

pub octets_1 : (n : ℕ) → n < 256 → n ∷ [] ≡ octets_of 1 n
unfolding octets_of
octets_1 n h = ap (λ (x : ℕ). x ∷ []) (omega arith)

pub octets_2 : (n : ℕ) → to_be_bytes w16 n ≡ octets_of 2 n
unfolding octets_of
octets_2 n = refl

pub octets_4 : (n : ℕ) → to_be_bytes w32 n ≡ octets_of 4 n
unfolding octets_of
octets_4 n =
    let a : n / 256 / 256 / 256 ≡ n / 16_777_216 = omega arith in
    let b : n / 256 / 256 ≡ n / 65_536 = omega arith in
    rw (a, b)

-- ---- one part behind the other

module _ {A : Type 0} where
  -- w is written, up to place a; f, of k elements, fills the front of what is left of the room r
  pub fill_next : (a k : ℕ) (xs ys w f r : List A) → length w ≡ a → xs ≡ w ++ drop a r
      → ys ≡ f ++ drop k (mid_of a (length xs - a) xs) → put_mid a (length xs - a) xs ys ≡ (w ++ f) ++ drop (a + k) r
  fill_next a k xs ys w f r l e g =
      let n : length xs ≡ a + length (drop a r) = ap length e ∙ length-append w (drop a r) ∙ omega arith in
      let rest : drop a xs ≡ drop a r = rw e (drop_at w (drop a r) a l) in
      let mid : mid_of a (length xs - a) xs ≡ drop a r =
      ap (take (length xs - a)) rest ∙ take_all (length xs - a) (drop a r) (omega arith) in
      let none : drop (length xs - a) (drop a xs) ≡ [] =
      drop_of_length-le (drop a xs) {i = length xs - a} (omega (arith, length-drop a xs)) in
      let front : take a xs ≡ w = rw e (take_at w (drop a r) a l) in
      rw (front, none, g, mid, drop-drop k a r, append-nil, append_assoc)

-- w is written, and f fills the front of what is left
pub wrote_next : {w f r xs ys : List ℕ} {a k : ℕ} → Wrote w a r xs → Wrote f k (mid_of a (length xs - a) xs) ys
    → Wrote (w ++ f) (a + k) r (put_mid a (length xs - a) xs ys)
wrote_next {w} {f} {r} {xs} {ys} {a} {k} p q =
    record {
      count = omega (arith, p.count, q.count, length-append w f);
      room = fill_next a k xs ys w f r (sym p.count) p.room q.room;
    }

-- the same text by another name
pub wrote_as : {w v r xs : List ℕ} {a : ℕ} → w ≡ v → Wrote w a r xs → Wrote v a r xs
wrote_as {w} {v} {r} {xs} {a} e p = subst (λ (l : List ℕ). Wrote l a r xs) e p

-- the room keeps its length where there was room
pub wrote_length : {w r xs : List ℕ} {a : ℕ} → length w ≤ length r → Wrote w a r xs → length xs ≡ length r
wrote_length {w} {r} {xs} {a} h p =
    ap length p.room ∙ length-append w (drop a r) ∙ omega (arith, p.count, length-drop a r)

-- what is left of the room, from this place on, has room for k octets
pub rest_fits : (room : List ℕ) (at k : ℕ) → at + k ≤ length room → k ≤ length (mid_of at (length room - at) room)
rest_fits room at k h =
    let rest : length (mid_of at (length room - at) room) ≡ length room - at =
    length-take-le (length room - at) (drop at room) (omega (arith, length-drop at room)) in
    omega (arith, rest)

-- what is left behind w has room for k octets
pub next_fits : {w r xs : List ℕ} {a : ℕ} (k : ℕ) → length w + k ≤ length r → Wrote w a r xs
    → k ≤ length (mid_of a (length xs - a) xs)
next_fits {w} {r} {xs} {a} k h p =
    let long : length xs ≡ length r = wrote_length {a = a} (omega arith) p in
    rest_fits xs a k (omega (arith, p.count))

-- ---- a row of parts

module _ {A : Type 0} (part : A → List ℕ) where
  -- with the next part
  joined_next : (xs : List A) (i : ℕ) (d : A) → i < length xs
      → joined part (take i xs) ++ part (get_or xs i d) ≡ joined part (take (i + 1) xs)
  unfolding joined
  joined_next xs i d h =
      sym
      (rw (add-one i, take-suc xs i d h)
      (joined_append part (take i xs) (get_or xs i d ∷ [])
      ∙ ap (λ (l : List ℕ). joined part (take i xs) ++ l) (append-nil (part (get_or xs i d)))))

  -- the first ones are no longer than all
  joined_first : (xs : List A) (i : ℕ) → length (joined part (take i xs)) ≤ length (joined part xs)
  joined_first xs i =
      let whole = ap (λ (l : List A). length (joined part l)) (take-append-drop i xs) in
      let split = ap length (joined_append part (take i xs) (drop i xs)) in
      omega (arith, length-append (joined part (take i xs)) (joined part (drop i xs)))

  -- the loop that writes the parts of xs into the room r has come up to the i-th, at this place
  pub record Filled (r : List ℕ) (xs : List A) (room : List ℕ) (at i : ℕ) : Type 0 where
    pub reached : i ≤ length xs
    pub wrote : Wrote (joined part (take i xs)) at r room
    pub long : length room ≡ length r
    pub within : at ≤ length room

  pub fill_start : (r : List ℕ) (xs : List A) → Filled r xs r 0 0
  unfolding joined
  fill_start r xs =
      record {
        reached = omega arith;
        wrote = record { count = refl; room = refl };
        long = refl;
        within = omega arith;
      }

  -- x is the i-th of them
  module _ (r : List ℕ) (xs : List A) (fits : length (joined part xs) ≤ length r) (room : List ℕ) (at i : ℕ) (x : A)
      (is : x ≡ get_or xs i x) (h : i < length xs) (p : Filled r xs room at i) where
    with_it : joined part (take i xs) ++ part x ≡ joined part (take (i + 1) xs)
    with_it = ap (λ (y : A). joined part (take i xs) ++ part y) is ∙ joined_next xs i x h

    -- what is left has room for its part
    pub part_fits : at + length (part x) ≤ length room
    part_fits =
        let next = ap length with_it in
        omega (
          arith,
          p.wrote.count,
          p.long,
          joined_first xs (i + 1),
          length-append (joined part (take i xs)) (part x),
        )

    -- a turn: it fills the front of what is left
    pub fill_turn : (ys : List ℕ) (k : ℕ) → Wrote (part x) k (mid_of at (length room - at) room) ys
        → Filled r xs (put_mid at (length room - at) room ys) (at + k) (i + 1)
    fill_turn ys k w =
        let all = wrote_as with_it (wrote_next p.wrote w) in
        let same = wrote_length (omega (arith, joined_first xs (i + 1))) all in
        record {
          reached = omega arith;
          wrote = all;
          long = same;
          within = omega (arith, part_fits, w.count, p.long);
        }

  pub fill_end : (r : List ℕ) (xs : List A) (room : List ℕ) (at i : ℕ) → length xs ≤ i → Filled r xs room at i
      → Wrote (joined part xs) at r room
  fill_end r xs room at i h p = wrote_as (ap (joined part) (take_all i xs h)) p.wrote

-- ---- a row of fields, k octets each

module _ {A : Type 0} (field : A → Field) where
  -- the octets of the fields of each
  abbrev pub octets_of_row : List A → List ℕ
  octets_of_row xs = joined field_octets (map field xs)

  -- field by field
  pub row_joined : (xs : List A) → joined (λ (x : A). field_octets (field x)) xs ≡ octets_of_row xs
  unfolding joined
  row_joined [] = refl
  row_joined (x ∷ xs) = ap (λ (l : List ℕ). field_octets (field x) ++ l) (row_joined xs)

  pub row_octets : (k : ℕ) → ((x : A) → field_length (field x) ≡ k) → (xs : List A)
      → length (octets_of_row xs) ≡ k * length xs
  row_octets k each xs =
      joined_length field_octets (map field xs)
      ∙ total_map (λ (f : Field). length (field_octets f)) field xs
      ∙ total_same (λ (x : A). length (field_octets (field x))) k xs (λ x. field_length_lem (field x) ∙ each x)
