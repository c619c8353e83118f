-- Numbers in octets, most significant first: both ways, and parts of a row of octets.
-- Assumes nothing.
use mathlib.Core.Path.{◌≡◌, refl, sym, ap, ap₂, ◌∙◌}
use mathlib.Core.Logic.{⊎_elim}
use mathlib.Core.List.Memᴰ
use mathlib.Core.List.{List, [], ◌∷◌, ◌++◌}
use mathlib.Core.List.{append-nil, append_assoc}
use Prim.Native.Nat.{ℕ, zero, suc, ◌+◌, ◌*◌, ◌/◌, ◌%◌, ◌^◌, ◌≤◌, ◌<◌}
use native.Mathlib.Nat.{zero-add, add-zero, add-suc, suc-add, pow-zero, pow-suc, mul-le-mul_right}
use native.Mathlib.Omega.{arith}
use lib.ListN.{length, take, drop, length-append, length-drop}
use lib.Seq.{take-append-le, drop-append-le, drop-append-add, length-take-le, take-add}
use Rattle.laws.specs.Lists.{Mem}
use Rattle.laws.proofs.Lists.{mem_head, mem_none}
use Rattle.laws.proofs.Joining.{mem_take, mem_drop}
use Rattle.meaning.specs.Bytes.{octets_of, number_after, number_at}

-- every number of the list is an octet
abbrev pub Octets : List ℕ → Type 0
Octets xs = (x : ℕ) → Mem x xs → x < 256

-- ---- a number in octets

pub octets_length : (w n : ℕ) → length (octets_of w n) ≡ w
unfolding octets_of
octets_length zero n = refl
octets_length (suc w) n =
    omega (arith, length-append (octets_of w (n / 256)) (n % 256 ∷ []), octets_length w (n / 256))

pub octets_small : (w n : ℕ) → Octets (octets_of w n)
unfolding octets_of
octets_small zero n x m = mem_none m
octets_small (suc w) n x m =
    ⊎_elim (octets_small w (n / 256) x) (λ k. omega (arith, Memᴰ.eq_of_singleton k))
    (Memᴰ.append_cases (octets_of w (n / 256)) m)

-- ---- the number that octets make

pub number_append : (n : ℕ) (xs ys : List ℕ) → number_after n (xs ++ ys) ≡ number_after (number_after n xs) ys
unfolding number_after
number_append n [] ys = refl
number_append n (x ∷ xs) ys = number_append (n * 256 + x) xs ys

-- octets of n after the number a
pub number_after_octets : (a w n : ℕ) → n < 256 ^ w → number_after a (octets_of w n) ≡ a * 256 ^ w + n
unfolding octets_of number_after
number_after_octets a zero n h = omega (arith, pow-zero 256)
number_after_octets a (suc w) n h =
    number_append a (octets_of w (n / 256)) (n % 256 ∷ [])
    ∙ rw (pow-suc 256 w) (omega (arith, number_after_octets a w (n / 256) (omega (arith, pow-suc 256 w))))

pub number_of_octets : (w n : ℕ) → n < 256 ^ w → number_after 0 (octets_of w n) ≡ n
number_of_octets w n h = omega (arith, number_after_octets 0 w n h)

number_after_fits : (n : ℕ) (xs : List ℕ) → Octets xs → number_after n xs < (n + 1) * 256 ^ length xs
unfolding number_after
number_after_fits n [] h = omega (arith, pow-zero 256)
number_after_fits n (x ∷ xs) h =
    let small : n * 256 + x + 1 ≤ (n + 1) * 256 = omega (arith, h x (mem_head x xs)) in
    rw (pow-suc 256 (length xs))
    (omega (
      arith,
      number_after_fits (n * 256 + x) xs (λ y m. h y (Memᴰ.tail m)),
      mul-le-mul_right (256 ^ length xs) small,
    ))

pub number_fits : (xs : List ℕ) → Octets xs → number_after 0 xs < 256 ^ length xs
number_fits xs h = omega (arith, number_after_fits 0 xs h)

octets_of_number_after : (w n : ℕ) (xs : List ℕ) → Octets xs
    → octets_of (w + length xs) (number_after n xs) ≡ octets_of w n ++ xs
unfolding octets_of number_after
octets_of_number_after w n [] h = ap (λ (k : ℕ). octets_of k n) (add-zero w) ∙ sym (append-nil (octets_of w n))
octets_of_number_after w n (x ∷ xs) h =
    let small = h x (mem_head x xs) in
    ap (λ (k : ℕ). octets_of k (number_after (n * 256 + x) xs)) (add-suc w (length xs) ∙ sym (suc-add w (length xs)))
    ∙ octets_of_number_after (suc w) (n * 256 + x) xs (λ y m. h y (Memᴰ.tail m))
    ∙ ap₂ (λ (a b : ℕ). octets_of w a ++ (b ∷ []) ++ xs) (omega arith) (omega arith)
    ∙ append_assoc (octets_of w n) (x ∷ []) xs

pub octets_of_number : (xs : List ℕ) → Octets xs → octets_of (length xs) (number_after 0 xs) ≡ xs
unfolding octets_of
octets_of_number xs h =
    ap (λ (k : ℕ). octets_of k (number_after 0 xs)) (sym (zero-add (length xs))) ∙ octets_of_number_after 0 0 xs h

-- ---- the number at an offset

-- inside the left part of two
pub number_at_left : (offset w : ℕ) (xs ys : List ℕ) → offset + w ≤ length xs
    → number_at offset w (xs ++ ys) ≡ number_at offset w xs
unfolding number_at
number_at_left offset w xs ys h =
    ap (number_after 0)
    (ap (take w) (drop-append-le offset xs ys (omega arith))
    ∙ take-append-le w (drop offset xs) ys (omega (arith, length-drop offset xs)))

-- past the left part
pub number_at_right : (offset w : ℕ) (xs ys : List ℕ)
    → number_at (length xs + offset) w (xs ++ ys) ≡ number_at offset w ys
unfolding number_at
number_at_right offset w xs ys = ap (λ (l : List ℕ). number_after 0 (take w l)) (drop-append-add xs ys offset)

-- the octets of the number that is read are the octets that were there
pub octets_at_lem : (offset w : ℕ) (xs : List ℕ) → offset + w ≤ length xs → Octets xs
    → octets_of w (number_at offset w xs) ≡ take w (drop offset xs)
unfolding number_at
octets_at_lem offset w xs h o =
    let part : List ℕ = take w (drop offset xs) in
    let long : length part ≡ w = length-take-le w (drop offset xs) (omega (arith, length-drop offset xs)) in
    ap (λ (k : ℕ). octets_of k (number_after 0 part)) (sym long)
    ∙ octets_of_number part (λ x m. o x (mem_drop offset xs x (mem_take w (drop offset xs) x m)))

-- so the octets read so far grow by those of the next number
pub octets_next : (offset w : ℕ) (xs : List ℕ) → offset + w ≤ length xs → Octets xs
    → take offset xs ++ octets_of w (number_at offset w xs) ≡ take (offset + w) xs
octets_next offset w xs h o =
    ap (λ (l : List ℕ). take offset xs ++ l) (octets_at_lem offset w xs h o) ∙ sym (take-add offset w xs)
