-- The digits of a number written from behind: what is left of the number stands before the digits written.
-- Assumes nothing.
use mathlib.Core.Path.{◌≡◌, refl, sym, ap, ◌∙◌}
use mathlib.Core.Logic.{by_cases}
use mathlib.Core.List.{List, [], ◌∷◌, ◌++◌, append_assoc}
use Prim.Native.Nat.{ℕ, zero, suc, ◌+◌, ◌-◌, ◌*◌, ◌/◌, ◌%◌, ◌^◌, ◌≤◌, ◌<◌, max}
use native.Mathlib.Numerals.{add-one}
use native.Mathlib.Nat.{one-le-pow, pow-suc}
use native.Mathlib.Decide.{dec_lt}
use native.Mathlib.Omega.{arith}
use lib.Dec.{lit<}
use lib.ListN.{length, length-append, take, drop, set, length-set}
use lib.Seq.{set_split, drop_at, length-take-le}
use Rattle.meaning.specs.Findings.{decimal}
use Rattle.meaning.proofs.Decimals.{decimal_small, decimal_more, decimal_one_more, decimal_some, decimal_length}

-- a number of 64 bits has at most 20 digits
pub at_most_20 : (n : ℕ) → n < 18_446_744_073_709_551_616 → length (decimal n) ≤ 20
at_most_20 n h = let z : 18_446_744_073_709_551_616 < 10 ^ 20 = lit< tt in decimal_length 19 n (omega arith)

-- and of k + 1 or more places where it is 10 ^ k or more
pub decimal_least : (k n : ℕ) → 10 ^ k ≤ n → suc k ≤ length (decimal n)
decimal_least zero n h = decimal_some n
decimal_least (suc k) n h =
    let z = pow-suc 10 k in
    let p = one-le-pow k 10 (omega arith) in
    let ten : 10 ≤ n = omega arith in
    omega (arith, decimal_one_more n ten, decimal_least k (n / 10) (omega arith))

-- how many digits, from the power of ten below it
pub decimal_power : (k n : ℕ) → 10 ^ k ≤ n → n < 10 * 10 ^ k → length (decimal n) ≡ k + 1
decimal_power k n h l =
    let z = pow-suc 10 k in
    omega (arith, decimal_least k n h, decimal_length k n (omega arith))

-- and of any number, 0 too, from that of the number that is 1 at least
pub decimal_places : (n m k : ℕ) → m ≡ max n 1 → 10 ^ k ≤ m → m < 10 * 10 ^ k → k + 1 ≡ length (decimal n)
decimal_places zero m k e h l =
    let one : m ≡ 1 = omega arith in
    sym (decimal_power k m h l) ∙ ap length (ap decimal one) ∙ ap length (decimal_small 1 (omega arith))
    ∙ sym (ap length (decimal_small 0 (omega arith)))
decimal_places (suc n) m k e h l =
    let same : m ≡ suc n = omega arith in
    sym (decimal_power k m h l) ∙ ap (λ (x : ℕ). length (decimal x)) same

-- the digits of rest, where i places are still to be filled: with no place left there are none
unfoldable pub left : ℕ → ℕ → List ℕ
left zero rest = []
left (suc i) rest = decimal rest

left_some : (i rest : ℕ) → 1 ≤ i → left i rest ≡ decimal rest
unfolding left
left_some zero rest h = absurd (omega arith)
left_some (suc i) rest h = refl

-- the last digits of n are written into the room r, down to place i; rest is the number that the others make
pub record Behind (r : List ℕ) (n : ℕ) (room : List ℕ) (i rest : ℕ) : Type 0 where
  pub place : length (left i rest) ≡ i
  pub few : i ≤ length (decimal n)
  pub long : length room ≡ length r
  pub written : left i rest ++ drop i room ≡ decimal n ++ drop (length (decimal n)) r

-- a digit stored at place i
drop_stored : (room : List ℕ) (i x : ℕ) → i < length room → drop i (set room i x) ≡ x ∷ drop (i + 1) room
drop_stored room i x h =
    ap (drop i) (set_split room i x h)
    ∙ drop_at (take i room) (x ∷ drop (suc i) room) i (length-take-le i room (omega arith))
    ∙ ap (λ (k : ℕ). x ∷ drop k room) (sym (add-one i))

pub behind_start : (r : List ℕ) (n k : ℕ) → k ≡ length (decimal n) → Behind r n r k n
behind_start r n k e =
    let some = decimal_some n in
    let all = left_some k n (omega arith) in
    record {
      place = ap length all ∙ sym e;
      few = omega arith;
      long = refl;
      written = ap (λ (l : List ℕ). l ++ drop k r) all ∙ ap (λ (m : ℕ). decimal n ++ drop m r) e;
    }

module _ (r : List ℕ) (n : ℕ) (room : List ℕ) (i rest : ℕ) (fits : length (decimal n) ≤ length r)
    (b : Behind r n room (suc i) rest) where
  now : left (suc i) rest ≡ decimal rest
  now = left_some (suc i) rest (omega arith)

  inside : i < length room
  inside = omega (arith, b.few, b.long)

  -- the digits that are left and the one stored are those that were left
  one_less : left i (rest / 10) ++ ((48 + rest % 10) ∷ []) ≡ decimal rest
  unfolding left
  one_less =
      by_cases (dec_lt rest 10)
      (λ s.
      let first : i ≡ 0 = omega (arith, b.place, ap length now, ap length (decimal_small rest s)) in
      let digit : rest % 10 ≡ rest = omega arith in
      rw (first, digit) (sym (decimal_small rest s)))
      (λ l.
      let more = decimal_one_more rest (omega arith) in
      let some = decimal_some (rest / 10) in
      ap (λ (l : List ℕ). l ++ ((48 + rest % 10) ∷ []))
      (left_some i (rest / 10) (omega (arith, b.place, ap length now)))
      ∙ sym (decimal_more rest (omega arith)))

  turn : Behind r n (set room i (48 + rest % 10)) i (rest / 10)
  turn =
      let count = ap length one_less ∙ ap length (sym now) ∙ b.place in
      record {
        place = omega (arith, count, length-append (left i (rest / 10)) ((48 + rest % 10) ∷ []));
        few = omega (arith, b.few);
        long = length-set room i (48 + rest % 10) ∙ b.long;
        written =
            ap (λ (l : List ℕ). left i (rest / 10) ++ l) (drop_stored room i (48 + rest % 10) inside)
            ∙ sym (append_assoc (left i (rest / 10)) ((48 + rest % 10) ∷ []) (drop (i + 1) room))
            ∙ ap (λ (l : List ℕ). l ++ drop (i + 1) room) (one_less ∙ sym now)
            ∙ ap (λ (k : ℕ). left (suc i) rest ++ drop k room) (add-one i)
            ∙ b.written;
      }

pub behind_turn : (r : List ℕ) (n : ℕ) (room : List ℕ) (i rest : ℕ) → length (decimal n) ≤ length r → 0 < i
    → Behind r n room i rest → Behind r n (set room (i - 1) (48 + rest % 10)) (i - 1) (rest / 10)
behind_turn r n room zero rest fits h b = absurd (omega arith)
behind_turn r n room (suc i) rest fits h b =
    let back : suc i - 1 ≡ i = omega arith in
    rw back (turn r n room i rest fits b)

-- no place is left
pub behind_end : (r : List ℕ) (n : ℕ) (room : List ℕ) (rest : ℕ) → Behind r n room 0 rest
    → room ≡ decimal n ++ drop (length (decimal n)) r
unfolding left
behind_end r n room rest b = b.written
