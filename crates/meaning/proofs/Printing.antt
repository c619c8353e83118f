-- What `findings` prints: of a long input, of a stream by the response call, lines of one newline, and of plan F.
-- Assumes nothing.
use mathlib.Core.Path.{◌≡◌, refl, sym, ap, ◌∙◌}
use mathlib.Core.Logic.{◌≢◌, ⊎_elim}
use mathlib.Core.Bool.{Bool, true, false, cond}
use mathlib.Core.List.Memᴰ
use mathlib.Core.List.{List, [], ◌∷◌, ◌++◌}
use mathlib.Core.Option.{Option, none, some}
use Prim.Native.Nat.{ℕ}
use Prim.Native.String.{String}
use native.Mathlib.Omega.{arith}
use lib.Dec.{eqb, ltb}
use lib.ListN.{length, take}
use borrow.Author.Tests.{eq-eqb, ne_eqb}
use Rattle.laws.specs.Lists.{any, find, total, joined, Mem, RisingBy}
use Rattle.laws.proofs.Lists.{mem_none, any_false}
use Rattle.laws.proofs.Keeping.{in_cons}
use Rattle.meaning.specs.declared.Port.{Port}
use Rattle.meaning.specs.declared.Slot.{Slot}
use Rattle.meaning.specs.declared.Stream.{Stream}
use Rattle.meaning.specs.declared.Run.{Run}
use Rattle.meaning.specs.declared.Stair.{Stair}
use Rattle.meaning.specs.Runs.{runs}
use Rattle.meaning.specs.Interference.{all_len, stairs}
use Rattle.meaning.specs.Refusals.{number_of}
use Rattle.meaning.specs.Desks.{opened}
use Rattle.meaning.specs.Calls.{bound_of, verdict, respond, ask_response}
use Rattle.meaning.specs.Findings.{octets_in, digits_within, decimal, told, newline, blocked_line, stair_line}
use Rattle.meaning.specs.Findings.{verdict_words, stream_line, refused_line, desk_lines, printed, findings}
use Rattle.meaning.specs.Figures.{octets_f, port_f, slots_f, stream_f₁, stream_f₂, run, stair}
use Rattle.meaning.proofs.Cuts.{cut_same}
use Rattle.meaning.proofs.Decimals.{decimal_digits}
use Rattle.meaning.proofs.Figured.{gate_f_lem, figures, gate_f, are_runs_f, are_stairs_f, bound_f₁, bound_f₂}

-- "It takes the first 4,096 octets only; a longer input has met its refusal by then, and this is proved."
pub findings_cut : (input : List ℕ) → findings (take 4_096 input) ≡ findings input
unfolding findings
findings_cut input = ap printed (cut_same input)

-- ---- a stream held is the one found by its id, so its line tells what the response call answers

pub find_own : (js : List Stream) → RisingBy (λ j. j.id) js → (j : Stream) → Mem j js
    → find (λ x. eqb x.id j.id) js ≡ some j
unfolding find
find_own [] r j m = mem_none m
find_own (x ∷ xs) r j m =
    in_cons m
    (λ e. rw (eq-eqb x.id j.id (ap (λ (k : Stream). k.id) (sym e))) (ap {B = Option Stream} some (sym e)))
    (λ k. rw (ne_eqb x.id j.id (λ e. omega (arith, r.0 j k))) (find_own xs r.1 j k))

pub response_own : (p : Port) (ss : List Slot) (js : List Stream) → RisingBy (λ j. j.id) js → (j : Stream) → Mem j js
    → ask_response j.id (opened p ss js) ≡ verdict j (bound_of p ss js j)
unfolding ask_response respond
response_own p ss js r j m = ap (respond p ss js) (find_own js r j m)

-- ---- lines

-- some octets with no newline among them
abbrev Plain : List ℕ → Type 0
Plain xs = (x : ℕ) → Mem x xs → x ≢ 10

-- "each line ended by one newline": one at its end, and none before
abbrev pub OneNewline : List ℕ → Type 0
OneNewline line = (xs : List ℕ) × (line ≡ xs ++ newline) × Plain xs

plain_append : (xs ys : List ℕ) → Plain xs → Plain ys → Plain (xs ++ ys)
plain_append xs ys p q x m = ⊎_elim (p x) (q x) (Memᴰ.append_cases xs m)

plain_word : (word : String) → any (λ x. eqb x 10) (octets_in word) ≡ false → Plain (octets_in word)
plain_word word h x m e =
    let z = (any_false (λ y. eqb y 10) (octets_in word)).0 h x m in
    let t : eqb x 10 ≡ true = eq-eqb x 10 e in
    let k : true ≡ false = sym t ∙ z in
    let b : ◌≡◌ {A = ℕ} 0 1 = cc in
    omega arith

plain_told : (word : String) (n : ℕ) → any (λ x. eqb x 10) (octets_in word) ≡ false → Plain (told word n)
unfolding told
plain_told word n h =
    plain_append (octets_in word) (decimal n) (plain_word word h)
    (λ x m e. let d = decimal_digits n x m in omega arith)

pub blocked_ends : (all cycle n : ℕ) → OneNewline (blocked_line all cycle n)
unfolding blocked_line octets_in any
blocked_ends all cycle n = (
  told "blocked " all ++ told " of " cycle ++ told " in " n,
  refl,
  plain_append (told "blocked " all ++ told " of " cycle) (told " in " n)
      (plain_append (told "blocked " all) (told " of " cycle) (plain_told "blocked " all refl)
      (plain_told " of " cycle refl))
      (plain_told " in " n refl),
)

pub stair_ends : (x : Stair) → OneNewline (stair_line x)
unfolding stair_line octets_in any
stair_ends x = (
  told "stair " x.far ++ told " " x.total,
  refl,
  plain_append (told "stair " x.far) (told " " x.total) (plain_told "stair " x.far refl)
      (plain_told " " x.total refl),
)

verdict_plain : (j : Stream) (b : Option ℕ) → Plain (verdict_words j b)
unfolding verdict_words octets_in any
verdict_plain j none = plain_word " endless" refl
verdict_plain j (some b) = go (ltb j.deadline b)
  where
    go : (x : Bool) → Plain (told (cond x " late " " bound ") b ++ told " of " j.deadline)
    go true =
        plain_append (told " late " b) (told " of " j.deadline) (plain_told " late " b refl)
        (plain_told " of " j.deadline refl)
    go false =
        plain_append (told " bound " b) (told " of " j.deadline) (plain_told " bound " b refl)
        (plain_told " of " j.deadline refl)

pub stream_ends : (j : Stream) (b : Option ℕ) → OneNewline (stream_line j b)
unfolding stream_line octets_in any
stream_ends j b = (
  told "stream " j.id ++ verdict_words j b,
  refl,
  plain_append (told "stream " j.id) (verdict_words j b) (plain_told "stream " j.id refl) (verdict_plain j b),
)

pub refused_ends : (number place : ℕ) → OneNewline (refused_line number place)
unfolding refused_line octets_in any
refused_ends number place = (
  told "refused " number ++ told " at " place,
  refl,
  plain_append (told "refused " number) (told " at " place) (plain_told "refused " number refl)
      (plain_told " at " place refl),
)

-- ---- plan F

-- its text by its runs, its stairs and its streams' bounds
unfoldable text_f : List Run → List Stair → Option ℕ → Option ℕ → List ℕ
text_f rs st b₁ b₂ =
    told "blocked " (all_len rs) ++ told " of " 100_000 ++ told " in " (length rs) ++ newline
    ++ joined stair_line st
    ++ (stream_line stream_f₁ b₁ ++ (stream_line stream_f₂ b₂ ++ []))

is_text_f : desk_lines port_f slots_f (stream_f₁ ∷ stream_f₂ ∷ [])
    ≡ text_f (runs gate_f slots_f) (stairs gate_f slots_f)
    (bound_of port_f slots_f (stream_f₁ ∷ stream_f₂ ∷ []) stream_f₁)
    (bound_of port_f slots_f (stream_f₁ ∷ stream_f₂ ∷ []) stream_f₂)
unfolding desk_lines blocked_line joined text_f
is_text_f = rw (gate_f_lem (stream_f₁ ∷ stream_f₂ ∷ []))

-- "Whole output", line by line
abbrev pub output_f : List ℕ
output_f =
    octets_in "blocked 19500 of 100000 in 3\n"
    ++ octets_in "stair 0 10000\n"
    ++ octets_in "stair 30000 14000\n"
    ++ octets_in "stair 50000 19500\n"
    ++ octets_in "stream 1 bound 44000 of 50000\n"
    ++ octets_in "stream 2 late 44000 of 40000\n"

computed : text_f (run 9_000 5_500 ∷ run 29_000 4_000 ∷ run 59_000 10_000 ∷ [])
    (stair 0 10_000 ∷ stair 30_000 14_000 ∷ stair 50_000 19_500 ∷ []) (some 44_000) (some 44_000) ≡ output_f
unfolding text_f stair_line stream_line verdict_words told newline octets_in decimal digits_within joined all_len total
computed = refl

pub findings_of_f : findings octets_f ≡ output_f
unfolding findings printed
findings_of_f =
    ap printed figures.f_reads ∙ is_text_f ∙ (λ i. text_f (are_runs_f i) (are_stairs_f i) (bound_f₁ i) (bound_f₂ i))
    ∙ computed

-- "Empty input: 4 at 0. Lone octet 01: 1 at 0."
pub findings_of_none : findings [] ≡ octets_in "refused 4 at 0\n"
unfolding findings printed refused_line number_of told newline octets_in decimal digits_within
findings_of_none = ap printed figures.empty_input

pub findings_of_one : findings (0x01 ∷ []) ≡ octets_in "refused 1 at 0\n"
unfolding findings printed refused_line number_of told newline octets_in decimal digits_within
findings_of_one = ap printed figures.lone_octet
