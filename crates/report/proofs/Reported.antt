-- What is printed of any input: how long it is at most, and what a desk that was read or a refusal makes of it.
-- Assumes nothing.
use mathlib.Core.Path.{◌≡◌, refl, sym, ap, ◌∙◌}
use mathlib.Core.Logic.{⊎_elim}
use mathlib.Core.Bool.{true}
use mathlib.Core.List.{List, ◌++◌}
use Prim.Native.Nat.{ℕ, ◌+◌, ◌^◌, ◌≤◌, ◌<◌}
use native.Mathlib.Omega.{arith}
use lib.Dec.{lit<}
use lib.ListN.{length, drop, length-append}
use Rattle.std.specs.Prelude.{Ok, Err}
use Rattle.meaning.specs.declared.Refusal.{Refusal}
use Rattle.meaning.specs.declared.Refusal.TheVariants.{CutShort, UnknownTag, WrongLength, OutOfTurn, OutOfRange}
use Rattle.meaning.specs.declared.Refusal.TheVariants.{Overlap, Full, IdHeld, NotHeld, NoFreeCell, NoRoom, Endless}
use Rattle.meaning.specs.declared.Refusal.TheVariants.{Late, OverHorizon}
use Rattle.meaning.specs.Refusals.{number_of}
use Rattle.meaning.specs.Desks.{bare, opened}
use Rattle.meaning.specs.Desks.{Desk as Plan}
use Rattle.meaning.specs.Bytes.{Reading, going, stopped, Outcome, read, refused_at, ended, read_plan, desk_read}
use Rattle.meaning.specs.Findings.{octets_in, decimal, told, newline, refused_line, printed, findings}
use Rattle.meaning.proofs.Decimals.{decimal_length}
use Rattle.meaning.proofs.Edits.{edits_short}
use Rattle.meaning.proofs.Accepted.{accepted_sound, refused_when}
use Rattle.desk.specs.declared.Desk.{Desk}
use Rattle.desk.specs.Desks.{filled_desk, desk_of, held}
use Rattle.desk.proofs.Held.{held_of}
use Rattle.reader.specs.declared.RefusedAt.{RefusedAt}
use Rattle.reader.specs.declared.ReadReply.{ReadReply}
use Rattle.reader.specs.Reading.{read_reply}
use Rattle.room.specs.Writing.{Wrote}
use Rattle.report.proofs.Sizes.{lines_short}

-- ---- its length

number_small : (r : Refusal) → number_of r ≤ 14
unfolding number_of
number_small CutShort = omega arith
number_small UnknownTag = omega arith
number_small WrongLength = omega arith
number_small OutOfTurn = omega arith
number_small OutOfRange = omega arith
number_small Overlap = omega arith
number_small Full = omega arith
number_small IdHeld = omega arith
number_small NotHeld = omega arith
number_small NoFreeCell = omega arith
number_small NoRoom = omega arith
number_small Endless = omega arith
number_small (Late b) = omega arith
number_small OverHorizon = omega arith

refused_length : (number place : ℕ)
    → length (refused_line number place) ≡ 13 + length (decimal number) + length (decimal place)
unfolding refused_line told newline octets_in
refused_length number place =
    length-append (told "refused " number ++ told " at " place) newline
    ∙ omega (
      arith,
      length-append (told "refused " number) (told " at " place),
      length-append (octets_in "refused ") (decimal number),
      length-append (octets_in " at ") (decimal place),
    )

-- the place of a refused field lies within the longest plan
place_small : (input : List ℕ) (r : Refusal) (place : ℕ) → read_plan input ≡ refused_at r place → place ≤ 1_648
place_small input r place e =
    ⊎_elim (λ (_, _, q). omega arith) (λ f. omega (arith, f.at, edits_short f.fields f.desk f.edits))
    ((refused_when input r place).0 e)

pub findings_short : (input : List ℕ) → length (findings input) ≤ 28_543
unfolding findings printed
findings_short input = go (read_plan input) refl
  where
    refusal : (r : Refusal) (place : ℕ) → place ≤ 1_648 → length (refused_line (number_of r) place) ≤ 28_543
    refusal r place h =
        let a : 14 < 10 ^ 2 = lit< tt in
        let b : 1_648 < 10 ^ 4 = lit< tt in
        let n = number_small r in
        omega (
          arith,
          refused_length (number_of r) place,
          decimal_length 1 (number_of r) (omega arith),
          decimal_length 3 place (omega arith),
        )

    go : (o : Outcome) → read_plan input ≡ o → length (printed o) ≤ 28_543
    go (read bare) e = omega arith
    go (read (opened p ss js)) e = lines_short p ss js (accepted_sound input (opened p ss js) e)
    go (refused_at r place) e = refusal r place (place_small input r place e)

-- ---- the reader's answer

-- no plan is read as the bare desk
never_bare : (s : Reading) (e : Plan) → ended s ≡ read e → (desk_of e).opened ≡ true
unfolding ended desk_of filled_desk
never_bare (going place octets bare) e q = let z : refused_at OutOfTurn 0 ≡ read e = q in cc
never_bare (going place octets (opened p ss js)) bare q = let z : read (opened p ss js) ≡ read bare = q in cc
never_bare (going place octets (opened p ss js)) (opened p' ss' js') q = refl
never_bare (stopped r place) e q = let z : refused_at r place ≡ read e = q in cc

-- what the reader's answer tells of the plan
pub told_read : (o : Outcome) (r : ReadReply) (u : Unit {0}) → r ≡ read_reply o → r.answer ≡ Ok u
    → (e : Plan) × (o ≡ read e) × (r.desk ≡ desk_of e)
unfolding desk_read
told_read (read e) r u q a = (e, refl, ap (λ (x : ReadReply). x.desk) q)
told_read (refused_at why place) r u q a = let b = ap (λ (x : ReadReply). x.answer) q in cc

pub told_refused : (o : Outcome) (r : ReadReply) (at : RefusedAt) → r ≡ read_reply o → r.answer ≡ Err at
    → o ≡ refused_at at.why at.place
told_refused (read e) r at q a = let b = ap (λ (x : ReadReply). x.answer) q in cc
told_refused (refused_at why place) r at q a = let b = ap (λ (x : ReadReply). x.answer) q in cc

-- the desk of a plan that was read is open, and its findings are those of the input
pub read_desk : (input : List ℕ) (e : Plan) (d : Desk) → read_plan input ≡ read e → d ≡ desk_of e
    → (d.opened ≡ true) × (printed (read (held d)) ≡ findings input)
unfolding findings read_plan
read_desk input e d q k = (
  ap (λ (x : Desk). x.opened) k ∙ never_bare _ e q,
  ap (λ (x : Plan). printed (read x)) (ap held k ∙ held_of e) ∙ ap printed (sym q),
)

pub refused_plan : (input : List ℕ) (r : Refusal) (place : ℕ) → read_plan input ≡ refused_at r place
    → printed (refused_at r place) ≡ findings input
unfolding findings
refused_plan input r place q = ap printed (sym q)

-- ---- no second report fits: the answer and every octet of the room are determined

pub report_unique : {text before after other : List ℕ} {r s : ℕ} → Wrote text r before after → Wrote text s before other
    → (r ≡ s) × (after ≡ other)
report_unique {text} {before} a b =
    let same = a.count ∙ sym b.count in
    (same, a.room ∙ ap (λ (n : ℕ). text ++ drop n before) same ∙ sym b.room)
