-- Document 01, "Findings program": what `findings` prints of a plan, octet by octet.
use Rattle.std.specs.Prelude.{true, false, cond, List, [], ◌∷◌, ◌++◌, ℕ, zero, suc, ◌+◌, ◌/◌, ◌%◌, length, ltb}
use Rattle.std.proofs.Math.Option.{Option, none, some}
use Prim.Native.Char.{code}
use Prim.Native.String.{String, [] as noText, ◌∷◌ as ◌then◌}
use Rattle.laws.specs.Lists.{joined}
use Rattle.meaning.specs.declared.Port.{Port}
use Rattle.meaning.specs.declared.Slot.{Slot}
use Rattle.meaning.specs.declared.Stream.{Stream}
use Rattle.meaning.specs.declared.Stair.{Stair}
use Rattle.meaning.specs.Runs.{gate_of, runs}
use Rattle.meaning.specs.Interference.{all_len, stairs}
use Rattle.meaning.specs.Response.{late}
use Rattle.meaning.specs.Refusals.{number_of}
use Rattle.meaning.specs.Desks.{bare, opened}
use Rattle.meaning.specs.Calls.{bound_of}
use Rattle.meaning.specs.Bytes.{Outcome, read, refused_at, read_plan}

-- ---- words and numbers

-- the octets of a text: the code of each character
unfoldable pub octets_in : String → List ℕ
octets_in noText = []
octets_in (c then s) = code c ∷ octets_in s

-- the decimal digits of n, the highest first, of at most w digits: 48 is the digit 0
unfoldable pub digits_within : ℕ → ℕ → List ℕ
digits_within zero n = []
digits_within (suc w) n =
    elim (ltb n 10) [ true ↦ (48 + n) ∷ [] | false ↦ digits_within w (n / 10) ++ ((48 + n % 10) ∷ []) ]

-- no number has more digits than one more than itself
unfoldable pub decimal : ℕ → List ℕ
decimal n = digits_within (suc n) n

-- a word and a number behind it
unfoldable pub told : String → ℕ → List ℕ
told word n = octets_in word ++ decimal n

-- "each line ended by one newline"
unfoldable pub newline : List ℕ
newline = octets_in "\n"

-- ---- lines

-- "blocked 19500 of 100000 in 3": "Line 1: blocked cells, cycle, runs."
unfoldable pub blocked_line : ℕ → ℕ → ℕ → List ℕ
blocked_line all cycle n = told "blocked " all ++ told " of " cycle ++ told " in " n ++ newline

-- "stair 30000 14000": "`stair`: distance, total."
unfoldable pub stair_line : Stair → List ℕ
stair_line x = told "stair " x.far ++ told " " x.total ++ newline

-- " bound 44000 of 50000", " late 44000 of 40000", " endless": "verdict, bound, deadline"
unfoldable pub verdict_words : Stream → Option ℕ → List ℕ
verdict_words j none = octets_in " endless"
verdict_words j (some b) = told (cond (late j b) " late " " bound ") b ++ told " of " j.deadline

-- "`stream`, by rising id: id, verdict, bound, deadline; an endless one prints `stream 7 endless`."
unfoldable pub stream_line : Stream → Option ℕ → List ℕ
stream_line j b = told "stream " j.id ++ verdict_words j b ++ newline

-- "A refused plan prints only `refused 3 at 16` (number, place)."
unfoldable pub refused_line : ℕ → ℕ → List ℕ
refused_line number place = told "refused " number ++ told " at " place ++ newline

-- ---- the whole output

-- of an open desk; its stairs are by rising distance, and its streams by rising id
unfoldable pub desk_lines : Port → List Slot → List Stream → List ℕ
desk_lines p ss js =
    blocked_line (all_len (runs (gate_of p js) ss)) p.cycle (length (runs (gate_of p js) ss))
    ++ joined stair_line (stairs (gate_of p js) ss)
    ++ joined (λ j. stream_line j (bound_of p ss js j)) js

-- no plan is read as the bare desk
unfoldable pub printed : Outcome → List ℕ
printed (read bare) = []
printed (read (opened p ss js)) = desk_lines p ss js
printed (refused_at r place) = refused_line (number_of r) place

-- "`findings` reads a plan from standard input."
unfoldable pub findings : List ℕ → List ℕ
findings input = printed (read_plan input)
