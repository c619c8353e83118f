-- Small instances of document 01's refusals, calls, octets and lines, each worked by hand and checked by computing.
-- Assumes nothing.
use mathlib.Core.Path.{◌≡◌, refl}
use mathlib.Core.Bool.{true, false}
use mathlib.Core.List.Memᴰ
use mathlib.Core.List.{List, [], ◌∷◌, ◌++◌, map}
use mathlib.Core.Option.{none, some}
use Prim.Native.Nat.{ℕ}
use native.Mathlib.Omega.{arith}
use Rattle.laws.specs.Lists.{any, keep, find, every, insert_by, joined, total}
use Rattle.laws.specs.Numbers.{sum, any_below}
use Rattle.meaning.specs.declared.Refusal.{Refusal}
use Rattle.meaning.specs.declared.Refusal.TheVariants.{CutShort, UnknownTag, WrongLength, OutOfTurn}
use Rattle.meaning.specs.declared.Refusal.TheVariants.{OutOfRange, Overlap, Full, IdHeld, NotHeld, NoFreeCell}
use Rattle.meaning.specs.declared.Refusal.TheVariants.{NoRoom, Endless, Late, OverHorizon}
use Rattle.meaning.specs.Ranges.{most_slots, most_streams, octet_limit, port_ranges, slot_ranges, stream_ranges}
use Rattle.meaning.specs.Runs.{gate_of, blocks, blocked, has_free, starts, row, runs_below, runs_of, runs}
use Rattle.meaning.specs.Interference.{all_len, pairs, pairs_from, pairs_meeting, covers, same, uncovered, put}
use Rattle.meaning.specs.Interference.{stairs_of, stairs}
use Rattle.meaning.specs.Refusals.{number_of, values_of, accepted, refused, ◌⇒◌, unless}
use Rattle.meaning.specs.Desks.{Desk, bare, opened, edited, asked}
use Rattle.meaning.specs.Calls.{overlaps, with_slot, with_stream, open_port, add_slot, remove_slot, add_stream}
use Rattle.meaning.specs.Calls.{remove_stream, respond, ask_response}
use Rattle.meaning.specs.Response.{others}
use Rattle.meaning.specs.Bytes.{octets_of, number_after, number_at, stream_field, tag_of, value_length, value_of}
use Rattle.meaning.specs.Bytes.{field_of, field_length, field_octets, front, edit, after_edit, after_front, step}
use Rattle.meaning.specs.Bytes.{walk, read, refused_at, ended, read_plan, desk_read, fields_of, plan_octets, written}
use Rattle.meaning.specs.Bytes.{room_after}
use Rattle.meaning.specs.Plans.{AcceptedPlan}
use Rattle.meaning.specs.Findings.{octets_in, digits_within, decimal, told, newline, verdict_words, stream_line}
use Rattle.meaning.specs.Findings.{refused_line, printed, desk_lines, blocked_line, stair_line, findings}
use Rattle.meaning.specs.Promises.{blocked_in, Chain, gaps_up_to, gaps, SoundDesk}
use Rattle.meaning.specs.Figures.{slot, octets_f, port_f, slots_f, stream_f₁, stream_f₂, desk_f, desk₄, stream₈}

-- ---- refusals

-- all of them, in the order of the table
abbrev refusals : List Refusal
refusals =
    CutShort ∷ UnknownTag ∷ WrongLength ∷ OutOfTurn ∷ OutOfRange ∷ Overlap ∷ Full ∷ IdHeld ∷ NotHeld ∷ NoFreeCell
    ∷ NoRoom ∷ Endless ∷ Late 44_000 ∷ OverHorizon ∷ []

-- "No."
pub numbers_in_order : map number_of refusals ≡ 1 ∷ 2 ∷ 3 ∷ 4 ∷ 5 ∷ 6 ∷ 7 ∷ 8 ∷ 9 ∷ 10 ∷ 11 ∷ 12 ∷ 13 ∷ 14 ∷ []
unfolding number_of
numbers_in_order = refl

-- "13 also the bound", and no other anything
pub only_late_carries : joined values_of refusals ≡ 44_000 ∷ []
unfolding values_of joined
only_late_carries = refl

-- of two that fail the first; 9 where none does
pub first_decides : (unless {A = ℕ} (false ⇒ Full ∷ true ⇒ Overlap ∷ true ⇒ NoFreeCell ∷ []) 9 ≡ refused Overlap)
    × (unless {A = ℕ} (false ⇒ Full ∷ false ⇒ Overlap ∷ []) 9 ≡ accepted 9)
unfolding unless
first_decides = (refl, refl)

-- ---- desks

-- an accepted edit hands back the desk made, a refused one and a question the desk given
pub edit_stores : (edited bare (accepted desk_f)).desk ≡ desk_f
unfolding edited
edit_stores = refl

pub refusal_keeps : (edited desk_f (refused Full)).desk ≡ desk_f
unfolding edited
refusal_keeps = refl

pub question_keeps : (asked {A = ℕ} desk_f (accepted 9)).desk ≡ desk_f
unfolding asked
question_keeps = refl

-- ---- calls

-- "may touch but not overlap": beside slot 100..200
pub touching : map (λ s. overlaps s (slot 100 200))
    (slot 0 100 ∷ slot 0 101 ∷ slot 0 300 ∷ slot 199 300 ∷ slot 200 300 ∷ [])
    ≡ false ∷ true ∷ true ∷ true ∷ false ∷ []
touching = refl

-- by rising start, whatever the length; by rising id, whatever the priority
pub slot_in_order : with_slot (slot 250 400) (slot 0 100 ∷ slot 500 600 ∷ [])
    ≡ slot 0 100 ∷ slot 250 400 ∷ slot 500 600 ∷ []
unfolding insert_by
slot_in_order = refl

pub stream_in_order : with_stream stream_f₂ (stream_f₁ ∷ stream₈ 7 5 1 ∷ [])
    ≡ stream_f₁ ∷ stream_f₂ ∷ stream₈ 7 5 1 ∷ []
unfolding insert_by
stream_in_order = refl

-- "Opening: 4, 5.": a port out of range on an open desk is 4
pub opening_order : open_port (record { rate = 6; cycle = 0; guard = 0; header = 0 }) desk_f ≡ refused OutOfTurn
unfolding open_port
opening_order = refl

-- the slot or stream named goes, and no other
pub one_slot_goes : remove_slot 0 (desk₄ 2 (slot 0 100 ∷ slot 250 400 ∷ [])) ≡ accepted (desk₄ 2 (slot 250 400 ∷ []))
unfolding remove_slot unless any keep
one_slot_goes = refl

pub one_stream_goes : remove_stream 2 desk_f ≡ accepted (opened port_f slots_f (stream_f₁ ∷ []))
unfolding remove_stream others unless any keep
one_stream_goes = refl

-- F holds ids 1 and 2
pub no_such_stream : ask_response 9 desk_f ≡ refused NotHeld
unfolding ask_response respond find
no_such_stream = refl

-- ---- octets

-- "numbers big_endian": F's cycle
pub big_endian : octets_of 4 100_000 ≡ 0x00 ∷ 0x01 ∷ 0x86 ∷ 0xA0 ∷ []
unfolding octets_of
big_endian = refl

pub number_inside : number_at 1 2 (9 ∷ 1 ∷ 2 ∷ 7 ∷ []) ≡ 258
unfolding number_at number_after
number_inside = refl

-- of tags 0 to 4
pub lengths_of_tags : map value_length (0 ∷ 1 ∷ 2 ∷ 3 ∷ 4 ∷ []) ≡ 0 ∷ 13 ∷ 8 ∷ 17 ∷ 0 ∷ []
unfolding value_length
lengths_of_tags = refl

-- F's port, slots and streams make its 89 octets
pub octets_are_f : plan_octets desk_f ≡ octets_f
unfolding plan_octets fields_of joined field_octets octets_of tag_of value_length value_of octets_f
octets_are_f = refl

-- "fewer than three octets 1; then 2; 3; value cut 1"
pub order_in_a_field : map front ((1 ∷ 0 ∷ []) ∷ (4 ∷ 0 ∷ 1 ∷ []) ∷ (1 ∷ 0 ∷ 8 ∷ []) ∷ (2 ∷ 0 ∷ 8 ∷ 0 ∷ []) ∷ [])
    ≡ refused CutShort ∷ refused UnknownTag ∷ refused WrongLength ∷ refused CutShort ∷ []
unfolding front unless value_length number_at number_after
order_in_a_field = refl

-- P4's PORT, and then a SLOT of length 9: "refused 3 at 16"
abbrev port₄ : List ℕ
port₄ = 1 ∷ 0 ∷ 13 ∷ 2 ∷ 0 ∷ 0 ∷ 3 ∷ 0xE8 ∷ 0 ∷ 0 ∷ 0 ∷ 100 ∷ 0 ∷ 0 ∷ 0 ∷ 50 ∷ []

pub place_of_second : read_plan (port₄ ++ 2 ∷ 0 ∷ 9 ∷ []) ≡ refused_at WrongLength 16
unfolding
    read_plan walk step front unless value_length number_at number_after field_of after_front edit open_port
    port_ranges every
    after_edit field_length tag_of ended
place_of_second = refl

-- P4's PORT and its SLOT 0..100
pub port_and_slot : read_plan (port₄ ++ 2 ∷ 0 ∷ 8 ∷ 0 ∷ 0 ∷ 0 ∷ 0 ∷ 0 ∷ 0 ∷ 0 ∷ 100 ∷ [])
    ≡ read (desk₄ 2 (slot 0 100 ∷ []))
unfolding
    read_plan walk step front unless value_length number_at number_after field_of after_front edit open_port
    port_ranges every
    add_slot slot_ranges any insert_by most_slots has_free any_below gate_of blocked blocks after_edit field_length
    tag_of ended
port_and_slot = refl

-- "4: a plan [..] that is empty": no desk is its
pub empty_not_accepted : (d : Desk) → ¬ AcceptedPlan [] d
unfolding read_plan walk step ended
empty_not_accepted d e = let z : ◌≡◌ {A = ℕ} 0 1 = cc in omega arith

pub desk_of_accepted : desk_read (read desk_f) ≡ desk_f
unfolding desk_read
desk_of_accepted = refl

-- "It answers how many it wrote. Octets after these keep their value."
pub how_many : (written (accepted (5 ∷ 5 ∷ 5 ∷ [])) ≡ accepted 3) × (written (refused NoRoom) ≡ refused NoRoom)
unfolding written
how_many = (refl, refl)

pub rest_keeps : room_after (1 ∷ 2 ∷ 3 ∷ 4 ∷ []) (accepted (9 ∷ 9 ∷ [])) ≡ 9 ∷ 9 ∷ 3 ∷ 4 ∷ []
unfolding room_after
rest_keeps = refl

-- ---- lines

pub codes : octets_in "at 9\n" ≡ 97 ∷ 116 ∷ 32 ∷ 57 ∷ 10 ∷ []
unfolding octets_in
codes = refl

pub digits : decimal 100_000_000 ≡ octets_in "100000000"
unfolding decimal digits_within octets_in
digits = refl

pub verdict_lines : (stream_line stream_f₁ (some 44_000) ≡ octets_in "stream 1 bound 44000 of 50000\n")
    × (stream_line stream_f₂ (some 44_000) ≡ octets_in "stream 2 late 44000 of 40000\n")
unfolding stream_line verdict_words told newline octets_in decimal digits_within
verdict_lines = (refl, refl)

pub endless_line : stream_line (stream₈ 7 0 1) none ≡ octets_in "stream 7 endless\n"
unfolding stream_line verdict_words told newline octets_in decimal digits_within
endless_line = refl

pub refused_line_lem : printed (refused_at WrongLength 16) ≡ octets_in "refused 3 at 16\n"
unfolding printed number_of refused_line told newline octets_in decimal digits_within
refused_line_lem = refl

-- P4's PORT, three streams and a lone octet behind them
pub place_of_last : findings
    (port₄ ++ joined (λ j. field_octets (stream_field j)) (stream_f₁ ∷ stream_f₂ ∷ stream₈ 7 0 1 ∷ []) ++ 3 ∷ [])
    ≡ octets_in "refused 1 at 76\n"
unfolding
    findings read_plan walk step front unless value_length number_at number_after field_of after_front edit open_port
    port_ranges every add_stream stream_ranges octet_limit most_streams any insert_by after_edit field_length tag_of
    ended
    joined field_octets octets_of value_of printed number_of refused_line told newline octets_in decimal digits_within
place_of_last = refl

-- P5's desk: two slots, and one run
pub one_run_of_two_slots : desk_lines (record { rate = 2; cycle = 1_000; guard = 100; header = 50 })
    (slot 0 100 ∷ slot 250 400 ∷ []) []
    ≡ octets_in "blocked 550 of 1000 in 1\nstair 0 550\n"
unfolding
    desk_lines blocked_line stair_line gate_of runs runs_of runs_below starts row blocked blocks any all_len total
    stairs
    stairs_of pairs pairs_from pairs_meeting covers same uncovered put keep every joined told newline octets_in decimal
    digits_within
one_run_of_two_slots = refl

-- ---- windows

-- P4's run is the cells 900 to 149: of the cells 890 to 909 the last ten, of 140 to 159 the first ten
pub blocked_in_windows : map (λ a. blocked_in (blocked (record { cycle = 1_000; guard = 100; header = 50 })
    (slot 0 100 ∷ [])) a 20) (890 ∷ 140 ∷ 200 ∷ []) ≡ 10 ∷ 10 ∷ 0 ∷ []
unfolding blocked_in sum blocked blocks any
blocked_in_windows = refl

-- ---- desks that calls hand back

-- slots may touch, and the first may start at 0; behind the last the first follows, a cycle later
pub touching_chain : Chain 0 (slot 0 100 ∷ slot 100 200 ∷ []) 200
touching_chain = omega arith

pub gaps_around : gaps 1_000 (slot 100 200 ∷ slot 250 400 ∷ []) ≡ 50 ∷ 700 ∷ []
unfolding gaps gaps_up_to
gaps_around = refl

-- none holds a slot past the cycle, or ids that fall
pub past_cycle_unsound : ¬ SoundDesk (desk₄ 2 (slot 900 1_001 ∷ []))
past_cycle_unsound s = omega (arith, s.chain)

pub falling_unsound : ¬ SoundDesk (opened port_f slots_f (stream_f₂ ∷ stream_f₁ ∷ []))
falling_unsound s = omega (arith, s.ids_rise.0 stream_f₁ (Memᴰ.head refl))
