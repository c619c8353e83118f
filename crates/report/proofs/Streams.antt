-- The streams that a report walks: what the desk answers of each, and the loop over their lines.
-- Assumes nothing.
use mathlib.Core.Path.{◌≡◌, refl, sym, ap, ◌∙◌}
use mathlib.Core.Bool.{Bool, true, false, cond}
use mathlib.Core.List.Memᴰ
use mathlib.Core.List.{List, ◌++◌}
use mathlib.Core.Option.{Option, none, some}
use Prim.Native.Nat.{ℕ, ◌+◌, ◌-◌, ◌≤◌, ◌<◌}
use native.Mathlib.Omega.{arith}
use lib.Dec.{ltb}
use lib.ListN.{length, get_or, length-append}
use borrow.Rule.Slice.PartMut.{mid_of, put_mid}
use Rattle.std.proofs.lemmas.List.{get_or_default}
use Rattle.laws.specs.Lists.{joined, Mem}
use Rattle.laws.proofs.Without.{mem_get}
use Rattle.meaning.specs.declared.Stream.{Stream}
use Rattle.meaning.specs.declared.Refusal.TheVariants.{Late}
use Rattle.meaning.specs.Refusals.{accepted, refused, values_of}
use Rattle.meaning.specs.Desks.{asked}
use Rattle.meaning.specs.Calls.{bound_of, verdict, ask_response}
use Rattle.meaning.specs.Findings.{octets_in, decimal, told, newline, verdict_words, stream_line}
use Rattle.meaning.proofs.Printing.{response_own}
use Rattle.answers.specs.Answers.{answer_of}
use Rattle.desk.specs.declared.Desk.{Desk}
use Rattle.desk.specs.declared.Reply.{Reply}
use Rattle.desk.specs.Desks.{held, Fit, port_in, slots_in, streams_in}
use Rattle.desk.proofs.OpenFits.{open_fits}
use Rattle.questions.specs.Replies.{figure_reply}
use Rattle.room.specs.Writing.{Wrote}
use Rattle.room.proofs.Rooms.{Filled, part_fits, fill_turn, wrote_as}
use Rattle.lines.specs.Texts.{refusal_words, figure_words, figure_line}
use Rattle.report.specs.Lines.{line_in}

-- ---- what the desk answers of a stream

-- the words of the verdict are those of the figure that tells it
figure_words_lem : (j : Stream) (b : Option ℕ) → figure_words j.deadline (answer_of (verdict j b)) ≡ verdict_words j b
unfolding figure_words refusal_words values_of verdict verdict_words
figure_words_lem j none = refl
figure_words_lem j (some b) = go (ltb j.deadline b)
  where
    go : (late : Bool) → figure_words j.deadline (answer_of (cond late (refused (Late b)) (accepted b)))
        ≡ told (cond late " late " " bound ") b ++ told " of " j.deadline
    go true = refl
    go false = refl

module _ (d : Desk) (f : Fit d) (o : d.opened ≡ true) (j : Stream) (m : Mem j (streams_in d)) (r : Reply ℕ)
    (e : r ≡ figure_reply (asked (held d) (ask_response j.id (held d)))) where
  -- what the desk answers of a stream that it holds
  told_words : figure_words j.deadline r.answer ≡ verdict_words j (bound_of (port_in d) (slots_in d) (streams_in d) j)
  unfolding asked
  told_words =
      let h = open_fits d f o in
      let own = response_own (port_in d) (slots_in d) (streams_in d) h.sound.ids_rise j m in
      ap (λ (x : Reply ℕ). figure_words j.deadline x.answer) e
      ∙ ap (λ a. figure_words j.deadline (answer_of a)) (ap (ask_response j.id) h.holds ∙ own)
      ∙ figure_words_lem j (bound_of (port_in d) (slots_in d) (streams_in d) j)

  pub told_line : figure_line j.id j.deadline r.answer ≡ line_in d j
  unfolding figure_line line_in stream_line
  told_line = ap (λ (l : List ℕ). told "stream " j.id ++ l ++ newline) told_words

  pub told_length : length (line_in d j) ≡ 8 + length (decimal j.id) + length (figure_words j.deadline r.answer)
  unfolding figure_line told newline octets_in
  told_length =
      ap length (sym told_line)
      ∙ length-append (told "stream " j.id ++ figure_words j.deadline r.answer) newline
      ∙ omega (
        arith,
        length-append (told "stream " j.id) (figure_words j.deadline r.answer),
        length-append (octets_in "stream ") (decimal j.id),
      )

-- ---- the loop over the streams

module _ (d : Desk) (f : Fit d) (o : d.opened ≡ true) where
  pub streams_held : (d.nstreams ≡ length (streams_in d)) × (d.nstreams ≤ 64)
  streams_held = let h = open_fits d f o in (h.streams_count, h.few_streams)

  module _ (r : List ℕ) (fits : length (joined (line_in d) (streams_in d)) ≤ length r) (room : List ℕ) (at k : ℕ)
      (p : Filled (line_in d) r (streams_in d) room at k) (h : k < length (streams_in d)) (j e : Stream)
      (is : j ≡ get_or (streams_in d) k e) (reply : Reply ℕ)
      (answered : reply ≡ figure_reply (asked (held d) (ask_response j.id (held d)))) where
    is_it : j ≡ get_or (streams_in d) k j
    is_it = is ∙ get_or_default (streams_in d) k e j h

    is_held : Mem j (streams_in d)
    is_held = Memᴰ.cast is_it (mem_get (streams_in d) k j h)

    pub stream_fits : at + (8 + length (decimal j.id) + length (figure_words j.deadline reply.answer)) ≤ length room
    stream_fits =
        omega (
          arith,
          part_fits (line_in d) r (streams_in d) fits room at k j is_it h p,
          told_length d f o j is_held reply answered,
        )

    pub stream_turn : (ys : List ℕ) (m : ℕ)
        → Wrote (figure_line j.id j.deadline reply.answer) m (mid_of at (length room - at) room) ys
        → Filled (line_in d) r (streams_in d) (put_mid at (length room - at) room ys) (at + m) (k + 1)
    stream_turn ys m w =
        fill_turn (line_in d) r (streams_in d) fits room at k j is_it h p ys m
        (wrote_as (told_line d f o j is_held reply answered) w)
