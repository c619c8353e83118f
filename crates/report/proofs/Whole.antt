-- The whole text of an open desk: its parts, from what the desk stores and answers.
-- Assumes nothing.
use mathlib.Core.Path.{◌≡◌, sym, ap, ◌∙◌}
use mathlib.Core.Bool.{true}
use mathlib.Core.List.{List, ◌++◌}
use Prim.Native.Nat.{ℕ, ◌+◌, ◌≤◌}
use native.Mathlib.Omega.{arith}
use lib.ListN.{length}
use Rattle.std.specs.Prelude.{Ok}
use Rattle.laws.specs.Lists.{joined}
use Rattle.meaning.specs.declared.Stair.{Stair}
use Rattle.meaning.specs.Runs.{runs}
use Rattle.meaning.specs.Interference.{all_len, stairs}
use Rattle.meaning.specs.Desks.{asked}
use Rattle.meaning.specs.Desks.{Desk as Plan}
use Rattle.meaning.specs.Calls.{ask_runs}
use Rattle.meaning.specs.Bytes.{read}
use Rattle.meaning.specs.Findings.{decimal, blocked_line, stair_line, desk_lines, printed}
use Rattle.gate.specs.declared.RunRow.{RunRow}
use Rattle.gate.specs.Rows.{run_row}
use Rattle.table.specs.Lookup.{paired, stairs_in, all_in}
use Rattle.table.proofs.Reached.{all_take}
use Rattle.table.proofs.Demand.{all_is}
use Rattle.desk.specs.declared.Desk.{Desk}
use Rattle.desk.specs.declared.Reply.{Reply}
use Rattle.desk.specs.Desks.{held, Fit, port_in, slots_in, streams_in, gate_in, far_in, tot_in}
use Rattle.questions.specs.Replies.{runs_reply}
use Rattle.desk.proofs.OpenFits.{OpenFits, open_fits}
use Rattle.room.specs.Writing.{Wrote}
use Rattle.room.proofs.Rooms.{wrote_as}
use Rattle.report.specs.Lines.{first_in, line_in}
use Rattle.report.proofs.Sizes.{blocked_length, first_short, stairs_short, streams_short}

-- how long the parts are at most
pub record Sized (d : Desk) : Type 0 where
  pub first : length (first_in d) ≤ 37
  pub stairs : length (joined stair_line (paired (far_in d) (tot_in d))) ≤ 25_818
  pub streams : length (joined (line_in d) (streams_in d)) ≤ 2_688

module _ (d : Desk) (f : Fit d) (o : d.opened ≡ true) where
  h : OpenFits d
  h = open_fits d f o

  -- the stairs lent are those that the desk stores
  lent : paired (far_in d) (tot_in d) ≡ stairs (gate_in d) (slots_in d)
  unfolding stairs_in
  lent = h.stored

  -- what an open desk answers of its runs
  pub runs_answered : (reply : Reply RunRow) → reply ≡ runs_reply (asked (held d) (ask_runs (held d)))
      → reply.answer ≡ Ok (run_row (runs (gate_in d) (slots_in d)))
  unfolding asked ask_runs
  runs_answered reply e =
      ap (λ (x : Reply RunRow). x.answer) e
      ∙ ap (λ (x : Plan). (runs_reply (asked x (ask_runs x))).answer) h.holds

  module _ (all : ℕ) (tot : List ℕ) (n : ℕ) (a : all ≡ all_in tot (length tot)) (t : tot ≡ tot_in d)
      (e : n ≡ (run_row (runs (gate_in d) (slots_in d))).n) where
    -- line 1 from the last total stored and the count of the runs answered
    is_all : all ≡ all_len (runs (gate_in d) (slots_in d))
    is_all =
        a
        ∙ ap (λ (l : List ℕ). all_in l (length l)) t
        ∙ all_take d.tot d.nstairs (omega (arith, h.table_fits.few, h.table_fits.tot_long))
        ∙ all_is (gate_in d) (slots_in d) d.far d.tot d.nstairs h.stored h.count

    is_count : n ≡ length (runs (gate_in d) (slots_in d))
    unfolding run_row
    is_count = e

    is_first : blocked_line all d.cycle n ≡ first_in d
    unfolding first_in
    is_first = λ i. blocked_line (is_all i) d.cycle (is_count i)

    pub first_fits : 17 + length (decimal all) + length (decimal d.cycle) + length (decimal n) ≤ 37
    first_fits =
        omega (
          arith,
          first_short (port_in d) (slots_in d) (streams_in d) h.sound,
          ap (λ (n : ℕ). length (decimal n)) is_all,
          ap (λ (n : ℕ). length (decimal n)) is_count,
        )

    pub first_wrote : {r : ℕ} {before after : List ℕ} → Wrote (blocked_line all d.cycle n) r before after
        → Wrote (first_in d) r before after
    first_wrote w = wrote_as is_first w

  pub sized : Sized d
  unfolding first_in line_in
  sized =
      let g = gate_in d in
      let rs = runs g (slots_in d) in
      record {
        first =
            omega (
              arith,
              blocked_length (all_len rs) d.cycle (length rs),
              first_short (port_in d) (slots_in d) (streams_in d) h.sound,
            );
        stairs =
            omega (
              arith,
              ap (λ (st : List Stair). length (joined stair_line st)) lent,
              stairs_short (port_in d) (slots_in d) (streams_in d) h.sound,
            );
        streams = streams_short (port_in d) (slots_in d) (streams_in d) h.sound;
      }

  pub whole_text : first_in d ++ joined stair_line (paired (far_in d) (tot_in d))
      ++ joined (line_in d) (streams_in d) ≡ printed (read (held d))
  unfolding first_in line_in desk_lines printed
  whole_text =
      ap (λ (st : List Stair). first_in d ++ joined stair_line st ++ joined (line_in d) (streams_in d)) lent
      ∙ ap (λ (x : Plan). printed (read x)) (sym h.holds)
