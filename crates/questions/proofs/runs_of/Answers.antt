-- `questions::runs_of` meets its contract: the runs are those of the slots that a fit open desk holds.
use mathlib.Core.Path.{ap, ◌∙◌}
use native.Mathlib.Omega.{arith}
use Rattle.meaning.specs.declared.Refusal.TheVariants.{OutOfTurn}
use Rattle.meaning.specs.Runs.{runs}
use Rattle.gate.specs.Rows.{run_row}
use Rattle.entries.specs.Entries.{gate_in, slots_in}
use Rattle.entries.proofs.Opened.{open_entries}
use Rattle.entries.proofs.GateLaws.{held_fit}
use Rattle.desk.specs.Edits.{entries_in}
use Rattle.desk.proofs.Held.{fit_entries}
use Rattle.questions.specs.Replies.{answer_by}
use Rattle.questions.proofs.Asking.{handed_on, runs_closed, runs_open}
use Rattle.questions.proofs.runs_of.Goals as goal

pub returns-in_err-opened : goal.returns-in_err-opened
returns-in_err-opened c =
    let (why, shut) = c.in_err-opened.ensures in
    handed_on _ _ _ OutOfTurn c.from_residual.ensures.1 why
    (ap (answer_by run_row) (runs_closed c.args.d shut))

pub slice_bounds-row-end : goal.slice_bounds-row-end
slice_bounds-row-end c =
    let h = open_entries _ (fit_entries c.args.d c.requires) c.in_ok-opened.ensures in
    omega (arith, h.slots_few)

pub slice_bounds-held-end : goal.slice_bounds-held-end
slice_bounds-held-end c =
    let h = open_entries _ (fit_entries c.args.d c.requires) c.in_ok-opened.ensures in
    omega (arith, h.slots_count)

pub invariant_of-held : goal.invariant_of-held
invariant_of-held c =
    let d = c.args.d in
    let e = entries_in d in
    record {
      fits =
          rw (c.gate.ensures ∙ ap gate_in c.entries_of.ensures)
          (held_fit e (open_entries e (fit_entries d c.requires) c.in_ok-opened.ensures));
    }

pub returns : goal.returns
returns c =
    let gate = c.gate.ensures ∙ ap gate_in c.entries_of.ensures in
    runs_open c.args.d c.requires c.in_ok-opened.ensures c.find_runs.result
    (c.find_runs.ensures ∙ λ i. run_row (runs (gate i) (slots_in (entries_in c.args.d))))
