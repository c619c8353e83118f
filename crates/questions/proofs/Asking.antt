-- The answers of the questions for runs, stairs and interference, case by case; each has the desk that was given.
-- Assumes nothing.
use mathlib.Core.Path.{◌≡◌, sym, ap, ◌∙◌}
use mathlib.Core.Bool.{true, false}
use Prim.Native.Nat.{ℕ, ◌≤◌, ◌<◌}
use borrow.Author.Tests.{lt-ltb}
use Rattle.std.specs.Prelude.{Result, Ok, Err, IsErrAnd}
use Rattle.std.proofs.lemmas.Result.{err_from_is_err_and}
use Rattle.meaning.specs.declared.Refusal.{Refusal}
use Rattle.meaning.specs.declared.Refusal.TheVariants.{OutOfTurn, OverHorizon}
use Rattle.meaning.specs.Ranges.{horizon}
use Rattle.meaning.specs.Runs.{runs}
use Rattle.meaning.specs.Refusals.{Answer, refused, unless}
use Rattle.meaning.specs.Desks.{asked}
use Rattle.meaning.specs.Calls.{ask_runs, ask_stairs, ask_interference, ask_response}
use Rattle.gate.specs.declared.RunRow.{RunRow}
use Rattle.gate.specs.Rows.{run_row}
use Rattle.table.specs.Rows.{table_of}
use Rattle.table.specs.Lookup.{stairs_v}
use Rattle.table.proofs.Reached.{lent_v}
use Rattle.answers.specs.Answers.{answer_of}
use Rattle.desk.specs.declared.Desk.{Desk}
use Rattle.desk.specs.declared.Reply.{Reply}
use Rattle.desk.specs.Desks.{held, Fit, desk_of, reply_of, slots_in, gate_in, far_in, tot_in}
use Rattle.desk.proofs.Held.{held_bare}
use Rattle.desk.proofs.OpenFits.{table_in, open_fits, fit_demand_three}
use Rattle.questions.specs.Replies.{answer_by}

-- a refusal that is handed on is the answer's
pub handed_on : {B : Type 0} (r m : Result B Refusal) (x why : Refusal) → IsErrAnd r (λ y. y ≡ x) → x ≡ why
    → m ≡ Err why → r ≡ m
handed_on r m x why k w q = let p = err_from_is_err_and r k in rw (p.1, p.2, w) (sym q)

-- the answer x beside the desk d
abbrev replied : {A : Type 0} → Result A Refusal → Desk → Reply A
replied x d = record { answer = x; desk = d }

-- the desk handed back is the one that was given
module _ (d : Desk) (f : Fit d) where
  pub rows_asked : {A B : Type 0} (g : A → B) (a : Answer A) (x : Result B Refusal) → x ≡ answer_by g a
      → replied x d ≡ replied (answer_by g (asked (held d) a).answer) (desk_of (asked (held d) a).desk)
  unfolding asked
  rows_asked g a x e = λ i. replied (e i) (f.canonical i)

  pub figure_asked : (a : Answer ℕ) (x : Result ℕ Refusal) → x ≡ answer_of a
      → replied x d ≡ reply_of (asked (held d) a)
  unfolding asked
  figure_asked a x e = λ i. replied (e i) (f.canonical i)

-- ---- no port is open

module _ (d : Desk) (o : d.opened ≡ false) where
  pub runs_closed : ask_runs (held d) ≡ refused OutOfTurn
  unfolding ask_runs
  runs_closed = ap ask_runs (held_bare d o)

  pub stairs_closed : ask_stairs (held d) ≡ refused OutOfTurn
  unfolding ask_stairs
  stairs_closed = ap ask_stairs (held_bare d o)

  pub figure_closed : (t : ℕ) → ask_interference t (held d) ≡ refused OutOfTurn
  unfolding ask_interference
  figure_closed t = ap (ask_interference t) (held_bare d o)

  pub response_closed : (id : ℕ) → ask_response id (held d) ≡ refused OutOfTurn
  unfolding ask_response
  response_closed id = ap (ask_response id) (held_bare d o)

-- ---- a port is open

module _ (d : Desk) (f : Fit d) (o : d.opened ≡ true) where
  pub runs_open : (row : RunRow) → row ≡ run_row (runs (gate_in d) (slots_in d))
      → Ok row ≡ answer_by run_row (ask_runs (held d))
  unfolding ask_runs
  runs_open row e = ap (λ (x : RunRow). Ok x) e ∙ sym (ap (λ h. answer_by run_row (ask_runs h)) (open_fits d f o).holds)

  pub stairs_open : Ok (table_in d) ≡ answer_by table_of (ask_stairs (held d))
  unfolding ask_stairs
  stairs_open =
      let h = open_fits d f o in
      ap Ok h.table ∙ sym (ap (λ x. answer_by table_of (ask_stairs x)) h.holds)

  pub figure_over : (t : ℕ) → horizon < t → ask_interference t (held d) ≡ refused OverHorizon
  unfolding ask_interference unless
  figure_over t h = ap (ask_interference t) (open_fits d f o).holds ∙ rw (lt-ltb horizon t h)

  -- V as it is read from the stairs lent
  pub figure_open : (t : ℕ) → t ≤ horizon → (v : ℕ) → v ≡ stairs_v d.cycle (far_in d) (tot_in d) t
      → Ok v ≡ answer_of (ask_interference t (held d))
  figure_open t h v e =
      ap Ok (e ∙ lent_v d.cycle d.far d.tot d.nstairs (open_fits d f o).table_fits t)
      ∙ sym (ap answer_of ((fit_demand_three d f o).figure_answered t h))
