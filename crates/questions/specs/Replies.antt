-- How the meaning of a question is handed back: the answer, and the desk that was given.
use Rattle.std.specs.Prelude.{List, ℕ, Result, Ok, Err}
use Rattle.meaning.specs.declared.Run.{Run}
use Rattle.meaning.specs.declared.Stair.{Stair}
use Rattle.meaning.specs.declared.Refusal.{Refusal}
use Rattle.meaning.specs.Refusals.{Answer, accepted, refused}
use Rattle.meaning.specs.Desks.{Reply as Meant}
use Rattle.gate.specs.declared.RunRow.{RunRow}
use Rattle.gate.specs.Rows.{run_row}
use Rattle.table.specs.declared.Table.{Table}
use Rattle.table.specs.Rows.{table_of}
use Rattle.desk.specs.declared.Reply.{Reply}
use Rattle.desk.specs.Desks.{desk_of, reply_of}

-- an answer whose rows are handed back as the struct that f makes of them
abbrev pub answer_by : {A B : Type 0} → (A → B) → Answer A → Result B Refusal
answer_by f (accepted a) = Ok (f a)
answer_by f (refused r) = Err r

abbrev pub figure_reply : Meant ℕ → Reply ℕ
figure_reply r = reply_of r

abbrev pub runs_reply : Meant (List Run) → Reply RunRow
runs_reply r = record { answer = answer_by run_row r.answer; desk = desk_of r.desk }

abbrev pub stairs_reply : Meant (List Stair) → Reply Table
stairs_reply r = record { answer = answer_by table_of r.answer; desk = desk_of r.desk }
