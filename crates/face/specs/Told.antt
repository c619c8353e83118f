-- The replies of the desk's calls, of the reader and of the writer as numbers, and numbers as what the calls take.
use Rattle.std.specs.Prelude.{◌≡◌, List, [], ◌∷◌, ℕ, Err}
use Rattle.std.specs.Result.{result_unwrap_or}
use Rattle.meaning.specs.declared.Port.{Port}
use Rattle.meaning.specs.declared.Stream.{Stream}
use Rattle.meaning.specs.declared.Refusal.{Refusal}
use Rattle.desk.specs.declared.Desk.{Desk}
use Rattle.gate.specs.declared.RunRow.{RunRow}
use Rattle.gate.specs.Rows.{run_row}
use Rattle.table.specs.declared.Table.{Table}
use Rattle.table.specs.Rows.{table_of}
use Rattle.answers.specs.Answers.{answer_number, answer_values}
use Rattle.desk.specs.declared.Reply.{Reply}
use Rattle.reader.specs.declared.ReadReply.{ReadReply}
use Rattle.reader.specs.Reading.{read_number, read_places}
use Rattle.writer.specs.Writing.{write_counts}
use Rattle.face.specs.declared.Edited.{Edited}
use Rattle.face.specs.declared.Figured.{Figured}
use Rattle.face.specs.declared.RunsTold.{RunsTold}
use Rattle.face.specs.declared.StairsTold.{StairsTold}
use Rattle.face.specs.declared.PlanRead.{PlanRead}
use Rattle.face.specs.declared.PlanWritten.{PlanWritten}

-- ---- what is handed over

-- the caller's numbers as document 01's records
abbrev pub port_from : (rate cycle guard header : ℕ) → Port
port_from rate cycle guard header = record { rate = rate; cycle = cycle; guard = guard; header = header }

abbrev pub stream_from : (id priority octets period jitter deadline : ℕ) → Stream
stream_from id priority octets period jitter deadline =
    record {
      id = id;
      priority = priority;
      octets = octets;
      period = period;
      jitter = jitter;
      deadline = deadline;
    }

-- ---- what is handed back

-- the one value that an answer carries, 0 where it carries none
unfoldable pub the_one : List ℕ → ℕ
the_one [] = 0
the_one (x ∷ xs) = x

abbrev pub numbered : Reply (Unit {0}) → Edited
numbered r = record { number = answer_number r.answer; desk = r.desk }

-- "A refused call hands back the desk it was given" (the order, demand 1), which is d
abbrev pub RefusedKeeps : Desk → Reply (Unit {0}) → Type 0
RefusedKeeps d r = (why : Refusal) → r.answer ≡ Err why → r.desk ≡ d

abbrev pub numbered_figure : Reply ℕ → Figured
numbered_figure r =
    record {
      number = answer_number r.answer;
      value = the_one (answer_values r.answer);
      desk = r.desk;
    }

-- the rows asked for, none on a refusal
abbrev pub numbered_runs : Reply RunRow → RunsTold
numbered_runs r =
    record {
      number = answer_number r.answer;
      count = (result_unwrap_or r.answer (run_row [])).n;
      runs = (result_unwrap_or r.answer (run_row [])).row;
      desk = r.desk;
    }

abbrev pub numbered_stairs : Reply Table → StairsTold
numbered_stairs r =
    record {
      number = answer_number r.answer;
      count = (result_unwrap_or r.answer (table_of [])).n;
      far = (result_unwrap_or r.answer (table_of [])).far;
      tot = (result_unwrap_or r.answer (table_of [])).tot;
      desk = r.desk;
    }

abbrev pub numbered_read : ReadReply → PlanRead
numbered_read r =
    record {
      number = read_number r.answer;
      place = the_one (read_places r.answer);
      desk = r.desk;
    }

abbrev pub numbered_write : Reply ℕ → PlanWritten
numbered_write r =
    record {
      number = answer_number r.answer;
      count = the_one (write_counts r.answer);
      desk = r.desk;
    }
