-- The lines of a desk that is open, from what it holds.
use Rattle.std.specs.Prelude.{List, ℕ, length}
use Rattle.meaning.specs.declared.Stream.{Stream}
use Rattle.meaning.specs.Runs.{runs}
use Rattle.meaning.specs.Interference.{all_len}
use Rattle.meaning.specs.Calls.{bound_of}
use Rattle.meaning.specs.Findings.{blocked_line, stream_line}
use Rattle.desk.specs.declared.Desk.{Desk}
use Rattle.desk.specs.Desks.{port_in, slots_in, streams_in, gate_in}

-- line 1 of the desk
unfoldable pub first_in : Desk → List ℕ
first_in d =
    blocked_line (all_len (runs (gate_in d) (slots_in d))) d.cycle (length (runs (gate_in d) (slots_in d)))

-- the line of a stream that the desk holds
unfoldable pub line_in : Desk → Stream → List ℕ
line_in d j = stream_line j (bound_of (port_in d) (slots_in d) (streams_in d) j)
