-- The streams that count for a response, as rows of numbers.
use Rattle.std.specs.Prelude.{List, map, ℕ, ◌+◌, length, set}
use Rattle.laws.specs.Lists.{filled}
use Rattle.meaning.specs.declared.Stream.{Stream}
use Rattle.meaning.specs.Wire.{wire_time}
use Rattle.meaning.specs.Response.{ahead, lower_wire}
use Rattle.ahead.specs.declared.Ahead.{Ahead}

-- beside some other streams: how many are of equal or higher priority than own, with the period, the jitter and the
-- wire time of each; and the largest wire time of the others
unfoldable pub ahead_of : ℕ → Stream → List Stream → Ahead
ahead_of rate own rest =
    record {
      n = length (ahead own rest);
      per = filled 64 0 (map (λ j. j.period) (ahead own rest));
      jit = filled 64 0 (map (λ j. j.jitter) (ahead own rest));
      cost = filled 64 0 (map (λ j. wire_time rate j.octets) (ahead own rest));
      lower = lower_wire rate own rest;
    }

-- the rows with the numbers of one stream more
abbrev pub pushed : Ahead → ℕ → ℕ → ℕ → Ahead
pushed a period jitter cost =
    record {
      n = a.n + 1;
      per = set a.per a.n period;
      jit = set a.jit a.n jitter;
      cost = set a.cost a.n cost;
      lower = a.lower;
    }
