-- Document 01, "Response bound": how many frames a stream can bring, and how early.
use Rattle.std.specs.Prelude.{ℕ, ◌+◌, ◌-◌, ◌*◌, ◌/◌}
use Rattle.meaning.specs.declared.Stream.{Stream}

-- "N_j(x) = whole part of (x + J_j) / T_j, plus 1: most frames of j in a closed stretch of x ns."
unfoldable pub most_in : Stream → ℕ → ℕ
most_in j x = (x + j.jitter) / j.period + 1

-- "the earliest arrival, the larger of 0 and (q - 1) x T - J": where J is more, this subtraction gives 0
unfoldable pub earliest : Stream → ℕ → ℕ
earliest j q = (q - 1) * j.period - j.jitter
