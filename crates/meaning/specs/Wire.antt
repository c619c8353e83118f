-- Document 01, "Wire time".
use Rattle.std.specs.Prelude.{cond, ℕ, ◌+◌, ◌*◌, ◌/◌, eqb}

-- "The rate code decides the time of ten octets", in ns; 0 for a number that is no rate code
unfoldable pub ten_octets : ℕ → ℕ
ten_octets rate =
    cond (eqb rate 1) 8_000
    (cond (eqb rate 2) 800
    (cond (eqb rate 3) 80
    (cond (eqb rate 4) 32
    (cond (eqb rate 5) 8 0))))

-- "8 more for preamble and start delimiter"
unfoldable pub extra_octets : ℕ
extra_octets = 8

-- a tenth of x, "rounded up once, at the end"
abbrev pub tenth_up : ℕ → ℕ
tenth_up x = (x + 9) / 10

-- "Wire time is (octets + 8) x that time / 10, rounded up once, at the end."
unfoldable pub wire_time : ℕ → ℕ → ℕ
wire_time rate octets = tenth_up ((octets + extra_octets) * ten_octets rate)
