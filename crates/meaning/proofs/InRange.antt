-- The ranges of document 01 in plain words: the row of tests of a field holds exactly where its numbers are in range.
-- Assumes nothing.
use mathlib.Core.Path.{◌≡◌, refl}
use mathlib.Core.Logic.Iff
use mathlib.Core.Logic.{◌↔◌}
use mathlib.Core.Bool.{Bool, true, ◌&&◌, and-eq-true_iff}
use mathlib.Core.List.{List, [], ◌∷◌}
use Prim.Native.Nat.{ℕ, ◌≤◌, ◌<◌, zero-le}
use native.Mathlib.Omega.{arith}
use lib.Dec.{leb, ltb}
use borrow.Author.Tests.{leb-true, ltb-true, le-leb, lt-ltb}
use Rattle.laws.specs.Lists.{every}
use Rattle.meaning.specs.declared.Port.{Port}
use Rattle.meaning.specs.declared.Slot.{Slot}
use Rattle.meaning.specs.declared.Stream.{Stream}
use Rattle.meaning.specs.Ranges.{within, octet_limit, port_ranges, slot_ranges, stream_ranges, in_range}

-- ---- tests

at_most : (m n : ℕ) → leb m n ≡ true ↔ (m ≤ n)
at_most m n = (leb-true m n, le-leb m n)

below : (m n : ℕ) → ltb m n ≡ true ↔ (m < n)
below m n = (ltb-true m n, lt-ltb m n)

both : {s t : Bool} {S T : Type 0} → s ≡ true ↔ S → t ≡ true ↔ T → (s && t) ≡ true ↔ (S × T)
both {s} {t} p q = Iff.trans (and-eq-true_iff s t) (Iff.and p q)

from_to : (lo hi x : ℕ) → within lo hi x ≡ true ↔ ((lo ≤ x) × (x ≤ hi))
from_to lo hi x = both (at_most lo x) (at_most x hi)

-- ---- rows of tests

-- the row holds exactly where X does
record Says (ts : List Bool) (X : Type 0) : Type 0 where
  says : in_range ts ≡ true ↔ X

ends : Says [] (Unit {0})
unfolding every
ends = record { says = (λ e. tt, λ u. refl) }

first : {t : Bool} {T : Type 0} {ts : List Bool} {X : Type 0} → t ≡ true ↔ T → Says ts X → Says (t ∷ ts) (T × X)
unfolding every
first test rest = record { says = both test rest.says }

-- ---- fields

-- what is known of the octet limit of any port; all else asks the port
pub octet_limit_most : (p : Port) → octet_limit p ≤ 2_000
unfolding octet_limit
octet_limit_most p = omega arith

pub port_in_lem : (p : Port) → in_range (port_ranges p) ≡ true
    ↔ ((1 ≤ p.rate) × (p.rate ≤ 5) × (1_000 ≤ p.cycle) × (p.cycle ≤ 100_000_000) × (1 ≤ p.guard)
    × (p.guard ≤ 10_000_000) × (p.header ≤ 10_000_000))
unfolding port_ranges
port_in_lem p =
    let row =
    first (from_to 1 5 p.rate)
    (first (from_to 1_000 100_000_000 p.cycle)
    (first (from_to 1 10_000_000 p.guard)
    (first (from_to 0 10_000_000 p.header) ends))) in (
      λ e. let ((a, b), ((c, d), ((f, g), ((_, h), _)))) = row.says.0 e in (a, b, c, d, f, g, h),
      λ (a, b, c, d, f, g, h). row.says.1 ((a, b), ((c, d), ((f, g), ((zero-le, h), tt)))),
    )

pub slot_in : (cycle : ℕ) (s : Slot) → in_range (slot_ranges cycle s) ≡ true
    ↔ ((s.start < s.end) × (s.end ≤ cycle))
unfolding slot_ranges
slot_in cycle s =
    let row =
    first (at_most 0 s.start)
    (first (both (below s.start s.end) (at_most s.end cycle)) ends) in
    (λ e. let (_, (h, _)) = row.says.0 e in h, λ h. row.says.1 (zero-le, (h, tt)))

pub stream_in : (limit : ℕ) (j : Stream) → in_range (stream_ranges limit j) ≡ true
    ↔ ((j.id ≤ 65_535) × (j.priority ≤ 7) × (64 ≤ j.octets) × (j.octets ≤ limit) × (10_000 ≤ j.period)
    × (j.period ≤ 100_000_000) × (j.jitter ≤ 100_000_000) × (1 ≤ j.deadline) × (j.deadline ≤ 100_000_000))
unfolding stream_ranges
stream_in limit j =
    let row =
    first (from_to 0 65_535 j.id)
    (first (from_to 0 7 j.priority)
    (first (from_to 64 limit j.octets)
    (first (from_to 10_000 100_000_000 j.period)
    (first (from_to 0 100_000_000 j.jitter)
    (first (from_to 1 100_000_000 j.deadline) ends))))) in (
      λ e.
          let ((_, a), ((_, b), ((c, d), ((f, g), ((_, h), ((k, l), _)))))) = row.says.0 e in
          (a, b, c, d, f, g, h, k, l),
      λ (a, b, c, d, f, g, h, k, l).
          row.says.1 ((zero-le, a), ((zero-le, b), ((c, d), ((f, g), ((zero-le, h), ((k, l), tt)))))),
    )
