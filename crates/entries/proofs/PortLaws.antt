-- Opening a port: the struct made, and the meaning's answer in each case.
-- Assumes nothing.
use mathlib.Core.Path.{◌≡◌, refl, ap, ◌∙◌}
use mathlib.Core.Bool.{true, false}
use mathlib.Core.List.{[]}
use Rattle.meaning.specs.declared.Port.{Port}
use Rattle.meaning.specs.declared.Refusal.TheVariants.{OutOfTurn, OutOfRange}
use Rattle.meaning.specs.Ranges.{port_ranges, in_range}
use Rattle.meaning.specs.Refusals.{accepted, refused}
use Rattle.meaning.specs.Desks.{opened}
use Rattle.meaning.specs.Calls.{open_port}
use Rattle.meaning.proofs.Conditions.{open_says}
use Rattle.entries.specs.declared.Entries.{Entries}
use Rattle.entries.specs.Entries.{filled_entries, entries_of, held_in, FitEntries}
use Rattle.entries.proofs.Opened.{Open, held_bare}

module _ (e : Entries) (p : Port) where
  pub open_out_of_turn : Open e → open_port p (held_in e) ≡ refused OutOfTurn
  unfolding open_port
  open_out_of_turn h = ap (open_port p) h.holds

  module _ (o : e.opened ≡ false) where
    pub open_out_of_range : in_range (port_ranges p) ≡ false → open_port p (held_in e) ≡ refused OutOfRange
    open_out_of_range r = rw (held_bare e o) ((open_says p).out_of_range.1 r)

    pub open_accepts : in_range (port_ranges p) ≡ true → open_port p (held_in e) ≡ accepted (opened p [] [])
    open_accepts r = rw (held_bare e o) (((open_says p).accepts _).1 (r, refl))

-- the struct e, opened with the numbers of a port, all else as it was
abbrev with_port : Entries → Port → Entries
with_port e p =
    record {
      opened = true;
      rate = p.rate;
      cycle = p.cycle;
      guard = p.guard;
      header = p.header;
      nslots = e.nslots;
      slots = e.slots;
      nstreams = e.nstreams;
      streams = e.streams;
    }

-- where nothing is entered it is the struct of an open port that holds nothing yet
pub port_set : (e : Entries) → FitEntries e → e.opened ≡ false → (p q : Port) → q ≡ p
    → with_port e q ≡ entries_of (opened p [] [])
unfolding entries_of filled_entries
port_set e f o p q k = λ i. with_port ((f.canonical ∙ ap entries_of (held_bare e o)) i) (k i)
