-- `entries::Entries::chain` meets its contract: the slots that an open port holds lie in a chain.
use Rattle.entries.proofs.Opened.{open_entries}
use Rattle.entries.proofs.GateLaws.{held_fit}
use Rattle.entries.proofs.Entries.chain.Goals as goal

pub held_slots-requires : goal.held_slots-requires
held_slots-requires c = (open_entries _ c.requires.0 c.requires.1).slots_few

pub invariant_of-result : goal.invariant_of-result
invariant_of-result c =
    let e = c.args.self.now in
    record { fits = rw (c.gate.ensures, c.held_slots.ensures) (held_fit e (open_entries e c.requires.0 c.requires.1)) }
