-- `entries::Entries::hold_port` meets its contract: each answer is the meaning's, by the tests that led to it.
use mathlib.Core.Path.{◌≡◌}
use mathlib.Core.Bool.{true}
use mathlib.Core.List.{[]}
use Rattle.meaning.specs.declared.Refusal.TheVariants.{OutOfTurn, OutOfRange}
use Rattle.meaning.specs.Desks.{opened}
use Rattle.meaning.proofs.Sounds.{open_sound}
use Rattle.ranges.specs.Numbers.{port_of}
use Rattle.ranges.proofs.Testing.{taken_in_range, refused_out_of_range}
use Rattle.entries.specs.Entries.{held_in}
use Rattle.entries.proofs.Opened.{open_entries}
use Rattle.entries.proofs.Answers.{refusal_edits, handed_on_edits, acceptance_edits}
use Rattle.entries.proofs.PortLaws.{open_out_of_turn, open_out_of_range, open_accepts, port_set}
use Rattle.entries.proofs.Entries.hold_port.Goals as goal

pub returns-then-self : goal.returns-then-self
returns-then-self c =
    let is_open : _ ≡ true = c.if-self.true in
    let e = c.args.self.now in
    refusal_edits e _ OutOfTurn c.requires
    (open_out_of_turn e (port_of c.args.p) (open_entries e c.requires is_open))

pub returns-in_err-q : goal.returns-in_err-q
returns-in_err-q c =
    let e = c.args.self.now in
    let (out, why) = refused_out_of_range _ (port_of c.args.p) _ c.in_err-q.ensures in
    handed_on_edits e _ _ _ OutOfRange c.requires c.from_residual.ensures.1 why
    (open_out_of_range e (port_of c.args.p) c.if-self.false out)

pub returns : goal.returns
returns c =
    let e = c.args.self.now in
    let p = port_of c.args.p in
    let shut = c.if-self.false in
    let (inside, same) = taken_in_range _ p _ c.in_ok-q.ensures in
    let a = open_accepts e p shut inside in
    acceptance_edits e _ (opened p [] []) _ (open_sound p (held_in e) _ c.requires.sound a)
    (port_set e c.requires shut p _ same) a
