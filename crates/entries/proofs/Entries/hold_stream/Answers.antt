-- `entries::Entries::hold_stream` meets its contract: an open port, numbers in range, and then
-- what `place_stream` answers.
use mathlib.Core.Path.{◌≡◌, subst}
use mathlib.Core.Bool.{false}
use Prim.Native.Nat.{ℕ}
use native.Mathlib.Omega.{arith}
use Rattle.meaning.proofs.InRange.{octet_limit_most}
use Rattle.meaning.specs.Ranges.{stream_ranges, in_range}
use Rattle.meaning.specs.declared.Refusal.TheVariants.{OutOfTurn, OutOfRange}
use Rattle.ranges.specs.Numbers.{stream_of}
use Rattle.ranges.proofs.Testing.{refused_out_of_range}
use Rattle.entries.specs.Entries.{port_in}
use Rattle.entries.proofs.Opened.{open_entries}
use Rattle.entries.proofs.Answers.{handed_on_edits}
use Rattle.entries.proofs.StreamLaws.{add_stream_out_of_turn, add_stream_out_of_range}
use Rattle.entries.proofs.Entries.hold_stream.Goals as goal

pub stream-requires : goal.stream-requires
stream-requires c = omega (arith, octet_limit_most (port_in c.args.self.now), c.octet_limit.ensures)

pub returns-in_err-in_turn : goal.returns-in_err-in_turn
returns-in_err-in_turn c =
    let e = c.args.self.now in
    let (shut, why) = c.in_err-in_turn.ensures in
    handed_on_edits e _ _ _ OutOfTurn c.requires c.from_residual.ensures.1 why
    (add_stream_out_of_turn e (stream_of c.args.j) shut)

pub returns-in_err-j : goal.returns-in_err-j
returns-in_err-j c =
    let e = c.args.self.now in
    let j = stream_of c.args.j in
    let o = open_entries e c.requires c.in_ok-in_turn.ensures in
    let (out, why) = refused_out_of_range _ j _ c.in_err-j.ensures in
    handed_on_edits e _ _ _ OutOfRange c.requires c.from_residual-in_err-j.ensures.1 why
    (add_stream_out_of_range e j o
    (subst (λ (limit : ℕ). in_range (stream_ranges limit j) ≡ false) c.octet_limit.ensures out))
