-- `reader::read` meets its contract: the desk of what the walk holds, or the bare desk.
use Rattle.std.proofs.Common.{◌≡◌, Result, Ok, Err, sym, ap, ◌∙◌}
use Rattle.meaning.specs.Desks.{bare}
use Rattle.meaning.specs.Bytes.{Outcome, read, refused_at, desk_read}
use Rattle.entries.proofs.Opened.{held_of_entries}
use Rattle.entries.specs.Entries.{held_in}
use Rattle.desk.specs.declared.Desk.{Desk}
use Rattle.desk.specs.Desks.{desk_of}
use Rattle.reader.specs.declared.RefusedAt.{RefusedAt}
use Rattle.reader.specs.declared.ReadReply.{ReadReply}
use Rattle.reader.specs.Reading.{read_answer, read_reply}
use Rattle.reader.proofs.read.Goals as goal

-- the reply with this answer and desk
abbrev with_desk : Result (Unit {0}) RefusedAt → Desk → ReadReply
with_desk a d = record { answer = a; desk = d }

-- what is refused hands back the bare desk
refused_reply : (x : RefusedAt) (o : Outcome) → Err x ≡ read_answer o → with_desk (Err x) (desk_of bare) ≡ read_reply o
unfolding desk_read
refused_reply x (read d) q = cc
refused_reply x (refused_at r place) q = ap (λ (a : Result (Unit {0}) RefusedAt). with_desk a (desk_of bare)) q

pub walk-requires : goal.walk-requires
walk-requires c = (c.none-e.ensures.1, ap held_in c.none-e.ensures.0 ∙ held_of_entries bare)

pub with_stairs-requires : goal.with_stairs-requires
with_stairs-requires c = (c.in-Ok.ensures.2, c.in-Ok.ensures.1.0)

pub returns-in-Ok : goal.returns-in-Ok
unfolding desk_read
returns-in-Ok c =
    let (same, fit) = c.with_stairs.ensures in
    (ap (with_desk (Ok tt)) same ∙ sym (ap read_reply c.in-Ok.ensures.1.1), fit)

pub returns-in-Err : goal.returns-in-Err
returns-in-Err c =
    let (same, fit) = c.bare.ensures in
    (ap (with_desk (Err c.in-Err.refused)) same ∙ refused_reply c.in-Err.refused _ c.in-Err.ensures.0, fit)
