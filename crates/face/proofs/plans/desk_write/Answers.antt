-- `face::plans::desk_write` meets its contract.
use mathlib.Core.Path.{refl, ◌∙◌}
use Rattle.meaning.specs.Bytes.{write_plan, written}
use Rattle.desk.specs.Desks.{held}
use Rattle.face.specs.Told.{numbered_write}
use Rattle.face.proofs.Given.{given, counted}
use Rattle.face.proofs.plans.desk_write.Goals as goal

pub write-answer-requires : goal.write-answer-requires
write-answer-requires c = c.requires

pub returns : goal.returns
returns c =
    let d = c.args.d in
    let (same, room, fit) = c.write-answer.ensures in
    let number = c.number_of_answer.ensures in
    let count = c.unwrap_or.ensures ∙ counted c.write-answer.result.answer in (
      (λ i. record { number = number i; count = count i; desk = d })
          ∙ given numbered_write d c.requires (written (write_plan c.args.room.now (held d))) _ _ same refl,
      room,
      c.requires,
    )
