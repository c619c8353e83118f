-- The desk handed back is the one given, where a call is a question or is refused.
-- Assumes nothing.
use mathlib.Core.Path.{◌≡◌, refl, sym, ap, ◌∙◌}
use Rattle.std.specs.Prelude.{ℕ, Result, Ok, Err}
use Rattle.std.specs.Result.{result_unwrap_or}
use Rattle.meaning.specs.declared.Refusal.{Refusal}
use Rattle.meaning.specs.Refusals.{Answer, accepted, refused}
use Rattle.meaning.specs.Desks.{edited, asked}
use Rattle.meaning.specs.Desks.{Desk as Plan}
use Rattle.desk.specs.declared.Desk.{Desk}
use Rattle.desk.specs.declared.Reply.{Reply}
use Rattle.desk.specs.Desks.{desk_of, held, Fit, edit_reply}
use Rattle.writer.specs.Writing.{write_counts}
use Rattle.face.specs.Told.{RefusedKeeps, the_one}

pub refused_keeps : (d : Desk) (a : Answer Plan) (r : Reply (Unit {0})) → Fit d → r ≡ edit_reply (edited (held d) a)
    → RefusedKeeps d r
unfolding edited
refused_keeps d (accepted e) r f k why v =
    let q = ap (λ (x : Reply (Unit {0})). x.answer) k in
    cc
refused_keeps d (refused w) r f k why v = ap (λ (x : Reply (Unit {0})). x.desk) k ∙ sym f.canonical

-- the answer of a question beside the desk given is told as the reply m of the question, which has that desk
pub given : {A B T : Type 0} (tell : Reply B → T) (d : Desk) → Fit d → (a : Answer A) (q m : Reply B) → q ≡ m
    → m.desk ≡ desk_of (asked (held d) a).desk → tell (record { answer = q.answer; desk = d }) ≡ tell m
unfolding asked
given tell d f a q m k s = λ i. tell (record { answer = (k i).answer; desk = (f.canonical ∙ sym s) i })

-- how many octets were written, 0 on a refusal
pub counted : (a : Result ℕ Refusal) → result_unwrap_or a 0 ≡ the_one (write_counts a)
unfolding the_one write_counts
counted (Ok n) = refl
counted (Err why) = refl
