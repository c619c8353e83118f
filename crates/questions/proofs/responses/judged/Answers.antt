-- `questions::responses::judged` meets its contract: each answer is the meaning's, by the tests that led to it.
use mathlib.Core.Path.{◌≡◌, ap, ◌∙◌}
use lib.ListN.{length}
use Rattle.std.specs.List.{position}
use Rattle.meaning.specs.declared.Refusal.TheVariants.{OutOfTurn, NotHeld}
use Rattle.table.specs.Lookup.{all_in, stairs_v}
use Rattle.answers.specs.Answers.{answer_of}
use Rattle.desk.specs.Desks.{streams_in}
use Rattle.desk.proofs.OpenFits.{open_fits}
use Rattle.questions.proofs.Asking.{handed_on, response_closed}
use Rattle.questions.proofs.Responding.{has_id, found_none, found_some, not_held, inside, asks, response_open}
use Rattle.questions.proofs.responses.judged.Goals as goal

pub returns-in_err-opened : goal.returns-in_err-opened
returns-in_err-opened c =
    let (why, shut) = c.in_err-opened.ensures in
    handed_on _ _ _ OutOfTurn c.from_residual.ensures.1 why
    (ap answer_of (response_closed c.args.d.now shut c.args.id))

pub shared_ref_as_front-streams : goal.shared_ref_as_front-streams
shared_ref_as_front-streams c = (open_fits c.args.d.now c.requires c.in_ok-opened.ensures).few_streams

pub returns-in_err-p : goal.returns-in_err-p
returns-in_err-p c =
    let d = c.args.d.now in
    let at : c.place.result ≡ position (has_id c.args.id) (streams_in d) = cc in
    let (none, why) = found_none c.args.id (streams_in d) _ at _ c.in_err-p.ensures.value in
    handed_on _ _ _ NotHeld c.from_residual-in_err-p.ensures.1 why
    (ap answer_of (not_held d c.requires c.in_ok-opened.ensures c.args.id none))

pub bounds-streams-p : goal.bounds-streams-p
bounds-streams-p c =
    let d = c.args.d.now in
    let at : c.place.result ≡ position (has_id c.args.id) (streams_in d) = cc in
    inside d c.requires c.in_ok-opened.ensures c.args.id _
    (found_some c.args.id (streams_in d) _ at _ c.in_ok-p.ensures.value)

pub stairs_of-requires : goal.stairs_of-requires
stairs_of-requires c = (c.requires, c.in_ok-opened.ensures)

pub response_bound-bound-requires : goal.response_bound-bound-requires
response_bound-bound-requires c =
    let d = c.args.d.now in
    let at : c.place.result ≡ position (has_id c.args.id) (streams_in d) = cc in
    let found = found_some c.args.id (streams_in d) _ at _ c.in_ok-p.ensures.value in
    let (cycle, far, tot) = c.stairs_of.ensures in
    asks d c.requires c.in_ok-opened.ensures c.args.id _ found
    _ (λ i. stairs_v (cycle i) (far i) (tot i)) _ (λ i. all_in (tot i) (length (tot i)))

pub returns : goal.returns
returns c =
    let d = c.args.d.now in
    let at : c.place.result ≡ position (has_id c.args.id) (streams_in d) = cc in
    let found = found_some c.args.id (streams_in d) _ at _ c.in_ok-p.ensures.value in
    let (cycle, far, tot) = c.stairs_of.ensures in
    c.judge.ensures
    ∙ response_open d c.requires c.in_ok-opened.ensures c.args.id _ found
    _ (λ i. stairs_v (cycle i) (far i) (tot i)) _ (λ i. all_in (tot i) (length (tot i))) _
    c.response_bound-bound.ensures
