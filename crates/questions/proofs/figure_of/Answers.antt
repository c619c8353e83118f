-- `questions::figure_of` meets its contract: the stairs of a fit open desk give V, up to the horizon.
use mathlib.Core.Path.{sym, ap}
use Rattle.meaning.specs.declared.Refusal.TheVariants.{OutOfTurn}
use Rattle.meaning.specs.Ranges.{horizon}
use Rattle.answers.specs.Answers.{answer_of}
use Rattle.questions.proofs.Asking.{handed_on, figure_closed, figure_over, figure_open}
use Rattle.questions.proofs.figure_of.Goals as goal

pub returns-in_err-opened : goal.returns-in_err-opened
returns-in_err-opened c =
    let (why, shut) = c.in_err-opened.ensures in
    handed_on _ _ _ OutOfTurn c.from_residual.ensures.1 why
    (ap answer_of (figure_closed c.args.d shut c.args.t))

pub returns-then-t-gt-HORIZON : goal.returns-then-t-gt-HORIZON
unfolding horizon
returns-then-t-gt-HORIZON c =
    sym (ap answer_of (figure_over c.args.d c.requires c.in_ok-opened.ensures c.args.t c.if-t-gt-HORIZON.true))

pub stored_figure-requires : goal.stored_figure-requires
stored_figure-requires c = (c.requires, c.in_ok-opened.ensures)

pub returns : goal.returns
unfolding horizon
returns c =
    figure_open c.args.d c.requires c.in_ok-opened.ensures c.args.t c.if-t-gt-HORIZON.false _ c.stored_figure.ensures
