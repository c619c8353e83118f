-- `reader::edit_at` meets its contract: the edit of the field at the place is a step of the walk.
use Rattle.std.proofs.Common.{◌+◌, ◌≤◌, length, rules}
use Rattle.std.proofs.lemmas.Result.{err_from_is_err_and}
use Rattle.reader.proofs.Walks.{octets_within, walks_unread, walks_refused, walks_accepted}
use Rattle.reader.proofs.edit_at.Goals as goal

pub returns-in_err-f : goal.returns-in_err-f
returns-in_err-f c =
    let a = c.args in
    let p = err_from_is_err_and c.from_residual.result c.from_residual.ensures.1 in
    rw (p.1, p.2) (walks_unread a.plan.now a.at a.e.now c.requires.0 c.requires.1 _ c.in_err-f.ensures, tt)

pub returns-in_err-edit : goal.returns-in_err-edit
returns-in_err-edit c =
    let a = c.args in
    let p = err_from_is_err_and c.from_residual-in_err-edit.result c.from_residual-in_err-edit.ensures.1 in
    rw (p.1, p.2)
    (walks_refused a.plan.now a.at a.e.now c.requires.0 c.requires.1 _ c.in_ok-f.ensures _ _ c.in_err-edit.ensures, tt)

pub overflow_add-result : goal.overflow_add-result
overflow_add-result c =
    let a = c.args in
    let within : a.at + c.octets_at.result ≤ length a.plan.now =
    rw c.octets_at.ensures
    (octets_within a.plan.now a.at a.e.now c.requires.0 c.requires.1 _ c.in_ok-f.ensures) in
    search (rules, within)

pub returns : goal.returns
returns c =
    let a = c.args in
    rw c.octets_at.ensures (
      walks_accepted a.plan.now a.at a.e.now c.requires.0 c.requires.1 _ c.in_ok-f.ensures _ c.in_ok-edit.ensures,
      octets_within a.plan.now a.at a.e.now c.requires.0 c.requires.1 _ c.in_ok-f.ensures,
    )
