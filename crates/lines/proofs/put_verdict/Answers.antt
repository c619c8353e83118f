-- `lines::put_verdict` meets its contract: the words of each case.
use native.Mathlib.Omega.{arith}
use Rattle.meaning.specs.Findings.{octets_in, told}
use Rattle.answers.proofs.Carried.{none_but_late}
use Rattle.lines.proofs.Words.{bound_words, late_words, endless_words}
use Rattle.lines.proofs.Words.{bound_length, late_length, endless_length}
use Rattle.lines.proofs.put_verdict.Goals as goal

pub put_of-requires : goal.put_of-requires
put_of-requires c =
    let a = c.args in
    omega (arith, bound_length a.deadline a.bound c.in-Ok.bound c.in-Ok.is)

pub put_of-requires-in-Late : goal.put_of-requires-in-Late
put_of-requires-in-Late c =
    let a = c.args in
    rw c.from.ensures
    (omega (arith, late_length a.deadline a.bound c.in-Err.why c.in-Late.bound c.in-Err.is c.in-Late.is))

pub returns-in-Late : goal.returns-in-Late
unfolding told octets_in
returns-in-Late c =
    let a = c.args in
    rw (late_words a.deadline a.bound c.in-Err.why c.in-Late.bound c.in-Err.is c.in-Late.is)
    (rw c.from.ensures at c.put_of-in-Late.ensures.0)

pub put-requires : goal.put-requires
put-requires c =
    let a = c.args in
    let why = c.in-Err.why in
    omega (arith, endless_length a.deadline a.bound why c.in-Err.is (none_but_late why c.in_default.not-Late))

pub returns-in-Ok : goal.returns-in-Ok
unfolding told octets_in
returns-in-Ok c =
    let a = c.args in
    rw (bound_words a.deadline a.bound c.in-Ok.bound c.in-Ok.is) c.put_of.ensures.0

pub returns-in_default : goal.returns-in_default
unfolding octets_in
returns-in_default c =
    let a = c.args in
    let why = c.in-Err.why in
    rw (endless_words a.deadline a.bound why c.in-Err.is (none_but_late why c.in_default.not-Late))
    c.put.ensures
