-- `findings::answer` meets its contract: what is read is the front of the input.
-- Assumes nothing.
use Rattle.std.proofs.Common.{rules}
use Rattle.findings.proofs.Front.{front}
use Rattle.findings.proofs.answer.Goals as goal

pub returns : goal.returns
returns g c = record {
  in_bounds = c.answer.ensures.1;
  text =
      front _ _ c.in_ok-n.n 4_096 c.fill.new.buf (search rules) (search rules) c.in_ok-n.ensures.octets
      (λ h. c.in_ok-n.ensures.end (search rules)) _ c.answer.ensures.0;
  failed = search rules;
}
