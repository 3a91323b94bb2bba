use Rattle.std.proofs.Common.{rules, tests}
use Rattle.packet.specs.Protocols.{protocols_of}
use Rattle.packet.specs.Judging.{protocols_of_field}
use Rattle.packet.proofs.judging.judge_protocols.Goals as goal

pub returns : goal.returns
unfolding protocols_of_field
returns c = c.judge_by.ensures protocols_of (λ v x k. search (rules, tests))
