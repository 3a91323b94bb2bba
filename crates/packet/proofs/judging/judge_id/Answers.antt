use Rattle.std.proofs.Common.{rules, tests}
use Rattle.ids.specs.Ids.{id_of}
use Rattle.packet.specs.Judging.{id_of_field}
use Rattle.packet.proofs.judging.judge_id.Goals as goal

pub returns : goal.returns
unfolding id_of_field
returns c = c.judge_by.ensures id_of (λ v x k. search (rules, tests))
