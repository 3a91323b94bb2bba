use Rattle.std.proofs.Common.{rules, tests}
use Rattle.packet.specs.Judging.{kind_named, kind_of}
use Rattle.packet.proofs.judging.judge_kind.Goals as goal

pub returns : goal.returns
unfolding kind_of
returns c = c.judge_by.ensures kind_named (λ v x k. search (rules, tests))
