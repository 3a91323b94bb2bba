use Rattle.std.proofs.Common.{ap, ◌∙◌, rules, tests}
use Rattle.head.specs.Heads.{table}
use Rattle.text.specs.Numbers.{decimal_of}
use Rattle.packet.specs.Judging.{and_then, given, judged_by, if_empty, length_of}
use Rattle.packet.proofs.judging.judge_length.Goals as goal

pub returns : goal.returns
unfolding length_of
returns c =
    c.judge_by.ensures (λ v. if_empty c.is_fragment-fragment.result (decimal_of v)) (λ v x k. search (rules, tests))
    ∙ ap (λ b. and_then (given (table c.args.fields).content_length) (judged_by (λ v. if_empty b (decimal_of v)))) c.is_fragment-fragment.ensures
