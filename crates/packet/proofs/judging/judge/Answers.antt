use Rattle.std.proofs.Common.{◌≡◌, Ok, Err, ap, ◌∙◌}
use Rattle.std.proofs.lemmas.Result.{err_from_is_err_and}
use Rattle.head.specs.Heads.{table}
use Rattle.packet.proofs.Chains.{err-plain, ok-plain}
use Rattle.packet.specs.Judging.{length_of, kind_of, action_of, with_kind, with_length, judged_of}
use Rattle.packet.proofs.judging.judge.Goals as goal
use Rattle.packet.proofs.judging.judge.Goals.{In_ok-length, In_ok-kind}

after-length : (c : In_ok-length) → with_length (table c.args.fields) c.in_ok-length.length ≡ judged_of (table c.args.fields)
unfolding judged_of
after-length c = ok-plain c.in_ok-length.length c.judge_length.result (length_of (table c.args.fields)) (with_length (table c.args.fields)) c.in_ok-length.was c.judge_length.ensures

after-kind : (c : In_ok-kind) → with_kind (table c.args.fields) c.in_ok-length.length c.in_ok-kind.kind ≡ judged_of (table c.args.fields)
unfolding judged_of
after-kind c =
    let t = table c.args.fields in
    ok-plain c.in_ok-kind.kind c.judge_kind.result (kind_of t) (with_kind t c.in_ok-length.length) c.in_ok-kind.was c.judge_kind.ensures
    ∙ ok-plain c.in_ok-length.length c.judge_length.result (length_of t) (with_length t) c.in_ok-length.was c.judge_length.ensures

pub returns-in_err-length : goal.returns-in_err-length
unfolding judged_of
returns-in_err-length c =
    let p = err_from_is_err_and c.from_residual.result c.from_residual.ensures.1 in
    let t = table c.args.fields in
    err-plain c.from_residual.result _ c.judge_length.result (length_of t) (with_length t) (p.1 ∙ ap Err p.2) c.in_err-length.was c.judge_length.ensures

pub returns-in_err-kind : goal.returns-in_err-kind
returns-in_err-kind c =
    let p = err_from_is_err_and c.from_residual-in_err-kind.result c.from_residual-in_err-kind.ensures.1 in
    let t = table c.args.fields in
    err-plain c.from_residual-in_err-kind.result _ c.judge_kind.result (kind_of t) (with_kind t c.in_ok-length.length) (p.1 ∙ ap Err p.2) c.in_err-kind.was c.judge_kind.ensures
    ∙ after-length (goal.at.returns-in_err-kind c).In_ok-length

pub returns-in_err-action : goal.returns-in_err-action
returns-in_err-action c =
    let p = err_from_is_err_and c.from_residual-in_err-action.result c.from_residual-in_err-action.ensures.1 in
    let t = table c.args.fields in
    err-plain c.from_residual-in_err-action.result _ c.judge_action.result (action_of c.in_ok-kind.kind t) (λ a. Ok (record { length = c.in_ok-length.length; action = a })) (p.1 ∙ ap Err p.2) c.in_err-action.was c.judge_action.ensures
    ∙ after-kind (goal.at.returns-in_err-action c).In_ok-kind

pub returns : goal.returns
returns c =
    let t = table c.args.fields in
    ok-plain c.in_ok-action.action c.judge_action.result (action_of c.in_ok-kind.kind t) (λ a. Ok (record { length = c.in_ok-length.length; action = a })) c.in_ok-action.was c.judge_action.ensures
    ∙ after-kind (goal.at.returns c).In_ok-kind
