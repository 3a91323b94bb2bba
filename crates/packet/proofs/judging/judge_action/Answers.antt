use Rattle.std.proofs.Common.{Ok, Err, sym, ap, ◌∙◌}
use Rattle.std.proofs.lemmas.Result.{err_from_is_err_and}
use Rattle.head.specs.Heads.{table}
use Rattle.packet.proofs.Chains.{err-plain, ok-plain}
use Rattle.packet.specs.declared.judging.Action.TheVariants.{Create, Close, Cancel}
use Rattle.packet.specs.Judging.{id_of_field, protocols_of_field, action_of}
use Rattle.packet.proofs.judging.judge_action.Goals as goal

pub returns-in_err-judge_protocols-in-Create : goal.returns-in_err-judge_protocols-in-Create
unfolding action_of
returns-in_err-judge_protocols-in-Create c =
    let p = err_from_is_err_and c.from_residual.result c.from_residual.ensures.1 in
    let t = table c.args.fields in
    err-plain c.from_residual.result _ c.judge_protocols.result (protocols_of_field t) (λ shared. Ok (Create shared)) (p.1 ∙ ap Err p.2) c.in_err-judge_protocols-in-Create.was c.judge_protocols.ensures
    ∙ ap (λ k. action_of k t) (sym c.in-Create.is)

pub returns-in_err-judge_id-in-Close : goal.returns-in_err-judge_id-in-Close
unfolding action_of
returns-in_err-judge_id-in-Close c =
    let p = err_from_is_err_and c.from_residual-in_err-judge_id-in-Close.result c.from_residual-in_err-judge_id-in-Close.ensures.1 in
    let t = table c.args.fields in
    err-plain c.from_residual-in_err-judge_id-in-Close.result _ c.judge_id.result (id_of_field t) (λ id. Ok (Close id)) (p.1 ∙ ap Err p.2) c.in_err-judge_id-in-Close.was c.judge_id.ensures
    ∙ ap (λ k. action_of k t) (sym c.in-Close.is)

pub returns-in_err-judge_id-in-Cancel : goal.returns-in_err-judge_id-in-Cancel
unfolding action_of
returns-in_err-judge_id-in-Cancel c =
    let p = err_from_is_err_and c.from_residual-in_err-judge_id-in-Cancel.result c.from_residual-in_err-judge_id-in-Cancel.ensures.1 in
    let t = table c.args.fields in
    err-plain c.from_residual-in_err-judge_id-in-Cancel.result _ c.judge_id-in-Cancel.result (id_of_field t) (λ id. Ok (Cancel id)) (p.1 ∙ ap Err p.2) c.in_err-judge_id-in-Cancel.was c.judge_id-in-Cancel.ensures
    ∙ ap (λ k. action_of k t) (sym c.in-Cancel.is)

pub returns-in_ok-judge_protocols-in-Create : goal.returns-in_ok-judge_protocols-in-Create
unfolding action_of
returns-in_ok-judge_protocols-in-Create c =
    let t = table c.args.fields in
    ok-plain c.in_ok-judge_protocols-in-Create.field-0 c.judge_protocols.result (protocols_of_field t) (λ shared. Ok (Create shared)) c.in_ok-judge_protocols-in-Create.was c.judge_protocols.ensures
    ∙ ap (λ k. action_of k t) (sym c.in-Create.is)

pub returns-in_ok-judge_id-in-Close : goal.returns-in_ok-judge_id-in-Close
unfolding action_of
returns-in_ok-judge_id-in-Close c =
    let t = table c.args.fields in
    ok-plain c.in_ok-judge_id-in-Close.field-0 c.judge_id.result (id_of_field t) (λ id. Ok (Close id)) c.in_ok-judge_id-in-Close.was c.judge_id.ensures
    ∙ ap (λ k. action_of k t) (sym c.in-Close.is)

pub returns-in_ok-judge_id-in-Cancel : goal.returns-in_ok-judge_id-in-Cancel
unfolding action_of
returns-in_ok-judge_id-in-Cancel c =
    let t = table c.args.fields in
    ok-plain c.in_ok-judge_id-in-Cancel.field-0 c.judge_id-in-Cancel.result (id_of_field t) (λ id. Ok (Cancel id)) c.in_ok-judge_id-in-Cancel.was c.judge_id-in-Cancel.ensures
    ∙ ap (λ k. action_of k t) (sym c.in-Cancel.is)

pub returns-in-Ping : goal.returns-in-Ping
unfolding action_of
returns-in-Ping c = ap (λ k. action_of k (table c.args.fields)) (sym c.in-Ping.is)

pub returns-in-Fragment : goal.returns-in-Fragment
unfolding action_of
returns-in-Fragment c = c.judge_fragment.ensures ∙ ap (λ k. action_of k (table c.args.fields)) (sym c.in-Fragment.is)
