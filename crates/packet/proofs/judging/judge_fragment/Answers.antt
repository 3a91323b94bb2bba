use Rattle.std.proofs.Common.{◌≡◌, Ok, Err, ap, ◌∙◌}
use Rattle.std.proofs.lemmas.Result.{err_from_is_err_and}
use Rattle.std.specs.Option.{ok_or}
use Rattle.head.specs.Heads.{table, found}
use Rattle.packet.specs.declared.Fault.TheVariants.{Field}
use Rattle.packet.proofs.Chains.{err-plain, ok-plain, err-line, ok-line}
use Rattle.packet.specs.declared.judging.Action.TheVariants.{Fragment}
use Rattle.packet.specs.Ranges.{range_of}
use Rattle.packet.specs.Judging.{and_then, given, judged_by, encoding_of, id_of_field, with_range, with_session, fragment_of}
use Rattle.packet.proofs.judging.judge_fragment.Goals as goal
use Rattle.packet.proofs.judging.judge_fragment.Goals.{In_ok-id, In_ok-line, In_ok-range}

-- what is left once the session is known
after-id : (c : In_ok-id) → with_session (table c.args.fields) c.in_ok-id.id ≡ fragment_of (table c.args.fields)
unfolding fragment_of
after-id c = ok-plain c.in_ok-id.id c.judge_id.result (id_of_field (table c.args.fields)) (with_session (table c.args.fields)) c.in_ok-id.was c.judge_id.ensures

-- and the range's line
after_line : (c : In_ok-line) → with_range (table c.args.fields) c.in_ok-id.id (found c.in_ok-line.line) ≡ fragment_of (table c.args.fields)
unfolding fragment_of
after_line c =
    let t = table c.args.fields in
    ok-line c.in_ok-line.line c.required.result (given t.content_range) (with_range t c.in_ok-id.id) c.in_ok-line.was c.required.ensures
    ∙ ok-plain c.in_ok-id.id c.judge_id.result (id_of_field t) (with_session t) c.in_ok-id.was c.judge_id.ensures

-- and the range
after-range : (c : In_ok-range) → and_then (encoding_of (table c.args.fields).content_encoding) (λ _. Ok (Fragment c.in_ok-id.id c.in_ok-range.range c.in_ok-line.line.at)) ≡ fragment_of (table c.args.fields)
unfolding fragment_of
after-range c =
    let t = table c.args.fields in
    let line = found c.in_ok-line.line in
    ok-plain c.in_ok-range.range c.ok_or.result (judged_by range_of line) (λ range. and_then (encoding_of t.content_encoding) (λ _. Ok (Fragment c.in_ok-id.id range line.at))) c.in_ok-range.was (c.ok_or.ensures.value ∙ ap (λ o. ok_or o (Field line.at)) c.read_range.ensures)
    ∙ ok-line c.in_ok-line.line c.required.result (given t.content_range) (with_range t c.in_ok-id.id) c.in_ok-line.was c.required.ensures
    ∙ ok-plain c.in_ok-id.id c.judge_id.result (id_of_field t) (with_session t) c.in_ok-id.was c.judge_id.ensures

pub returns-in_err-id : goal.returns-in_err-id
unfolding fragment_of
returns-in_err-id c =
    let p = err_from_is_err_and c.from_residual.result c.from_residual.ensures.1 in
    let t = table c.args.fields in
    err-plain c.from_residual.result _ c.judge_id.result (id_of_field t) (with_session t) (p.1 ∙ ap Err p.2) c.in_err-id.was c.judge_id.ensures

pub returns-in_err-line : goal.returns-in_err-line
returns-in_err-line c =
    let p = err_from_is_err_and c.from_residual-in_err-line.result c.from_residual-in_err-line.ensures.1 in
    let t = table c.args.fields in
    err-line c.from_residual-in_err-line.result _ c.required.result (given t.content_range) (with_range t c.in_ok-id.id) (p.1 ∙ ap Err p.2) c.in_err-line.was c.required.ensures
    ∙ after-id (goal.at.returns-in_err-line c).In_ok-id

pub returns-in_err-range : goal.returns-in_err-range
returns-in_err-range c =
    let p = err_from_is_err_and c.from_residual-in_err-range.result c.from_residual-in_err-range.ensures.1 in
    let t = table c.args.fields in
    let line = found c.in_ok-line.line in
    err-plain c.from_residual-in_err-range.result _ c.ok_or.result (judged_by range_of line) (λ range. and_then (encoding_of t.content_encoding) (λ _. Ok (Fragment c.in_ok-id.id range line.at))) (p.1 ∙ ap Err p.2) c.in_err-range.was (c.ok_or.ensures.value ∙ ap (λ o. ok_or o (Field line.at)) c.read_range.ensures)
    ∙ after_line (goal.at.returns-in_err-range c).In_ok-line

pub returns-in_err-judge_encoding : goal.returns-in_err-judge_encoding
returns-in_err-judge_encoding c =
    let p = err_from_is_err_and c.from_residual-in_err-judge_encoding.result c.from_residual-in_err-judge_encoding.ensures.1 in
    let t = table c.args.fields in
    err-plain c.from_residual-in_err-judge_encoding.result _ c.judge_encoding.result (encoding_of t.content_encoding) (λ _. Ok (Fragment c.in_ok-id.id c.in_ok-range.range c.in_ok-line.line.at)) (p.1 ∙ ap Err p.2) c.in_err-judge_encoding.was c.judge_encoding.ensures
    ∙ after-range (goal.at.returns-in_err-judge_encoding c).In_ok-range

pub returns : goal.returns
returns c =
    let t = table c.args.fields in
    ok-plain _ c.judge_encoding.result (encoding_of t.content_encoding) (λ _. Ok (Fragment c.in_ok-id.id c.in_ok-range.range c.in_ok-line.line.at)) c.in_ok-judge_encoding.was c.judge_encoding.ensures
    ∙ after-range (goal.at.returns c).In_ok-range
