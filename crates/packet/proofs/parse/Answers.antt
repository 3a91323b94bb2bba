use Rattle.std.proofs.Common.{◌-◌, leb-true, length, length-take, take, drop, Ok, Err, refl, ap, ◌∙◌, arith}
use Rattle.std.proofs.lemmas.List.{take_rest}
use Rattle.std.proofs.lemmas.Result.{err_from_is_err_and}
use Rattle.std.proofs.lemmas.Bool.{and_parts}
use Rattle.head.specs.Heads.{reading}
use Rattle.packet.specs.Judging.{judged_of}
use Rattle.packet.specs.Packets.{request_from, with_head, packet_of, seen}
use Rattle.packet.proofs.Chains.{err-plain, ok-plain}
use Rattle.packet.proofs.parse.Goals as goal

pub returns-in_err-head : goal.returns-in_err-head
unfolding packet_of
returns-in_err-head c =
    let p = err_from_is_err_and c.from_residual.result c.from_residual.ensures.1 in
    ap seen p.1 ∙ ap Err p.2 ∙ ap (with_head c.args.input.now) c.in_err-head.ensures.value

pub returns-in_err-judged : goal.returns-in_err-judged
unfolding packet_of
returns-in_err-judged c =
    let p = err_from_is_err_and c.from_residual-in_err-judged.result c.from_residual-in_err-judged.ensures.1 in
    let h = reading c.in_ok-head.head in
    err-plain (seen c.from_residual-in_err-judged.result) _ c.judge.result (judged_of h.table) (λ j. Ok (request_from c.args.input.now h j)) (ap seen p.1 ∙ ap Err p.2) c.in_err-judged.was c.judge.ensures
    ∙ ap (with_head c.args.input.now) c.in_ok-head.ensures.value

pub returns : goal.returns
unfolding packet_of
returns c =
    let input = c.args.input.now in
    let h = reading c.in_ok-head.head in
    let j = c.in_ok-judged.judged in
    ap (λ b. Ok (record { path = h.path; action = j.action; head_size = h.size; content_length = j.length; body = b })) (c.body_of.ensures ∙ ap (take j.length) (take_rest input h.size))
    ∙ ok-plain j c.judge.result (judged_of h.table) (λ k. Ok (request_from input h k)) c.in_ok-judged.was c.judge.ensures
    ∙ ap (with_head input) c.in_ok-head.ensures.value

pub invariant_of-result-clause-present : goal.invariant_of-result-clause-present
invariant_of-result-clause-present c =
    omega (arith, ap length c.body_of.ensures, length-take c.in_ok-judged.judged.length (take (length c.args.input.now - c.in_ok-head.head.size) (drop c.in_ok-head.head.size c.args.input.now)))

pub invariant_of-result-clause-short : goal.invariant_of-result-clause-short
invariant_of-result-clause-short c =
    let good = (c.in_ok-head.ensures.exact.sound (reading c.in_ok-head.head) refl).parts.good in
    leb-true _ 128 (and_parts _ _ (and_parts _ _ good).1).0
