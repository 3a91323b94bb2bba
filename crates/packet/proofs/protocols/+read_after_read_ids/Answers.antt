use Rattle.std.proofs.Common.{◌≡◌, ◌||◌, length, drop, sym, ap, ◌∙◌}
use Rattle.std.proofs.lemmas.List.{take_rest}
use Rattle.std.proofs.lemmas.Option.{MatchOption-at_none}
use Rattle.packet.specs.Protocols.{ours, ids_from, after_from}
use Rattle.ids.specs.Ids.{id_of}
use Rattle.packet.proofs.Lists.{ids_short, ids_more, after_more}
use Rattle.packet.proofs.protocols.+read_after_read_ids.Goals as goal
use Rattle.packet.proofs.protocols.+read_after_read_ids.Goals.{read_ids-then-found, read_ids-else-found}

pub read_after-returns : goal.read_after-returns
read_after-returns t c =
    let s = c.args.s.now in
    let n = c.lead-n.result in
    c.read_ids.ensures ∙ ap (λ l. ids_from (length l) c.args.found l) (take_rest s n) ∙ sym (after_more c.args.found s n c.lead-n.ensures.value c.if-n-eq0.false)

pub read_ids-returns-in_err-id : goal.read_ids-returns-in_err-id
read_ids-returns-in_err-id t c =
    let s = c.args.s.now in
    c.from_residual.ensures ∙ sym (ids_short (length s) c.args.found s (MatchOption-at_none _ _ c.in_err-id.was c.split_at_checked.ensures.cases))

pub read_ids-returns : goal.read_ids-returns
read_ids-returns t c =
    let s = c.args.s.now in
    let b = c.args.found in
    let id = c.in_ok-read_id.field-0 in
    let cut = c.in_ok-id.ensures.cases in
    let told : c.if-found.read_after ≡ (b || ours id) = elim c.if-found.branch [
      | read_ids-then-found w ↦ w.read_after-is ∙ w.if-found.true ∙ sym (ap (λ x. x || ours id) w.if-found.true)
      | read_ids-else-found w ↦ w.read_after-is ∙ c.eq-ours.ensures ∙ sym (ap (λ x. x || ours id) w.if-found.false)
    ] in
    c.read_after.ensures
    ∙ ap (λ l. after_from (length l) c.if-found.read_after l) cut.2
    ∙ ap (λ x. after_from (length (drop 38 s)) x (drop 38 s)) told
    ∙ sym (ids_more b s id cut.0 (ap id_of (sym cut.1) ∙ sym c.in_ok-read_id.ensures.value))
