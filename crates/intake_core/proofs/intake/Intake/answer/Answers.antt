use Rattle.std.proofs.Common.{◌++◌, length, drop, ap, ◌∙◌, arith}
use Rattle.ack.specs.Text.{ack_bytes}
use Rattle.intake_core.proofs.Answering.{answer-number, answer-told}
use Rattle.intake_core.proofs.intake.Intake.answer.Goals as goal

pub returns-clause-outcome : goal.returns-clause-outcome
returns-clause-outcome g c =
    let n = length c.args.page.now in
    answer-number n (omega arith) c.spend-serial.ensures c.hear-outcome.ensures.settings c.hear-outcome.ensures.heard

pub returns-clause-page : goal.returns-clause-page
returns-clause-page g c =
    let page = c.args.page.now in
    let told = answer-told (length page) (omega arith) c.spend-serial.ensures c.hear-outcome.ensures.settings c.hear-outcome.ensures.heard in
    c.written-length.ensures.page ∙ ap (λ a. ack_bytes a ++ drop (length (ack_bytes a)) page) told

pub returns-clause-length : goal.returns-clause-length
returns-clause-length g c =
    let n = length c.args.page.now in
    let told = answer-told n (omega arith) c.spend-serial.ensures c.hear-outcome.ensures.settings c.hear-outcome.ensures.heard in
    c.written-length.ensures.length ∙ ap (λ a. length (ack_bytes a)) told
