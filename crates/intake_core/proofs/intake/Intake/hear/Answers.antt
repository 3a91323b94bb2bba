use Rattle.std.proofs.Common.{sym, ◌∙◌}
use Rattle.intake_core.specs.Verdicts.{word_of}
use Rattle.intake_core.proofs.Answering.{answered}
use Rattle.intake_core.proofs.intake.Intake.hear.Goals as goal

pub returns-clause-heard : goal.returns-clause-heard
returns-clause-heard g c =
    let self = c.args.self.now in
    answered self.rows self.next self.clock (g.S.Store.meaning self.store) c.args.serial c.in-Some.i (word_of c.args.verdict) c.ruling-stage.result.0 c.rule.new.row _ _ c.ruling-stage.result.1 c.progress_of.result
    (sym c.first_row.ensures.value ∙ c.in-Some.is) c.ruling-stage.ensures.outcome c.ruling-stage.ensures.stage c.rule.ensures c.progress_of.ensures.received c.progress_of.ensures.reply
