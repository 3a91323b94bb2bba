use Rattle.std.proofs.Common.{◌∙◌}
use Rattle.outcome.proofs.Reports.{apart}
use Rattle.outcome.proofs.Outcome.report.Goals as goal

pub returns : goal.returns
returns c = record {
  value = c.row.ensures;
  apart = λ other e. apart other c.args.self (e ∙ c.row.ensures);
}
