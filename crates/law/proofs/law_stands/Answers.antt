use Rattle.law.proofs.Joins.{promised, promised_heard}
use Rattle.law.proofs.law_stands.Goals as goal

pub returns : goal.returns
returns c = record { whole = promised; heard = promised_heard }
