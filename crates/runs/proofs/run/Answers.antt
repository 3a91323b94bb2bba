use Rattle.runs.proofs.Playing.{accounted}
use Rattle.runs.proofs.run.Goals as goal

pub returns-in-Ok-new-clause-account : goal.returns-in-Ok-new-clause-account
returns-in-Ok-new-clause-account g c =
    let made = c.in-Ok-new.ensures in
    accounted made.started (rw made.account.0 at c.play.ensures.played)
