use Rattle.std.proofs.Common.{map, sym}
use Rattle.session.specs.Sessions.{row_of}
use Rattle.intake_core.proofs.Acting.{newly-none}
use Rattle.intake_core.proofs.Messaging.{newly-same}
use Rattle.intake_core.proofs.intake.Intake.message.Goals as goal

pub returns-then-page-lt-LEAST_PAGE-clause-notice :
    goal.returns-then-page-lt-LEAST_PAGE-clause-notice
returns-then-page-lt-LEAST_PAGE-clause-notice g c = sym (newly-none (map row_of c.args.self.now.rows))

pub returns-in-Err-clause-notice : goal.returns-in-Err-clause-notice
returns-in-Err-clause-notice g c = newly-same _ _ c.in-Err.ensures.received.0.3
