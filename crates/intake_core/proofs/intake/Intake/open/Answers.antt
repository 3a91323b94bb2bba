use Rattle.std.proofs.Common.{map, set, Some, refl, ap, ◌∙◌}
use Rattle.std.proofs.lemmas.List.{map-set}
use Rattle.session.specs.Sessions.{row_of}
use Rattle.intake_core.proofs.intake.Intake.open.Goals as goal

pub returns-clause-opened : goal.returns-clause-opened
returns-clause-opened g c =
    let self = c.args.self.now in
    record {
      rows = map-set row_of self.rows c.args.row (Some c.opened_session.result) ∙ ap (λ x. set (map row_of self.rows) c.args.row (Some x)) c.opened_session.ensures;
      next = refl;
      clock = refl;
      cleared = c.clear.ensures.cleared;
    }
