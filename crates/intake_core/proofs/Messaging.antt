-- No notice where no request was read.
use Rattle.std.proofs.Common.{◌≡◌, [], sym, ap, ◌∙◌}
use Rattle.session.specs.Sessions.{World}
use Rattle.session.specs.Told.{newly_away}
use Rattle.intake_core.proofs.Acting.{newly-none}

pub newly-same : (w v : World) → v ≡ w → [] ≡ newly_away w.rows v.rows
newly-same w v e = sym (newly-none w.rows) ∙ ap (newly_away w.rows) (sym (ap (λ u. u.rows) e))
