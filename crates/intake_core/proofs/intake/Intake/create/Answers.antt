use Rattle.std.proofs.Common.{◌≡◌, Some, None, sym, refl, ap, ◌∙◌, subst, arith, rules}
use Rattle.std.proofs.lemmas.Result.{err_from_is_err_and}
use Rattle.session.specs.Sessions.{World, path_of}
use Rattle.session.specs.Plans.{refuse}
use Rattle.session.specs.Steps.{Opened}
use Rattle.intake_core.specs.Worlds.{world_of}
use Rattle.intake_core.proofs.Creating.{create-refused, create-opens}
use Rattle.intake_core.proofs.intake.Intake.create.Goals as goal

pub returns-in_err-create_fault-clause-created : goal.returns-in_err-create_fault-clause-created
returns-in_err-create_fault-clause-created g c =
    let w : World = world_of g.S.Store.meaning c.args.self.now in
    let p = err_from_is_err_and c.from_residual.result c.from_residual.ensures.1 in
    let refused = create-refused c.args.self.now.settings w c.args.shared c.args.packet.now.path.now (Some c.in_err-create_fault.field-0.0) _ c.in_err-create_fault.ensures c.is_some-stands.ensures c.published_length.ensures c.is_none-full.ensures c.first_row-free.ensures.value _ refl in
    rw p.1 (refused ∙ ap refuse (sym p.2), refl, refl)

pub returns-clause-created : goal.returns-clause-created
returns-clause-created g c =
    let w : World = world_of g.S.Store.meaning c.args.self.now in
    let path = c.args.packet.now.path.now in
    let i = c.in_ok-row.row in
    let there : c.first_row-free.result ≡ Some i = grind arith in
    let named : path_of c.unwrap.result ≡ path = search rules in (
      i,
      create-opens c.args.self.now.settings w c.args.shared path None _ c.in_ok-create_fault.ensures c.is_some-stands.ensures c.published_length.ensures c.is_none-full.ensures c.first_row-free.ensures.value i refl there,
      subst (λ p. Opened w p i (world_of g.S.Store.meaning c.open.new.self)) named c.open.ensures.opened,
      c.open.ensures.account,
      refl,
    )
