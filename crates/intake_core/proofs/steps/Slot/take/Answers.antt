use Rattle.std.proofs.Common.{◌≡◌, drop, rules, sym, refl, ap, ◌∙◌}
use Rattle.std.proofs.lemmas.Result.{err_from_is_err_and}
use Rattle.packet.specs.Packets.{request}
use Rattle.session.specs.Plans.{fresh, refuse, take, unless}
use Rattle.session.specs.Rules.{fragment_fault}
use Rattle.session.specs.Sessions.{live}
use Rattle.intake_core.proofs.Taking.{refused_why, taken-ok}
use Rattle.intake_core.proofs.steps.Slot.take.Goals as goal

pub returns-in_err-grown : goal.returns-in_err-grown
returns-in_err-grown g c =
    let p = err_from_is_err_and c.from_residual.result c.from_residual.ensures.1 in
    let q = request c.args.packet.now in
    let x = live c.args.session.now in
    let fault = ap (fragment_fault c.args.self.now.settings x c.args.range c.args.at q.content_length) (sym c.room-room.ensures) ∙ refused_why _ _ _ c.in_err-grown.ensures in
    rw p.1 (record { taken = (ap (λ f. unless f (take c.args.self.now.number x c.args.range)) fault ∙ ap refuse (sym p.2), refl); same_store = refl })

pub returns-clause-taken : goal.returns-clause-taken
returns-clause-taken g c =
    let self = c.args.self.now in
    let q = request c.args.packet.now in
    let x = live c.args.session.now in
    let is : c.past.result.now ≡ fresh x c.args.range q.body = c.past.ensures ∙ ap (λ k. drop k q.body) c.saturating_sub-skip.ensures in
    taken-ok g.S.Store.meaning g.S.Store.made self.settings self.clock self.number q c.args.range c.args.at c.room-room.result x c.in_ok-grown.grown c.past.result.now self.store.now c.add.new.self c.in_ok-grown.ensures c.room-room.ensures (search rules) is c.in_ok-add.ensures.added c.in_ok-add.ensures.account
