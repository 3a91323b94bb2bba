use Rattle.std.proofs.Common.{◌≡◌, ◌<◌, length, get_or, IfSome, Some, ap, subst, arith, rules}
use Rattle.packet.specs.Packets.{request}
use Rattle.intake_core.proofs.Visiting.{visited}
use Rattle.intake_core.proofs.intake.Intake.visit.Goals as goal

pub returns-clause-visited : goal.returns-clause-visited
returns-clause-visited g c =
    let self = c.args.self.now in
    let q = request c.args.packet.now in
    let i = c.in_ok-i.i in
    let there : c.args.row ≡ Some i = grind arith in
    let below : i < 16 = subst (λ o. IfSome o (λ i. i < 16)) there c.requires.inside in
    let inside : i < length self.rows = search rules in
    let old = get_or self.rows i c.index-self-i.result in
    rw there (visited g.S.Store.meaning g.S.Store.made self.settings q self.rows self.next self.clock i self.store c.settle.new.self.store.now old c.settle.new.row inside (ap (get_or self.rows i) c.index-self-i.is) c.settle.result c.settle.ensures.settled)
