use Rattle.std.proofs.Common.{◌≡◌, ◌∙◌, refl, inl, inr, arith, rules}
use Rattle.packet.specs.Packets.{request}
use Rattle.packet.specs.declared.judging.Action.TheVariants.{Ping}
use Rattle.intake_core.specs.Worlds.{world_of}
use Rattle.intake_core.proofs.Acting.{create-acting, ends-acting, fragment-acting, line_in, not-ping, off-acting, ping-acting, range_in}
use Rattle.intake_core.proofs.intake.Intake.perform.Goals as goal

pub returns-in_default : goal.returns-in_default
returns-in_default g c =
    let self = c.args.self.now in
    let q = request c.args.packet.now in
    let told = c.unnoticed.ensures in
    record {
      acting = off-acting g.S.Store.made self.settings (world_of g.S.Store.meaning self) q self.store _ (not-ping q.action c.in_default.not-Ping) c.if-not-self.true told.outcome told.call told.notice;
      settings = refl;
    }

pub returns-in-Create : goal.returns-in-Create
returns-in-Create g c =
    let self = c.args.self.now in
    let q = request c.args.packet.now in
    let end = c.create.new.self in
    let told = c.unnoticed-in-Create.ensures in
    record {
      acting = create-acting g.S.Store.made self.settings (world_of g.S.Store.meaning self) q self.store _ (world_of g.S.Store.meaning end) end.store c.if-not-self.false (search rules) c.create.result _ c.create.ensures.created (told.outcome ∙ c.outcome_in.ensures) told.call told.notice;
      settings = c.create.ensures.settings;
    }

pub returns-in-Fragment-clause-acting : goal.returns-in-Fragment-clause-acting
returns-in-Fragment-clause-acting g c =
    let self = c.args.self.now in
    let q = request c.args.packet.now in
    let end = c.visit-result.new.self in
    fragment-acting g.S.Store.made self.settings (world_of g.S.Store.meaning self) q _ (range_in q.action) (line_in q.action) self.store (world_of g.S.Store.meaning end) end.store c.if-not-self.false (search rules) c.find-row.result c.progress_in-progress.result c.visit-result.result _ c.find-row.ensures.value c.visit-result.ensures.visited c.progress_in-progress.ensures c.outcome_in-in-Fragment.ensures refl c.notice_for.ensures

pub returns-in-Close : goal.returns-in-Close
returns-in-Close g c =
    let self = c.args.self.now in
    let q = request c.args.packet.now in
    let end = c.finish.new.self in
    let told = c.unnoticed-in-Close.ensures in
    let done = c.finish.ensures.finished in
    record {
      acting = ends-acting g.S.Store.made self.settings (world_of g.S.Store.meaning self) q _ self.store (world_of g.S.Store.meaning end) end.store c.if-not-self.false _ done.0 _ _ refl done.2 (inl (search rules, refl)) (told.outcome ∙ done.1) told.call told.notice;
      settings = c.finish.ensures.settings;
    }

pub returns-in-Cancel : goal.returns-in-Cancel
returns-in-Cancel g c =
    let self = c.args.self.now in
    let q = request c.args.packet.now in
    let end = c.finish-in-Cancel.new.self in
    let told = c.unnoticed-in-Cancel.ensures in
    let done = c.finish-in-Cancel.ensures.finished in
    record {
      acting = ends-acting g.S.Store.made self.settings (world_of g.S.Store.meaning self) q _ self.store (world_of g.S.Store.meaning end) end.store c.if-not-self.false _ done.0 _ _ refl done.2 (inr (search rules, refl)) (told.outcome ∙ done.1) told.call told.notice;
      settings = c.finish-in-Cancel.ensures.settings;
    }

pub returns-in-Ping-clause-acting : goal.returns-in-Ping-clause-acting
returns-in-Ping-clause-acting g c =
    let self = c.args.self.now in
    let q = request c.args.packet.now in
    let told = c.unnoticed-in-Ping.ensures in
    let kind : q.action ≡ Ping = grind arith in
    ping-acting g.S.Store.made self.settings (world_of g.S.Store.meaning self) q self.store _ kind told.outcome told.call told.notice
