use Rattle.std.proofs.Common.{ap, ◌∙◌}
use Rattle.std.specs.Option.{is_some}
use Rattle.page_store.proofs.Handing.{row_for-fits}
use Rattle.page_store.proofs.calls.PageStoreStore.can_publish.Goals as goal

pub returns : goal.returns
returns c = c.is_some.ensures ∙ (ap is_some c.row_for.ensures ∙ row_for-fits c.args.self.now c.args.slot c.args.name.now)
