use Rattle.page_store.specs.Stores.{cleared}
use Rattle.page_store.proofs.calls.PageStoreStore.clear.Goals as goal

pub returns-then-slot-lt-SLOTS-clause-cleared : goal.returns-then-slot-lt-SLOTS-clause-cleared
returns-then-slot-lt-SLOTS-clause-cleared c = cleared c.args.self.now c.release.new.self c.args.slot c.release.ensures c.if-slot-lt-SLOTS.true
