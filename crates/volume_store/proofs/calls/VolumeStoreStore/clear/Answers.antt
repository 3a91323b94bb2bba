use Rattle.volume_store.specs.Stores.{cleared}
use Rattle.volume_store.proofs.calls.VolumeStoreStore.clear.Goals as goal

pub returns-then-slot-lt-SLOTS-clause-cleared : goal.returns-then-slot-lt-SLOTS-clause-cleared
returns-then-slot-lt-SLOTS-clause-cleared c = cleared c.args.self.now c.release.new.self c.args.slot c.release.ensures c.if-slot-lt-SLOTS.true
