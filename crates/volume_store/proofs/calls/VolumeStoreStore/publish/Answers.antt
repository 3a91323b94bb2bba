use Rattle.std.proofs.Common.{sym}
use Rattle.volume_store.specs.Stores.{can-parts, published}
use Rattle.volume_store.proofs.calls.VolumeStoreStore.publish.Goals as goal

pub returns-clause-published : goal.returns-clause-published
returns-clause-published c =
    let s = c.args.self.now in
    published s c.seal.new.self c.args.slot c.args.name.now c.seal.ensures (can-parts s c.args.slot c.args.name.now (sym c.if-not-can_publish.ensures))
