use Rattle.std.proofs.Common.{length, sym, ap, ◌∙◌}
use Rattle.page_store.specs.Stores.{held_in, length-bytes}
use Rattle.page_store.proofs.calls.PageStoreStore.len.Goals as goal

pub returns-then-slot-lt-SLOTS : goal.returns-then-slot-lt-SLOTS
returns-then-slot-lt-SLOTS c =
    let s = c.args.self.now in
    sym (ap length (held_in s c.args.slot c.if-slot-lt-SLOTS.true) ∙ length-bytes s c.args.slot)
