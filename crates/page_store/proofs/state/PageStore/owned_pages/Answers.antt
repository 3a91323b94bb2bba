use Rattle.std.proofs.Common.{ltb, length, sym, ◌∙◌}
use Rattle.std.proofs.lemmas.Bool.{cond-true, lt-ltb}
use Rattle.page_store.specs.Store.{pages_at}
use Rattle.page_store.specs.Stores.{two-pages}
use Rattle.page_store.specs.Tables.{count-is}
use Rattle.page_store.proofs.state.PageStore.owned_pages.Goals as goal

pub returns-then-slot-lt-SLOTS-clause-owned : goal.returns-then-slot-lt-SLOTS-clause-owned
returns-then-slot-lt-SLOTS-clause-owned c =
    let s = c.args.self.now in
    sym (cond-true (ltb c.args.slot 16) (length (pages_at s c.args.slot)) 0 (lt-ltb c.args.slot 16 c.if-slot-lt-SLOTS.true) ∙ count-is s.table c.args.slot)

pub returns-then-slot-lt-SLOTS-clause-example : goal.returns-then-slot-lt-SLOTS-clause-example
returns-then-slot-lt-SLOTS-clause-example c = two-pages

pub returns-else-slot-lt-SLOTS-clause-example : goal.returns-else-slot-lt-SLOTS-clause-example
returns-else-slot-lt-SLOTS-clause-example c = two-pages
