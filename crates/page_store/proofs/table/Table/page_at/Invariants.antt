use Rattle.std.proofs.Common.{◌≡◌, ◌<◌, get_or}
use Rattle.page_store.specs.Pages.{pages_of}
use Rattle.page_store.proofs.table.Table.page_at.Given as goal

abbrev pub invariant-loop : goal.invariant-loop
invariant-loop l = (l.page ≡ get_or (pages_of l.self.next l.self.chains l.owner) l.counter 0) × (l.page < l.self.pages)
