use Rattle.std.proofs.Common.{arith}
use Rattle.page_store.specs.Tables.{step-page}
use Rattle.page_store.proofs.transfer.StretchesIterator.next.Goals as goal

pub invariant_of-self-clause-here : goal.invariant_of-self-clause-here
invariant_of-self-clause-here c =
    λ more.
    let s = c.args.self.now in
    let h = s.here (omega arith) in
    step-page s.table.now s.owner s.at c.min-n.result s.end s.page s.owned s.room h.0 more (omega arith)
