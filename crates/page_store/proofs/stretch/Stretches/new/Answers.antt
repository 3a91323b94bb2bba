use Rattle.page_store.specs.Tables.{first_below}
use Rattle.page_store.proofs.stretch.Stretches.new.Goals as goal

pub invariant_of-result-clause-here : goal.invariant_of-result-clause-here
invariant_of-result-clause-here c =
    λ _. (c.requires.reach.start, first_below c.args.table.now c.args.owner c.args.at c.args.first c.args.len c.requires.owner c.requires.reach)
