use Rattle.std.proofs.Common.{rules}
use Rattle.page_store.proofs.pages.links.Goals as goal

pub returns-clause-link : goal.returns-clause-link
returns-clause-link c = λ k h. let a = c.from_fn.ensures.items.at k 0 h in search rules
