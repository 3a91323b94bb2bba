use Rattle.std.proofs.Common.{rules, tests}
use Rattle.std.proofs.lemmas.Iterator.{YieldsList-from_slice}
use Rattle.std.proofs.lemmas.Iterator.Search.{all_from_yields_List}
use Rattle.text.specs.Bytes.{passes_as}
use Rattle.text.proofs.Runs.{all-is}
use Rattle.text.proofs.all.Goals as goal

pub returns : goal.returns
returns c =
    let every = all_from_yields_List (passes_as c.args.kind) _ _ c.all.result c.all.ensures.ran (YieldsList-from_slice c.args.s.now cc) (λ x b q k. search (rules, tests)) in
    let whole = all-is (passes_as c.args.kind) c.args.s.now in
    search (rules, tests, every, whole)
