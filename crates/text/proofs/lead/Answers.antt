use Rattle.std.proofs.Common.{◌≡◌, not, rules, tests, length, unwrap_or, refl}
use Rattle.std.specs.List.{prefix_len}
use Rattle.std.proofs.lemmas.Iterator.{YieldsList-from_slice}
use Rattle.std.proofs.lemmas.Iterator.Search.{position_from_yields_List}
use Rattle.text.specs.Bytes.{passes_as}
use Rattle.text.proofs.Runs.{leading-position}
use Rattle.text.proofs.lead.Goals as goal

pub returns-clause-value : goal.returns-clause-value
returns-clause-value c =
    let first = position_from_yields_List (λ b. not (passes_as c.args.kind b)) _ _ c.position.result c.position.ensures.ran (YieldsList-from_slice c.args.s.now cc) (λ x b q k. search (rules, tests)) in
    let at : unwrap_or c.position.result (length c.args.s.now) ≡ prefix_len (passes_as c.args.kind) c.args.s.now = leading-position _ _ _ _ refl first in
    search (rules, tests, at)
