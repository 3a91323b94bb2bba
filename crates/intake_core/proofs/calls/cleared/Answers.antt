use Rattle.std.proofs.Common.{◌≢◌, ◌∙◌, arith, below_more}
use Rattle.intake_core.proofs.Changes.{clearings-more}
use Rattle.intake_core.proofs.calls.cleared.Goals as goal

pub loop-i-preserved : goal.loop-i-preserved
loop-i-preserved g c = (
  below_more _ _ (λ k h. let ne : k ≢ c.loop-i.i = omega arith in c.clear.ensures.cleared.others k ne ∙ c.loop-i.invariant.0 k h) c.clear.ensures.cleared.emptied,
  (λ n. c.clear.ensures.cleared.names n ∙ c.loop-i.invariant.1 n),
  clearings-more _ _ _ _ c.loop-i.i c.loop-i.invariant.2 c.clear.ensures.account,
)
