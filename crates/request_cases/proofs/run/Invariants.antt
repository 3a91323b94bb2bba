use Rattle.std.proofs.Common.{◌≤◌}
use Rattle.request_cases.proofs.run.Given as goal

abbrev pub invariant-loop-case : goal.invariant-loop-case
invariant-loop-case g l = l.wrong ≤ l.case-index
