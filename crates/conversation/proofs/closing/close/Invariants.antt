use Rattle.std.proofs.Common.{◌≡◌, vec_len}
use Rattle.conversation.proofs.closing.close.Given as goal

abbrev pub invariant-loop-notice : goal.invariant-loop-notice
invariant-loop-notice g l = l.intake.store ≡ l.initial.intake.store

abbrev pub decreases-loop-notice : goal.decreases-loop-notice
decreases-loop-notice g l = vec_len l.desk
