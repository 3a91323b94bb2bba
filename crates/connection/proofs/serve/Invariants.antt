use Rattle.std.proofs.Common.{◌-◌, [], length}
use Rattle.connection.proofs.Going.{Gone}
use Rattle.connection.proofs.serve.Given as goal

abbrev pub invariant-loop-used : goal.invariant-loop-used
invariant-loop-used g l = Gone g.S.Store.meaning g.S.Store.made l.input l.initial.out l.initial.intake l.used l.length [] l.out l.intake

abbrev pub decreases-loop-used : goal.decreases-loop-used
decreases-loop-used g l = length l.input - l.used
