use Rattle.std.proofs.Common.{map}
use Rattle.session.specs.Sessions.{row_of}
use Rattle.intake_core.proofs.Sweeping.{Sweeping}
use Rattle.intake_core.proofs.ticks.sweep.Given as goal

abbrev pub invariant-loop-slot : goal.invariant-loop-slot
invariant-loop-slot g l = Sweeping g.S.Store.meaning g.S.Store.made l.clock (map row_of l.initial.rows) l.initial.store l.slot l.ended (map row_of l.rows) l.store
