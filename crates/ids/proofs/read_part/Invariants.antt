use Rattle.std.proofs.Common.{length}
use Rattle.ids.proofs.Shapes.{Read}
use Rattle.ids.proofs.read_part.Given as goal

abbrev pub invariant-loop-place : goal.invariant-loop-place
invariant-loop-place l = Read l.shape l.s (length l.yielded) l.n
