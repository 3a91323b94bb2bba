use Rattle.std.proofs.Common.{◌≡◌, length}
use Rattle.text.specs.Words.{trim_end}
use Rattle.text.proofs.trim_end.Given as goal

abbrev pub invariant-loop-s : goal.invariant-loop-s
invariant-loop-s l = trim_end l.s ≡ trim_end l.fn.s

abbrev pub decreases-loop-s : goal.decreases-loop-s
decreases-loop-s l = length l.s
