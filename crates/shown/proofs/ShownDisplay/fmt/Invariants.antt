use Rattle.std.proofs.Common.{take, nat_eq, not}
use Rattle.std.specs.Fmt.{HasWritten, IsPlainFormatter}
use Rattle.shown.specs.Terminal.{text}
use Rattle.shown.proofs.ShownDisplay.fmt.Given as goal

abbrev pub invariant-loop-b : goal.invariant-loop-b
invariant-loop-b g l =
    IsPlainFormatter l.initial.f
    → HasWritten g.W.Write.write_str_gives l.initial.f (text (not (nat_eq g.row.ESCAPED 0)) (take l.b-index l.self.0.now)) l.f
